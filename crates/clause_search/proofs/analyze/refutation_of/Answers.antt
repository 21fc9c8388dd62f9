use Rattle.std.proofs.Common.{◌≡◌, ℕ, ◌-◌, ◌<◌, Some, None, List, [], length, get_or, ◌∙◌, arith, subst}
use Rattle.std.specs.List.{Contains}
use Rattle.std.proofs.lemmas.Bool.{both_ways}
use Rattle.cnf_clauses.specs.Literal.{Literal}
use Rattle.clause_log.specs.Log.{clauses_of}
use Rattle.clause_search.specs.Path.{Explains}
use Rattle.clause_search.specs.Learnt.{IsDerived}
use Rattle.clause_search.proofs.Paths.{no_lit}
use Rattle.clause_search.proofs.Analysis.{derived_start, skip_last, reason_at, resolve_last, refuted}
use Rattle.clause_search.proofs.analyze.refutation_of.Goals as goal

pub back-init : goal.back-init
back-init c =
    let db : List (List Literal) = clauses_of c.args.log.now in
    let t = c.args.trail.now in
    let n-is : c.len-n.result ≡ length t.path.items = omega (arith, c.len-n.ensures, t.path.ok.0) in
    let e = c.in_ok-derivation.ensures in
    (derived_start db c.args.conflict t.path.items c.len-n.result c.begin.new.scratch.literals c.in_ok-derivation.derivation.steps.items n-is c.requires.all_false e.literals e.steps, omega arith, e.start, e.variables ∙ c.requires.variables)

pub begin-requires-clause-over : goal.begin-requires-clause-over
begin-requires-clause-over c = rw c.requires.variables (c.requires.search.over c.args.conflict.0 c.requires.there)

pub resolve_with-requires-clause-there : goal.resolve_with-requires-clause-there
resolve_with-requires-clause-there c =
    let db : List (List Literal) = clauses_of c.args.log.now in
    let t = c.args.trail.now in
    let pos : 0 < c.back.n = omega (arith, c.back-test.true) in
    let why : Explains db t.path.items t.starts.items (c.back.n - 1) (get_or t.path.items (c.back.n - 1) no_lit) (Some c.in-Some.id) =
    subst (Explains db t.path.items t.starts.items (c.back.n - 1) (get_or t.path.items (c.back.n - 1) no_lit)) c.in-Some.is
    (reason_at db t.path.items t.reasons.items t.starts.items (length t.places.items) c.back.n c.index-then-contains.result.now c.requires.search pos c.back.invariant.1 t.is_trail.same_length c.index-then-contains.ensures) in
    why.in_db

pub resolve_with-requires-clause-over : goal.resolve_with-requires-clause-over
resolve_with-requires-clause-over c =
    let db : List (List Literal) = clauses_of c.args.log.now in
    let t = c.args.trail.now in
    let pos : 0 < c.back.n = omega (arith, c.back-test.true) in
    let why : Explains db t.path.items t.starts.items (c.back.n - 1) (get_or t.path.items (c.back.n - 1) no_lit) (Some c.in-Some.id) =
    subst (Explains db t.path.items t.starts.items (c.back.n - 1) (get_or t.path.items (c.back.n - 1) no_lit)) c.in-Some.is
    (reason_at db t.path.items t.reasons.items t.starts.items (length t.places.items) c.back.n c.index-then-contains.result.now c.requires.search pos c.back.invariant.1 t.is_trail.same_length c.index-then-contains.ensures) in
    rw c.back.invariant.3 (c.requires.search.over c.in-Some.id.0 why.in_db)

pub back-preserved-in-Continue-branch-2 : goal.back-preserved-in-Continue-branch-2
back-preserved-in-Continue-branch-2 c =
    let db : List (List Literal) = clauses_of c.args.log.now in
    let t = c.args.trail.now in
    let pos : 0 < c.back.n = omega (arith, c.back-test.true) in
    let why : Explains db t.path.items t.starts.items (c.back.n - 1) (get_or t.path.items (c.back.n - 1) no_lit) (Some c.in-Some.id) =
    subst (Explains db t.path.items t.starts.items (c.back.n - 1) (get_or t.path.items (c.back.n - 1) no_lit)) c.in-Some.is
    (reason_at db t.path.items t.reasons.items t.starts.items (length t.places.items) c.back.n c.index-then-contains.result.now c.requires.search pos c.back.invariant.1 t.is_trail.same_length c.index-then-contains.ensures) in
    let e = c.in_ok-resolve_with-in-Some.ensures in (
      resolve_last db c.args.conflict t.path.items c.back.n c.back.scratch.literals c.resolve_with.new.scratch.literals c.back.derivation.steps.items c.resolve_with.new.derivation.steps.items c.index.result.now c.opposite-lit.result c.in-Some.id pos c.back.invariant.1 c.index.ensures c.opposite-lit.ensures c.back.invariant.0 why
          e.literals e.steps,
      omega (arith, c.back.invariant.1),
      e.start ∙ c.back.invariant.2,
      e.variables ∙ c.back.invariant.3,
    )

pub unreachable-requires : goal.unreachable-requires
unreachable-requires c =
    let db : List (List Literal) = clauses_of c.args.log.now in
    let t = c.args.trail.now in
    let pos : 0 < c.back.n = omega (arith, c.back-test.true) in
    let why : Explains db t.path.items t.starts.items (c.back.n - 1) (get_or t.path.items (c.back.n - 1) no_lit) (None) =
    subst (Explains db t.path.items t.starts.items (c.back.n - 1) (get_or t.path.items (c.back.n - 1) no_lit)) c.in-None.is
    (reason_at db t.path.items t.reasons.items t.starts.items (length t.places.items) c.back.n c.index-then-contains.result.now c.requires.search pos c.back.invariant.1 t.is_trail.same_length c.index-then-contains.ensures) in
    let begins : Contains [] (c.back.n - 1) = subst (λ (s : List ℕ). Contains s (c.back.n - 1)) c.requires.level why in
    absurd (omega (arith, begins.1))

pub back-preserved : goal.back-preserved
back-preserved c =
    let db : List (List Literal) = clauses_of c.args.log.now in
    let t = c.args.trail.now in (
      skip_last db c.args.conflict t.path.items c.back.n c.back.scratch.literals c.back.derivation.steps.items c.index.result.now c.opposite-lit.result (omega (arith, c.back-test.true)) c.back.invariant.1 c.index.ensures c.opposite-lit.ensures c.back.invariant.0
          (λ there. both_ways c.contains.result c.if-contains.false (c.contains.ensures.1 there)),
      omega (arith, c.back.invariant.1),
      c.back.invariant.2,
      c.back.invariant.3,
    )

pub returns-clause-empty : goal.returns-clause-empty
returns-clause-empty c =
    let db : List (List Literal) = clauses_of c.args.log.now in
    let t = c.args.trail.now in
    let n-is : c.back.n ≡ 0 = omega (arith, c.back-test.false) in
    refuted db c.args.conflict t.path.items c.back.scratch.literals c.back.derivation.steps.items (subst (λ (k : ℕ). IsDerived db c.args.conflict t.path.items k c.back.scratch.literals c.back.derivation.steps.items) n-is c.back.invariant.0)
