use Rattle.std.proofs.Common.{◌≡◌, ℕ, ◌-◌, ◌<◌, Some, None, List, length, get_or, take, sym, ◌∙◌, arith, ap, subst, refl}
use Rattle.std.specs.List.{Contains}
use Rattle.std.proofs.lemmas.List.{get_or_read}
use Rattle.std.proofs.lemmas.Bool.{both_ways}
use Rattle.cnf_clauses.specs.Literal.{Literal, opposite}
use Rattle.clause_log.specs.Resolution.{clause_at}
use Rattle.clause_log.specs.Log.{clauses_of}
use Rattle.clause_search.specs.Path.{IsClosedFor, AllButFalseIn, Explains}
use Rattle.clause_search.specs.Learnt.{IsLearnt, last_start}
use Rattle.clause_search.proofs.Paths.{no_lit}
use Rattle.clause_search.proofs.Searches.{front_within}
use Rattle.clause_search.proofs.Analysis.{derived_start, skip_last, reason_at, resolve_last, over_false, not_yet_start, not_yet_resolve, learnt_here, never_a_decision}
use Rattle.clause_search.proofs.analyze.walk_back.Goals as goal

pub back-init : goal.back-init
back-init c =
    let db : List (List Literal) = clauses_of c.args.log.now in
    let t = c.args.trail.now in
    let last : c.len.result - 1 ≡ length t.starts.items - 1 = omega (arith, c.len.ensures, t.starts.ok.0) in
    let b-is : c.index-start.result.now ≡ last_start t.starts.items = get_or_read t.starts.items (c.len.result - 1) c.index-start.result.now (omega (arith, c.len.ensures, t.starts.ok.0, c.requires.level)) c.index-start.ensures 0 ∙ ap (λ (k : ℕ). get_or t.starts.items k 0) last in
    let n-is : c.len-n.result ≡ length t.path.items = omega (arith, c.len-n.ensures, t.path.ok.0) in
    let d = c.args.derivation.now in
    let below = subst (λ (k : ℕ). IsClosedFor (take k t.path.items) db) (sym b-is) (c.requires.search.closed (length t.starts.items - 1) (omega (arith, c.requires.level))) in (
      derived_start db d.start t.path.items c.len-n.result c.args.scratch.now.literals d.steps.items n-is c.requires.all_false c.requires.literals c.requires.steps,
      omega arith,
      not_yet_start db t.path.items t.reasons.items t.starts.items t.places.items c.index-start.result.now d.start c.args.scratch.now.literals t.is_trail below c.requires.there c.requires.literals,
      refl,
      refl,
    )

pub false_but-requires : goal.false_but-requires
false_but-requires c =
    let t = c.args.trail.now in
    rw c.literals.ensures.value (over_false t.path.items t.reasons.items t.starts.items t.places.items c.back.n c.back.scratch.literals t.is_trail c.back.invariant.0.all_false)

pub returns-then-false_but-clause-learnt : goal.returns-then-false_but-clause-learnt
returns-then-false_but-clause-learnt c =
    let db : List (List Literal) = clauses_of c.args.log.now in
    let t = c.args.trail.now in
    let last : c.len.result - 1 ≡ length t.starts.items - 1 = omega (arith, c.len.ensures, t.starts.ok.0) in
    let b-is : c.index-start.result.now ≡ last_start t.starts.items = get_or_read t.starts.items (c.len.result - 1) c.index-start.result.now (omega (arith, c.len.ensures, t.starts.ok.0, c.requires.level)) c.index-start.ensures 0 ∙ ap (λ (k : ℕ). get_or t.starts.items k 0) last in
    let u : Literal = c.opposite-first.result in
    let there : Contains c.back.scratch.literals u = c.contains.ensures.0 c.if-contains.true in
    let others : AllButFalseIn (take c.index-start.result.now t.path.items) u c.back.scratch.literals = subst (AllButFalseIn (take c.index-start.result.now t.path.items) u) c.literals.ensures.value (c.false_but.ensures.0 c.if-false_but.true) in
    subst (λ (k : ℕ). IsLearnt db c.args.derivation.now.start t.path.items k c.back.scratch.literals c.back.derivation.steps.items u) b-is
    (learnt_here db c.args.derivation.now.start t.path.items t.reasons.items t.starts.items t.places.items c.index-start.result.now c.back.n c.back.scratch.literals c.back.derivation.steps.items c.index.result.now u t.is_trail c.back-test.true c.back.invariant.1 c.index.ensures c.opposite-first.ensures c.back.invariant.0 there others)

pub resolve_with-requires : goal.resolve_with-requires
resolve_with-requires c =
    let db : List (List Literal) = clauses_of c.args.log.now in
    let t = c.args.trail.now in
    let pos : 0 < c.back.n = omega (arith, c.back-test.true) in
    let why : Explains db t.path.items t.starts.items (c.back.n - 1) (get_or t.path.items (c.back.n - 1) no_lit) (Some c.in-Some.id) =
    subst (Explains db t.path.items t.starts.items (c.back.n - 1) (get_or t.path.items (c.back.n - 1) no_lit)) c.in-Some.is
    (reason_at db t.path.items t.reasons.items t.starts.items (length t.places.items) c.back.n c.index-then-contains.result.now c.requires.search pos c.back.invariant.1 t.is_trail.same_length c.index-then-contains.ensures) in
    record { there = why.in_db; over = rw (c.back.invariant.4 ∙ c.requires.variables) (c.requires.search.over c.in-Some.id.0 why.in_db) }

pub back-preserved-in-Continue-1 : goal.back-preserved-in-Continue-1
back-preserved-in-Continue-1 c =
    let db : List (List Literal) = clauses_of c.args.log.now in
    let t = c.args.trail.now in
    let pos : 0 < c.back.n = omega (arith, c.back-test.true) in
    let why : Explains db t.path.items t.starts.items (c.back.n - 1) (get_or t.path.items (c.back.n - 1) no_lit) (Some c.in-Some.id) =
    subst (Explains db t.path.items t.starts.items (c.back.n - 1) (get_or t.path.items (c.back.n - 1) no_lit)) c.in-Some.is
    (reason_at db t.path.items t.reasons.items t.starts.items (length t.places.items) c.back.n c.index-then-contains.result.now c.requires.search pos c.back.invariant.1 t.is_trail.same_length c.index-then-contains.ensures) in
    let e = c.in_ok-resolve_with-in-Some.ensures in (
      resolve_last db c.args.derivation.now.start t.path.items c.back.n c.back.scratch.literals c.resolve_with.new.scratch.literals c.back.derivation.steps.items c.resolve_with.new.derivation.steps.items c.index.result.now c.opposite-first.result c.in-Some.id pos c.back.invariant.1 c.index.ensures c.opposite-first.ensures c.back.invariant.0 why
          e.literals e.steps,
      omega (arith, c.back.invariant.1),
      not_yet_resolve t.path.items c.index-start.result.now c.opposite-first.result c.back.scratch.literals (clause_at db c.in-Some.id) c.resolve_with.new.scratch.literals (λ (but : AllButFalseIn (take c.index-start.result.now t.path.items) c.opposite-first.result c.back.scratch.literals). both_ways c.false_but.result c.if-false_but.false (c.false_but.ensures.1 (subst (AllButFalseIn (take c.index-start.result.now t.path.items) c.opposite-first.result) (sym c.literals.ensures.value) but))) e.literals,
      e.start ∙ c.back.invariant.3,
      e.variables ∙ c.back.invariant.4,
    )

pub unreachable-requires : goal.unreachable-requires
unreachable-requires c =
    let db : List (List Literal) = clauses_of c.args.log.now in
    let t = c.args.trail.now in
    let last : c.len.result - 1 ≡ length t.starts.items - 1 = omega (arith, c.len.ensures, t.starts.ok.0) in
    let b-is : c.index-start.result.now ≡ last_start t.starts.items = get_or_read t.starts.items (c.len.result - 1) c.index-start.result.now (omega (arith, c.len.ensures, t.starts.ok.0, c.requires.level)) c.index-start.ensures 0 ∙ ap (λ (k : ℕ). get_or t.starts.items k 0) last in
    let pos : 0 < c.back.n = omega (arith, c.back-test.true) in
    let why : Explains db t.path.items t.starts.items (c.back.n - 1) (get_or t.path.items (c.back.n - 1) no_lit) (None) =
    subst (Explains db t.path.items t.starts.items (c.back.n - 1) (get_or t.path.items (c.back.n - 1) no_lit)) c.in-None.is
    (reason_at db t.path.items t.reasons.items t.starts.items (length t.places.items) c.back.n c.index-then-contains.result.now c.requires.search pos c.back.invariant.1 t.is_trail.same_length c.index-then-contains.ensures) in
    never_a_decision t.path.items t.starts.items c.index-start.result.now c.back.n c.back.scratch.literals c.index.result.now c.opposite-first.result t.is_trail.rising b-is c.back-test.true c.back.invariant.1 c.index.ensures c.opposite-first.ensures c.back.invariant.0.all_false why
    (λ (but : AllButFalseIn (take c.index-start.result.now t.path.items) c.opposite-first.result c.back.scratch.literals). both_ways c.false_but.result c.if-false_but.false (c.false_but.ensures.1 (subst (AllButFalseIn (take c.index-start.result.now t.path.items) c.opposite-first.result) (sym c.literals.ensures.value) but)))

pub back-preserved : goal.back-preserved
back-preserved c =
    let db : List (List Literal) = clauses_of c.args.log.now in
    let t = c.args.trail.now in (
      skip_last db c.args.derivation.now.start t.path.items c.back.n c.back.scratch.literals c.back.derivation.steps.items c.index.result.now c.opposite-first.result (omega (arith, c.back-test.true)) c.back.invariant.1 c.index.ensures c.opposite-first.ensures c.back.invariant.0
          (λ there. both_ways c.contains.result c.if-contains.false (c.contains.ensures.1 there)),
      omega (arith, c.back.invariant.1),
      c.back.invariant.2,
      c.back.invariant.3,
      c.back.invariant.4,
    )

pub unreachable-requires-2 : goal.unreachable-requires-2
unreachable-requires-2 c =
    let t = c.args.trail.now in
    c.back.invariant.2 (λ l l-in. front_within t.path.items c.back.n c.index-start.result.now (opposite l) c.back-test.false (c.back.invariant.0.all_false l l-in))
