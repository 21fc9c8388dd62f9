use Rattle.std.proofs.Common.{ℕ, ◌-◌, ◌≤◌, Some, List, length, get_or, ◌∙◌, arith, subst}
use Rattle.cnf_clauses.specs.Literal.{Literal}
use Rattle.clause_log.specs.Resolution.{clause_at}
use Rattle.clause_log.specs.Log.{clauses_of}
use Rattle.clause_search.specs.Path.{Explains}
use Rattle.clause_search.specs.Learnt.{IsCovered, last_start}
use Rattle.clause_search.proofs.Paths.{no_lit}
use Rattle.clause_search.proofs.Analysis.{reason_at, learnt_resolve, within_covered}
use Rattle.clause_search.proofs.analyze.minimise.Goals as goal

pub clause-requires : goal.clause-requires
clause-requires c =
    let db : List (List Literal) = clauses_of c.args.log.now in
    let t = c.args.trail.now in
    let b : ℕ = last_start t.starts.items in
    let inside : c.down.n ≤ length t.path.items = omega (arith, c.down.invariant.1, t.is_trail.inside (length t.starts.items - 1) (omega (arith, c.requires.level))) in
    let why : Explains db t.path.items t.starts.items (c.down.n - 1) (get_or t.path.items (c.down.n - 1) no_lit) (Some c.in-Some.id) =
    subst (Explains db t.path.items t.starts.items (c.down.n - 1) (get_or t.path.items (c.down.n - 1) no_lit)) c.in-Some.is
    (reason_at db t.path.items t.reasons.items t.starts.items (length t.places.items) c.down.n c.index.result.now c.requires.search c.down-test.true inside t.is_trail.same_length c.index.ensures) in
    why.in_db

pub resolve_with-requires : goal.resolve_with-requires
resolve_with-requires c =
    let db : List (List Literal) = clauses_of c.args.log.now in
    let t = c.args.trail.now in
    let b : ℕ = last_start t.starts.items in
    let inside : c.down.n ≤ length t.path.items = omega (arith, c.down.invariant.1, t.is_trail.inside (length t.starts.items - 1) (omega (arith, c.requires.level))) in
    let why : Explains db t.path.items t.starts.items (c.down.n - 1) (get_or t.path.items (c.down.n - 1) no_lit) (Some c.in-Some.id) =
    subst (Explains db t.path.items t.starts.items (c.down.n - 1) (get_or t.path.items (c.down.n - 1) no_lit)) c.in-Some.is
    (reason_at db t.path.items t.reasons.items t.starts.items (length t.places.items) c.down.n c.index.result.now c.requires.search c.down-test.true inside t.is_trail.same_length c.index.ensures) in
    record { there = why.in_db; over = rw (c.down.invariant.3 ∙ c.requires.variables) (c.requires.search.over c.in-Some.id.0 why.in_db) }

pub down-preserved-in-Continue-1 : goal.down-preserved-in-Continue-1
down-preserved-in-Continue-1 c =
    let db : List (List Literal) = clauses_of c.args.log.now in
    let t = c.args.trail.now in
    let b : ℕ = last_start t.starts.items in
    let inside : c.down.n ≤ length t.path.items = omega (arith, c.down.invariant.1, t.is_trail.inside (length t.starts.items - 1) (omega (arith, c.requires.level))) in
    let why : Explains db t.path.items t.starts.items (c.down.n - 1) (get_or t.path.items (c.down.n - 1) no_lit) (Some c.in-Some.id) =
    subst (Explains db t.path.items t.starts.items (c.down.n - 1) (get_or t.path.items (c.down.n - 1) no_lit)) c.in-Some.is
    (reason_at db t.path.items t.reasons.items t.starts.items (length t.places.items) c.down.n c.index.result.now c.requires.search c.down-test.true inside t.is_trail.same_length c.index.ensures) in
    let covered : IsCovered c.down.scratch.literals (clause_at db c.in-Some.id) c.index-follows.result.now =
    subst (λ (reason : List Literal). IsCovered c.down.scratch.literals reason c.index-follows.result.now) c.clause.ensures.value (c.is_covered.ensures.0 c.if-is_covered.true) in
    let e = c.in_ok-resolve_with-in-Some.ensures in (
      learnt_resolve db c.args.derivation.now.start t.path.items b c.down.n c.down.scratch.literals c.resolve_with.new.scratch.literals c.down.derivation.steps.items c.resolve_with.new.derivation.steps.items c.args.first c.index-follows.result.now c.opposite-lit.result c.in-Some.id c.down-test.true c.down.invariant.1 inside c.index-follows.ensures c.opposite-lit.ensures c.down.invariant.0 why e.literals e.steps,
      omega (arith, c.down.invariant.1),
      e.start ∙ c.down.invariant.2,
      e.variables ∙ c.down.invariant.3,
      within_covered c.args.scratch.now.literals c.down.scratch.literals (clause_at db c.in-Some.id) c.resolve_with.new.scratch.literals c.opposite-lit.result c.index-follows.result.now c.opposite-lit.ensures covered e.literals c.down.invariant.4,
    )
