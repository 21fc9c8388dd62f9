use Rattle.std.proofs.Common.{◌≡◌, ℕ, ◌≤◌, List, length, arith, subst}
use Rattle.cnf_clauses.specs.Literal.{Literal}
use Rattle.clause_log.specs.Log.{clauses_of}
use Rattle.clause_search.specs.Watch.{IsWatching}
use Rattle.clause_search.proofs.Passes.{watching_is_closed}
use Rattle.clause_search.proofs.pass.propagate_watched.Goals as goal

pub returns-clause-at_rest : goal.returns-clause-at_rest
returns-clause-at_rest c =
    let db : List (List Literal) = clauses_of c.args.log.now in
    let t = c.path.trail in
    let w = c.path.watches in
    let i = c.path.invariant in
    let rest : length t.path.items ≤ c.path.q = omega (arith, c.path-test.false, c.len.ensures, t.path.ok.0) in (
      watching_is_closed db t.path.items t.reasons.items t.starts.items t.places.items c.path.q w.pairs.items t.is_trail rest i.0.some i.7,
      subst (λ (q : ℕ). IsWatching db t.path.items q t.starts.items w.pairs.items) (let q-is : c.path.q ≡ length t.path.items = omega (arith, i.6, rest) in q-is) i.7,
    )
