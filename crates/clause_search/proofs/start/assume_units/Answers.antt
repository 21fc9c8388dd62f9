use Rattle.std.proofs.Common.{◌∙◌, List, [], true, get_or, subst}
use Rattle.cnf_clauses.specs.Literal.{Literal}
use Rattle.clause_log.specs.Log.{clauses_of}
use Rattle.clause_search.specs.Start.{IsAssumed}
use Rattle.clause_search.proofs.Starts.{units_more}
use Rattle.clause_search.proofs.start.assume_units.Goals as goal

pub loop-k-preserved : goal.loop-k-preserved
loop-k-preserved c =
    let t = c.loop-k.trail in
    let n = c.assume_unit.new.trail in
    let db : List (List Literal) = clauses_of c.args.log.now in
    let e = c.in_ok-assume_unit.ensures in
    let text : List Literal = get_or db c.loop-k.k [] in
    let a : IsAssumed text t.path.items n.path.items true = subst (IsAssumed text t.path.items n.path.items) c.if-not-branch.false e.assumed in
    (e.search, e.level, e.places ∙ c.loop-k.invariant.2, units_more t.path.items n.path.items db c.loop-k.k a.0 c.loop-k.invariant.3 a.1)
