use Rattle.std.proofs.Common.{◌≡◌, ◌≤◌, length}
use Rattle.clause_log.specs.Log.{clauses_of}
use Rattle.clause_search.specs.Learnt.{IsDerived}
use Rattle.clause_search.proofs.analyze.refutation_of.Given as goal

abbrev pub invariant-back : goal.invariant-back
invariant-back l =
    IsDerived (clauses_of l.log) l.fn.conflict l.trail.path.items l.n l.scratch.literals l.derivation.steps.items
    × (l.n ≤ length l.trail.path.items)
    × (l.derivation.start ≡ l.fn.conflict)
    × (l.scratch.variables ≡ length l.trail.places.items)

abbrev pub decreases-back : goal.decreases-back
decreases-back l = l.n
