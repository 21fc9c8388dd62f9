use Rattle.std.proofs.Common.{◌≡◌, ◌≤◌, length, take}
use Rattle.clause_log.specs.Log.{clauses_of}
use Rattle.clause_search.specs.Path.{AllFalseIn}
use Rattle.clause_search.specs.Learnt.{IsDerived}
use Rattle.clause_search.proofs.analyze.walk_back.Given as goal

abbrev pub invariant-back : goal.invariant-back
invariant-back l =
    IsDerived (clauses_of l.log) l.initial.derivation.start l.trail.path.items l.n l.scratch.literals l.derivation.steps.items
    × (l.n ≤ length l.trail.path.items)
    × (AllFalseIn (take l.start l.trail.path.items) l.scratch.literals → ⊥)
    × (l.derivation.start ≡ l.initial.derivation.start)
    × (l.scratch.variables ≡ l.initial.scratch.variables)

abbrev pub decreases-back : goal.decreases-back
decreases-back l = l.n
