use Rattle.std.proofs.Common.{◌≡◌, take}
use Rattle.clause_log.specs.Resolution.{first_places, resolvents, clause_at}
use Rattle.clause_log.specs.Log.{all_clauses}
use Rattle.clause_log.proofs.log.derive.Given as goal

abbrev pub invariant-loop-step : goal.invariant-loop-step
invariant-loop-step l =
    (l.scratch.variables ≡ l.formula.variables)
    × (l.scratch.literals ≡ first_places (resolvents (all_clauses l.formula.clauses l.lines) (clause_at (all_clauses l.formula.clauses l.lines) l.fn.start) (take l.step-index l.steps)))
