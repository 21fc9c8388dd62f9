use Rattle.std.proofs.Common.{◌∙◌, ap}
use Rattle.clause_log.specs.Marks.{Scratch}
use Rattle.clause_log.proofs.Logs.{IsLog-nil}
use Rattle.clause_log.proofs.log.Log.begin.Goals as goal

pub invariant_of-result : goal.invariant_of-result
invariant_of-result c =
    (rw c.new-2.ensures (IsLog-nil c.args.formula.variables c.args.formula.clauses c.variables.ensures.is_formula.few c.variables.ensures.is_formula.over), ap (λ (s : Scratch). s.variables) c.in_ok-scratch.ensures ∙ c.variables.ensures.value)
