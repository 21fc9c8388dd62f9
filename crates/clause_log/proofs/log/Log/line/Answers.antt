use Rattle.std.proofs.Common.{◌≡◌, ℕ, length, sym, ◌∙◌, ap, subst}
use Rattle.clause_log.specs.Resolution.{StepsAreIn}
use Rattle.clause_log.specs.Log.{ClauseLog, all_clauses, clauses_of}
use Rattle.clause_log.proofs.Logs.{steps_are_in}
use Rattle.clause_log.proofs.log.Log.line.Goals as goal

pub append-requires-clause-steps : goal.append-requires-clause-steps
append-requires-clause-steps c =
    let count : c.clauses-count.result ≡ length (all_clauses c.self.inside.formula.clauses c.self.inside.lines) = c.clauses-count.ensures ∙ ap (λ (l : ClauseLog). length (clauses_of l)) (sym c.self.view_is) in
    subst (λ (n : ℕ). StepsAreIn n c.args.steps.now) count (steps_are_in c.clauses-count.result c.args.start c.args.steps.now c.in-None.ensures)
