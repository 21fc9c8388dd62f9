use Rattle.std.proofs.Common.{◌≡◌, ◌∙◌, ◌<◌, List, length, get_or, sym, ap}
use Rattle.cnf_clauses.specs.Literal.{Literal}
use Rattle.clause_log.specs.Resolution.{Step, resolvent, first_places, clause_at}
use Rattle.clause_log.specs.Log.{all_clauses}
use Rattle.clause_log.proofs.Logs.{resolvents-nil, resolvents_more, step_in}
use Rattle.clause_log.proofs.log.derive.Goals as goal

pub begin-requires : goal.begin-requires
begin-requires c = rw (c.requires.variables, c.clause_in.ensures) (c.requires.log.over c.args.start.0 c.requires.start)

pub loop-step-init : goal.loop-step-init
loop-step-init c =
    let db = all_clauses c.args.formula.now.clauses c.args.lines.now in (
      c.in_ok-begin.ensures.variables ∙ c.requires.variables,
      c.in_ok-begin.ensures.literals ∙ ap first_places (c.clause_in.ensures ∙ sym (resolvents-nil db (clause_at db c.args.start))),
    )

pub resolve-requires : goal.resolve-requires
resolve-requires c =
    let db = all_clauses c.args.formula.now.clauses c.args.lines.now in
    let inside : c.step-item.result.0.0 < length db = step_in (length db) c.args.steps.now c.loop-step.step-index c.step-item.result c.loop-step-test.true c.step-item.is c.requires.steps in
    rw (c.loop-step.invariant.0, c.clause_in-in-loop-step.ensures) (c.requires.log.over c.step-item.result.0.0 inside)

pub loop-step-preserved : goal.loop-step-preserved
loop-step-preserved c =
    let db = all_clauses c.args.formula.now.clauses c.args.lines.now in
    let i = c.loop-step.step-index in
    let s : Step = c.step-item.result in
    let at : get_or c.args.steps.now i s ≡ s = sym c.step-item.is in (
      c.in_ok-resolve.ensures.variables ∙ c.loop-step.invariant.0,
      resolvents_more db (clause_at db c.args.start) c.args.steps.now i s c.loop-step.scratch.literals c.resolve.new.self.literals c.loop-step-test.true c.loop-step.invariant.1
          (c.in_ok-resolve.ensures.literals ∙ (ap (λ (x : List Literal). resolvent s.1 c.loop-step.scratch.literals x) c.clause_in-in-loop-step.ensures
          ∙ ap (λ (t : Step). resolvent t.1 c.loop-step.scratch.literals (clause_at db t.0)) (sym at))),
    )
