use Rattle.std.proofs.Common.{◌≡◌, ◌-◌}
use Rattle.jvm_meaning.specs.Runs.{run_from}
use Rattle.jvm_run.proofs.run.run_from.Given as goal

abbrev pub invariant-loop : goal.invariant-loop
invariant-loop l = run_from (l.steps - l.counter) l.class l.shape l.limits l.state ≡ run_from l.steps l.class l.shape l.limits l.initial.state
