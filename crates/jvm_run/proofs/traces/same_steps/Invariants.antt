use Rattle.std.proofs.Common.{◌≡◌, ◌-◌, ◌↔◌}
use Rattle.jvm_meaning.specs.Traces.{trace_from}
use Rattle.jvm_run.proofs.traces.same_steps.Given as goal

abbrev pub invariant-loop : goal.invariant-loop
invariant-loop l =
    (trace_from (l.steps - l.counter) l.class l.shape l.limits l.one ≡ trace_from (l.steps - l.counter) l.class l.shape l.limits l.other)
    ↔ (trace_from l.steps l.class l.shape l.limits l.initial.one ≡ trace_from l.steps l.class l.shape l.limits l.initial.other)
