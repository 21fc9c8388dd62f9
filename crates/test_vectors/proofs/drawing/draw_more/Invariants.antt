use Rattle.std.proofs.Common.{◌≡◌, ◌++◌, ◌-◌}
use Rattle.test_vectors.specs.TestInputs.{drawn_inputs, seeded}
use Rattle.test_vectors.proofs.drawing.draw_more.Given as goal

abbrev pub invariant-loop : goal.invariant-loop
invariant-loop l = l.inputs.items ++ drawn_inputs l.widths (l.count - l.counter) l.generator ≡ l.initial.inputs.items ++ drawn_inputs l.widths l.count (seeded l.seed)
