use Rattle.std.proofs.Common.{◌≡◌, ◌++◌, drop}
use Rattle.test_vectors.specs.TestInputs.{drawn, after_drawn}
use Rattle.test_vectors.proofs.drawing.draw_one.Given as goal

abbrev pub invariant-loop-width : goal.invariant-loop-width
invariant-loop-width l = record {
  leaves : l.leaves.items ++ drawn (drop l.width-index l.widths) l.generator ≡ drawn l.widths l.initial.generator;
  after : after_drawn (drop l.width-index l.widths) l.generator ≡ after_drawn l.widths l.initial.generator;
}
