use Rattle.std.proofs.Common.{◌≡◌, ◌-◌}
use Rattle.spec_meaning.specs.Table.{least_width}
use Rattle.spec_meaning.proofs.arrays.least_width.Given as goal

abbrev pub invariant-loop-width : goal.invariant-loop-width
invariant-loop-width l = least_width l.len l.width (16 - l.width) ≡ least_width l.len 0 16
