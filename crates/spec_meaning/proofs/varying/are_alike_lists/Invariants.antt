use Rattle.std.proofs.Common.{◌≡◌, drop}
use Rattle.std.specs.Cmp.Lexicographic.{pointwise}
use Rattle.spec_meaning.specs.Varying.{are_alike_numbers}
use Rattle.spec_meaning.proofs.varying.are_alike_lists.Given as goal

abbrev pub invariant-loop-at : goal.invariant-loop-at
invariant-loop-at l = pointwise are_alike_numbers (drop l.at l.first) (drop l.at l.second) ≡ pointwise are_alike_numbers l.first l.second
