use Rattle.std.proofs.Common.{◌≡◌, ◌++◌, drop, map, pos}
use Rattle.bv_words.specs.Words.{chop_wide}
use Rattle.spec_meaning.proofs.arrays.all_chopped.Given as goal

abbrev pub invariant-loop-number : goal.invariant-loop-number
invariant-loop-number l = l.items ++ map (λ z. pos (chop_wide l.width z)) (drop l.number-index l.numbers) ≡ map (λ z. pos (chop_wide l.width z)) l.numbers
