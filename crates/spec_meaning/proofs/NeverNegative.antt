-- Numbers that aren't below 0.
use Rattle.std.proofs.Common.{◌≡◌, ℕ, ◌%◌, refl}
use Rattle.std.specs.Prelude.{pos}
use Rattle.bv_words.specs.Words.{chop, chop_wide, slice}
use Rattle.spec_meaning.specs.Table.{bits, amount_in, least_width, place_in}
use Rattle.spec_meaning.specs.NumberLaws.{NeverNegative}

chopped_pos : (w n : ℕ) → chop_wide w (pos n) ≡ chop w n
unfolding chop_wide chop
chopped_pos w n = refl

sliced_pos : (high low n : ℕ) → bits high low (pos n) ≡ slice high low n
unfolding chop_wide chop slice
sliced_pos high low n = refl

amount_pos : (w n : ℕ) → amount_in w (pos n) ≡ n % w
unfolding amount_in
amount_pos w n = refl

place_pos : (len n : ℕ) → place_in len (pos n) ≡ chop (least_width len 0 16) n
unfolding place_in
place_pos len n = chopped_pos (least_width len 0 16) n

pub never_negative : NeverNegative
never_negative = record { chopped = chopped_pos; sliced = sliced_pos; amount = amount_pos; place = place_pos }
