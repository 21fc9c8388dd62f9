-- Parts of numbers of any sign.
use Rattle.std.proofs.Common.{◌≡◌, ℕ, ◌+◌, ◌-◌, refl}
use Rattle.std.specs.Prelude.{ℤ, pos, negsuc}
use Rattle.std.specs.Int.{int_shr}
use Rattle.bv_words.specs.Words.{chop_wide}
use Rattle.spec_meaning.specs.Table.{bits}

-- a number moved down is its quotient, rounded down
pub shifted_down : (high low : ℕ) (x : ℤ) → chop_wide (high - low + 1) (int_shr x low) ≡ bits high low x
shifted_down high low (pos n) = refl
shifted_down high low (negsuc n) = refl
