-- What the lines of the table say of numbers that aren't below 0.
use Rattle.std.specs.Prelude.{◌≡◌, ℕ, pos, ◌%◌}
use Rattle.bv_words.specs.Words.{chop, chop_wide, slice}
use Rattle.spec_meaning.specs.Table.{bits, amount_in, least_width, place_in}

-- a number that isn't below 0 is cut, sliced, turned and looked up as a word is
pub record NeverNegative : Type 0 where
  pub chopped : (w n : ℕ) → chop_wide w (pos n) ≡ chop w n
  pub sliced : (high low n : ℕ) → bits high low (pos n) ≡ slice high low n
  pub amount : (w n : ℕ) → amount_in w (pos n) ≡ n % w
  pub place : (len n : ℕ) → place_in len (pos n) ≡ chop (least_width len 0 16) n
