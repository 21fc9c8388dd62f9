-- Words that are moved, by words of other operations.
use Rattle.std.specs.Prelude.{ℕ, ◌-◌, bit_or, bit_xor}
use Rattle.bv_words.specs.Words.{slice, sx, shl, shr}

-- the word whose bits are all the sign of x
abbrev pub sign_word : ℕ → ℕ → ℕ
sign_word w x = sx w 1 (slice (w - 1) (w - 1) x)

-- x moved down with its sign coming in: from the width on the sign alone
abbrev pub down_signed : ℕ → ℕ → ℕ → ℕ
down_signed w x amount = bit_xor (shr w (bit_xor x (sign_word w x)) amount) (sign_word w x)

-- a word moved up by one amount, beside the same word moved down by another
abbrev pub both_moved : ℕ → ℕ → ℕ → ℕ → ℕ
both_moved w x above below = bit_or (shl w x above) (shr w x below)
