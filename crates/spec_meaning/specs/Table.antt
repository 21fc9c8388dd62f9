-- The functions of the language, a line each.
use Rattle.std.specs.Prelude.{ℕ, zero, suc, ℤ, pos, neg_ℤ, ◌+ℤ◌, ◌-ℤ◌, ◌+◌, ◌-◌, ◌^◌, Bool, true, false, nat_le, nat_lt, int_lt, int_le, bit_and, bit_or, bit_xor, unsigned_abs, if◌then◌else◌, List, [], ◌∷◌, length, map, drop, slice_get, slice_set, Option, Some, None, Result, Ok, Err}
use Rattle.std.specs.Int.{int_div_euclid, int_rem_euclid}
use Rattle.std.specs.Ordering.{int_eq}
use Rattle.bv_words.specs.Words.{chop_wide, cat, sx, neg, bit_not, plus, minus, times, udiv, urem, shl, shr, rotate_left, rotate_right}
use Rattle.spec_form.specs.declared.builtin.Builtin.{Builtin}
use Rattle.spec_form.specs.declared.builtin.Builtin.TheVariants as builtin
use Rattle.spec_meaning.specs.declared.value.Value.{Value}
use Rattle.spec_meaning.specs.declared.value.Value.TheVariants.{Number, List as Numbers}
use Rattle.spec_meaning.specs.declared.value.Why.{Why}
use Rattle.spec_meaning.specs.declared.value.Why.TheVariants.{NotANumber, BadWidth}
use Rattle.spec_meaning.specs.Checks.{◌>>=◌, check, number, list, is_nil, truth, word, width, below, chopped, narrow, numbers_after, joined_after, array_length, array, item, is_pair, same}

-- ---- words

-- a width and a word of it
abbrev pub word_in : Value → Value → Result (ℕ × ℕ) Why
word_in w x = width w >>= λ w. chopped w x >>= λ x. Ok (w, x)

-- a function of a word
abbrev pub on_word : (ℕ → ℕ → ℕ) → Value → Value → Result Value Why
on_word f w x = word_in w x >>= λ args. Ok (word (f args.0 args.1))

-- a width and two words of it
abbrev pub words : Value → Value → Value → Result (ℕ × ℕ × ℕ) Why
words w x y = width w >>= λ w. chopped w x >>= λ x. chopped w y >>= λ y. Ok (w, x, y)

-- a function of two words
abbrev pub on_words : (ℕ → ℕ → ℕ → ℕ) → Value → Value → Value → Result Value Why
on_words f w x y = words w x y >>= λ args. Ok (word (f args.0 args.1 args.2))

-- bits low to high of any number: floor (x / 2 ^ low) modulo 2 ^ (high - low + 1)
abbrev pub bits : ℕ → ℕ → ℤ → ℕ
bits high low x = chop_wide (high - low + 1) (int_div_euclid x (pos (2 ^ low)))

-- two places with 0 <= low <= high <= 63
abbrev pub places : ℤ → ℤ → Result (ℕ × ℕ) Why
places high low = below 64 high >>= λ high. below (high + 1) low >>= λ low. Ok (high, low)

abbrev pub sliced : Value → Value → Value → Result Value Why
sliced high low x = number high >>= λ high. number low >>= λ low. places high low >>= λ p. number x >>= λ x. Ok (word (bits p.0 p.1 x))

-- an amount of any sign modulo a width
unfoldable pub amount_in : ℕ → ℤ → ℕ
amount_in w z = unsigned_abs (int_rem_euclid z (pos w))

abbrev pub rotated : (ℕ → ℕ → ℕ → ℕ) → ℕ → Value → Value → Result Value Why
rotated f w amount x = number amount >>= λ amount. chopped w x >>= λ x. Ok (word (f w (amount_in w amount) x))

-- a width, a word of it, and an amount below the width
abbrev pub shift_in : Value → Value → Value → Result (ℕ × ℕ × ℕ) Why
shift_in w x b = word_in w x >>= λ args. number b >>= λ b. below args.0 b >>= λ b. Ok (args.0, args.1, b)

abbrev pub shifted : (ℕ → ℕ → ℕ → ℕ) → Value → Value → Value → Result Value Why
shifted f w x b = shift_in w x b >>= λ args. Ok (word (f args.0 args.1 args.2))

-- ---- arrays of words

-- the least k with 2 ^ k >= len that isn't below this one, among the next few
unfoldable pub least_width : ℕ → ℕ → ℕ → ℕ
least_width len k zero = k
least_width len k (suc more) = if nat_le len (2 ^ k) then k else least_width len (k + 1) more

-- the place of an index in an array of len elements, at most 2 ^ 16: the index modulo the least 2 ^ k >= len
unfoldable pub place_in : ℕ → ℤ → ℕ
place_in len i = chop_wide (least_width len 0 16) i

-- an element chopped, and 0 past the end
abbrev pub element : ℕ → Option ℤ → ℕ
element es (Some z) = chop_wide es z
element es None = 0

-- all elements chopped, and a word at a place, if there is such a place
abbrev pub written : ℕ → List ℤ → ℕ → ℕ → List ℤ
written es zs place v = slice_set (map (λ z. pos (chop_wide es z)) zs) place (pos v)

-- ---- whole numbers

-- a number and others, whose whole sum must fit
abbrev pub sum_from : ℤ → List Value → Result Value Why
sum_from sum [] = narrow sum
sum_from sum (v ∷ vs) = number v >>= λ z. sum_from (sum +ℤ z) vs

abbrev pub numbers : Value → Value → Result (ℤ × ℤ) Why
numbers x y = number x >>= λ x. number y >>= λ y. Ok (x, y)

abbrev pub compared : (ℤ → ℤ → Bool) → Value → Value → Result Value Why
compared f x y = numbers x y >>= λ args. Ok (truth (f args.0 args.1))

-- the value of a call, or why it has none
abbrev pub applied : Builtin → List Value → Result Value Why
applied builtin.BvChop (w ∷ x ∷ []) = on_word (λ w x. x) w x
applied builtin.Slice (high ∷ low ∷ x ∷ []) = sliced high low x
applied builtin.GetBit (b ∷ x ∷ []) = sliced b b x
applied builtin.BvCat (hs ∷ h ∷ ls ∷ l ∷ []) = word_in hs h >>= λ high. width ls >>= λ ls. check (nat_le (high.0 + ls) 64) BadWidth >>= λ _. chopped ls l >>= λ l. Ok (word (cat high.0 high.1 ls l))
applied builtin.BvPlus (w ∷ x ∷ y ∷ []) = on_words plus w x y
applied builtin.BvMinus (w ∷ x ∷ y ∷ []) = on_words minus w x y
applied builtin.BvMult (w ∷ x ∷ y ∷ []) = on_words times w x y
applied builtin.BvDiv (w ∷ x ∷ y ∷ []) = on_words (λ w. udiv) w x y
applied builtin.BvMod (w ∷ x ∷ y ∷ []) = on_words (λ w. urem) w x y
applied builtin.BvUMinus (w ∷ x ∷ []) = on_word neg w x
applied builtin.BvAnd (w ∷ x ∷ y ∷ []) = on_words (λ w. bit_and) w x y
applied builtin.BvOr (w ∷ x ∷ y ∷ []) = on_words (λ w. bit_or) w x y
applied builtin.BvXor (w ∷ x ∷ y ∷ []) = on_words (λ w. bit_xor) w x y
applied builtin.BvNot (w ∷ x ∷ []) = on_word bit_not w x
applied builtin.BvLt (w ∷ x ∷ y ∷ []) = words w x y >>= λ args. Ok (truth (nat_lt args.1 args.2))
applied builtin.BvIf (w ∷ test ∷ x ∷ y ∷ []) = words w x y >>= λ args. Ok (word (if is_nil test then args.2 else args.1))
applied builtin.BvSx (new ∷ old ∷ x ∷ []) = width new >>= λ new. width old >>= λ old. check (nat_le old new) BadWidth >>= λ _. chopped old x >>= λ x. Ok (word (sx new old x))
applied builtin.LeftRotate (w ∷ amount ∷ x ∷ []) = width w >>= λ w. rotated rotate_left w amount x
applied builtin.RightRotate (w ∷ amount ∷ x ∷ []) = width w >>= λ w. rotated rotate_right w amount x
applied builtin.LeftRotate32 (amount ∷ x ∷ []) = rotated rotate_left 32 amount x
applied builtin.RightRotate32 (amount ∷ x ∷ []) = rotated rotate_right 32 amount x
applied builtin.BvShl (w ∷ x ∷ b ∷ []) = shifted shl w x b
applied builtin.BvShr (w ∷ x ∷ b ∷ []) = shifted shr w x b
applied builtin.BvArrayRead (es ∷ len ∷ i ∷ a ∷ []) = width es >>= λ es. array_length len >>= λ len. number i >>= λ i. array len a >>= λ a. Ok (word (element es (slice_get a (place_in len i))))
applied builtin.BvArrayWrite (es ∷ len ∷ i ∷ v ∷ a ∷ []) = width es >>= λ es. array_length len >>= λ len. number i >>= λ i. chopped es v >>= λ v. array len a >>= λ a. Ok (Numbers (written es a (place_in len i) v))
applied builtin.Sum values = sum_from (pos 0) values
applied builtin.Minus (x ∷ y ∷ []) = numbers x y >>= λ args. narrow (args.0 -ℤ args.1)
applied builtin.Minus (x ∷ []) = number x >>= λ x. narrow (neg_ℤ x)
applied builtin.Increment (x ∷ []) = number x >>= λ x. narrow (x +ℤ pos 1)
applied builtin.Decrement (x ∷ []) = number x >>= λ x. narrow (x -ℤ pos 1)
applied builtin.Less (x ∷ y ∷ []) = compared int_lt x y
applied builtin.LessOrEqual (x ∷ y ∷ []) = compared int_le x y
applied builtin.Greater (x ∷ y ∷ []) = compared (λ x y. int_lt y x) x y
applied builtin.GreaterOrEqual (x ∷ y ∷ []) = compared (λ x y. int_le y x) x y
applied builtin.Zp (x ∷ []) = number x >>= λ x. Ok (truth (int_le x (pos 0)))
applied builtin.SameNumber (x ∷ y ∷ []) = compared int_eq x y
applied builtin.Equal (a ∷ b ∷ []) = Ok (truth (same a b))
applied builtin.Not (a ∷ []) = Ok (truth (is_nil a))
applied builtin.List values = numbers_after [] values >>= λ zs. Ok (Numbers zs)
applied builtin.Cons (x ∷ a ∷ []) = number x >>= λ x. list a >>= λ a. Ok (Numbers (x ∷ a))
applied builtin.Append values = joined_after [] values >>= λ zs. Ok (Numbers zs)
applied builtin.Cdr (a ∷ []) = list a >>= λ a. Ok (Numbers (drop 1 a))
applied builtin.Car (a ∷ []) = list a >>= λ a. item a (pos 0)
applied builtin.Nth (i ∷ a ∷ []) = number i >>= λ i. list a >>= λ a. item a i
applied builtin.UpdateNth (i ∷ v ∷ a ∷ []) = number i >>= λ i. number v >>= λ v. list a >>= λ a. below (length a) i >>= λ i. Ok (Numbers (slice_set a i v))
applied builtin.Len (a ∷ []) = list a >>= λ a. Ok (Number (pos (length a)))
applied builtin.Endp (a ∷ []) = list a >>= λ a. Ok (truth (is_nil (Numbers a)))
applied builtin.Consp (a ∷ []) = Ok (truth (is_pair a))
applied b values = Err NotANumber

-- the functions of any number of arguments
abbrev pub takes_any : Builtin → Bool
takes_any builtin.Sum = true
takes_any builtin.List = true
takes_any builtin.Append = true
takes_any b = false
