-- Numbers as a text spells them.
use Rattle.std.specs.Prelude.{ℕ, ◌+◌, ◌-◌, ◌*◌, ◌^◌, ℤ, pos, neg_ℤ, Bool, false, ◌&&◌, ◌||◌, ◌==◌, nat_lt, nat_le, if◌then◌else◌, List, [], ◌∷◌, Option, Some, None}
use Rattle.std.specs.Option.{option_and_then}
use Rattle.std.specs.Char.{is_ascii_digit, to_ascii_lowercase}

-- a letter without its case
abbrev pub lower : ℕ → ℕ
lower = to_ascii_lowercase

abbrev pub is_plus : ℕ → Bool
is_plus b = b == 43

abbrev pub is_minus : ℕ → Bool
is_minus b = b == 45

abbrev pub is_hash : ℕ → Bool
is_hash b = b == 35

-- `#x`, `#b` and `#o` begin numbers of these bases
abbrev pub base_of : ℕ → Option ℕ
base_of letter =
    if lower letter == 120 then Some 16
    else if lower letter == 98 then Some 2
    else if lower letter == 111 then Some 8
    else None

-- digits, and the letters from a to f in either case
abbrev pub digit_value : ℕ → Option ℕ
digit_value b =
    if is_ascii_digit b then Some (b - 48)
    else if nat_le 97 (lower b) && nat_le (lower b) 102 then Some (lower b - 87)
    else None

abbrev pub below : ℕ → Option ℕ → Option ℕ
below base None = None
below base (Some digit) = if nat_lt digit base then Some digit else None

-- the value of a digit of this base
abbrev pub digit_in : ℕ → ℕ → Option ℕ
digit_in base b = below base (digit_value b)

-- the value of digits, behind those with the value so far
abbrev pub value_from : ℕ → ℕ → List ℕ → Option ℕ
value_from base n [] = Some n
value_from base n (d ∷ ds) = option_and_then (λ digit. value_from base (n * base + digit) ds) (digit_in base d)

-- the number of at least one digit
abbrev pub value_of : ℕ → List ℕ → Option ℕ
value_of base [] = None
value_of base (d ∷ ds) = value_from base 0 (d ∷ ds)

-- from -2^127 to 2^127 - 1
abbrev pub positive : Option ℕ → Option ℤ
positive None = None
positive (Some n) = if nat_lt n (2 ^ 127) then Some (pos n) else None

abbrev pub negative : Option ℕ → Option ℤ
negative None = None
negative (Some n) = if nat_le n (2 ^ 127) then Some (neg_ℤ (pos n)) else None

-- digits of a base with or without a sign
abbrev pub signed : ℕ → List ℕ → Option ℤ
signed base [] = None
signed base (c ∷ cs) =
    if is_plus c then positive (value_of base cs)
    else if is_minus c then negative (value_of base cs)
    else positive (value_of base (c ∷ cs))

-- the letter of a base, and then a number of that base
abbrev pub based : List ℕ → Option ℤ
based [] = None
based (c ∷ cs) = option_and_then (λ base. signed base cs) (base_of c)

-- the number that a word spells
abbrev pub number_of : List ℕ → Option ℤ
number_of [] = None
number_of (c ∷ cs) = if is_hash c then based cs else signed 10 (c ∷ cs)

abbrev pub begins_with_digit : List ℕ → Bool
begins_with_digit [] = false
begins_with_digit (c ∷ cs) = is_ascii_digit c

-- a word that begins with a digit, with a sign and a digit, or with `#`
abbrev pub begins_like_number : List ℕ → Bool
begins_like_number [] = false
begins_like_number (c ∷ cs) = is_ascii_digit c || is_hash c || ((is_plus c || is_minus c) && begins_with_digit cs)
