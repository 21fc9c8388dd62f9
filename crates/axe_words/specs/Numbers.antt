-- Numbers written in decimal, and lists of sizes.
use Rattle.std.specs.Prelude.{◌≡◌, ℕ, ◌+◌, ◌-◌, ◌*◌, ◌&&◌, ◌==◌, List, [], ◌∷◌, Option, Some, None, Result, Ok, Err, if◌then◌else◌, nat_le, option_and_then}
use Rattle.std.specs.Char.{is_ascii_digit}
use Rattle.std.specs.List.{slice_split}
use Rattle.axe_words.specs.declared.numbers.SizesFault.{SizesFault}
use Rattle.axe_words.specs.declared.numbers.SizesFault.TheVariants.{Bad, Memory}

-- the number of these digits after those of n
abbrev pub decimal_after : ℕ → List ℕ → Option ℕ
decimal_after n [] = Some n
decimal_after n (c ∷ cs) = if is_ascii_digit c then decimal_after (10 * n + (c - 48)) cs else None

-- the number of one or more ASCII digits
abbrev pub decimal : List ℕ → Option ℕ
decimal [] = None
decimal (c ∷ cs) = decimal_after 0 (c ∷ cs)

-- the number, where it is from the least to the greatest
abbrev pub in_range : ℕ → ℕ → ℕ → Option ℕ
in_range least greatest n = if nat_le least n && nat_le n greatest then Some n else None

-- the number of a text, where it is from the least to the greatest
abbrev pub number_in : ℕ → ℕ → List ℕ → Option ℕ
number_in least greatest text = option_and_then (in_range least greatest) (decimal text)

-- a size is a number up to 4,096 that with the sizes before it makes at most 16,384
abbrev pub size_in : ℕ → List ℕ → Option ℕ
size_in before text = option_and_then (λ n. if nat_le (before + n) 16384 then Some n else None) (number_in 0 4096 text)

-- a size, and then the others
abbrev pub with_size : ℕ → Result (List ℕ) ℕ → Result (List ℕ) ℕ
with_size n (Ok sizes) = Ok (n ∷ sizes)
with_size n (Err at) = Err at

abbrev pub sizes_on : ℕ → Option ℕ → (ℕ → Result (List ℕ) ℕ) → Result (List ℕ) ℕ
sizes_on at None rest = Err at
sizes_on at (Some n) rest = with_size n (rest n)

-- the sizes of these texts, or the place of the first bad one; the first text has the place `at`, and the sizes before it have this sum
abbrev pub sizes_from : ℕ → ℕ → List (List ℕ) → Result (List ℕ) ℕ
sizes_from at before [] = Ok []
sizes_from at before (text ∷ texts) = sizes_on at (size_in before text) (λ n. sizes_from (at + 1) (before + n) texts)

-- the sizes between the commas of a text, or the place of the first bad one, counted from 0
abbrev pub sizes_in : List ℕ → Result (List ℕ) ℕ
sizes_in text = sizes_from 0 0 (slice_split (λ b. b == 44) text)

-- why a list of sizes isn't had
abbrev pub IsSizesFault : List ℕ → SizesFault → Type 0
IsSizesFault text (Bad at) = sizes_in text ≡ Err at
IsSizesFault text Memory = Unit {0}
