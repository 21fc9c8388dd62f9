-- Numbers that are capped while their digits are read.
use Rattle.std.proofs.Common.{◌≡◌, ℕ, ◌+◌, ◌-◌, ◌*◌, ◌^◌, ◌<◌, ◌≤◌, min, List, [], ◌∷◌, length, get_or, drop, Option, Some, None, option_map, refl, sym, ap, ◌∙◌, add-one, drop-cons, arith}
use Rattle.std.proofs.Math.ListN.{drop_of_length-le}
use Rattle.std.specs.Option.{option_and_then}
use Rattle.spec_reader.specs.Numbers.{digit_in, value_from}

abbrev pub greatest : ℕ
greatest = 2 ^ 128 - 1

abbrev pub capped : Option ℕ → Option ℕ
capped value = option_map (λ n. min n greatest) value

-- a cap on what was read before changes nothing of a capped number
min_step : (base n digit : ℕ) → 0 < base → min (min n greatest * base + digit) greatest ≡ min (n * base + digit) greatest
min_step base n digit positive = grind arith

cap_digit : (base n : ℕ) (ds : List ℕ) (digit : Option ℕ) → 0 < base → ((m : ℕ) → capped (value_from base (min m greatest) ds) ≡ capped (value_from base m ds))
    → capped (option_and_then (λ k. value_from base (min n greatest * base + k) ds) digit) ≡ capped (option_and_then (λ k. value_from base (n * base + k) ds) digit)
cap_digit base n ds None positive behind = refl
cap_digit base n ds (Some k) positive behind =
    sym (behind (min n greatest * base + k))
    ∙ ap (λ (m : ℕ). capped (value_from base m ds)) (min_step base n k positive)
    ∙ behind (n * base + k)

cap_before : (base : ℕ) (ds : List ℕ) → 0 < base → (n : ℕ) → capped (value_from base (min n greatest) ds) ≡ capped (value_from base n ds)
cap_before base [] positive n = grind arith
cap_before base (d ∷ ds) positive n = cap_digit base n ds (digit_in base d) positive (cap_before base ds positive)

one_digit : (base value digit : ℕ) (ds : List ℕ) → 0 < base → capped (value_from base (min (value * base + digit) greatest) ds) ≡ capped (value_from base (value * base + digit) ds)
one_digit base value digit ds positive = cap_before base ds positive (value * base + digit)

pub goes_on : (base value : ℕ) (digits : List ℕ) (i digit : ℕ) (all : Option ℕ) → 0 < base → i < length digits → digit_in base (get_or digits i 0) ≡ Some digit → capped (value_from base value (drop i digits)) ≡ all
    → capped (value_from base (min (value * base + digit) greatest) (drop (i + 1) digits)) ≡ all
goes_on base value digits i digit all positive lt is so_far =
    let split : drop i digits ≡ get_or digits i 0 ∷ drop (i + 1) digits = rw (add-one, drop-cons digits i 0) refl in
    one_digit base value digit (drop (i + 1) digits) positive ∙ sym (rw (split, is) refl) ∙ so_far

pub ends : (base value : ℕ) (digits : List ℕ) (i : ℕ) (all : Option ℕ) → value ≤ greatest → length digits ≤ i → capped (value_from base value (drop i digits)) ≡ all → Some value ≡ all
ends base value digits i all within le so_far =
    let none_left : drop i digits ≡ [] = drop_of_length-le digits le in
    let small : min value greatest ≡ value = omega arith in
    sym (ap (λ (n : ℕ). Some n) small) ∙ sym (ap (λ (ds : List ℕ). capped (value_from base value ds)) none_left) ∙ so_far
