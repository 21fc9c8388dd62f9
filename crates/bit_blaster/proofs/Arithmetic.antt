-- What the numbers are that ripples spell.
use Rattle.std.proofs.Common.{◌≡◌, ℕ, zero, suc, ◌+◌, ◌*◌, ◌/◌, ◌%◌, ◌<◌, ◌^◌, Bool, true, false, not, cond, ◌&&◌, List, [], ◌∷◌, ◌++◌, length, refl, sym, ◌∙◌, subst, arith, nat_eq, nat_lt, take, drop}
use Rattle.std.specs.Prelude.{bit_and, bit_or, bit_xor}
use Rattle.std.proofs.lemmas.Nat.{and_block, or_block, xor_block, pow_pos, mod-pow-add}
use Rattle.std.proofs.Math.Nat.{pow-suc, mod-eq_of_lt, div-eq_of_lt, add-mod_right, div-div-eq-div-mul}
use Rattle.std.proofs.lemmas.Bool.Decides.{nat_tests}
use Rattle.bit_blaster.specs.Gates.{differ, most, odd}
use Rattle.bit_blaster.specs.Ripples.{ripple, carried, cell_next}
use Rattle.bit_blaster.specs.declared.cells.Cell.{Cell}
use Rattle.bit_blaster.specs.declared.cells.Cell.TheVariants.{Both, Either, Differ, Choose, Sum, Less, Same}
use Rattle.bit_blaster.specs.Numbers.{bit, number}

pub bit_small : (b : Bool) → bit b < 2
bit_small true = omega arith
bit_small false = omega arith

pub double : (n : ℕ) → 2 ^ suc n ≡ 2 * 2 ^ n
double n = rw pow-suc (omega arith)

pub number_below : (bs : List Bool) → number bs < 2 ^ length bs
number_below [] = omega arith
number_below (b ∷ bs) = rw (double (length bs)) (omega (arith, bit_small b, number_below bs))

-- a power of two where the carry is on
abbrev pub weight : ℕ → Bool → ℕ
weight n b = cond b (2 ^ n) 0

weight-suc : (n : ℕ) (b : Bool) → weight (suc n) b ≡ 2 * weight n b
weight-suc n true = double n
weight-suc n false = refl

pub choose_number : (c : Bool) (xs ys : List Bool) → length xs ≡ length ys → number (ripple Choose c xs ys) ≡ cond c (number xs) (number ys)
unfolding ripple
choose_number true [] [] e = refl
choose_number false [] [] e = refl
choose_number c [] (y ∷ ys) e = absurd (omega arith)
choose_number c (x ∷ xs) [] e = absurd (omega arith)
choose_number true (x ∷ xs) (y ∷ ys) e = let h : length xs ≡ length ys = omega arith in omega (arith, choose_number true xs ys h)
choose_number false (x ∷ xs) (y ∷ ys) e = let h : length xs ≡ length ys = omega arith in omega (arith, choose_number false xs ys h)

sum_bit : (x y c : Bool) → bit (odd x y c) + 2 * bit (most x y c) ≡ bit x + bit y + bit c
sum_bit true true true = refl
sum_bit true true false = refl
sum_bit true false true = refl
sum_bit true false false = refl
sum_bit false true true = refl
sum_bit false true false = refl
sum_bit false false true = refl
sum_bit false false false = refl

pub sum_whole : (c : Bool) (xs ys : List Bool) → length xs ≡ length ys → number (ripple Sum c xs ys) + weight (length xs) (carried Sum c xs ys) ≡ number xs + number ys + bit c
unfolding ripple carried
sum_whole true [] [] e = refl
sum_whole false [] [] e = refl
sum_whole c [] (y ∷ ys) e = absurd (omega arith)
sum_whole c (x ∷ xs) [] e = absurd (omega arith)
sum_whole c (x ∷ xs) (y ∷ ys) e = let h : length xs ≡ length ys = omega arith in
    omega (arith, sum_bit x y c, sum_whole (most x y c) xs ys h, weight-suc (length xs) (carried Sum (most x y c) xs ys))

both_bits : (x y : Bool) → bit (x && y) ≡ bit_and (bit x) (bit y)
both_bits true true = refl
both_bits true false = refl
both_bits false true = refl
both_bits false false = refl

either_bits : (x y : Bool) → bit (not (not x && not y)) ≡ bit_or (bit x) (bit y)
either_bits true true = refl
either_bits true false = refl
either_bits false true = refl
either_bits false false = refl

differ_bits : (x y : Bool) → bit (differ x y) ≡ bit_xor (bit x) (bit y)
differ_bits true true = refl
differ_bits true false = refl
differ_bits false true = refl
differ_bits false false = refl

-- the form that the laws of blocks speak of
pub as_block : (b : Bool) (n : ℕ) → bit b + 2 * n ≡ n * 2 ^ 1 + bit b
as_block b n = omega arith

pub bit_below : (b : Bool) → bit b < 2 ^ 1
bit_below true = omega arith
bit_below false = omega arith

pub both_number : (c : Bool) (xs ys : List Bool) → length xs ≡ length ys → number (ripple Both c xs ys) ≡ bit_and (number xs) (number ys)
unfolding ripple
both_number c [] [] e = refl
both_number c [] (y ∷ ys) e = absurd (omega arith)
both_number c (x ∷ xs) [] e = absurd (omega arith)
both_number c (x ∷ xs) (y ∷ ys) e = let h : length xs ≡ length ys = omega arith in
    rw (both_number c xs ys h, both_bits x y, as_block x (number xs), as_block y (number ys), and_block 1 (number xs) (number ys) (bit x) (bit y) (bit_below x) (bit_below y)) (omega arith)

pub either_number : (c : Bool) (xs ys : List Bool) → length xs ≡ length ys → number (ripple Either c xs ys) ≡ bit_or (number xs) (number ys)
unfolding ripple
either_number c [] [] e = refl
either_number c [] (y ∷ ys) e = absurd (omega arith)
either_number c (x ∷ xs) [] e = absurd (omega arith)
either_number c (x ∷ xs) (y ∷ ys) e = let h : length xs ≡ length ys = omega arith in
    rw (either_number c xs ys h, either_bits x y, as_block x (number xs), as_block y (number ys), or_block 1 (number xs) (number ys) (bit x) (bit y) (bit_below x) (bit_below y)) (omega arith)

pub differ_number : (c : Bool) (xs ys : List Bool) → length xs ≡ length ys → number (ripple Differ c xs ys) ≡ bit_xor (number xs) (number ys)
unfolding ripple
differ_number c [] [] e = refl
differ_number c [] (y ∷ ys) e = absurd (omega arith)
differ_number c (x ∷ xs) [] e = absurd (omega arith)
differ_number c (x ∷ xs) (y ∷ ys) e = let h : length xs ≡ length ys = omega arith in
    rw (differ_number c xs ys h, differ_bits x y, as_block x (number xs), as_block y (number ys), xor_block 1 (number xs) (number ys) (bit x) (bit y) (bit_below x) (bit_below y)) (omega arith)

less_step : (x y c : Bool) (a b : ℕ) → nat_lt a (b + bit (most (not x) y c)) ≡ nat_lt (bit x + 2 * a) (bit y + 2 * b + bit c)
less_step true true true a b = grind (arith, nat_tests)
less_step true true false a b = grind (arith, nat_tests)
less_step true false true a b = grind (arith, nat_tests)
less_step true false false a b = grind (arith, nat_tests)
less_step false true true a b = grind (arith, nat_tests)
less_step false true false a b = grind (arith, nat_tests)
less_step false false true a b = grind (arith, nat_tests)
less_step false false false a b = grind (arith, nat_tests)

pub less_number : (c : Bool) (xs ys : List Bool) → length xs ≡ length ys → carried Less c xs ys ≡ nat_lt (number xs) (number ys + bit c)
unfolding carried
less_number true [] [] e = refl
less_number false [] [] e = refl
less_number c [] (y ∷ ys) e = absurd (omega arith)
less_number c (x ∷ xs) [] e = absurd (omega arith)
less_number c (x ∷ xs) (y ∷ ys) e = let h : length xs ≡ length ys = omega arith in less_number (most (not x) y c) xs ys h ∙ less_step x y c (number xs) (number ys)

same_step : (x y c : Bool) (a b : ℕ) → ((c && not (differ x y)) && nat_eq a b) ≡ (c && nat_eq (bit x + 2 * a) (bit y + 2 * b))
same_step x y false a b = refl
same_step true true true a b = grind (arith, nat_tests)
same_step true false true a b = grind (arith, nat_tests)
same_step false true true a b = grind (arith, nat_tests)
same_step false false true a b = grind (arith, nat_tests)

pub same_number : (c : Bool) (xs ys : List Bool) → length xs ≡ length ys → carried Same c xs ys ≡ (c && nat_eq (number xs) (number ys))
unfolding carried
same_number true [] [] e = refl
same_number false [] [] e = refl
same_number c [] (y ∷ ys) e = absurd (omega arith)
same_number c (x ∷ xs) [] e = absurd (omega arith)
same_number c (x ∷ xs) (y ∷ ys) e = let h : length xs ≡ length ys = omega arith in same_number (c && not (differ x y)) xs ys h ∙ same_step x y c (number xs) (number ys)

pub number-append : (xs ys : List Bool) → number (xs ++ ys) ≡ number xs + 2 ^ length xs * number ys
number-append [] ys = omega arith
number-append (x ∷ xs) ys = rw (number-append xs ys, double (length xs)) (omega arith)

flip_bit : (b : Bool) → bit (not b) + bit b ≡ 1
flip_bit true = refl
flip_bit false = refl

-- all bits turned
abbrev pub flipped : List Bool → List Bool
flipped [] = []
flipped (b ∷ bs) = not b ∷ flipped bs

pub flipped_number : (bs : List Bool) → number (flipped bs) + number bs + 1 ≡ 2 ^ length bs
flipped_number [] = refl
flipped_number (b ∷ bs) = rw (double (length bs)) (omega (arith, flip_bit b, flipped_number bs))

pub length-ripple : (kind : Cell) (c : Bool) (xs ys : List Bool) → length xs ≡ length ys → length (ripple kind c xs ys) ≡ length xs
unfolding ripple
length-ripple kind c [] [] e = refl
length-ripple kind c [] (y ∷ ys) e = absurd (omega arith)
length-ripple kind c (x ∷ xs) [] e = absurd (omega arith)
length-ripple kind c (x ∷ xs) (y ∷ ys) e = let h : length xs ≡ length ys = omega arith in omega (arith, length-ripple kind (cell_next kind c x y) xs ys h)

with_weight : (r n s : ℕ) (b : Bool) → r < 2 ^ n → r + weight n b ≡ s → s % 2 ^ n ≡ r
with_weight r n s true h e = rw (← e) (add-mod_right r (2 ^ n) ∙ mod-eq_of_lt h)
with_weight r n s false h e = let f : r ≡ s = omega arith in rw (← f) (mod-eq_of_lt h)

pub sum_number : (c : Bool) (xs ys : List Bool) → length xs ≡ length ys → number (ripple Sum c xs ys) ≡ (number xs + number ys + bit c) % 2 ^ length xs
sum_number c xs ys e =
    let h : number (ripple Sum c xs ys) < 2 ^ length xs = subst (λ (n : ℕ). number (ripple Sum c xs ys) < 2 ^ n) (length-ripple Sum c xs ys e) (number_below (ripple Sum c xs ys)) in
    sym (with_weight _ (length xs) _ (carried Sum c xs ys) h (sum_whole c xs ys e))

halved : (b : Bool) (n : ℕ) → (bit b + 2 * n) / 2 ≡ n
halved true n = omega arith
halved false n = omega arith

odd_part : (b : Bool) (n : ℕ) → (bit b + 2 * n) % 2 ≡ bit b
odd_part true n = omega arith
odd_part false n = omega arith

pub take_number : (n : ℕ) (bs : List Bool) → number (take n bs) ≡ number bs % 2 ^ n
take_number zero bs = omega arith
take_number (suc n) [] = sym (mod-eq_of_lt (pow_pos (suc n)))
take_number (suc n) (b ∷ bs) = let e : n + 1 ≡ suc n = omega arith in
    rw (take_number n bs) (sym (subst (λ (k : ℕ). number (b ∷ bs) % 2 ^ k ≡ bit b + 2 * (number bs % 2 ^ n)) e (mod-pow-add (number (b ∷ bs)) n 1 ∙ rw (halved b (number bs), odd_part b (number bs)) (omega arith))))

pub drop_number : (n : ℕ) (bs : List Bool) → number (drop n bs) ≡ number bs / 2 ^ n
drop_number zero bs = omega arith
drop_number (suc n) [] = sym (div-eq_of_lt (pow_pos (suc n)))
drop_number (suc n) (b ∷ bs) = rw (double n, ← div-div-eq-div-mul (number (b ∷ bs)) 2 (2 ^ n), halved b (number bs)) (drop_number n bs)
