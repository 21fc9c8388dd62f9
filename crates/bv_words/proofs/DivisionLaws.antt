-- Quotients and remainders: their bounds, and the signed ones by absolute values and signs.
use Rattle.std.proofs.Common.{◌≡◌, ◌≢◌, ℕ, zero, suc, ◌-◌, ◌*◌, ◌/◌, ◌%◌, ◌^◌, ◌<◌, ◌≤◌, Bool, true, false, not, cond, nat_lt, nat_eq, refl, sym, ◌∙◌, ap, arith, rules, inl, inr}
use Rattle.std.specs.Prelude.{ℤ, pos, negsuc, neg_ℤ, int_lt, int_div, int_rem, unsigned_abs, bit_xor}
use Rattle.std.proofs.lemmas.Bool.{cases_lt}
use Rattle.std.proofs.lemmas.Nat.{pow_pos}
use Rattle.std.proofs.Math.Nat.{mod-lt, mod-le, mod-eq_of_lt, div-le_self, div-zero, mod-zero}
use Rattle.bv_words.specs.Words.{chop_wide, signed, neg, slt, udiv, urem, magnitude, sdiv, srem, one_if}
use Rattle.bv_words.proofs.CodeLemmas.{signed_low, signed_high, chop_same, chop_pos, neg_nat, twice}

-- In whole numbers a quotient by 0 is 0 and a remainder by 0 what is divided, so that no law needs a case for it.
pub udiv_is : (x y : ℕ) → udiv x y ≡ x / y
unfolding udiv
udiv_is x zero = sym (div-zero x)
udiv_is x (suc y) = let t : nat_eq (suc y) 0 ≡ false = search rules in rw t refl

pub urem_is : (x y : ℕ) → urem x y ≡ x % y
unfolding urem
urem_is x zero = sym (mod-zero x)
urem_is x (suc y) = let t : nat_eq (suc y) 0 ≡ false = search rules in rw t refl

pub udiv_below : (w x y : ℕ) → x < 2 ^ w → udiv x y < 2 ^ w
udiv_below w x y h = rw (udiv_is x y) (omega (arith, div-le_self x y))

pub urem_below : (w x y : ℕ) → x < 2 ^ w → urem x y < 2 ^ w
urem_below w x y h = rw (urem_is x y) (omega (arith, mod-le x y))

pub quotient_below : (w x y : ℕ) → x < 2 ^ w → x / y < 2 ^ w
quotient_below w x y h = omega (arith, div-le_self x y)

pub remainder_below : (w x y : ℕ) → x < 2 ^ w → x % y < 2 ^ w
remainder_below w x y h = omega (arith, mod-le x y)

-- below 0, as a test of the signed number
below_zero : ℤ → Bool
below_zero (pos n) = false
below_zero (negsuc n) = true

less_zero : (z : ℤ) → int_lt z (pos 0) ≡ below_zero z
unfolding below_zero
less_zero (pos n) = let t : nat_lt n 0 ≡ false = search rules in t
less_zero (negsuc n) = refl

zero_is : (w : ℕ) → signed w 0 ≡ pos 0
zero_is w = signed_low w 0 (pow_pos (w - 1))

slt_zero_is : (w x : ℕ) → slt w x 0 ≡ below_zero (signed w x)
unfolding slt
slt_zero_is w x = ap (int_lt (signed w x)) (zero_is w) ∙ less_zero (signed w x)

-- a word is below 0 just from the half on
pub slt_zero_low : (w x : ℕ) → x < 2 ^ (w - 1) → slt w x 0 ≡ false
unfolding below_zero
slt_zero_low w x h = slt_zero_is w x ∙ ap below_zero (signed_low w x h)

pub slt_zero_high : (w x : ℕ) → 2 ^ (w - 1) ≤ x → x < 2 ^ w → slt w x 0 ≡ true
unfolding below_zero
slt_zero_high w x h p = slt_zero_is w x ∙ ap below_zero (signed_high w x h p)

magnitude_small : (w x : ℕ) → x < 2 ^ (w - 1) → magnitude w x ≡ x
unfolding magnitude
magnitude_small w x h = ap unsigned_abs (signed_low w x h)

magnitude_great : (w x : ℕ) → 2 ^ (w - 1) ≤ x → x < 2 ^ w → magnitude w x ≡ neg w x
unfolding magnitude
magnitude_great w x h p =
    let some : 0 < x = omega (arith, pow_pos (w - 1)) in
    let le : x ≤ 2 ^ w = omega arith in
    let fits : 2 ^ w - x < 2 ^ w = omega arith in
    let is : suc (2 ^ w - suc x) ≡ 2 ^ w - x = omega arith in
    ap unsigned_abs (signed_high w x h p) ∙ is ∙ sym (neg_nat w x le ∙ mod-eq_of_lt fits)

-- the absolute value of a word is the word, or minus the word
pub magnitude_is : (w x : ℕ) → x < 2 ^ w → magnitude w x ≡ cond (slt w x 0) (neg w x) x
magnitude_is w x h = elim (cases_lt x (2 ^ (w - 1))) [
  | inl lt ↦ rw (slt_zero_low w x lt) (magnitude_small w x lt)
  | inr ge ↦ rw (slt_zero_high w x ge h) (magnitude_great w x ge h)
]

pub magnitude_low : (w x : ℕ) → x < 2 ^ w → slt w x 0 ≡ false → x ≡ magnitude w x
magnitude_low w x h t = sym (magnitude_is w x h ∙ ap (λ (b : Bool). cond b (neg w x) x) t)

pub magnitude_high : (w x : ℕ) → x < 2 ^ w → slt w x 0 ≡ true → neg w x ≡ magnitude w x
magnitude_high w x h t = sym (magnitude_is w x h ∙ ap (λ (b : Bool). cond b (neg w x) x) t)

pub magnitude_below : (w x : ℕ) → x < 2 ^ w → magnitude w x < 2 ^ w
magnitude_below w x h = elim (cases_lt x (2 ^ (w - 1))) [
  | inl lt ↦ rw (magnitude_small w x lt) h
  | inr ge ↦
      let some : 0 < x = omega (arith, pow_pos (w - 1)) in
      let le : x ≤ 2 ^ w = omega arith in
      rw (magnitude_great w x ge h, neg_nat w x le) (mod-lt (2 ^ w - x) (pow_pos w))
]

-- the sign of a quotient: whether just one of two numbers is below 0
abbrev pub differ : Bool → Bool → Bool
differ true b = not b
differ false b = b

pub differ_bit : (a b : Bool) → one_if (differ a b) ≡ bit_xor (one_if a) (one_if b)
differ_bit true true = refl
differ_bit true false = refl
differ_bit false true = refl
differ_bit false false = refl

differ_same : (a b : Bool) → a ≡ b → differ a b ≡ false
differ_same true true e = refl
differ_same true false e = absurd cc
differ_same false true e = absurd cc
differ_same false false e = refl

differ_apart : (a b : Bool) → a ≢ b → differ a b ≡ true
differ_apart true true e = absurd (e refl)
differ_apart true false e = refl
differ_apart false true e = refl
differ_apart false false e = absurd (e refl)

divided : (z d : ℤ) → int_div z d ≡ cond (differ (below_zero z) (below_zero d)) (neg_ℤ (pos (unsigned_abs z / unsigned_abs d))) (pos (unsigned_abs z / unsigned_abs d))
unfolding below_zero
divided (pos a) (pos b) = refl
divided (pos a) (negsuc b) = refl
divided (negsuc a) (pos b) = refl
divided (negsuc a) (negsuc b) = refl

left_over : (z d : ℤ) → int_rem z d ≡ cond (below_zero z) (neg_ℤ (pos (unsigned_abs z % unsigned_abs d))) (pos (unsigned_abs z % unsigned_abs d))
unfolding below_zero
left_over (pos a) d = refl
left_over (negsuc a) d = refl

none_divided : (z : ℤ) → int_div z (pos 0) ≡ pos 0
none_divided (pos a) = ap pos (div-zero a)
none_divided (negsuc a) = ap (λ (n : ℕ). neg_ℤ (pos n)) (div-zero (suc a))

all_left : (z : ℤ) → int_rem z (pos 0) ≡ z
all_left (pos a) = ap pos (mod-zero a)
all_left (negsuc a) = ap (λ (n : ℕ). neg_ℤ (pos n)) (mod-zero (suc a))

quotient_of : (w y : ℕ) (z : ℤ) → cond (nat_eq y 0) (pos 0) (int_div z (signed w y)) ≡ int_div z (signed w y)
quotient_of w zero z = sym (ap (int_div z) (zero_is w) ∙ none_divided z)
quotient_of w (suc y) z = let t : nat_eq (suc y) 0 ≡ false = search rules in rw t refl

remainder_of : (w y : ℕ) (z : ℤ) → cond (nat_eq y 0) z (int_rem z (signed w y)) ≡ int_rem z (signed w y)
remainder_of w zero z = sym (ap (int_rem z) (zero_is w) ∙ all_left z)
remainder_of w (suc y) z = let t : nat_eq (suc y) 0 ≡ false = search rules in rw t refl

-- a number with a sign, in the width
with_sign : (w n : ℕ) (b : Bool) → n < 2 ^ w → chop_wide w (cond b (neg_ℤ (pos n)) (pos n)) ≡ cond b (neg w n) n
unfolding neg
with_sign w n true h = refl
with_sign w n false h = chop_pos w n ∙ chop_same w n h

-- the signed quotient by that of the absolute values: minus it where the signs differ
pub sdiv_is : (w x y : ℕ) → x < 2 ^ w → sdiv w x y ≡ cond (differ (slt w x 0) (slt w y 0)) (neg w (udiv (magnitude w x) (magnitude w y))) (udiv (magnitude w x) (magnitude w y))
unfolding sdiv magnitude
sdiv_is w x y h =
    let few : unsigned_abs (signed w x) / unsigned_abs (signed w y) < 2 ^ w = quotient_below w (unsigned_abs (signed w x)) (unsigned_abs (signed w y)) (magnitude_below w x h) in
    rw (slt_zero_is w x, slt_zero_is w y, udiv_is (unsigned_abs (signed w x)) (unsigned_abs (signed w y)))
    (ap (chop_wide w) (quotient_of w y (signed w x) ∙ divided (signed w x) (signed w y))
    ∙ with_sign w (unsigned_abs (signed w x) / unsigned_abs (signed w y)) (differ (below_zero (signed w x)) (below_zero (signed w y))) few)

pub sdiv_same : (w x y : ℕ) → x < 2 ^ w → slt w x 0 ≡ slt w y 0 → udiv (magnitude w x) (magnitude w y) ≡ sdiv w x y
sdiv_same w x y h e = sym (sdiv_is w x y h ∙ ap (λ (b : Bool). cond b (neg w (udiv (magnitude w x) (magnitude w y))) (udiv (magnitude w x) (magnitude w y))) (differ_same _ _ e))

pub sdiv_apart : (w x y : ℕ) → x < 2 ^ w → slt w x 0 ≢ slt w y 0 → neg w (udiv (magnitude w x) (magnitude w y)) ≡ sdiv w x y
sdiv_apart w x y h e = sym (sdiv_is w x y h ∙ ap (λ (b : Bool). cond b (neg w (udiv (magnitude w x) (magnitude w y))) (udiv (magnitude w x) (magnitude w y))) (differ_apart _ _ e))

-- the signed remainder by that of the absolute values: minus it where what is divided is below 0
pub srem_is : (w x y : ℕ) → x < 2 ^ w → srem w x y ≡ cond (slt w x 0) (neg w (urem (magnitude w x) (magnitude w y))) (urem (magnitude w x) (magnitude w y))
unfolding srem magnitude
srem_is w x y h =
    let few : unsigned_abs (signed w x) % unsigned_abs (signed w y) < 2 ^ w = remainder_below w (unsigned_abs (signed w x)) (unsigned_abs (signed w y)) (magnitude_below w x h) in
    rw (slt_zero_is w x, urem_is (unsigned_abs (signed w x)) (unsigned_abs (signed w y)))
    (ap (chop_wide w) (remainder_of w y (signed w x) ∙ left_over (signed w x) (signed w y))
    ∙ with_sign w (unsigned_abs (signed w x) % unsigned_abs (signed w y)) (below_zero (signed w x)) few)

pub srem_low : (w x y : ℕ) → x < 2 ^ w → slt w x 0 ≡ false → urem (magnitude w x) (magnitude w y) ≡ srem w x y
srem_low w x y h e = sym (srem_is w x y h ∙ ap (λ (b : Bool). cond b (neg w (urem (magnitude w x) (magnitude w y))) (urem (magnitude w x) (magnitude w y))) e)

pub srem_high : (w x y : ℕ) → x < 2 ^ w → slt w x 0 ≡ true → neg w (urem (magnitude w x) (magnitude w y)) ≡ srem w x y
srem_high w x y h e = sym (srem_is w x y h ∙ ap (λ (b : Bool). cond b (neg w (urem (magnitude w x) (magnitude w y))) (urem (magnitude w x) (magnitude w y))) e)

least : (w : ℕ) → 1 ≤ w → signed w (2 ^ (w - 1)) ≡ negsuc (2 ^ (w - 1) - 1)
least w h =
    let whole : 2 ^ w ≡ 2 * 2 ^ (w - 1) = twice w h in
    let some : 0 < 2 ^ (w - 1) = pow_pos (w - 1) in
    let same : 2 ^ (w - 1) ≤ 2 ^ (w - 1) = omega arith in
    let below : 2 ^ (w - 1) < 2 ^ w = omega arith in
    let rest : 2 ^ w - suc (2 ^ (w - 1)) ≡ 2 ^ (w - 1) - 1 = omega arith in
    signed_high w (2 ^ (w - 1)) same below ∙ ap negsuc rest

minus_one : (w : ℕ) → 1 ≤ w → signed w (2 ^ w - 1) ≡ negsuc 0
minus_one w h =
    let whole : 2 ^ w ≡ 2 * 2 ^ (w - 1) = twice w h in
    let some : 0 < 2 ^ (w - 1) = pow_pos (w - 1) in
    let above : 2 ^ (w - 1) ≤ 2 ^ w - 1 = omega arith in
    let below : 2 ^ w - 1 < 2 ^ w = omega arith in
    let rest : 2 ^ w - suc (2 ^ w - 1) ≡ 0 = omega arith in
    signed_high w (2 ^ w - 1) above below ∙ ap negsuc rest

-- the least number by minus one is the least number, and nothing is left
pub sdiv_least : (w : ℕ) → 1 ≤ w → sdiv w (2 ^ (w - 1)) (2 ^ w - 1) ≡ 2 ^ (w - 1)
unfolding sdiv
sdiv_least w h =
    let whole : 2 ^ w ≡ 2 * 2 ^ (w - 1) = twice w h in
    let some : 0 < 2 ^ (w - 1) = pow_pos (w - 1) in
    let below : 2 ^ (w - 1) < 2 ^ w = omega arith in
    let one : suc (2 ^ (w - 1) - 1) / 1 ≡ 2 ^ (w - 1) = omega arith in
    ap (chop_wide w) (quotient_of w (2 ^ w - 1) (signed w (2 ^ (w - 1))) ∙ ap (λ (z : ℤ). int_div z (signed w (2 ^ w - 1))) (least w h) ∙ ap (int_div (negsuc (2 ^ (w - 1) - 1))) (minus_one w h) ∙ ap pos one)
    ∙ chop_pos w (2 ^ (w - 1)) ∙ chop_same w (2 ^ (w - 1)) below

pub srem_least : (w : ℕ) → 1 ≤ w → srem w (2 ^ (w - 1)) (2 ^ w - 1) ≡ 0
unfolding srem
srem_least w h =
    let none : suc (2 ^ (w - 1) - 1) % 1 ≡ 0 = omega arith in
    ap (chop_wide w) (remainder_of w (2 ^ w - 1) (signed w (2 ^ (w - 1))) ∙ ap (λ (z : ℤ). int_rem z (signed w (2 ^ w - 1))) (least w h) ∙ ap (int_rem (negsuc (2 ^ (w - 1) - 1))) (minus_one w h) ∙ ap (λ (n : ℕ). neg_ℤ (pos n)) none)
    ∙ chop_pos w 0 ∙ chop_same w 0 (pow_pos w)
