-- Equations of words that rules rest on.
use Rattle.std.proofs.Common.{◌≡◌, ℕ, ◌+◌, ◌-◌, ◌*◌, ◌<◌, ◌≤◌, ◌^◌, Bool, true, false, refl, sym, ◌∙◌, ap, subst, arith, rules, ◌/◌, ◌%◌, suc, zero}
use Rattle.std.specs.Prelude.{bit_and, bit_or, nat_lt, nat_eq, cond, int_lt, ℤ, pos, negsuc, bit_xor}
use Rattle.std.proofs.lemmas.Nat.{pow_pos, and_mask, le_or_r, or_lt}
use Rattle.std.proofs.Math.Nat.{mod-eq_of_lt, div-one, div-eq_of_lt, mod-add-mod, add-mod-mod, add-mod_right, mod-mod, mod_self, add_assoc, mul_assoc, mul_comm}
use Rattle.std.proofs.lemmas.Nat.{mul-mod}
use Rattle.std.proofs.lemmas.Bool.Decides.{nat_tests}
use Rattle.bv_words.proofs.Bounds.{joined_below}
use Rattle.bv_words.specs.Words.{neg, bit_not, cat, slice, sx, chop, plus, times, shl, shr, slt, signed, one_if}
use Rattle.bv_words.proofs.CodeLemmas.{chop_same, shl_out, shr_out, neg_zero, neg_suc, neg_nat, sx_low, sx_high}
use Rattle.std.specs.Int.Bits.{xor_zero_l, xor_assoc, xor_self as xor_self_bits, or_add_and, xor_add_and}
use Rattle.std.proofs.lemmas.Nat.{xor_comm, xor_lt, and_le_l}
use Rattle.std.proofs.lemmas.Bool.{cases_lt}
use Rattle.std.proofs.Common.{inl, inr}

pub plus_zero : (w x : ℕ) → x < 2 ^ w → plus w x 0 ≡ x
unfolding plus
plus_zero w x h = let e : x + 0 ≡ x = omega arith in rw e (chop_same w x h)

pub plus_comm : (w x y : ℕ) → plus w x y ≡ plus w y x
unfolding plus
plus_comm w x y = ap (chop w) (omega arith)

pub times_comm : (w x y : ℕ) → times w x y ≡ times w y x
unfolding times
times_comm w x y = ap (chop w) (omega arith)

pub times_one : (w x : ℕ) → x < 2 ^ w → times w x 1 ≡ x
unfolding times
times_one w x h = let e : x * 1 ≡ x = omega arith in rw e (chop_same w x h)

pub times_zero : (w x : ℕ) → times w x 0 ≡ 0
unfolding times chop
times_zero w x = let e : x * 0 ≡ 0 = omega arith in rw e (omega arith)

pub and_ones : (w x : ℕ) → x < 2 ^ w → bit_and x (2 ^ w - 1) ≡ x
and_ones w x h = and_mask x w ∙ mod-eq_of_lt h

pub or_ones : (w x : ℕ) → x < 2 ^ w → bit_or x (2 ^ w - 1) ≡ 2 ^ w - 1
or_ones w x h =
    let top : 2 ^ w - 1 < 2 ^ w = omega (arith, pow_pos w) in
    let low : 2 ^ w - 1 ≤ bit_or x (2 ^ w - 1) = le_or_r x (2 ^ w - 1) in
    let high : bit_or x (2 ^ w - 1) < 2 ^ w = or_lt w x (2 ^ w - 1) h top in
    omega arith

pub shl_zero : (w x : ℕ) → 1 ≤ w → x < 2 ^ w → shl w x 0 ≡ x
unfolding shl
shl_zero w x p h =
    let t : nat_lt 0 w ≡ true = grind (arith, nat_tests) in
    let e : x * 2 ^ 0 ≡ x = omega arith in
    rw (t, e) (chop_same w x h)

pub shr_zero : (w x : ℕ) → 1 ≤ w → x < 2 ^ w → shr w x 0 ≡ x
unfolding shr
shr_zero w x p h =
    let t : nat_lt 0 w ≡ true = grind (arith, nat_tests) in
    rw t (div-one x)

pub same_arms : (b : Bool) (n : ℕ) → cond b n n ≡ n
same_arms true n = refl
same_arms false n = refl

pub zero_shl : (w k : ℕ) → shl w 0 k ≡ 0
unfolding shl chop
zero_shl w k =
    let e : 0 * 2 ^ k ≡ 0 = omega arith in
    let z : 0 % 2 ^ w ≡ 0 = mod-eq_of_lt (pow_pos w) in
    rw (e, z) (same_arms (nat_lt k w) 0)

pub zero_shr : (w k : ℕ) → shr w 0 k ≡ 0
unfolding shr
zero_shr w k =
    let z : 0 / 2 ^ k ≡ 0 = div-eq_of_lt (pow_pos k) in
    rw z (same_arms (nat_lt k w) 0)

pub shl_past : (w x k : ℕ) → w ≤ k → shl w x k ≡ 0
shl_past w x k h = sym (shl_out w x k h)

pub shr_past : (w x k : ℕ) → w ≤ k → shr w x k ≡ 0
shr_past w x k h = sym (shr_out w x k h)

pub eq_self : (x : ℕ) → one_if (nat_eq x x) ≡ 1
eq_self x = let t : nat_eq x x ≡ true = search rules in rw t refl

pub ult_self : (x : ℕ) → one_if (nat_lt x x) ≡ 0
ult_self x = let t : nat_lt x x ≡ false = search rules in rw t refl

pub slt_self : (w x : ℕ) → one_if (slt w x x) ≡ 0
unfolding slt
slt_self w x = let t : int_lt (signed w x) (signed w x) ≡ false = never (signed w x) in rw t refl
  where
    never : (z : ℤ) → int_lt z z ≡ false
    never (pos n) = let t : nat_lt n n ≡ false = search rules in t
    never (negsuc n) = let t : nat_lt n n ≡ false = search rules in t

pub eq_comm : (x y : ℕ) → one_if (nat_eq x y) ≡ one_if (nat_eq y x)
eq_comm x y = let t : nat_eq x y ≡ nat_eq y x = grind (arith, nat_tests) in ap one_if t

pub not_one : (x : ℕ) → x < 2 → nat_eq (bit_not 1 x) 1 ≡ nat_eq x 0
unfolding bit_not
not_one zero h = refl
not_one (suc zero) h = refl
not_one (suc (suc x)) h = absurd (omega arith)

pub turned : (x u v : ℕ) → x < 2 → cond (nat_eq x 1) v u ≡ cond (nat_eq x 0) u v
turned zero u v h = refl
turned (suc zero) u v h = refl
turned (suc (suc x)) u v h = absurd (omega arith)

pub chosen_bit : (x : ℕ) → x < 2 → x ≡ cond (nat_eq x 1) 1 0
chosen_bit zero h = refl
chosen_bit (suc zero) h = refl
chosen_bit (suc (suc x)) h = absurd (omega arith)

pub ult_zero : (x : ℕ) → one_if (nat_lt x 0) ≡ 0
ult_zero x = let t : nat_lt x 0 ≡ false = search rules in rw t refl

pub bit_is_one : (x : ℕ) → x < 2 → one_if (nat_eq x 1) ≡ x
bit_is_one zero h = refl
bit_is_one (suc zero) h = refl
bit_is_one (suc (suc x)) h = absurd (omega arith)

pub not_not : (w x : ℕ) → x < 2 ^ w → bit_not w (bit_not w x) ≡ x
unfolding bit_not
not_not w x h = xor_assoc x (2 ^ w - 1) (2 ^ w - 1) ∙ ap (bit_xor x) (xor_self_bits (2 ^ w - 1)) ∙ xor_comm x 0 ∙ xor_zero_l x

pub neg_neg : (w x : ℕ) → x < 2 ^ w → neg w (neg w x) ≡ x
neg_neg w zero h = ap (neg w) (neg_zero w) ∙ neg_zero w
neg_neg w (suc x) h =
    let p : x < 2 ^ w = omega arith in
    let y : 2 ^ w - suc x ≡ suc (2 ^ w - suc (suc x)) = omega arith in
    let q : 2 ^ w - suc (suc x) < 2 ^ w = omega (arith, pow_pos w) in
    ap (neg w) (neg_suc w x p ∙ y) ∙ neg_suc w (2 ^ w - suc (suc x)) q ∙ omega arith

pub xor_ones : (w x : ℕ) → bit_not w x ≡ bit_xor x (2 ^ w - 1)
unfolding bit_not
xor_ones w x = refl

pub slice_whole : (h x : ℕ) → x < 2 ^ (h + 1) → slice h 0 x ≡ x
unfolding slice chop
slice_whole h x p =
    let e : h - 0 + 1 ≡ h + 1 = omega arith in
    rw (e, div-one x) (mod-eq_of_lt p)

pub sx_same : (w x : ℕ) → 1 ≤ w → x < 2 ^ w → sx w w x ≡ x
sx_same w x p h =
    let le : w ≤ w = omega arith in
    elim (cases_lt x (2 ^ (w - 1))) [
      | inl lt ↦ sym (sx_low w w x p le lt)
      | inr ge ↦ sym (sx_high w w x p le h ge) ∙ omega arith
    ]

pub plus_assoc : (w x y z : ℕ) → plus w (plus w x y) z ≡ plus w x (plus w y z)
unfolding plus chop
plus_assoc w x y z = mod-add-mod (x + y) (2 ^ w) z ∙ ap (λ (n : ℕ). n % 2 ^ w) (add_assoc x y z) ∙ sym (add-mod-mod x (y + z) (2 ^ w))

-- a factor may be cut first
pub product_of_cut : (m x y : ℕ) → (x % m * y) % m ≡ (x * y) % m
product_of_cut m x y = mul-mod (x % m) y m ∙ ap (λ (n : ℕ). (n * (y % m)) % m) (mod-mod x m) ∙ sym (mul-mod x y m)

pub times_assoc : (w x y z : ℕ) → times w (times w x y) z ≡ times w x (times w y z)
unfolding times chop
times_assoc w x y z =
    product_of_cut (2 ^ w) (x * y) z
    ∙ ap (λ (n : ℕ). n % 2 ^ w) (mul_assoc x y z ∙ mul_comm x (y * z))
    ∙ sym (product_of_cut (2 ^ w) (y * z) x)
    ∙ ap (λ (n : ℕ). n % 2 ^ w) (mul_comm ((y * z) % 2 ^ w) x)

-- joints with zeros
pub zeros_below : (w h k : ℕ) → cat w h k 0 ≡ h * 2 ^ k
unfolding cat
zeros_below w h k = omega arith

pub zeros_above : (w k l : ℕ) → cat w 0 k l ≡ l
unfolding cat
zeros_above w k l = omega arith

pub joint : (w h k l : ℕ) → h * 2 ^ k + l ≡ cat w h k l
unfolding cat
joint w h k l = refl

-- the sum of the two parts of a word is that word
pub plus_joint : (w u h k l : ℕ) → u + k ≡ w → h < 2 ^ u → l < 2 ^ k → plus w (h * 2 ^ k) l ≡ h * 2 ^ k + l
unfolding plus chop
plus_joint w u h k l e p q = mod-eq_of_lt (subst (λ (n : ℕ). h * 2 ^ k + l < 2 ^ n) e (joined_below u h k l p q))

pub xor_nest : (x y : ℕ) → bit_xor x (bit_xor x y) ≡ y
xor_nest x y = sym (xor_assoc x x y) ∙ ap (λ (n : ℕ). bit_xor n y) (xor_self_bits x) ∙ xor_zero_l y

pub xor_not : (w x : ℕ) → bit_xor x (bit_not w x) ≡ 2 ^ w - 1
unfolding bit_not
xor_not w x = xor_nest x (2 ^ w - 1)

pub plus_neg : (w x : ℕ) → x < 2 ^ w → plus w x (neg w x) ≡ 0
unfolding plus chop
plus_neg w x h =
    let le : x ≤ 2 ^ w = omega arith in
    let whole : x + (2 ^ w - x) ≡ 2 ^ w = omega arith in
    rw (neg_nat w x le) (add-mod-mod x (2 ^ w - x) (2 ^ w) ∙ ap (λ (n : ℕ). n % 2 ^ w) whole ∙ mod_self (2 ^ w))

-- the bits of either less those of both are the bits of one
pub union_less_common : (w x y : ℕ) → x < 2 ^ w → y < 2 ^ w → plus w (bit_or x y) (neg w (bit_and x y)) ≡ bit_xor x y
unfolding plus chop
union_less_common w x y p q =
    let common : bit_and x y < 2 ^ w = omega (arith, and_le_l x y) in
    let le : bit_and x y ≤ 2 ^ w = omega arith in
    let one : bit_xor x y < 2 ^ w = xor_lt w x y p q in
    let whole : bit_or x y + (2 ^ w - bit_and x y) ≡ bit_xor x y + 2 ^ w = omega (arith, or_add_and x y, xor_add_and x y) in
    rw (neg_nat w (bit_and x y) le) (add-mod-mod (bit_or x y) (2 ^ w - bit_and x y) (2 ^ w) ∙ ap (λ (n : ℕ). n % 2 ^ w) whole ∙ add-mod_right (bit_xor x y) (2 ^ w) ∙ mod-eq_of_lt one)

pub bit_is_zero : (x : ℕ) → x < 2 → one_if (nat_eq x 0) ≡ bit_not 1 x
unfolding bit_not
bit_is_zero zero h = refl
bit_is_zero (suc zero) h = refl
bit_is_zero (suc (suc x)) h = absurd (omega arith)

pub eq_past : (k x c : ℕ) → x < 2 ^ k → 2 ^ k - 1 < c → one_if (nat_eq x c) ≡ 0
eq_past k x c p q = let t : nat_eq x c ≡ false = grind (arith, nat_tests) in rw t refl

pub ult_one : (x : ℕ) → one_if (nat_lt x 1) ≡ one_if (nat_eq x 0)
ult_one x = let t : nat_lt x 1 ≡ nat_eq x 0 = grind (arith, nat_tests) in ap one_if t

pub eq_choice_then : (x u v c : ℕ) → x < 2 → c ≡ u → (c ≡ v → ⊥) → one_if (nat_eq (cond (nat_eq x 1) u v) c) ≡ x
eq_choice_then zero u v c h p q = let t : nat_eq v c ≡ false = grind (arith, nat_tests) in rw t refl
eq_choice_then (suc zero) u v c h p q = let t : nat_eq u c ≡ true = grind (arith, nat_tests) in rw t refl
eq_choice_then (suc (suc x)) u v c h p q = absurd (omega arith)

pub eq_choice_else : (x u v c : ℕ) → x < 2 → c ≡ v → (c ≡ u → ⊥) → one_if (nat_eq (cond (nat_eq x 1) u v) c) ≡ bit_not 1 x
unfolding bit_not
eq_choice_else zero u v c h p q = let t : nat_eq v c ≡ true = grind (arith, nat_tests) in rw t refl
eq_choice_else (suc zero) u v c h p q = let t : nat_eq u c ≡ false = grind (arith, nat_tests) in rw t refl
eq_choice_else (suc (suc x)) u v c h p q = absurd (omega arith)

pub bit_turned : (x : ℕ) → x < 2 → cond (nat_eq x 1) 0 1 ≡ bit_not 1 x
unfolding bit_not
bit_turned zero h = refl
bit_turned (suc zero) h = refl
bit_turned (suc (suc x)) h = absurd (omega arith)

pub both_bits : (x y : ℕ) → x < 2 → y < 2 → cond (nat_eq x 1) y 0 ≡ bit_and x y
both_bits zero y h k = refl
both_bits (suc zero) zero h k = refl
both_bits (suc zero) (suc zero) h k = refl
both_bits (suc zero) (suc (suc y)) h k = absurd (omega arith)
both_bits (suc (suc x)) y h k = absurd (omega arith)

pub either_bit : (x y : ℕ) → x < 2 → y < 2 → cond (nat_eq x 1) 1 y ≡ bit_or x y
either_bit zero zero h k = refl
either_bit zero (suc zero) h k = refl
either_bit zero (suc (suc y)) h k = absurd (omega arith)
either_bit (suc zero) zero h k = refl
either_bit (suc zero) (suc zero) h k = refl
either_bit (suc zero) (suc (suc y)) h k = absurd (omega arith)
either_bit (suc (suc x)) y h k = absurd (omega arith)

pub then_again : (b : Bool) (x y z : ℕ) → cond b (cond b x y) z ≡ cond b x z
then_again true x y z = refl
then_again false x y z = refl

pub else_again : (b : Bool) (x y z : ℕ) → cond b x (cond b y z) ≡ cond b x z
else_again true x y z = refl
else_again false x y z = refl
