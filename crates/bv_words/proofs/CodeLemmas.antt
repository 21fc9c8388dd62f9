use Rattle.std.proofs.Common.{◌≡◌, ℕ, suc, ◌+◌, ◌-◌, ◌*◌, ◌/◌, ◌%◌, ◌^◌, ◌<◌, ◌≤◌, refl, sym, ◌∙◌, ap, subst, arith, rules, zero, ◌≢◌, true, false}
use Rattle.std.specs.Prelude.{bit_and, bit_or, nat_lt, pos, negsuc, ◌-ℤ◌, unsigned_abs}
use Rattle.std.specs.Int.{int_rem_euclid}
use Rattle.std.proofs.lemmas.Int.{int_rem_euclid_is}
use Rattle.std.proofs.lemmas.Int.{ints}
use Rattle.std.proofs.lemmas.Bool.Decides.{nat_tests}
use Rattle.std.proofs.Math.Nat.{pow-le-pow_right}
use Rattle.std.proofs.lemmas.Nat.{pow_pos, or_shifted, shl_whole, and_mask, pow-add, mod-pow-add, shl-shr, shr_below}
use Rattle.std.proofs.lemmas.Nat.Bits.{ones_shr}
use Rattle.std.proofs.Math.Pow.{mod-mod-pow}
use Rattle.std.proofs.Math.Nat.{mod-eq_of_lt, mod_self, mul-one, div-eq_of_lt, mul-mod_left, mul-add-mod_self_right}
use Rattle.bv_words.specs.Words.{chop, chop_wide, signed, cat, sx, neg, plus, minus, times, slt, shl, shr, rotate_left}

-- a mask of 64 bits comes before one of w
pub mod_down : (w n : ℕ) → w ≤ 64 → n % 2 ^ 64 % 2 ^ w ≡ n % 2 ^ w
mod_down w n h = let e : 64 - w + w ≡ 64 = omega arith in subst (λ (k : ℕ). n % 2 ^ k % 2 ^ w ≡ n % 2 ^ w) e (mod-mod-pow n (64 - w) w)

pub mask_is : (w : ℕ) → 1 ≤ w → w ≤ 64 → (2 ^ 64 - 1) / 2 ^ (64 - w) ≡ 2 ^ w - 1
mask_is w h k = let e : 64 - (64 - w) ≡ w = omega arith in let p : 64 - w ≤ 64 = omega arith in ones_shr 64 (64 - w) p ∙ ap (λ (j : ℕ). 2 ^ j - 1) e

pub chop_is : (w x : ℕ) → bit_and x (2 ^ w - 1) ≡ chop w x
unfolding chop
chop_is w x = and_mask x w

pub cat_is : (hw h lw l : ℕ) → hw + lw ≤ 64 → h < 2 ^ hw → l < 2 ^ lw → bit_or (h * 2 ^ lw % 2 ^ 64) l ≡ cat hw h lw l
unfolding cat
cat_is hw h lw l s p q = rw (shl_whole h hw lw 64 p s) (or_shifted h lw l q)

pub plus_is : (w x y : ℕ) → w ≤ 64 → chop w ((x + y) % 2 ^ 64) ≡ plus w x y
unfolding plus chop
plus_is w x y h = mod_down w (x + y) h

pub times_is : (w x y : ℕ) → w ≤ 64 → chop w ((x * y) % 2 ^ 64) ≡ times w x y
unfolding times chop
times_is w x y h = mod_down w (x * y) h

pub shl_in : (w x a : ℕ) → w ≤ 64 → a < w → chop w (x * 2 ^ a % 2 ^ 64) ≡ shl w x a
unfolding shl chop
shl_in w x a h k = let t : nat_lt a w ≡ true = search rules in rw t (mod_down w (x * 2 ^ a) h)

pub shl_out : (w x a : ℕ) → w ≤ a → 0 ≡ shl w x a
unfolding shl
shl_out w x a k = let t : nat_lt a w ≡ false = search rules in rw t refl

pub shr_in : (w x a : ℕ) → a < w → x / 2 ^ a ≡ shr w x a
unfolding shr
shr_in w x a k = let t : nat_lt a w ≡ true = search rules in rw t refl

pub shr_out : (w x a : ℕ) → w ≤ a → 0 ≡ shr w x a
unfolding shr
shr_out w x a k = let t : nat_lt a w ≡ false = search rules in rw t refl

pub less : (n m : ℕ) → n < m → pos n -ℤ pos m ≡ negsuc (m - suc n)
less n m h = omega (arith, ints)

pub twice : (w : ℕ) → 1 ≤ w → 2 ^ w ≡ 2 * 2 ^ (w - 1)
twice w h = let e : 1 + (w - 1) ≡ w = omega arith in subst (λ (k : ℕ). 2 ^ k ≡ 2 * 2 ^ (w - 1)) e (pow-add 2 1 (w - 1))

pub signed_low : (w x : ℕ) → x < 2 ^ (w - 1) → signed w x ≡ pos x
unfolding signed
signed_low w x h = let t : nat_lt x (2 ^ (w - 1)) ≡ true = search rules in rw t refl

pub signed_high : (w x : ℕ) → 2 ^ (w - 1) ≤ x → x < 2 ^ w → signed w x ≡ negsuc (2 ^ w - suc x)
unfolding signed
signed_high w x h p = let t : nat_lt x (2 ^ (w - 1)) ≡ false = search rules in rw t (less x (2 ^ w) p)

pub chop_same : (w x : ℕ) → x < 2 ^ w → chop w x ≡ x
unfolding chop
chop_same w x h = mod-eq_of_lt h

pub chop_pos : (w x : ℕ) → chop_wide w (pos x) ≡ chop w x
unfolding chop_wide chop
chop_pos w x = refl

pub chop_negsuc : (w x : ℕ) → x < 2 ^ w → chop_wide w (negsuc x) ≡ 2 ^ w - suc x
unfolding chop_wide
chop_negsuc w x h = let e : x % 2 ^ w ≡ x = mod-eq_of_lt h in rw e (omega arith)

pub neg_zero : (w : ℕ) → neg w 0 ≡ 0
unfolding neg chop_wide
neg_zero w = omega (arith, pow_pos w)

pub neg_suc : (w x : ℕ) → x < 2 ^ w → neg w (suc x) ≡ 2 ^ w - suc x
unfolding neg
neg_suc w x h = chop_negsuc w x h

pub neg_nat : (w x : ℕ) → x ≤ 2 ^ w → neg w x ≡ (2 ^ w - x) % 2 ^ w
neg_nat w zero h = let e : 2 ^ w - 0 ≡ 2 ^ w = omega arith in neg_zero w ∙ sym (rw e (mod_self (2 ^ w)))
neg_nat w (suc x) h = let p : x < 2 ^ w = omega arith in let q : 2 ^ w - suc x < 2 ^ w = omega arith in neg_suc w x p ∙ sym (mod-eq_of_lt q)

pub powers : (w : ℕ) → w ≤ 64 → 2 ^ w ≤ 2 ^ 64
powers w h = let two : 0 < 2 = omega arith in pow-le-pow_right two h

far : (q m x : ℕ) → 0 < q → x ≤ m → (q * m - x) % m ≡ (m - x) % m
far zero m x p h = absurd (omega arith)
far (suc k) m x p h = let e : suc k * m - x ≡ k * m + (m - x) = omega arith in rw e (mul-add-mod_self_right k m (m - x))

pub neg_is : (w x : ℕ) → w ≤ 64 → x < 2 ^ w → chop w ((0 + (2 ^ 64 - x)) % 2 ^ 64) ≡ neg w x
unfolding chop
neg_is w x h p =
    let le : x ≤ 2 ^ w = omega arith in
    let pos : 0 < 2 ^ (64 - w) = pow_pos (64 - w) in
    let e : 64 - w + w ≡ 64 = omega arith in
    let whole : 2 ^ 64 ≡ 2 ^ (64 - w) * 2 ^ w = subst (λ (j : ℕ). 2 ^ j ≡ 2 ^ (64 - w) * 2 ^ w) e (pow-add 2 (64 - w) w) in
    let z : 0 + (2 ^ 64 - x) ≡ 2 ^ 64 - x = omega arith in
    rw z (mod_down w (2 ^ 64 - x) h) ∙ ap (λ (n : ℕ). (n - x) % 2 ^ w) whole ∙ far (2 ^ (64 - w)) (2 ^ w) x pos le ∙ sym (neg_nat w x le)

far_sum : (q m x y : ℕ) → 0 < q → y < m → (x + (q * m - y)) % m ≡ (x + (m - y)) % m
far_sum zero m x y p h = absurd (omega arith)
far_sum (suc k) m x y p h = let e : x + (suc k * m - y) ≡ k * m + (x + (m - y)) = omega arith in rw e (mul-add-mod_self_right k m (x + (m - y)))

-- a difference of words, taken modulo 2 ^ w
pub less_word : (w x y : ℕ) → x < 2 ^ w → y < 2 ^ w → (x + (2 ^ w - y)) % 2 ^ w ≡ unsigned_abs (int_rem_euclid (pos x -ℤ pos y) (pos (2 ^ w)))
less_word w x y p q = ap unsigned_abs (sym (int_rem_euclid_is (pos x -ℤ pos y) (pos (2 ^ w)) (2 ^ w) 1 (x + (2 ^ w - y)) (pow_pos w) refl (omega (arith, ints, q))))

-- a difference modulo 2 ^ 64 and one modulo 2 ^ w are apart by a multiple of 2 ^ w
apart : (w x y : ℕ) → w ≤ 64 → x < 2 ^ w → y < 2 ^ w → (x + (2 ^ 64 - y)) % 2 ^ w ≡ (x + (2 ^ w - y)) % 2 ^ w
apart w x y h p q =
    let pos : 0 < 2 ^ (64 - w) = pow_pos (64 - w) in
    let e : 64 - w + w ≡ 64 = omega arith in
    let whole : 2 ^ 64 ≡ 2 ^ (64 - w) * 2 ^ w = subst (λ (j : ℕ). 2 ^ j ≡ 2 ^ (64 - w) * 2 ^ w) e (pow-add 2 (64 - w) w) in
    ap (λ (n : ℕ). (x + (n - y)) % 2 ^ w) whole ∙ far_sum (2 ^ (64 - w)) (2 ^ w) x y pos q

pub minus_is : (w x y : ℕ) → w ≤ 64 → x < 2 ^ w → y < 2 ^ w → chop w ((x + (2 ^ 64 - y)) % 2 ^ 64) ≡ minus w x y
unfolding chop minus chop_wide
minus_is w x y h p q = mod_down w (x + (2 ^ 64 - y)) h ∙ apart w x y h p q ∙ less_word w x y p q

pub ones_rise : (new old : ℕ) → old ≤ new → 2 ^ old - 1 ≤ 2 ^ new - 1
ones_rise new old h = let two : 0 < 2 = omega arith in let p : 2 ^ old ≤ 2 ^ new = pow-le-pow_right two h in omega arith

pub sx_low : (new old x : ℕ) → 1 ≤ old → old ≤ new → x < 2 ^ (old - 1) → x ≡ sx new old x
unfolding sx
sx_low new old x h k p =
    let two : 0 < 2 = omega arith in
    let le : old - 1 ≤ new = omega arith in
    let q : 2 ^ (old - 1) ≤ 2 ^ new = pow-le-pow_right two le in
    let r : x < 2 ^ new = omega arith in
    rw (signed_low old x p) (sym (chop_pos new x ∙ chop_same new x r))

pub top_fits : (new old x : ℕ) → old ≤ new → new ≤ 64 → x < 2 ^ old → x + ((2 ^ new - 1) - (2 ^ old - 1)) < 2 ^ 64
top_fits new old x h k p =
    let two : 0 < 2 = omega arith in
    let q : 2 ^ old ≤ 2 ^ new = pow-le-pow_right two h in
    let r : 2 ^ new ≤ 2 ^ 64 = pow-le-pow_right two k in
    omega arith

pub sx_high : (new old x : ℕ) → 1 ≤ old → old ≤ new → x < 2 ^ old → 2 ^ (old - 1) ≤ x → x + ((2 ^ new - 1) - (2 ^ old - 1)) ≡ sx new old x
unfolding sx
sx_high new old x h k p q =
    let two : 0 < 2 = omega arith in
    let r : 2 ^ old ≤ 2 ^ new = pow-le-pow_right two k in
    let s : 2 ^ old - suc x < 2 ^ new = omega arith in
    rw (signed_high old x q p) (rw (chop_negsuc new (2 ^ old - suc x) s) (omega arith))

pub slt_both : (w x y : ℕ) → 1 ≤ w → x < 2 ^ w → y < 2 ^ w → nat_lt x (2 ^ (w - 1)) ≡ nat_lt y (2 ^ (w - 1)) → nat_lt x y ≡ slt w x y
unfolding slt signed
slt_both w x y h p q e = grind (arith, nat_tests, ints, less)

pub slt_apart : (w x y : ℕ) → 1 ≤ w → x < 2 ^ w → y < 2 ^ w → nat_lt x (2 ^ (w - 1)) ≢ nat_lt y (2 ^ (w - 1)) → nat_lt y (2 ^ (w - 1)) ≡ slt w x y
unfolding slt signed
slt_apart w x y h p q e = grind (arith, nat_tests, ints, less)

pub rotate_zero : (w a x : ℕ) → a % w ≡ 0 → x < 2 ^ w → x ≡ rotate_left w a x
unfolding rotate_left chop
rotate_zero w a x e p =
    let s : (x * 2 ^ 0) % 2 ^ w ≡ x = rw mul-one (mod-eq_of_lt p) in
    let z : w - 0 ≡ w = omega arith in
    let d : x / 2 ^ w ≡ 0 = div-eq_of_lt p in
    rw e (sym (rw (s, z, d) (omega arith)))

pub shifted_mod : (x j k : ℕ) → (x * 2 ^ k) % 2 ^ (j + k) ≡ (x % 2 ^ j) * 2 ^ k
shifted_mod x j k = mod-pow-add (x * 2 ^ k) j k ∙ rw (shl-shr x k, mul-mod_left x (2 ^ k)) (omega arith)

-- what is turned out above comes in below
pub rotate_is : (w k a x : ℕ) → w ≤ 64 → k ≡ a % w → 0 < k → k < w → x < 2 ^ w → bit_or (chop w (x * 2 ^ k % 2 ^ 64)) (x / 2 ^ (w - k)) ≡ rotate_left w a x
unfolding rotate_left chop
rotate_is w k a x h e p q r =
    let whole : w - k + k ≡ w = omega arith in
    let high : (x * 2 ^ k) % 2 ^ w ≡ (x % 2 ^ (w - k)) * 2 ^ k = subst (λ (j : ℕ). (x * 2 ^ k) % 2 ^ j ≡ (x % 2 ^ (w - k)) * 2 ^ k) whole (shifted_mod x (w - k) k) in
    let low : x / 2 ^ (w - k) < 2 ^ k = (let t : w ≡ k + (w - k) = omega arith in shr_below x k (w - k) (subst (λ (j : ℕ). x < 2 ^ j) t r)) in
    rw (← e) (rw (mod_down w (x * 2 ^ k) h) (rw high (or_shifted (x % 2 ^ (w - k)) k _ low)))
