use Rattle.std.proofs.Common.{◌≡◌, ℕ, zero, suc, ◌+◌, ◌-◌, ◌*◌, ◌/◌, ◌%◌, ◌^◌, ◌<◌, ◌≤◌, subst, arith, inl, inr, true, false}
use Rattle.std.specs.Prelude.{bit_and, bit_or, nat_lt, cond, ℤ, pos, negsuc}
use Rattle.std.proofs.lemmas.Bool.{cases_lt}
use Rattle.std.proofs.lemmas.Nat.{pow_pos, xor_lt, and_le_l, shr_le, shr_below as shifted_below, pow-add}
use Rattle.std.proofs.Math.Nat.{mod-lt, pow-le-pow_right, mul-le-mul_right}
use Rattle.bv_words.specs.Words.{chop, chop_wide, slice, cat, sx, neg, plus, times, bit_not, shl, shr, rotate_left}
use Rattle.bv_words.proofs.CodeLemmas.{neg_zero, neg_suc, sx_low, sx_high, cat_is, rotate_zero, rotate_is, shifted_mod}

-- Every word that a function gives is below 2 ^ its width.

pub chop_below : (w x : ℕ) → chop w x < 2 ^ w
unfolding chop
chop_below w x = mod-lt x (pow_pos w)

pub plus_below : (w x y : ℕ) → plus w x y < 2 ^ w
unfolding plus
plus_below w x y = chop_below w (x + y)

pub times_below : (w x y : ℕ) → times w x y < 2 ^ w
unfolding times
times_below w x y = chop_below w (x * y)

pub slice_below : (h l x : ℕ) → slice h l x < 2 ^ (h - l + 1)
unfolding slice
slice_below h l x = chop_below (h - l + 1) (x / 2 ^ l)

pub and_below : (w x y : ℕ) → x < 2 ^ w → bit_and x y < 2 ^ w
and_below w x y h = omega (arith, and_le_l x y)

pub not_below : (w x : ℕ) → x < 2 ^ w → bit_not w x < 2 ^ w
unfolding bit_not
not_below w x h = xor_lt w x (2 ^ w - 1) h (omega (arith, pow_pos w))

pub neg_below : (w x : ℕ) → x < 2 ^ w → neg w x < 2 ^ w
neg_below w zero h = rw (neg_zero w) (pow_pos w)
neg_below w (suc x) h = let p : x < 2 ^ w = omega arith in rw (neg_suc w x p) (omega arith)

pub joined_below : (hw h lw l : ℕ) → h < 2 ^ hw → l < 2 ^ lw → h * 2 ^ lw + l < 2 ^ (hw + lw)
joined_below hw h lw l p q = let r : suc h * 2 ^ lw ≤ 2 ^ hw * 2 ^ lw = mul-le-mul_right (2 ^ lw) p in rw (pow-add 2 hw lw) (omega (arith, r))

pub cat_below : (hw h lw l : ℕ) → h < 2 ^ hw → l < 2 ^ lw → cat hw h lw l < 2 ^ (hw + lw)
unfolding cat
cat_below hw h lw l p q = joined_below hw h lw l p q

pub sx_below : (new old x : ℕ) → 1 ≤ old → old ≤ new → x < 2 ^ old → sx new old x < 2 ^ new
sx_below new old x h k p =
    let two : 0 < 2 = omega arith in
    let r : 2 ^ old ≤ 2 ^ new = pow-le-pow_right two k in
    elim (cases_lt x (2 ^ (old - 1))) [
      | inl lt ↦ rw (← sx_low new old x h k lt) (omega arith)
      | inr ge ↦ rw (← sx_high new old x h k p ge) (omega arith)
    ]

pub shl_below : (w x a : ℕ) → shl w x a < 2 ^ w
unfolding shl
shl_below w x a = elim (nat_lt a w) as (λ b. cond b (chop w (x * 2 ^ a)) 0 < 2 ^ w) [ true ↦ chop_below w (x * 2 ^ a) | false ↦ pow_pos w ]

pub shr_below : (w x a : ℕ) → x < 2 ^ w → shr w x a < 2 ^ w
unfolding shr
shr_below w x a h = elim (nat_lt a w) as (λ b. cond b (x / 2 ^ a) 0 < 2 ^ w) [ true ↦ (omega (arith, shr_le x a)) | false ↦ pow_pos w ]

pub chop_wide_below : (w : ℕ) (z : ℤ) → chop_wide w z < 2 ^ w
unfolding chop_wide
chop_wide_below w (pos a) = mod-lt a (pow_pos w)
chop_wide_below w (negsuc a) = omega (arith, pow_pos w)

pub rotate_below : (w a x : ℕ) → 1 ≤ w → x < 2 ^ w → rotate_left w a x < 2 ^ w
unfolding rotate_left chop
rotate_below w a x h p =
    elim (cases_lt 0 (a % w)) [
      | inl lt ↦
          let k : a % w < w = mod-lt a h in
          let whole : w - a % w + a % w ≡ w = omega arith in
          let high : (x * 2 ^ (a % w)) % 2 ^ w ≡ (x % 2 ^ (w - a % w)) * 2 ^ (a % w) = subst (λ (j : ℕ). (x * 2 ^ (a % w)) % 2 ^ j ≡ (x % 2 ^ (w - a % w)) * 2 ^ (a % w)) whole (shifted_mod x (w - a % w) (a % w)) in
          let turned : w ≡ a % w + (w - a % w) = omega arith in
          let low : x / 2 ^ (w - a % w) < 2 ^ (a % w) = shifted_below x (a % w) (w - a % w) (subst (λ (j : ℕ). x < 2 ^ j) turned p) in
          let front : x % 2 ^ (w - a % w) < 2 ^ (w - a % w) = mod-lt x (pow_pos (w - a % w)) in
          rw high (subst (λ (j : ℕ). (x % 2 ^ (w - a % w)) * 2 ^ (a % w) + x / 2 ^ (w - a % w) < 2 ^ j) whole (joined_below (w - a % w) _ (a % w) _ front low))
      | inr ge ↦ let e : a % w ≡ 0 = omega arith in subst (λ (n : ℕ). n < 2 ^ w) (rotate_zero w a x e p) p
    ]

-- The same of what the code computes.

pub cat_word : (hw h lw l : ℕ) → hw + lw ≤ 64 → h < 2 ^ hw → l < 2 ^ lw → bit_or (h * 2 ^ lw % 2 ^ 64) l < 2 ^ (hw + lw)
cat_word hw h lw l s p q = rw (cat_is hw h lw l s p q) (cat_below hw h lw l p q)

pub sx_low_word : (new old x : ℕ) → old ≤ new → x < 2 ^ old → x < 2 ^ new
sx_low_word new old x h p = let two : 0 < 2 = omega arith in let r : 2 ^ old ≤ 2 ^ new = pow-le-pow_right two h in omega arith

pub sx_high_word : (new old x : ℕ) → old ≤ new → x < 2 ^ old → x + ((2 ^ new - 1) - (2 ^ old - 1)) < 2 ^ new
sx_high_word new old x h p = let two : 0 < 2 = omega arith in let r : 2 ^ old ≤ 2 ^ new = pow-le-pow_right two h in omega arith

pub rotate_word : (w k a x : ℕ) → w ≤ 64 → k ≡ a % w → 0 < k → k < w → x < 2 ^ w → bit_or (chop w (x * 2 ^ k % 2 ^ 64)) (x / 2 ^ (w - k)) < 2 ^ w
rotate_word w k a x h e p q r = let one : 1 ≤ w = omega arith in rw (rotate_is w k a x h e p q r) (rotate_below w a x one r)
