use Rattle.std.proofs.Common.{◌≡◌, ℕ, ◌+◌, ◌-◌, ◌*◌, ◌/◌, ◌%◌, ◌^◌, ◌<◌, ◌≤◌, refl, sym, ◌∙◌, ap, subst, arith, rules, inl, inr, true, false}
use Rattle.std.specs.Prelude.{nat_lt, pos}
use Rattle.std.proofs.lemmas.Bool.{cases_lt}
use Rattle.std.proofs.lemmas.Nat.{pow_pos, shr-shr, field_of, shr_below, shr_high, mod_low}
use Rattle.std.proofs.Math.Pow.{mod-mod-pow}
use Rattle.std.proofs.Math.Nat.{mod-eq_of_lt, div-one, div-eq_of_lt, div-eq_of_lt-le}
use Rattle.bv_words.specs.Words.{chop, signed, slice, cat, plus, slt, shl, shr, one_if}
use Rattle.bv_words.proofs.CodeLemmas.{signed_low, signed_high, shifted_mod, twice}

-- a shorter mask after a longer one, at numbers that are no sums
pub mod_shorter : (n m k : ℕ) → k ≤ m → n % 2 ^ m % 2 ^ k ≡ n % 2 ^ k
mod_shorter n m k h = let e : m - k + k ≡ m = omega arith in subst (λ (j : ℕ). n % 2 ^ j % 2 ^ k ≡ n % 2 ^ k) e (mod-mod-pow n (m - k) k)

pub field_at : (n m k : ℕ) → k ≤ m → n % 2 ^ m / 2 ^ k ≡ n / 2 ^ k % 2 ^ (m - k)
field_at n m k h = let e : m - k + k ≡ m = omega arith in subst (λ (j : ℕ). n % 2 ^ j / 2 ^ k ≡ n / 2 ^ k % 2 ^ (m - k)) e (field_of n (m - k) k)

pub slice_slice : (h l g k x : ℕ) → l ≤ h → k ≤ g → g ≤ h - l → slice g k (slice h l x) ≡ slice (l + g) (l + k) x
unfolding slice chop
slice_slice h l g k x p q r =
    let a : k ≤ h - l + 1 = omega arith in
    let b : g - k + 1 ≤ h - l + 1 - k = omega arith in
    let e : (l + g) - (l + k) + 1 ≡ g - k + 1 = omega arith in
    rw (field_at (x / 2 ^ l) (h - l + 1) k a, shr-shr x l k, mod_shorter (x / 2 ^ (l + k)) (h - l + 1 - k) (g - k + 1) b) (rw e refl)

pub slice_cat_high : (h l hw x lw y : ℕ) → lw ≤ l → l ≤ h → y < 2 ^ lw → slice h l (cat hw x lw y) ≡ slice (h - lw) (l - lw) x
unfolding slice chop cat
slice_cat_high h l hw x lw y p q r =
    let e : (h - lw) - (l - lw) + 1 ≡ h - l + 1 = omega arith in
    let k : lw + (l - lw) ≡ l = omega arith in
    let s : (x * 2 ^ lw + y) / 2 ^ l ≡ x / 2 ^ (l - lw) = subst (λ (j : ℕ). (x * 2 ^ lw + y) / 2 ^ j ≡ x / 2 ^ (l - lw)) k (sym (shr-shr (x * 2 ^ lw + y) lw (l - lw)) ∙ ap (λ (n : ℕ). n / 2 ^ (l - lw)) (shr_high x lw y r)) in
    rw (s, e) refl

pub slice_cat_low : (h l hw x lw y : ℕ) → l ≤ h → h < lw → y < 2 ^ lw → slice h l (cat hw x lw y) ≡ slice h l y
unfolding slice chop cat
slice_cat_low h l hw x lw y p q r =
    let a : l ≤ h + 1 = omega arith in
    let b : h + 1 ≤ lw = omega arith in
    let e : h + 1 - l ≡ h - l + 1 = omega arith in
    let down : (n : ℕ) → n / 2 ^ l % 2 ^ (h - l + 1) ≡ n % 2 ^ (h + 1) / 2 ^ l = (λ n. sym (field_at n (h + 1) l a ∙ ap (λ (j : ℕ). n / 2 ^ l % 2 ^ j) e)) in
    let same : (x * 2 ^ lw + y) % 2 ^ (h + 1) ≡ y % 2 ^ (h + 1) = sym (mod_shorter (x * 2 ^ lw + y) lw (h + 1) b) ∙ ap (λ (n : ℕ). n % 2 ^ (h + 1)) (mod_low x lw y r) in
    down (x * 2 ^ lw + y) ∙ ap (λ (n : ℕ). n / 2 ^ l) same ∙ sym (down y)

-- a shift by a constant
pub shl_as_cat : (w k x : ℕ) → k < w → shl w x k ≡ cat (w - k) (slice (w - 1 - k) 0 x) k 0
unfolding shl chop slice cat
shl_as_cat w k x h =
    let t : nat_lt k w ≡ true = search rules in
    let e : w - 1 - k - 0 + 1 ≡ w - k = omega arith in
    let whole : w - k + k ≡ w = omega arith in
    let one : x / 2 ^ 0 ≡ x = div-one x in
    let s : (x * 2 ^ k) % 2 ^ w ≡ (x % 2 ^ (w - k)) * 2 ^ k = subst (λ (j : ℕ). (x * 2 ^ k) % 2 ^ j ≡ (x % 2 ^ (w - k)) * 2 ^ k) whole (shifted_mod x (w - k) k) in
    rw (t, e, one, s) (omega arith)

pub shr_as_cat : (w k x : ℕ) → k < w → x < 2 ^ w → shr w x k ≡ cat k 0 (w - k) (slice (w - 1) k x)
unfolding shr chop slice cat
shr_as_cat w k x h p =
    let t : nat_lt k w ≡ true = search rules in
    let e : w - 1 - k + 1 ≡ w - k = omega arith in
    let whole : w ≡ w - k + k = omega arith in
    let small : x / 2 ^ k < 2 ^ (w - k) = shr_below x (w - k) k (subst (λ (j : ℕ). x < 2 ^ j) whole p) in
    let s : x / 2 ^ k % 2 ^ (w - k) ≡ x / 2 ^ k = mod-eq_of_lt small in
    rw (t, e, s) (omega arith)

-- a word and itself is the word moved up by one
pub plus_as_shl : (w x : ℕ) → 1 < w → plus w x x ≡ shl w x 1
unfolding plus shl
plus_as_shl w x h = let t : nat_lt 1 w ≡ true = search rules in rw t (ap (λ (n : ℕ). chop w n) (omega arith))

-- below 0 as the top bit
pub slt_zero : (w x : ℕ) → 1 ≤ w → x < 2 ^ w → one_if (slt w x 0) ≡ slice (w - 1) (w - 1) x
unfolding slt slice chop
slt_zero w x h p =
    let z : signed w 0 ≡ pos 0 = signed_low w 0 (pow_pos (w - 1)) in
    let e : w - 1 - (w - 1) + 1 ≡ 1 = omega arith in
    let d : 2 ^ w ≡ 2 * 2 ^ (w - 1) = twice w h in
    elim (cases_lt x (2 ^ (w - 1))) [
      | inl lt ↦ let q : x / 2 ^ (w - 1) ≡ 0 = div-eq_of_lt lt in let t : nat_lt x 0 ≡ false = search rules in rw (z, signed_low w x lt, e, q) (rw t refl)
      | inr ge ↦ let q : x / 2 ^ (w - 1) ≡ 1 = div-eq_of_lt-le (2 ^ (w - 1)) (omega arith) (omega arith) in rw (z, signed_high w x ge p, e, q) refl
    ]
