-- Equations of words that are cut, joined and extended.
use Rattle.std.proofs.Common.{◌≡◌, ℕ, ◌+◌, ◌-◌, ◌*◌, ◌/◌, ◌%◌, ◌<◌, ◌≤◌, ◌^◌, true, false, refl, sym, ◌∙◌, ap, subst, arith, rules, inl, inr}
use Rattle.std.specs.Prelude.{bit_and, nat_lt, nat_eq}
use Rattle.std.proofs.lemmas.Bool.{cases_lt, cases_eq}
use Rattle.std.proofs.lemmas.Bool.Decides.{nat_tests}
use Rattle.std.proofs.lemmas.Nat.{pow_pos, pow-add, and_mask, mod-pow-add, mod-mul-add, shr-shr, shr_below}
use Rattle.std.proofs.Math.Nat.{mod-eq_of_lt, add-mul, add_assoc, mul_assoc, mul-add-div_right, pow-le-pow_right, div-one, div-lt_iff_lt-mul}
use Rattle.bv_words.specs.Words.{chop, slice, cat, sx, shl, times}
use Rattle.bv_words.proofs.CodeLemmas.{sx_low, sx_high, twice}
use Rattle.bv_words.proofs.Laws.{slice_cat_high, slice_cat_low}
use Rattle.bv_words.proofs.WordLaws.{zeros_above}

pub spread : (p q : ℕ) → 1 ≤ p → (p - 1) * q + q ≡ p * q
spread p q h =
    let whole : p - 1 + 1 ≡ p = omega arith in
    let one : 1 * q ≡ q = omega arith in
    ap (λ (n : ℕ). (p - 1) * q + n) (sym one) ∙ sym (add-mul (p - 1) 1 q) ∙ ap (λ (n : ℕ). n * q) whole

-- all ones above a word of o bits, up to n bits
pub ones_above : (n o : ℕ) → o ≤ n → (2 ^ (n - o) - 1) * 2 ^ o + 2 ^ o ≡ 2 ^ n
ones_above n o h =
    let whole : n - o + o ≡ n = omega arith in
    spread (2 ^ (n - o)) (2 ^ o) (pow_pos (n - o)) ∙ sym (pow-add 2 (n - o) o) ∙ ap (λ (k : ℕ). 2 ^ k) whole

-- sign extension puts something above the word
pub record Extended (w old x : ℕ) : Type 0 where
  pub top : ℕ
  pub is : sx w old x ≡ cat (w - old) top old x

pub extended : (w old x : ℕ) → 1 ≤ old → old ≤ w → x < 2 ^ old → Extended w old x
unfolding cat
extended w old x p q r =
    elim (cases_lt x (2 ^ (old - 1))) [
      | inl lt ↦ record { top = 0; is = sym (sx_low w old x p q lt) ∙ omega arith }
      | inr ge ↦ record { top = 2 ^ (w - old) - 1; is = sym (sx_high w old x p q r ge) ∙ omega (arith, ones_above w old q, pow_pos old, pow_pos w) }
    ]

pub slice_sext_low : (h l w old x : ℕ) → 1 ≤ old → old ≤ w → x < 2 ^ old → l ≤ h → h < old → slice h l (sx w old x) ≡ slice h l x
slice_sext_low h l w old x p q r order within =
    let e = extended w old x p q r in
    ap (slice h l) e.is ∙ slice_cat_low h l (w - old) e.top old x order within r

-- the lower bits of an extended word are the word
pub chop_sext : (w old x : ℕ) → 1 ≤ old → old ≤ w → x < 2 ^ old → chop old (sx w old x) ≡ x
unfolding chop cat
chop_sext w old x p q r =
    let e = extended w old x p q r in
    ap (λ (n : ℕ). n % 2 ^ old) e.is ∙ mod-mul-add e.top (2 ^ old) x r

pub sext_sext : (w v old x : ℕ) → 1 ≤ old → old ≤ v → v ≤ w → x < 2 ^ old → sx w v (sx v old x) ≡ sx w old x
sext_sext w v old x p q r s =
    let two : 0 < 2 = omega arith in
    let one : 1 ≤ v = omega arith in
    let whole : old ≤ w = omega arith in
    let down : old - 1 ≤ v - 1 = omega arith in
    let half : 2 ^ (old - 1) ≤ 2 ^ (v - 1) = pow-le-pow_right two down in
    let low : 2 ^ old ≤ 2 ^ v = pow-le-pow_right two q in
    let high : 2 ^ v ≤ 2 ^ w = pow-le-pow_right two r in
    elim (cases_lt x (2 ^ (old - 1))) [
      | inl lt ↦
          let below : x < 2 ^ (v - 1) = omega arith in
          ap (sx w v) (sym (sx_low v old x p q lt)) ∙ sym (sx_low w v x one r below) ∙ sx_low w old x p whole lt
      | inr ge ↦
          let inner : x + ((2 ^ v - 1) - (2 ^ old - 1)) ≡ sx v old x = sx_high v old x p q s ge in
          let below : x + ((2 ^ v - 1) - (2 ^ old - 1)) < 2 ^ v = omega (arith, pow_pos old) in
          let above : 2 ^ (v - 1) ≤ x + ((2 ^ v - 1) - (2 ^ old - 1)) = omega (arith, twice v one, twice old p, pow_pos old) in
          ap (sx w v) (sym inner) ∙ sym (sx_high w v (x + ((2 ^ v - 1) - (2 ^ old - 1))) one r below above) ∙ omega (arith, pow_pos old) ∙ sx_high w old x p whole s ge
    ]

-- bits from below the sign on are the sign extension of the word's own
pub slice_sext_across : (h l w old x : ℕ) → 1 ≤ old → old ≤ h → h < w → l < old → x < 2 ^ old → slice h l (sx w old x) ≡ sx (h - l + 1) (old - l) (slice (old - 1) l x)
unfolding slice chop
slice_sext_across h l w old x p q r s t =
    let two : 0 < 2 = omega arith in
    let own : old - 1 - l + 1 ≡ old - l = omega arith in
    let whole : old - l + l ≡ old = omega arith in
    let small : x / 2 ^ l < 2 ^ (old - l) = shr_below x (old - l) l (subst (λ (k : ℕ). x < 2 ^ k) (sym whole) t) in
    let cut : x / 2 ^ l % 2 ^ (old - 1 - l + 1) ≡ x / 2 ^ l = rw own (mod-eq_of_lt small) in
    let one : 1 ≤ old - l = omega arith in
    let order : old - l ≤ h - l + 1 = omega arith in
    let wide : 2 ^ (old - l) ≤ 2 ^ (h - l + 1) = pow-le-pow_right two order in
    let inside : old ≤ w = omega arith in
    rw cut (elim (cases_lt (x / 2 ^ l) (2 ^ (old - l - 1))) [
      | inl lt ↦
          let split : old - l - 1 + l ≡ old - 1 = omega arith in
          let below : x < 2 ^ (old - 1) = subst (λ (k : ℕ). x < 2 ^ k) split (subst (λ (n : ℕ). x < n) (sym (pow-add 2 (old - l - 1) l)) ((div-lt_iff_lt-mul (pow_pos l)).0 lt)) in
          let is : sx w old x ≡ x = sym (sx_low w old x p inside below) in
          let fits : x / 2 ^ l < 2 ^ (h - l + 1) = omega arith in
          rw is (mod-eq_of_lt fits ∙ sx_low (h - l + 1) (old - l) (x / 2 ^ l) one order lt)
      | inr ge ↦
          let above : 2 ^ (old - 1) ≤ x = high_half x l old p s ge in
          let ones : x + ((2 ^ w - 1) - (2 ^ old - 1)) ≡ (2 ^ (w - old) - 1) * 2 ^ old + x = omega (arith, ones_above w old inside, pow_pos old, pow_pos w) in
          let is : sx w old x ≡ (2 ^ (w - old) - 1) * 2 ^ old + x = sym (sx_high w old x p inside t above) ∙ ones in
          let power : 2 ^ old ≡ 2 ^ (old - l) * 2 ^ l = ap (λ (k : ℕ). 2 ^ k) (sym whole) ∙ pow-add 2 (old - l) l in
          let moved : (2 ^ (w - old) - 1) * 2 ^ old ≡ (2 ^ (w - old) - 1) * 2 ^ (old - l) * 2 ^ l = ap (λ (n : ℕ). (2 ^ (w - old) - 1) * n) power ∙ sym (mul_assoc (2 ^ (w - old) - 1) (2 ^ (old - l)) (2 ^ l)) in
          let down : ((2 ^ (w - old) - 1) * 2 ^ (old - l) * 2 ^ l + x) / 2 ^ l ≡ (2 ^ (w - old) - 1) * 2 ^ (old - l) + x / 2 ^ l = mul-add-div_right (pow_pos l) ((2 ^ (w - old) - 1) * 2 ^ (old - l)) x in
          let n : w - l - (old - l) ≡ w - old = omega arith in
          let outer : (2 ^ (w - l - (h - l + 1)) - 1) * 2 ^ (h - l + 1) + 2 ^ (h - l + 1) ≡ 2 ^ (w - l) = ones_above (w - l) (h - l + 1) (omega arith) in
          let inner : (2 ^ (w - old) - 1) * 2 ^ (old - l) + 2 ^ (old - l) ≡ 2 ^ (w - l) = subst (λ (k : ℕ). (2 ^ k - 1) * 2 ^ (old - l) + 2 ^ (old - l) ≡ 2 ^ (w - l)) n (ones_above (w - l) (old - l) (omega arith)) in
          let regrouped : (2 ^ (w - old) - 1) * 2 ^ (old - l) + x / 2 ^ l ≡ (2 ^ (w - l - (h - l + 1)) - 1) * 2 ^ (h - l + 1) + (x / 2 ^ l + ((2 ^ (h - l + 1) - 1) - (2 ^ (old - l) - 1))) = omega (arith, pow_pos (old - l)) in
          let fits : x / 2 ^ l + ((2 ^ (h - l + 1) - 1) - (2 ^ (old - l) - 1)) < 2 ^ (h - l + 1) = omega (arith, pow_pos (old - l)) in
          rw (is, moved, down, regrouped) (mod-mul-add (2 ^ (w - l - (h - l + 1)) - 1) (2 ^ (h - l + 1)) (x / 2 ^ l + ((2 ^ (h - l + 1) - 1) - (2 ^ (old - l) - 1))) fits ∙ sx_high (h - l + 1) (old - l) (x / 2 ^ l) one order small ge)
    ])
  where
    high_half : (x l old : ℕ) → 1 ≤ old → l < old → 2 ^ (old - l - 1) ≤ x / 2 ^ l → 2 ^ (old - 1) ≤ x
    high_half x l old p s ge =
        elim (cases_lt x (2 ^ (old - 1))) [
          | inl lt ↦
              let split : old - 1 ≡ old - l - 1 + l = omega arith in
              let below : x / 2 ^ l < 2 ^ (old - l - 1) = shr_below x (old - l - 1) l (subst (λ (k : ℕ). x < 2 ^ k) split lt) in
              absurd (omega arith)
          | inr more ↦ more
        ]

-- a word with zeros above has no sign
pub sext_joint : (w v u k x : ℕ) → 1 ≤ u → u + k ≡ v → v ≤ w → x < 2 ^ k → sx w v (cat u 0 k x) ≡ x
sext_joint w v u k x p q r s =
    let two : 0 < 2 = omega arith in
    let one : 1 ≤ v = omega arith in
    let half : 2 ^ k ≤ 2 ^ (v - 1) = pow-le-pow_right two (omega arith) in
    let below : x < 2 ^ (v - 1) = omega arith in
    ap (sx w v) (zeros_above u k x) ∙ sym (sx_low w v x one r below)

-- the lower bits by a mask
pub mask_low : (w k x : ℕ) → 1 ≤ k → bit_and x (2 ^ k - 1) ≡ cat (w - k) 0 k (slice (k - 1) 0 x)
unfolding slice chop
mask_low w k x p =
    let e : k - 1 - 0 + 1 ≡ k = omega arith in
    and_mask x k ∙ sym (zeros_above (w - k) k (x / 2 ^ 0 % 2 ^ (k - 1 - 0 + 1)) ∙ rw (e, div-one x) refl)

-- bits of a word above the bits next to them
pub slices_joined : (h m l x : ℕ) → l ≤ m → m < h → cat (h - (m + 1) + 1) (slice h (m + 1) x) (m - l + 1) (slice m l x) ≡ slice h l x
unfolding slice chop cat
slices_joined h m l x p q =
    let all : h - l + 1 ≡ h - (m + 1) + 1 + (m - l + 1) = omega arith in
    let place : l + (m - l + 1) ≡ m + 1 = omega arith in
    let high : x / 2 ^ l / 2 ^ (m - l + 1) ≡ x / 2 ^ (m + 1) = shr-shr x l (m - l + 1) ∙ ap (λ (k : ℕ). x / 2 ^ k) place in
    rw all (sym (mod-pow-add (x / 2 ^ l) (h - (m + 1) + 1) (m - l + 1) ∙ rw high refl))

-- bits of both parts of a joint
pub slice_joint : (h l hw x lw y : ℕ) → l < lw → lw ≤ h → y < 2 ^ lw → slice h l (cat hw x lw y) ≡ cat (h - lw + 1) (slice (h - lw) 0 x) (lw - l) (slice (lw - 1) l y)
slice_joint h l hw x lw y p q r =
    let m : lw - 1 + 1 ≡ lw = omega arith in
    let n : lw - 1 - l + 1 ≡ lw - l = omega arith in
    let z : lw - lw ≡ 0 = omega arith in
    let split : cat (h - lw + 1) (slice h lw (cat hw x lw y)) (lw - l) (slice (lw - 1) l (cat hw x lw y)) ≡ slice h l (cat hw x lw y) =
    subst (λ (k : ℕ). cat (h - lw + 1) (slice h lw (cat hw x lw y)) k (slice (lw - 1) l (cat hw x lw y)) ≡ slice h l (cat hw x lw y)) n
    (subst (λ (k : ℕ). cat (h - k + 1) (slice h k (cat hw x lw y)) (lw - 1 - l + 1) (slice (lw - 1) l (cat hw x lw y)) ≡ slice h l (cat hw x lw y)) m
    (slices_joined h (lw - 1) l (cat hw x lw y) (omega arith) (omega arith))) in
    let high : slice h lw (cat hw x lw y) ≡ slice (h - lw) 0 x = slice_cat_high h lw hw x lw y (omega arith) q r ∙ ap (λ (k : ℕ). slice (h - lw) k x) z in
    let low : slice (lw - 1) l (cat hw x lw y) ≡ slice (lw - 1) l y = slice_cat_low (lw - 1) l hw x lw y (omega arith) (omega arith) r in
    sym split ∙ rw (high, low) refl

-- a product with a power of two
pub times_power : (w k x : ℕ) → k < w → times w x (2 ^ k) ≡ shl w x k
unfolding times shl
times_power w k x h = let t : nat_lt k w ≡ true = search rules in rw t refl

-- joints of three
pub joints : (u a k b j c : ℕ) → cat (u + k) (cat u a k b) j c ≡ cat u a (k + j) (cat k b j c)
unfolding cat
joints u a k b j c = rw (add-mul (a * 2 ^ k) b (2 ^ j), mul_assoc a (2 ^ k) (2 ^ j), ← pow-add 2 k j) (add_assoc (a * 2 ^ (k + j)) (b * 2 ^ j) c)

-- an extended word is a constant where the word is that constant's lower bits
pub eq_sext : (w o x c k : ℕ) → 1 ≤ o → o ≤ w → x < 2 ^ o → k ≡ chop o c → sx w o k ≡ c → nat_eq (sx w o x) c ≡ nat_eq x k
eq_sext w o x c k p q r low back = same_test (sx w o x) c x k (λ e. sym (chop_sext w o x p q r) ∙ ap (chop o) e ∙ sym low) (λ e. ap (sx w o) e ∙ back)
  where
    same_test : (a b c d : ℕ) → (a ≡ b → c ≡ d) → (c ≡ d → a ≡ b) → nat_eq a b ≡ nat_eq c d
    same_test a b c d f g = elim (cases_eq a b) [
      | inl e ↦ let h : c ≡ d = f e in let s : nat_eq a b ≡ true = grind (arith, nat_tests) in let t : nat_eq c d ≡ true = grind (arith, nat_tests) in s ∙ sym t
      | inr e ↦ let h : c ≡ d → ⊥ = (λ k. e (g k)) in let s : nat_eq a b ≡ false = grind (arith, nat_tests) in let t : nat_eq c d ≡ false = grind (arith, nat_tests) in s ∙ sym t
    ]
