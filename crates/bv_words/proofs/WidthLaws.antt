-- Low bits, masks, zeros above a word and differences, in the forms in which lifting meets them.
use Rattle.std.proofs.Common.{◌≡◌, ℕ, ◌+◌, ◌-◌, ◌%◌, ◌^◌, ◌<◌, ◌≤◌, refl, sym, ◌∙◌, ap, subst, arith}
use Rattle.std.specs.Prelude.{bit_and, pos}
use Rattle.std.proofs.lemmas.Nat.{and_mask}
use Rattle.std.proofs.Math.Nat.{div-one, add-mod-mod}
use Rattle.bv_words.specs.Words.{chop, chop_wide, slice, cat, sx, neg, plus, minus}
use Rattle.bv_words.proofs.CodeLemmas.{chop_same, chop_pos, neg_nat, less_word}
use Rattle.bv_words.proofs.Laws.{mod_shorter}
use Rattle.bv_words.proofs.WordLaws.{zeros_above}

pub chop_mod : (w x : ℕ) → chop w x ≡ x % 2 ^ w
unfolding chop
chop_mod w x = refl

-- a slice from the lowest bit on
pub slice_chop : (h x : ℕ) → slice h 0 x ≡ chop (h + 1) x
unfolding slice
slice_chop h x = let e : h - 0 + 1 ≡ h + 1 = omega arith in rw (e, div-one x) refl

pub slice_low : (w x : ℕ) → 1 ≤ w → slice (w - 1) 0 x ≡ chop w x
slice_low w x h = let e : w - 1 + 1 ≡ w = omega arith in slice_chop (w - 1) x ∙ ap (λ (k : ℕ). chop k x) e

-- a mask of low bits
pub mask_chop : (k x : ℕ) → bit_and x (2 ^ k - 1) ≡ chop k x
mask_chop k x = and_mask x k ∙ sym (chop_mod k x)

pub mask_mod : (n k x : ℕ) → n ≡ 2 ^ k → bit_and x (n - 1) ≡ x % n
mask_mod n k x e = subst (λ (m : ℕ). bit_and x (m - 1) ≡ x % m) (sym e) (and_mask x k)

-- fewer bits of low bits
pub chop_chop : (k w x : ℕ) → k ≤ w → chop k (chop w x) ≡ chop k x
unfolding chop
chop_chop k w x h = mod_shorter x w k h

-- a number without sign
pub chop_wide_pos : (w x : ℕ) → chop_wide w (pos x) ≡ chop w x
chop_wide_pos w x = chop_pos w x

-- the extension of a word that was cut to its own width, or to a greater one before
pub sx_chop : (new old x : ℕ) → x < 2 ^ old → sx new old (chop old x) ≡ sx new old x
sx_chop new old x h = ap (sx new old) (chop_same old x h)

pub sx_chop_chop : (new old w x : ℕ) → old ≤ w → sx new old (chop old (chop w x)) ≡ sx new old (chop old x)
sx_chop_chop new old w x h = ap (sx new old) (chop_chop old w x h)

-- zeros above a word are its extension without sign
pub zero_extended : (new old x : ℕ) → cat (new - old) 0 old x ≡ x
zero_extended new old x = zeros_above (new - old) old x

pub zero_chop_chop : (new old w x : ℕ) → old ≤ w → cat (new - old) 0 old (chop old (chop w x)) ≡ chop old x
zero_chop_chop new old w x h = zeros_above (new - old) old (chop old (chop w x)) ∙ chop_chop old w x h

-- a difference is the sum with minus the second word
pub minus_by_neg : (w x y : ℕ) → x < 2 ^ w → y < 2 ^ w → minus w x y ≡ plus w x (neg w y)
unfolding minus plus chop chop_wide
minus_by_neg w x y p q = let le : y ≤ 2 ^ w = omega arith in sym (rw (neg_nat w y le) (add-mod-mod x (2 ^ w - y) (2 ^ w) ∙ less_word w x y p q))
