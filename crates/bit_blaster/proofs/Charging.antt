-- Widths and charges from front to back.
use Rattle.std.proofs.Common.{◌≡◌, ℕ, ◌+◌, ◌<◌, ◌≤◌, Bool, true, false, List, [], ◌∷◌, ◌++◌, length, refl, sym, ◌∙◌, ap, subst, arith, Option, Some, inl, inr}
use Rattle.std.specs.Prelude.{IsSome, nat_lt, nat_le, slice_index, unwrap_or}
use Rattle.std.proofs.lemmas.Option.{slice_get-get_or}
use Rattle.std.proofs.lemmas.Bool.{cases_lt}
use Rattle.std.proofs.Math.ListN.{get_or-eq_default}
use Rattle.dag.specs.Node.{when, is_width, node_width, node_charge}
use Rattle.dag.specs.declared.node.Node.{Node}
use Rattle.dag.specs.declared.node.Node.TheVariants.{Leaf, Const, Not, And, Or, Xor, Neg, Plus, Times, Eq, Ult, Slt, Ite, Slice, Cat, Sext, Shl, Shr, Udiv, Urem}
use Rattle.dag.proofs.Bounds.{node_wide}
use Rattle.dag.proofs.Lists.{snoc_cases}
use Rattle.std.proofs.lemmas.Bool.{and_parts, ltb-true, leb-true}
use Rattle.bit_blaster.specs.Circuit.{AreWide, width_in, own_width, charges, AreFitting}

leaf_holds : (w : ℕ) (b : Bool) → b ≡ is_width w → IsSome (when b w) → (when b w ≡ Some w) × (1 ≤ w) × (w ≤ 64)
leaf_holds w true e s = let p = and_parts (nat_lt 0 w) (nat_le w 64) (sym e) in (refl, ltb-true 0 w p.0, leb-true w 64 p.1)
leaf_holds w false e s = cc

pub leaf_width_is : (ws : List ℕ) (w i : ℕ) → IsSome (width_in ws (Leaf w i)) → width_in ws (Leaf w i) ≡ Some w
leaf_width_is ws w i s = (leaf_holds w (is_width w) refl s).0

pub plain_width_is : (ws : List ℕ) (n : Node) → ((w i : ℕ) → n ≡ Leaf w i → ⊥) → node_width [] ws n ≡ width_in ws n
plain_width_is ws (Leaf w i) other = absurd (other w i refl)
plain_width_is ws (Const u v) other = refl
plain_width_is ws (Not a) other = refl
plain_width_is ws (And a b) other = refl
plain_width_is ws (Or a b) other = refl
plain_width_is ws (Xor a b) other = refl
plain_width_is ws (Neg a) other = refl
plain_width_is ws (Plus a b) other = refl
plain_width_is ws (Times a b) other = refl
plain_width_is ws (Eq a b) other = refl
plain_width_is ws (Ult a b) other = refl
plain_width_is ws (Slt a b) other = refl
plain_width_is ws (Ite a b c) other = refl
plain_width_is ws (Slice i l a) other = refl
plain_width_is ws (Cat a b) other = refl
plain_width_is ws (Sext u a) other = refl
plain_width_is ws (Shl a b) other = refl
plain_width_is ws (Shr a b) other = refl
plain_width_is ws (Udiv a b) other = refl
plain_width_is ws (Urem a b) other = refl

pub wide_at : (ws : List ℕ) (k : ℕ) → AreWide ws → slice_index ws k ≤ 64
wide_at ws k h = elim (cases_lt k (length ws)) [
  | inl lt ↦ (h k (slice_index ws k) (slice_get-get_or ws k 0 lt)).1
  | inr ge ↦ omega (arith, get_or-eq_default ws 0 ge)
]

-- a node that fits has a width from 1 to 64
pub own_wide : (ws : List ℕ) (n : Node) (w : ℕ) → AreWide ws → width_in ws n ≡ Some w → (1 ≤ w) × (w ≤ 64)
own_wide ws (Leaf u i) w h e = let s : IsSome (width_in ws (Leaf u i)) = rw e refl in let p = leaf_holds u (is_width u) refl s in let q : u ≡ w = same u w (sym p.0 ∙ e) in (omega (arith, p.1, q), omega (arith, p.2, q))
  where
    same : (x y : ℕ) → Some x ≡ Some y → x ≡ y
    same x y e = cc
own_wide ws (Const u v) w h e = node_wide [] ws (Const u v) w h e
own_wide ws (Not a) w h e = node_wide [] ws (Not a) w h e
own_wide ws (And a b) w h e = node_wide [] ws (And a b) w h e
own_wide ws (Or a b) w h e = node_wide [] ws (Or a b) w h e
own_wide ws (Xor a b) w h e = node_wide [] ws (Xor a b) w h e
own_wide ws (Neg a) w h e = node_wide [] ws (Neg a) w h e
own_wide ws (Plus a b) w h e = node_wide [] ws (Plus a b) w h e
own_wide ws (Times a b) w h e = node_wide [] ws (Times a b) w h e
own_wide ws (Eq a b) w h e = node_wide [] ws (Eq a b) w h e
own_wide ws (Ult a b) w h e = node_wide [] ws (Ult a b) w h e
own_wide ws (Slt a b) w h e = node_wide [] ws (Slt a b) w h e
own_wide ws (Ite a b c) w h e = node_wide [] ws (Ite a b c) w h e
own_wide ws (Slice i l a) w h e = node_wide [] ws (Slice i l a) w h e
own_wide ws (Cat a b) w h e = node_wide [] ws (Cat a b) w h e
own_wide ws (Sext u a) w h e = node_wide [] ws (Sext u a) w h e
own_wide ws (Shl a b) w h e = node_wide [] ws (Shl a b) w h e
own_wide ws (Shr a b) w h e = node_wide [] ws (Shr a b) w h e
own_wide ws (Udiv a b) w h e = node_wide [] ws (Udiv a b) w h e
own_wide ws (Urem a b) w h e = node_wide [] ws (Urem a b) w h e

-- how far a sum of charges has come
pub record IsSummedTo (total : ℕ) (ws : List ℕ) (so_far : ℕ) (left : List Node) : Type 0 where
  pub wide : AreWide ws
  pub fits : AreFitting ws left
  pub sum : so_far + charges ws left ≡ total

pub summed_next : (total sum w : ℕ) (ws : List ℕ) (n : Node) (left : List Node) → IsSummedTo total ws sum (n ∷ left) → width_in ws n ≡ Some w → IsSummedTo total (ws ++ w ∷ []) (sum + node_charge ws w n) left
unfolding charges
summed_next total sum w ws n left h e =
    let own : own_width ws n ≡ w = ap (λ (o : Option ℕ). unwrap_or o 0) e in
    record {
      wide = λ k u at. elim (snoc_cases ws w k u at) [
        | inl p ↦ h.wide k u p.1
        | inr p ↦ subst (λ (x : ℕ). (1 ≤ x) × (x ≤ 64)) p.1 (own_wide ws n w h.wide e)
      ];
      fits = subst (λ (x : ℕ). AreFitting (ws ++ x ∷ []) left) own h.fits.1;
      sum = subst (λ (x : ℕ). sum + node_charge ws x n + charges (ws ++ x ∷ []) left ≡ total) own (omega (arith, h.sum));
    }

-- a sum that has passed a limit stays past it
pub summed_past : (total sum w limit : ℕ) (ws : List ℕ) (n : Node) (left : List Node) → IsSummedTo total ws sum (n ∷ left) → width_in ws n ≡ Some w → limit < sum + node_charge ws w n → limit < total
summed_past total sum w limit ws n left h e lt = omega (arith, (summed_next total sum w ws n left h e).sum, lt)

pub summed_all : (total sum : ℕ) (ws : List ℕ) (left : List Node) → IsSummedTo total ws sum left → length left ≡ 0 → sum ≡ total
unfolding charges
summed_all total sum ws [] h e = omega (arith, h.sum)
summed_all total sum ws (n ∷ left) h e = absurd (omega (arith, e))
