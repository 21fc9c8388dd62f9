-- What a node that was made tells of its children's words, and what it costs.
use Rattle.std.proofs.Common.{◌≡◌, inl, inr, ℕ, zero, suc, ◌+◌, ◌-◌, ◌*◌, ◌<◌, ◌≤◌, ◌^◌, List, [], ◌∷◌, take, length, Option, Some, refl, sym, ap, subst, ◌∙◌, arith, true, cond, nat_eq, nat_lt}
use Rattle.std.specs.Prelude.{slice_index, unwrap_or, IsSome, bit_and, bit_or, bit_xor, nat_le}
use Rattle.std.proofs.lemmas.Bool.{cases_lt}
use Rattle.std.proofs.lemmas.Bool.Decides.{nat_tests}
use Rattle.std.proofs.lemmas.Option.{get_or_from_slice_get, slice_get-get_or}
use Rattle.std.proofs.Math.ListN.{get_or-eq_default}
use Rattle.std.proofs.Math.Nat.{mul-le-mul}
use Rattle.bv_words.specs.Words.{one_if, chop, bit_not, neg, plus, minus, times, udiv, urem, slt, shl, shr, slice, cat, sx}
use Rattle.dag.specs.declared.node.NodeId.{NodeId}
use Rattle.dag.specs.declared.node.Node.{Node}
use Rattle.dag.specs.declared.node.Node.TheVariants.{Leaf, Const, Not, And, Or, Xor, Neg, Plus, Times, Eq, Ult, Slt, Ite, Slice, Cat, Sext, Shl, Shr, Udiv, Urem}
use Rattle.dag.specs.Node.{same_width, choice_width, cut_width, joined_width, widened_width, charge_at, widest, children, first, second, third}
use Rattle.dag.specs.Graph.{Graph, IsGraph, Extends, Makes, Costs, HasWidth, Tells, Grows, fits_width, charge_in, leaves_of}
use Rattle.dag.proofs.Bounds.{AllWide, node_wide}
use Rattle.dag.proofs.Growing.{some_of, grows_trans, tells_same}
use Rattle.dag.proofs.Inverting.{cut_fits, joined_fits, constant_fits}
use Rattle.rewriter.specs.declared.building.Charge.{Charge}
use Rattle.rewriter.specs.Building.{IsCounted}
use Rattle.rewriter.proofs.Counting.{counted_trans}
use Rattle.word_nodes.specs.Gains.{Gains}
use Rattle.word_nodes.specs.Moves.{sign_word, down_signed}
use Rattle.bv_words.proofs.WordLaws.{zeros_above}
use Rattle.bv_words.proofs.WidthLaws.{slice_low, minus_by_neg}

-- ---- charges

all_small : (ws : List ℕ) (k : ℕ) → AllWide ws → slice_index ws k ≤ 64
all_small ws k h = elim (cases_lt k (length ws)) [
  | inl lt ↦ (h k (slice_index ws k) (slice_get-get_or ws k 0 lt)).1
  | inr ge ↦ omega (arith, get_or-eq_default ws 0 ge)
]

widest_small : (n w x y z : ℕ) → w ≤ 64 → x ≤ 64 → y ≤ 64 → z ≤ 64 → widest w (take n (x ∷ y ∷ z ∷ [])) ≤ 64
widest_small zero w x y z p q r s = p
widest_small (suc zero) w x y z p q r s = omega arith
widest_small (suc (suc zero)) w x y z p q r s = omega arith
widest_small (suc (suc (suc zero))) w x y z p q r s = omega arith
widest_small (suc (suc (suc (suc n)))) w x y z p q r s = omega arith

square : (w : ℕ) → w ≤ 64 → w * w ≤ 64 * 64
square w h = mul-le-mul h h

charge_rises : (w : ℕ) (n : Node) → w ≤ 64 → charge_at w n ≤ charge_at 64 n
charge_rises w (Leaf u i) h = omega arith
charge_rises w (Const u v) h = omega arith
charge_rises w (Not a) h = omega arith
charge_rises w (And a b) h = omega arith
charge_rises w (Or a b) h = omega arith
charge_rises w (Xor a b) h = omega arith
charge_rises w (Neg a) h = omega arith
charge_rises w (Plus a b) h = omega arith
charge_rises w (Times a b) h = omega (arith, square w h)
charge_rises w (Eq a b) h = omega arith
charge_rises w (Ult a b) h = omega arith
charge_rises w (Slt a b) h = omega arith
charge_rises w (Ite a b c) h = omega arith
charge_rises w (Slice i l a) h = omega arith
charge_rises w (Cat a b) h = omega arith
charge_rises w (Sext u a) h = omega arith
charge_rises w (Shl a b) h = omega arith
charge_rises w (Shr a b) h = omega arith
charge_rises w (Udiv a b) h = omega (arith, square w h)
charge_rises w (Urem a b) h = omega (arith, square w h)

-- no node costs more than one of 64 bits over children of 64 bits
pub charge_top : (g : Graph) (n : Node) → IsGraph g → IsSome (fits_width g n) → charge_in g n ≤ charge_at 64 n
charge_top g n is fits =
    let w = some_of (fits_width g n) fits in
    let e : unwrap_or (fits_width g n) 0 ≡ w.0 = ap (λ (o : Option ℕ). unwrap_or o 0) w.1 in
    let own : unwrap_or (fits_width g n) 0 ≤ 64 = rw e ((node_wide (leaves_of g) g.widths n w.0 is.wide w.1).1) in
    charge_rises _ n (widest_small (children n).count (unwrap_or (fits_width g n) 0) (slice_index g.widths (first n)) (slice_index g.widths (second n)) (slice_index g.widths (third n)) own (all_small g.widths (first n) is.wide) (all_small g.widths (second n) is.wide) (all_small g.widths (third n) is.wide))

pub gains_built : (before after : Charge) (old new : Graph) (n : Node) → IsGraph old → IsSome (fits_width old n) → Extends old new → Costs old new 16 (4 * charge_in old n) → IsCounted before after old new → Gains before after old new 16 (4 * charge_at 64 n)
gains_built before after old new n is fits e c k = record {
  grows = record { extends = e; costs = record { nodes = c.nodes; units = omega (arith, c.units, charge_top old n is fits) } };
  counted = k;
}

pub gains_trans : (a b c : Charge) (g h k : Graph) (m n i j count sum : ℕ) → Gains a b g h m n → Gains b c h k i j → m + i ≤ count → n + j ≤ sum → Gains a c g k count sum
gains_trans a b c g h k m n i j count sum p q few cheap = record {
  grows = grows_trans g h k m n i j count sum p.grows q.grows few cheap;
  counted = counted_trans a b c g h k p.counted q.counted;
}

-- ---- words

at_wide : (a b : Graph) (id w : ℕ) → Extends a b → HasWidth a.widths id w → slice_index b.widths id ≡ w
at_wide a b id w e h = get_or_from_slice_get b.widths id w 0 (e.widths id w h)

same_fits : (o p : Option ℕ) (w : ℕ) → o ≡ Some w → p ≡ Some w → same_width o p ≡ Some w
same_fits o p w e f = let t : nat_eq w w ≡ true = grind (arith, nat_tests) in rw (e, f, t) refl

pub constant_tells : (old new : Graph) (w v : ℕ) (id : NodeId) → 1 ≤ w → w ≤ 64 → v < 2 ^ w → Makes old new (Const w v) id.0 → Tells new w (λ _. v) id
constant_tells old new w v id p q r m = record { wide = m.width ∙ constant_fits w v p q r; is = λ input values are. m.value input values are }

pub inverted_tells : (old new : Graph) (w : ℕ) (a id : NodeId) → HasWidth old.widths a.0 w → Makes old new (Not a) id.0 → Tells new w (λ values. bit_not w (slice_index values a.0)) id
inverted_tells old new w a id h m = record { wide = m.width ∙ h; is = λ input values are. m.value input values are ∙ ap (λ (x : ℕ). bit_not x (slice_index values a.0)) (at_wide old new a.0 w m.grows h) }

pub negative_tells : (old new : Graph) (w : ℕ) (a id : NodeId) → HasWidth old.widths a.0 w → Makes old new (Neg a) id.0 → Tells new w (λ values. neg w (slice_index values a.0)) id
negative_tells old new w a id h m = record { wide = m.width ∙ h; is = λ input values are. m.value input values are ∙ ap (λ (x : ℕ). neg x (slice_index values a.0)) (at_wide old new a.0 w m.grows h) }

pub both_tells : (old new : Graph) (w : ℕ) (a b id : NodeId) → HasWidth old.widths a.0 w → HasWidth old.widths b.0 w → Makes old new (And a b) id.0 → Tells new w (λ values. bit_and (slice_index values a.0) (slice_index values b.0)) id
both_tells old new w a b id h k m = record { wide = m.width ∙ same_fits _ _ w h k; is = λ input values are. m.value input values are }

pub either_tells : (old new : Graph) (w : ℕ) (a b id : NodeId) → HasWidth old.widths a.0 w → HasWidth old.widths b.0 w → Makes old new (Or a b) id.0 → Tells new w (λ values. bit_or (slice_index values a.0) (slice_index values b.0)) id
either_tells old new w a b id h k m = record { wide = m.width ∙ same_fits _ _ w h k; is = λ input values are. m.value input values are }

pub differ_tells : (old new : Graph) (w : ℕ) (a b id : NodeId) → HasWidth old.widths a.0 w → HasWidth old.widths b.0 w → Makes old new (Xor a b) id.0 → Tells new w (λ values. bit_xor (slice_index values a.0) (slice_index values b.0)) id
differ_tells old new w a b id h k m = record { wide = m.width ∙ same_fits _ _ w h k; is = λ input values are. m.value input values are }

pub sum_tells : (old new : Graph) (w : ℕ) (a b id : NodeId) → HasWidth old.widths a.0 w → HasWidth old.widths b.0 w → Makes old new (Plus a b) id.0 → Tells new w (λ values. plus w (slice_index values a.0) (slice_index values b.0)) id
sum_tells old new w a b id h k m = record { wide = m.width ∙ same_fits _ _ w h k; is = λ input values are. m.value input values are ∙ ap (λ (x : ℕ). plus x (slice_index values a.0) (slice_index values b.0)) (at_wide old new a.0 w m.grows h) }

pub product_tells : (old new : Graph) (w : ℕ) (a b id : NodeId) → HasWidth old.widths a.0 w → HasWidth old.widths b.0 w → Makes old new (Times a b) id.0 → Tells new w (λ values. times w (slice_index values a.0) (slice_index values b.0)) id
product_tells old new w a b id h k m = record { wide = m.width ∙ same_fits _ _ w h k; is = λ input values are. m.value input values are ∙ ap (λ (x : ℕ). times x (slice_index values a.0) (slice_index values b.0)) (at_wide old new a.0 w m.grows h) }

pub quotient_tells : (old new : Graph) (w : ℕ) (a b id : NodeId) → HasWidth old.widths a.0 w → HasWidth old.widths b.0 w → Makes old new (Udiv a b) id.0 → Tells new w (λ values. udiv (slice_index values a.0) (slice_index values b.0)) id
quotient_tells old new w a b id h k m = record { wide = m.width ∙ same_fits _ _ w h k; is = λ input values are. m.value input values are }

pub remainder_tells : (old new : Graph) (w : ℕ) (a b id : NodeId) → HasWidth old.widths a.0 w → HasWidth old.widths b.0 w → Makes old new (Urem a b) id.0 → Tells new w (λ values. urem (slice_index values a.0) (slice_index values b.0)) id
remainder_tells old new w a b id h k m = record { wide = m.width ∙ same_fits _ _ w h k; is = λ input values are. m.value input values are }

pub equal_tells : (old new : Graph) (w : ℕ) (a b id : NodeId) → HasWidth old.widths a.0 w → HasWidth old.widths b.0 w → Makes old new (Eq a b) id.0 → Tells new 1 (λ values. one_if (nat_eq (slice_index values a.0) (slice_index values b.0))) id
equal_tells old new w a b id h k m = record { wide = m.width ∙ rw (same_fits _ _ w h k) refl; is = λ input values are. m.value input values are }

pub below_tells : (old new : Graph) (w : ℕ) (a b id : NodeId) → HasWidth old.widths a.0 w → HasWidth old.widths b.0 w → Makes old new (Ult a b) id.0 → Tells new 1 (λ values. one_if (nat_lt (slice_index values a.0) (slice_index values b.0))) id
below_tells old new w a b id h k m = record { wide = m.width ∙ rw (same_fits _ _ w h k) refl; is = λ input values are. m.value input values are }

pub less_tells : (old new : Graph) (w : ℕ) (a b id : NodeId) → HasWidth old.widths a.0 w → HasWidth old.widths b.0 w → Makes old new (Slt a b) id.0 → Tells new 1 (λ values. one_if (slt w (slice_index values a.0) (slice_index values b.0))) id
less_tells old new w a b id h k m = record { wide = m.width ∙ rw (same_fits _ _ w h k) refl; is = λ input values are. m.value input values are ∙ ap (λ (x : ℕ). one_if (slt x (slice_index values a.0) (slice_index values b.0))) (at_wide old new a.0 w m.grows h) }

choice_fits : (o p q : Option ℕ) (w : ℕ) → o ≡ Some 1 → p ≡ Some w → q ≡ Some w → choice_width o (same_width p q) ≡ Some w
choice_fits o p q w e f g = rw (e, same_fits p q w f g) refl

pub choose_tells : (old new : Graph) (w : ℕ) (bit a b id : NodeId) → HasWidth old.widths bit.0 1 → HasWidth old.widths a.0 w → HasWidth old.widths b.0 w → Makes old new (Ite bit a b) id.0 → Tells new w (λ values. cond (nat_eq (slice_index values bit.0) 1) (slice_index values a.0) (slice_index values b.0)) id
choose_tells old new w bit a b id g h k m = record { wide = m.width ∙ choice_fits _ _ _ w g h k; is = λ input values are. m.value input values are }

pub up_tells : (old new : Graph) (w u : ℕ) (a b id : NodeId) → HasWidth old.widths a.0 w → HasWidth old.widths b.0 u → Makes old new (Shl a b) id.0 → Tells new w (λ values. shl w (slice_index values a.0) (slice_index values b.0)) id
up_tells old new w u a b id h k m = record { wide = m.width ∙ rw (h, k) refl; is = λ input values are. m.value input values are ∙ ap (λ (x : ℕ). shl x (slice_index values a.0) (slice_index values b.0)) (at_wide old new a.0 w m.grows h) }

pub down_tells : (old new : Graph) (w u : ℕ) (a b id : NodeId) → HasWidth old.widths a.0 w → HasWidth old.widths b.0 u → Makes old new (Shr a b) id.0 → Tells new w (λ values. shr w (slice_index values a.0) (slice_index values b.0)) id
down_tells old new w u a b id h k m = record { wide = m.width ∙ rw (h, k) refl; is = λ input values are. m.value input values are ∙ ap (λ (x : ℕ). shr x (slice_index values a.0) (slice_index values b.0)) (at_wide old new a.0 w m.grows h) }

cut_at : (h l w : ℕ) (o : Option ℕ) → o ≡ Some w → l ≤ h → h < w → cut_width h l o ≡ Some (h - l + 1)
cut_at h l w o e p q = rw e (cut_fits h l w p q)

pub part_tells : (old new : Graph) (w h l : ℕ) (a id : NodeId) → HasWidth old.widths a.0 w → l ≤ h → h < w → Makes old new (Slice h l a) id.0 → Tells new (h - l + 1) (λ values. slice h l (slice_index values a.0)) id
part_tells old new w h l a id e p q m = record { wide = m.width ∙ cut_at h l w _ e p q; is = λ input values are. m.value input values are }

widened_at : (v w : ℕ) (o : Option ℕ) → o ≡ Some w → w ≤ v → v ≤ 64 → widened_width v o ≡ Some v
widened_at v w o e p q = let s : nat_le w v ≡ true = grind (arith, nat_tests) in let t : nat_le v 64 ≡ true = grind (arith, nat_tests) in rw (e, s, t) refl

pub extended_tells : (old new : Graph) (v w : ℕ) (a id : NodeId) → HasWidth old.widths a.0 w → w ≤ v → v ≤ 64 → Makes old new (Sext v a) id.0 → Tells new v (λ values. sx v w (slice_index values a.0)) id
extended_tells old new v w a id h p q m = record { wide = m.width ∙ widened_at v w _ h p q; is = λ input values are. m.value input values are ∙ ap (λ (x : ℕ). sx v x (slice_index values a.0)) (at_wide old new a.0 w m.grows h) }

joined_at : (u w : ℕ) (o p : Option ℕ) → o ≡ Some u → p ≡ Some w → u + w ≤ 64 → joined_width o p ≡ Some (u + w)
joined_at u w o p e f narrow = rw (e, f) (joined_fits u w narrow)

cat_at : (u u' w w' x y : ℕ) → u ≡ u' → w ≡ w' → cat u x w y ≡ cat u' x w' y
cat_at u u' w w' x y p q = rw (p, q) refl

pub joined_tells : (old new : Graph) (u w : ℕ) (a b id : NodeId) → HasWidth old.widths a.0 u → HasWidth old.widths b.0 w → u + w ≤ 64 → Makes old new (Cat a b) id.0 → Tells new (u + w) (λ values. cat u (slice_index values a.0) w (slice_index values b.0)) id
joined_tells old new u w a b id h k narrow m = record { wide = m.width ∙ joined_at u w _ _ h k narrow; is = λ input values are. m.value input values are ∙ cat_at _ u _ w (slice_index values a.0) (slice_index values b.0) (at_wide old new a.0 u m.grows h) (at_wide old new b.0 w m.grows k) }

-- ---- words of several nodes

pub difference_tells : (f g h : Graph) (w : ℕ) (a b less id : NodeId) → HasWidth f.widths a.0 w → HasWidth f.widths b.0 w → Grows f g 16 1024 → Tells g w (λ values. neg w (slice_index values b.0)) less → Grows g h 16 1024 → Tells h w (λ values. plus w (slice_index values a.0) (slice_index values less.0)) id → Tells h w (λ values. minus w (slice_index values a.0) (slice_index values b.0)) id
difference_tells f g h w a b less id p q d t e u = tells_same h w _ _ id u (λ input values are.
    let mid = e.extends.values input values are in
    let low = d.extends.values input values mid in
    ap (plus w (slice_index values a.0)) (t.is input values mid) ∙ sym (minus_by_neg w (slice_index values a.0) (slice_index values b.0) (low.words a.0 w p).within (low.words b.0 w q).within))

pub low_tells : (g : Graph) (bits : ℕ) (a id : NodeId) → 1 ≤ bits → Tells g (bits - 1 - 0 + 1) (λ values. slice (bits - 1) 0 (slice_index values a.0)) id → Tells g bits (λ values. chop bits (slice_index values a.0)) id
low_tells g bits a id some t =
    let e : bits - 1 - 0 + 1 ≡ bits = omega arith in
    tells_same g bits _ _ id (subst (λ (w : ℕ). Tells g w (λ values. slice (bits - 1) 0 (slice_index values a.0)) id) e t) (λ input values are. slice_low bits (slice_index values a.0) some)

pub zeros_tell : (g h : Graph) (new w : ℕ) (a zeros id : NodeId) (n : ℕ) → w < new → Tells g (new - w) (λ _. 0) zeros → Grows g h n 1024 → Tells h (new - w + w) (λ values. cat (new - w) (slice_index values zeros.0) w (slice_index values a.0)) id → Tells h new (λ values. slice_index values a.0) id
zeros_tell g h new w a zeros id n order t e u =
    let whole : new - w + w ≡ new = omega arith in
    tells_same h new _ _ id (subst (λ (k : ℕ). Tells h k (λ values. cat (new - w) (slice_index values zeros.0) w (slice_index values a.0)) id) whole u) (λ input values are.
    ap (λ (x : ℕ). cat (new - w) x w (slice_index values a.0)) (t.is input values (e.extends.values input values are)) ∙ zeros_above (new - w) w (slice_index values a.0))

pub sign_tells : (g h : Graph) (w : ℕ) (a top id : NodeId) → Tells g (w - 1 - (w - 1) + 1) (λ values. slice (w - 1) (w - 1) (slice_index values a.0)) top → Grows g h 16 1024 → Tells h w (λ values. sx w 1 (slice_index values top.0)) id → Tells h w (λ values. sign_word w (slice_index values a.0)) id
sign_tells g h w a top id t e u = tells_same h w _ _ id u (λ input values are. ap (sx w 1) (t.is input values (e.extends.values input values are)))

pub down_signed_tells : (g h i k : Graph) (w : ℕ) (a by sign turned moved id : NodeId) → Tells g w (λ values. sign_word w (slice_index values a.0)) sign → Grows g h 16 1024 → Tells h w (λ values. bit_xor (slice_index values a.0) (slice_index values sign.0)) turned → Grows h i 16 4096 → Tells i w (λ values. shr w (slice_index values turned.0) (slice_index values by.0)) moved → Grows i k 16 1024
    → Tells k w (λ values. bit_xor (slice_index values moved.0) (slice_index values sign.0)) id → Tells k w (λ values. down_signed w (slice_index values a.0) (slice_index values by.0)) id
down_signed_tells g h i k w a by sign turned moved id s d t e m f u = tells_same k w _ _ id u (λ input values are.
    let vi = f.extends.values input values are in
    let vh = e.extends.values input values vi in
    let vg = d.extends.values input values vh in
    let signed : slice_index values sign.0 ≡ sign_word w (slice_index values a.0) = s.is input values vg in
    let word : slice_index values moved.0 ≡ shr w (bit_xor (slice_index values a.0) (sign_word w (slice_index values a.0))) (slice_index values by.0) =
    m.is input values vi ∙ ap (λ (x : ℕ). shr w x (slice_index values by.0)) (t.is input values vh ∙ ap (bit_xor (slice_index values a.0)) signed) in
    ap (λ (x : ℕ). bit_xor x (slice_index values sign.0)) word ∙ ap (bit_xor (shr w (bit_xor (slice_index values a.0) (sign_word w (slice_index values a.0))) (slice_index values by.0))) signed)
