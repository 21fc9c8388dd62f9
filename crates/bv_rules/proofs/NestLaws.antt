-- Operations within operations that undo one another.
use Rattle.std.proofs.Common.{◌≡◌, ◌⊎◌, ℕ, ◌-◌, ◌<◌, ◌^◌, List, refl, sym, ◌∙◌, ap, subst, Option, Some, None, inl, inr}
use Rattle.std.specs.Prelude.{slice_get, slice_index, slice_index_or, IsSome, bit_and, bit_or, bit_xor}
use Rattle.std.proofs.lemmas.Nat.{and_comm, xor_comm}
use Rattle.bv_words.specs.Words.{neg, bit_not, plus}
use Rattle.dag.specs.declared.node.NodeId.{NodeId}
use Rattle.dag.specs.declared.node.Node.{Node}
use Rattle.dag.specs.declared.node.Node.TheVariants.{Const, Not, And, Or, Xor, Neg, Plus}
use Rattle.dag.specs.Node.{same_width}
use Rattle.dag.specs.Graph.{Graph, AreValues, fits_width}
use Rattle.bv_rules.specs.declared.plan.PlanId.TheVariants.{Old, New}
use Rattle.bv_rules.specs.Plans.{IsView, SameValue, IsBeside, IsUnionLessCommon, same_plan, one_plan, step}
use Rattle.bv_rules.proofs.Viewing.{at_node, pair_of, second_child, width_read, index_same, word_in, pair_bound, Pair}
use Rattle.bv_rules.proofs.Found.{beside_value, node_wide}
use Rattle.bv_words.proofs.WordLaws as laws

pub xor_nest : (g : Graph) (n : Node) (a b p q y : NodeId) (ch : List (Option Node)) → n ≡ Xor a b → slice_index_or ch 1 None ≡ Some (Xor p q) → IsBeside p q a y → IsView g n ch → SameValue g n (same_plan y)
xor_nest g n a b p q y ch is child found view = at_node g n (Xor a b) (same_plan y) ch is view (λ v0 input values h.
    let node : slice_get g.nodes b.0 ≡ Some (Xor p q) = second_child g (Xor a b) (Xor p q) ch refl v0 child in
    let value : slice_index values b.0 ≡ bit_xor (slice_index values a.0) (slice_index values y.0) = h.each b.0 (Xor p q) node ∙ beside_value bit_xor xor_comm values p q a y found in
    rw value (sym (laws.xor_nest (slice_index values a.0) (slice_index values y.0))))

pub xor_not : (g : Graph) (n : Node) (a b x : NodeId) (w k : ℕ) (ch : List (Option Node)) → n ≡ Xor a b → slice_index_or ch 1 None ≡ Some (Not x) → x ≡ a → Some w ≡ slice_get g.widths a.0 → k ≡ 2 ^ w - 1 → IsView g n ch → SameValue g n (one_plan (step (Const w k) (New 0) (New 0) (New 0)))
xor_not g n a b x w k ch is child same width ones view = at_node g n (Xor a b) (one_plan (step (Const w k) (New 0) (New 0) (New 0))) ch is view (λ v0 input values h.
    let node : slice_get g.nodes b.0 ≡ Some (Not x) = second_child g (Xor a b) (Not x) ch refl v0 child in
    let value : slice_index values b.0 ≡ bit_not w (slice_index values a.0) = h.each b.0 (Not x) node ∙ ap (λ (j : NodeId). bit_not (slice_index g.widths j.0) (slice_index values j.0)) same ∙ ap (λ (u : ℕ). bit_not u (slice_index values a.0)) (width_read g a w width) in
    rw value (ones ∙ sym (laws.xor_not w (slice_index values a.0))))

pub plus_neg : (g : Graph) (n : Node) (a b x : NodeId) (w : ℕ) (ch : List (Option Node)) → n ≡ Plus a b → slice_index_or ch 1 None ≡ Some (Neg x) → x ≡ a → Some w ≡ slice_get g.widths a.0 → IsView g n ch → SameValue g n (one_plan (step (Const w 0) (New 0) (New 0) (New 0)))
plus_neg g n a b x w ch is child same width view = at_node g n (Plus a b) (one_plan (step (Const w 0) (New 0) (New 0) (New 0))) ch is view (λ v0 input values h.
    let node : slice_get g.nodes b.0 ≡ Some (Neg x) = second_child g (Plus a b) (Neg x) ch refl v0 child in
    let e : slice_index g.widths a.0 ≡ w = width_read g a w width in
    let f = h.words a.0 w (sym width) in
    let value : slice_index values b.0 ≡ neg w (slice_index values a.0) = h.each b.0 (Neg x) node ∙ ap (λ (j : NodeId). neg (slice_index g.widths j.0) (slice_index values j.0)) same ∙ ap (λ (u : ℕ). neg u (slice_index values a.0)) e in
    rw (value, e) (sym (laws.plus_neg w (slice_index values a.0) f.within)))

-- the width of each node of a graph is the one that its children give
abbrev Fits : Graph → Type 0
Fits g = (k : ℕ) (m : Node) → slice_get g.nodes k ≡ Some m → fits_width g m ≡ slice_get g.widths k

pub union_in_order : (g : Graph) (input values : List ℕ) (union less x y : NodeId) → Fits g → AreValues g input values → IsUnionLessCommon g union less x y → IsSome (slice_get g.widths union.0) → IsSome (slice_get g.widths less.0) → slice_index g.widths less.0 ≡ slice_index g.widths union.0 → plus (slice_index g.widths union.0) (slice_index values union.0) (slice_index values less.0) ≡ bit_xor (slice_index values x.0) (slice_index values y.0)
union_in_order g input values union less x y graph h u left right same =
    let common : NodeId = u.1.0 in
    let p : NodeId = u.1.1 in
    let q : NodeId = u.1.2 in
    let negated : slice_get g.nodes less.0 ≡ Some (Neg common) = u.1.3 in
    let shared : slice_get g.nodes common.0 ≡ Some (And p q) = u.1.4 in
    let found : IsBeside p q x y = u.1.5 in
    let either : slice_index values union.0 ≡ bit_or (slice_index values x.0) (slice_index values y.0) = h.each union.0 (Or x y) u.0 in
    let both : slice_index values common.0 ≡ bit_and (slice_index values x.0) (slice_index values y.0) = h.each common.0 (And p q) shared ∙ beside_value bit_and and_comm values p q x y found in
    let wide : slice_get g.widths common.0 ≡ slice_get g.widths less.0 = graph less.0 (Neg common) negated in
    let there : IsSome (slice_get g.widths common.0) = subst (λ (o : Option ℕ). IsSome o) (sym wide) right in
    let w : slice_index g.widths common.0 ≡ slice_index g.widths union.0 = sym (index_same g.widths less.0 common.0 wide there) ∙ same in
    let own : same_width (slice_get g.widths x.0) (slice_get g.widths y.0) ≡ slice_get g.widths union.0 = graph union.0 (Or x y) u.0 in
    let pair = pair_of g x y (subst (λ (o : Option ℕ). IsSome o) (sym own) left) in
    let e : slice_index g.widths x.0 ≡ slice_index g.widths union.0 = node_wide g x y union own left in
    let first : slice_index values x.0 < 2 ^ slice_index g.widths union.0 = subst (λ (k : ℕ). slice_index values x.0 < 2 ^ k) e (word_in g input values x.0 h pair.left).within in
    let second : slice_index values y.0 < 2 ^ slice_index g.widths union.0 = subst (λ (k : ℕ). slice_index values y.0 < 2 ^ k) e (pair_bound g x y input values h pair) in
    let lesser : slice_index values less.0 ≡ neg (slice_index g.widths union.0) (bit_and (slice_index values x.0) (slice_index values y.0)) = h.each less.0 (Neg common) negated ∙ rw (w, both) refl in
    rw (either, lesser) (laws.union_less_common (slice_index g.widths union.0) (slice_index values x.0) (slice_index values y.0) first second)

pub union_less_common : (g : Graph) (n : Node) (a b x y : NodeId) (ch : List (Option Node)) → n ≡ Plus a b → IsUnionLessCommon g a b x y ⊎ IsUnionLessCommon g b a x y → IsView g n ch → SameValue g n (one_plan (step (Xor x y) (Old x) (Old y) (New 0)))
union_less_common g n a b x y ch is u view = at_node g n (Plus a b) (one_plan (step (Xor x y) (Old x) (Old y) (New 0))) ch is view (λ v0 input values h. sym (sum u v0.graph (pair_of g a b v0.view.fits) input values h))
  where
    sum : IsUnionLessCommon g a b x y ⊎ IsUnionLessCommon g b a x y → Fits g → Pair g a b → (input values : List ℕ) → AreValues g input values → plus (slice_index g.widths a.0) (slice_index values a.0) (slice_index values b.0) ≡ bit_xor (slice_index values x.0) (slice_index values y.0)
    sum (inl u) graph pair input values h = union_in_order g input values a b x y graph h u pair.left pair.right pair.same
    sum (inr u) graph pair input values h = laws.plus_comm (slice_index g.widths a.0) (slice_index values a.0) (slice_index values b.0) ∙ ap (λ (w : ℕ). plus w (slice_index values b.0) (slice_index values a.0)) (sym pair.same) ∙ union_in_order g input values b a x y graph h u pair.right pair.left (sym pair.same)
