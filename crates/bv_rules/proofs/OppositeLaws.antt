-- Opposites: negation twice, and exclusive or with all ones.
use Rattle.std.proofs.Common.{◌≡◌, ℕ, ◌-◌, ◌^◌, List, refl, sym, ◌∙◌, subst, Option, Some, None}
use Rattle.std.specs.Prelude.{slice_get, slice_index, slice_index_or, IsSome}
use Rattle.std.proofs.lemmas.Nat.{xor_comm}
use Rattle.bv_words.specs.Words.{bit_not, neg}
use Rattle.dag.specs.declared.node.NodeId.{NodeId}
use Rattle.dag.specs.declared.node.Node.{Node}
use Rattle.dag.specs.declared.node.Node.TheVariants.{Not, Xor, Neg}
use Rattle.dag.specs.Graph.{Graph}
use Rattle.bv_rules.specs.declared.plan.PlanId.TheVariants.{Old, New}
use Rattle.bv_rules.specs.Plans.{IsView, SameValue, IsConst, same_plan, one_plan, step}
use Rattle.bv_rules.proofs.Viewing.{at_node, word_in, index_same, first_child, first_const, second_const, width_read}
use Rattle.bv_words.proofs.WordLaws as laws

pub not_not : (g : Graph) (n : Node) (a b : NodeId) (ch : List (Option Node)) → n ≡ Not a → slice_index_or ch 0 None ≡ Some (Not b) → IsView g n ch → SameValue g n (same_plan b)
not_not g n a b ch is child view = at_node g n (Not a) (same_plan b) ch is view (λ v0 input values h.
    let node : slice_get g.nodes a.0 ≡ Some (Not b) = first_child g (Not a) (Not b) ch refl v0 child in
    let wide : slice_get g.widths b.0 ≡ slice_get g.widths a.0 = v0.graph a.0 (Not b) node in
    let there : IsSome (slice_get g.widths b.0) = subst (λ (o : Option ℕ). IsSome o) (sym wide) v0.view.fits in
    let w : slice_index g.widths a.0 ≡ slice_index g.widths b.0 = index_same g.widths a.0 b.0 wide there in
    let value : slice_index values a.0 ≡ bit_not (slice_index g.widths b.0) (slice_index values b.0) = h.each a.0 (Not b) node in
    rw (value, w) (sym (laws.not_not (slice_index g.widths b.0) (slice_index values b.0) (word_in g input values b.0 h there).within)))

pub neg_neg : (g : Graph) (n : Node) (a b : NodeId) (ch : List (Option Node)) → n ≡ Neg a → slice_index_or ch 0 None ≡ Some (Neg b) → IsView g n ch → SameValue g n (same_plan b)
neg_neg g n a b ch is child view = at_node g n (Neg a) (same_plan b) ch is view (λ v0 input values h.
    let node : slice_get g.nodes a.0 ≡ Some (Neg b) = first_child g (Neg a) (Neg b) ch refl v0 child in
    let wide : slice_get g.widths b.0 ≡ slice_get g.widths a.0 = v0.graph a.0 (Neg b) node in
    let there : IsSome (slice_get g.widths b.0) = subst (λ (o : Option ℕ). IsSome o) (sym wide) v0.view.fits in
    let w : slice_index g.widths a.0 ≡ slice_index g.widths b.0 = index_same g.widths a.0 b.0 wide there in
    let value : slice_index values a.0 ≡ neg (slice_index g.widths b.0) (slice_index values b.0) = h.each a.0 (Neg b) node in
    rw (value, w) (sym (laws.neg_neg (slice_index g.widths b.0) (slice_index values b.0) (word_in g input values b.0 h there).within)))

pub xor_ones : (g : Graph) (n : Node) (a b : NodeId) (w v : ℕ) (ch : List (Option Node)) → n ≡ Xor a b → IsConst (slice_index_or ch 1 None) v → Some w ≡ slice_get g.widths a.0 → v ≡ 2 ^ w - 1 → IsView g n ch → SameValue g n (one_plan (step (Not a) (Old a) (New 0) (New 0)))
xor_ones g n a b w v ch is const width mask view = at_node g n (Xor a b) (one_plan (step (Not a) (Old a) (New 0) (New 0))) ch is view (λ v0 input values h.
    let e : slice_index g.widths a.0 ≡ w = width_read g a w width in
    let y : slice_index values b.0 ≡ 2 ^ w - 1 = second_const g (Xor a b) ch v input values refl v0 const h ∙ mask in
    rw (e, y) (laws.xor_ones w (slice_index values a.0)))

pub ones_xor : (g : Graph) (n : Node) (a b : NodeId) (w v : ℕ) (ch : List (Option Node)) → n ≡ Xor a b → IsConst (slice_index_or ch 0 None) v → Some w ≡ slice_get g.widths b.0 → v ≡ 2 ^ w - 1 → IsView g n ch → SameValue g n (one_plan (step (Not b) (Old b) (New 0) (New 0)))
ones_xor g n a b w v ch is const width mask view = at_node g n (Xor a b) (one_plan (step (Not b) (Old b) (New 0) (New 0))) ch is view (λ v0 input values h.
    let e : slice_index g.widths b.0 ≡ w = width_read g b w width in
    let y : slice_index values a.0 ≡ 2 ^ w - 1 = first_const g (Xor a b) ch v input values refl v0 const h ∙ mask in
    rw (e, y) (laws.xor_ones w (slice_index values b.0) ∙ xor_comm (slice_index values b.0) (2 ^ w - 1)))
