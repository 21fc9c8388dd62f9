-- Comparisons with constants.
use Rattle.std.proofs.Common.{◌≡◌, ℕ, ◌-◌, ◌<◌, ◌≤◌, ◌^◌, List, refl, sym, ◌∙◌, ap, subst, Option, Some, None}
use Rattle.std.specs.Prelude.{slice_get, slice_index, slice_index_or, nat_eq, cond, IsSome}
use Rattle.bv_words.specs.Words.{chop, sx, one_if}
use Rattle.bv_words.proofs.Laws as word_laws
use Rattle.dag.specs.declared.node.NodeId.{NodeId}
use Rattle.dag.specs.declared.node.Node.{Node}
use Rattle.dag.specs.declared.node.Node.TheVariants.{Const, Not, Eq, Ult, Slt, Ite, Slice, Sext}
use Rattle.dag.specs.Node.{same_width, test_width}
use Rattle.dag.specs.Graph.{Graph, AreValues}
use Rattle.bv_rules.specs.declared.plan.PlanId.TheVariants.{Old, New}
use Rattle.bv_rules.specs.Plans.{IsView, SameValue, IsConst, IsConstAt, IsConstBeside, HasZerosAbove, same_plan, one_plan, step, with_constant}
use Rattle.bv_rules.proofs.Viewing.{at_node, chosen_bit, pair_of, second_const, width_read}
use Rattle.bv_rules.proofs.Found.{beside_const, const_value, rest_there, width_found}
use Rattle.bv_words.proofs.PartLaws as parts
use Rattle.bv_rules.proofs.RotationLaws.{lower_value}
use Rattle.bv_words.proofs.WordLaws as laws

-- what is compared has one width
pub compared_fit : (g : Graph) (a b : NodeId) → IsSome (test_width (same_width (slice_get g.widths a.0) (slice_get g.widths b.0))) → IsSome (same_width (slice_get g.widths a.0) (slice_get g.widths b.0))
compared_fit g a b s = reads (same_width (slice_get g.widths a.0) (slice_get g.widths b.0)) s
  where
    reads : (o : Option ℕ) → IsSome (test_width o) → IsSome o
    reads (Some w) h = refl
    reads None h = cc

pub slt_zero : (g : Graph) (n : Node) (a b : NodeId) (w : ℕ) (ch : List (Option Node)) → n ≡ Slt a b → IsConst (slice_index_or ch 1 None) 0 → Some w ≡ slice_get g.widths a.0 → IsView g n ch → SameValue g n (one_plan (step (Slice (w - 1) (w - 1) a) (Old a) (New 0) (New 0)))
slt_zero g n a b w ch is const width view = at_node g n (Slt a b) (one_plan (step (Slice (w - 1) (w - 1) a) (Old a) (New 0) (New 0))) ch is view (λ v0 input values h.
    let e : slice_index g.widths a.0 ≡ w = width_read g a w width in
    let y : slice_index values b.0 ≡ 0 = second_const g (Slt a b) ch 0 input values refl v0 const h in
    let f = h.words a.0 w (sym width) in
    rw (e, y) (sym (word_laws.slt_zero w (slice_index values a.0) f.low f.within)))

pub ult_zero : (g : Graph) (n : Node) (a b : NodeId) (ch : List (Option Node)) → n ≡ Ult a b → IsConst (slice_index_or ch 1 None) 0 → IsView g n ch → SameValue g n (one_plan (step (Const 1 0) (New 0) (New 0) (New 0)))
ult_zero g n a b ch is const view = at_node g n (Ult a b) (one_plan (step (Const 1 0) (New 0) (New 0) (New 0))) ch is view (λ v0 input values h.
    let y : slice_index values b.0 ≡ 0 = second_const g (Ult a b) ch 0 input values refl v0 const h in
    rw y (sym (laws.ult_zero (slice_index values a.0))))

-- equality as a number
abbrev equal : ℕ → ℕ → ℕ
equal x y = one_if (nat_eq x y)

pub bit_is_one : (g : Graph) (n : Node) (a b x : NodeId) (ch : List (Option Node)) → n ≡ Eq a b → IsConstBeside g a b x 1 → Some 1 ≡ slice_get g.widths x.0 → IsView g n ch → SameValue g n (same_plan x)
bit_is_one g n a b x ch is const width view = at_node g n (Eq a b) (same_plan x) ch is view (λ v0 input values h.
    let f = h.words x.0 1 (sym width) in
    sym (beside_const equal laws.eq_comm g input values a b x 1 h const ∙ laws.bit_is_one (slice_index values x.0) f.within))

pub bit_is_zero : (g : Graph) (n : Node) (a b x : NodeId) (ch : List (Option Node)) → n ≡ Eq a b → IsConstBeside g a b x 0 → Some 1 ≡ slice_get g.widths x.0 → IsView g n ch → SameValue g n (one_plan (step (Not x) (Old x) (New 0) (New 0)))
bit_is_zero g n a b x ch is const width view = at_node g n (Eq a b) (one_plan (step (Not x) (Old x) (New 0) (New 0))) ch is view (λ v0 input values h.
    let f = h.words x.0 1 (sym width) in
    rw (width_read g x 1 width) (sym (beside_const equal laws.eq_comm g input values a b x 0 h const ∙ laws.bit_is_zero (slice_index values x.0) f.within)))

pub eq_joint : (g : Graph) (n : Node) (a b m x : NodeId) (c k : ℕ) (ch : List (Option Node)) → n ≡ Eq a b → IsConstBeside g a b m c → HasZerosAbove g m x k → IsView g n ch → SameValue g n (with_constant (Eq x x) x k c)
eq_joint g n a b m x c k ch is const joint view = at_node g n (Eq a b) (with_constant (Eq x x) x k c) ch is view (λ v0 input values h.
    sym (beside_const equal laws.eq_comm g input values a b m c h const ∙ ap (λ (y : ℕ). equal y c) (lower_value g input values m x k h joint)))

pub eq_joint_past : (g : Graph) (n : Node) (a b m x : NodeId) (c k w : ℕ) (ch : List (Option Node)) → n ≡ Eq a b → IsConstBeside g a b m c → HasZerosAbove g m x k → Some w ≡ slice_get g.widths x.0 → 2 ^ w - 1 < c → IsView g n ch → SameValue g n (one_plan (step (Const 1 0) (New 0) (New 0) (New 0)))
eq_joint_past g n a b m x c k w ch is const joint width past view = at_node g n (Eq a b) (one_plan (step (Const 1 0) (New 0) (New 0) (New 0))) ch is view (λ v0 input values h.
    let f = h.words x.0 w (sym width) in
    sym (beside_const equal laws.eq_comm g input values a b m c h const ∙ ap (λ (y : ℕ). equal y c) (lower_value g input values m x k h joint) ∙ laws.eq_past w (slice_index values x.0) c f.within past))

pub ult_joint : (g : Graph) (n : Node) (a b x : NodeId) (c k : ℕ) (ch : List (Option Node)) → n ≡ Ult a b → IsConst (slice_index_or ch 1 None) c → HasZerosAbove g a x k → IsView g n ch → SameValue g n (with_constant (Ult x x) x k c)
ult_joint g n a b x c k ch is const joint view = at_node g n (Ult a b) (with_constant (Ult x x) x k c) ch is view (λ v0 input values h.
    let y : slice_index values b.0 ≡ c = second_const g (Ult a b) ch c input values refl v0 const h in
    rw (y, lower_value g input values a x k h joint) refl)

pub ult_one : (g : Graph) (n : Node) (a b : NodeId) (w : ℕ) (ch : List (Option Node)) → n ≡ Ult a b → IsConst (slice_index_or ch 1 None) 1 → IsView g n ch → SameValue g n (with_constant (Eq a a) a w 0)
ult_one g n a b w ch is const view = at_node g n (Ult a b) (with_constant (Eq a a) a w 0) ch is view (λ v0 input values h.
    let y : slice_index values b.0 ≡ 1 = second_const g (Ult a b) ch 1 input values refl v0 const h in
    rw y (sym (laws.ult_one (slice_index values a.0))))

pub eq_sext : (g : Graph) (n : Node) (a b m x : NodeId) (c w o k : ℕ) (ch : List (Option Node)) → n ≡ Eq a b → IsConstBeside g a b m c → Some (Sext w x) ≡ slice_get g.nodes m.0 → Some o ≡ slice_get g.widths x.0 → o ≤ w → k ≡ chop o c → sx w o k ≡ c → IsView g n ch → SameValue g n (with_constant (Eq x x) x o k)
eq_sext g n a b m x c w o k ch is const child width order low back view = at_node g n (Eq a b) (with_constant (Eq x x) x o k) ch is view (λ v0 input values h.
    let f = h.words x.0 o (sym width) in
    let value : slice_index values m.0 ≡ sx w o (slice_index values x.0) = h.each m.0 (Sext w x) (sym child) ∙ ap (λ (u : ℕ). sx w u (slice_index values x.0)) (width_read g x o width) in
    sym (beside_const equal laws.eq_comm g input values a b m c h const ∙ ap (λ (y : ℕ). equal y c) value ∙ ap one_if (parts.eq_sext w o (slice_index values x.0) c k f.low order f.within low back)))

-- the value of a choice between constants
pub choice_value : (g : Graph) (input values : List ℕ) (m t p q : NodeId) (u v : ℕ) → AreValues g input values → Some (Ite t p q) ≡ slice_get g.nodes m.0 → IsConstAt g p u → IsConstAt g q v → slice_index values m.0 ≡ cond (nat_eq (slice_index values t.0) 1) u v
choice_value g input values m t p q u v h node then other =
    h.each m.0 (Ite t p q) (sym node) ∙ rw (const_value g input values p u h then, const_value g input values q v h other) refl

pub choice_bit : (g : Graph) (a b m t p q : NodeId) (c : ℕ) (ch : List (Option Node)) → Some (Ite t p q) ≡ slice_get g.nodes m.0 → IsConstBeside g a b m c → IsView g (Eq a b) ch → IsSome (same_width (slice_get g.widths a.0) (slice_get g.widths b.0)) → slice_get g.widths t.0 ≡ Some 1
choice_bit g a b m t p q c ch node const view fits =
    let there = rest_there g a b m c (pair_of g a b fits) const in
    chosen_bit g t p q (subst (λ (o : Option ℕ). IsSome o) (sym (view.graph m.0 (Ite t p q) (sym node))) there)

pub eq_choice_then : (g : Graph) (n : Node) (a b m t p q : NodeId) (c u v : ℕ) (ch : List (Option Node)) → n ≡ Eq a b → IsConstBeside g a b m c → Some (Ite t p q) ≡ slice_get g.nodes m.0 → IsConstAt g p u → IsConstAt g q v → c ≡ u → (c ≡ v → ⊥) → IsView g n ch → SameValue g n (same_plan t)
eq_choice_then g n a b m t p q c u v ch is const node then other same apart view = at_node g n (Eq a b) (same_plan t) ch is view (λ v0 input values h.
    let f = h.words t.0 1 (choice_bit g a b m t p q c ch node const v0 (compared_fit g a b v0.view.fits)) in
    sym (beside_const equal laws.eq_comm g input values a b m c h const ∙ ap (λ (y : ℕ). equal y c) (choice_value g input values m t p q u v h node then other) ∙ laws.eq_choice_then (slice_index values t.0) u v c f.within same apart))

pub eq_choice_else : (g : Graph) (n : Node) (a b m t p q : NodeId) (c u v : ℕ) (ch : List (Option Node)) → n ≡ Eq a b → IsConstBeside g a b m c → Some (Ite t p q) ≡ slice_get g.nodes m.0 → IsConstAt g p u → IsConstAt g q v → c ≡ v → (c ≡ u → ⊥) → IsView g n ch → SameValue g n (one_plan (step (Not t) (Old t) (New 0) (New 0)))
eq_choice_else g n a b m t p q c u v ch is const node then other same apart view = at_node g n (Eq a b) (one_plan (step (Not t) (Old t) (New 0) (New 0))) ch is view (λ v0 input values h.
    let bit : slice_get g.widths t.0 ≡ Some 1 = choice_bit g a b m t p q c ch node const v0 (compared_fit g a b v0.view.fits) in
    let f = h.words t.0 1 bit in
    rw (width_found g t 1 bit) (sym (beside_const equal laws.eq_comm g input values a b m c h const ∙ ap (λ (y : ℕ). equal y c) (choice_value g input values m t p q u v h node then other) ∙ laws.eq_choice_else (slice_index values t.0) u v c f.within same apart)))
