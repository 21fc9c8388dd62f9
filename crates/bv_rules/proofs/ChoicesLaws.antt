-- Choices.
use Rattle.std.proofs.Common.{◌≡◌, ◌⊎◌, ℕ, List, refl, sym, ◌∙◌, ap, Option, Some, None, inl, inr}
use Rattle.std.specs.Prelude.{slice_get, slice_index, slice_index_or, nat_eq, cond, IsSome}
use Rattle.bv_words.specs.Words.{bit_not}
use Rattle.dag.specs.declared.node.NodeId.{NodeId}
use Rattle.dag.specs.declared.node.Node.{Node}
use Rattle.dag.specs.declared.node.Node.TheVariants.{Not, And, Or, Ite}
use Rattle.dag.specs.Node.{same_width, choice_width}
use Rattle.dag.specs.Graph.{Graph}
use Rattle.bv_rules.specs.declared.plan.PlanId.TheVariants.{Old, New}
use Rattle.bv_rules.specs.Plans.{IsView, SameValue, IsConst, same_plan, one_plan, step, chosen}
use Rattle.bv_rules.proofs.Viewing.{at_node, chosen_bit, first_child, first_const, second_child, second_const, third_child, third_const}
use Rattle.dag.proofs.Growing.{some_of, some_same}
use Rattle.dag.proofs.Inverting.{choice_of, same_of}
use Rattle.bv_words.proofs.WordLaws as laws
use Rattle.std.proofs.lemmas.Option.{get_or_from_slice_get}

pub ite_true : (g : Graph) (n : Node) (a b c : NodeId) (ch : List (Option Node)) → n ≡ Ite a b c → IsConst (slice_index_or ch 0 None) 1 → IsView g n ch → SameValue g n (same_plan b)
ite_true g n a b c ch is const view = at_node g n (Ite a b c) (same_plan b) ch is view (λ v0 input values h.
    let x : slice_index values a.0 ≡ 1 = first_const g (Ite a b c) ch 1 input values refl v0 const h in
    rw x refl)

pub ite_false : (g : Graph) (n : Node) (a b c : NodeId) (ch : List (Option Node)) → n ≡ Ite a b c → IsConst (slice_index_or ch 0 None) 0 → IsView g n ch → SameValue g n (same_plan c)
ite_false g n a b c ch is const view = at_node g n (Ite a b c) (same_plan c) ch is view (λ v0 input values h.
    let x : slice_index values a.0 ≡ 0 = first_const g (Ite a b c) ch 0 input values refl v0 const h in
    rw x refl)

pub ite_same : (g : Graph) (n : Node) (a b c : NodeId) (ch : List (Option Node)) → n ≡ Ite a b c → b ≡ c → IsView g n ch → SameValue g n (same_plan b)
ite_same g n a b c ch is same view = at_node g n (Ite a b b) (same_plan b) ch (is ∙ ap (λ (k : NodeId). Ite a b k) (sym same)) view (λ v0 input values h. sym (laws.same_arms (nat_eq (slice_index values a.0) 1) (slice_index values b.0)))

pub ite_not : (g : Graph) (n : Node) (a b c t : NodeId) (ch : List (Option Node)) → n ≡ Ite a b c → slice_index_or ch 0 None ≡ Some (Not t) → IsView g n ch → SameValue g n (one_plan (step (Ite t c b) (Old t) (Old c) (Old b)))
ite_not g n a b c t ch is child view = at_node g n (Ite a b c) (one_plan (step (Ite t c b) (Old t) (Old c) (Old b))) ch is view (λ v0 input values h.
    let node : slice_get g.nodes a.0 ≡ Some (Not t) = first_child g (Ite a b c) (Not t) ch refl v0 child in
    let bit : slice_get g.widths a.0 ≡ Some 1 = chosen_bit g a b c v0.view.fits in
    let wide : slice_get g.widths t.0 ≡ Some 1 = v0.graph a.0 (Not t) node ∙ bit in
    let f = h.words t.0 1 wide in
    let value : slice_index values a.0 ≡ bit_not 1 (slice_index values t.0) = h.each a.0 (Not t) node ∙ ap (λ (w : ℕ). bit_not w (slice_index values t.0)) (get_or_from_slice_get g.widths t.0 1 0 wide) in
    rw value (rw (laws.not_one (slice_index values t.0) f.within) (laws.turned (slice_index values t.0) (slice_index values b.0) (slice_index values c.0) f.within)))

pub ite_bit : (g : Graph) (n : Node) (a b c : NodeId) (ch : List (Option Node)) → n ≡ Ite a b c → IsConst (slice_index_or ch 1 None) 1 → IsConst (slice_index_or ch 2 None) 0 → IsView g n ch → SameValue g n (same_plan a)
ite_bit g n a b c ch is one zero_is view = at_node g n (Ite a b c) (same_plan a) ch is view (λ v0 input values h.
    let y : slice_index values b.0 ≡ 1 = second_const g (Ite a b c) ch 1 input values refl v0 one h in
    let z : slice_index values c.0 ≡ 0 = third_const g (Ite a b c) ch 0 input values refl v0 zero_is h in
    let f = h.words a.0 1 (chosen_bit g a b c v0.view.fits) in
    rw (y, z) (laws.chosen_bit (slice_index values a.0) f.within))

-- what is chosen by and what is chosen are bits
pub record Bits (g : Graph) (a b c : NodeId) : Type 0 where
  pub by : slice_get g.widths a.0 ≡ Some 1
  pub then : slice_get g.widths b.0 ≡ Some 1
  pub other : slice_get g.widths c.0 ≡ Some 1

pub bits_of : (g : Graph) (a b c k : NodeId) → IsSome (choice_width (slice_get g.widths a.0) (same_width (slice_get g.widths b.0) (slice_get g.widths c.0))) → (k ≡ b) ⊎ (k ≡ c) → Some 1 ≡ slice_get g.widths k.0 → Bits g a b c
bits_of g a b c k fits which one =
    let w = some_of (choice_width (slice_get g.widths a.0) (same_width (slice_get g.widths b.0) (slice_get g.widths c.0))) fits in
    let o = choice_of (slice_get g.widths a.0) (same_width (slice_get g.widths b.0) (slice_get g.widths c.0)) w.0 w.1 in
    let arms = same_of (slice_get g.widths b.0) (slice_get g.widths c.0) w.0 o.1 in
    let same : w.0 ≡ 1 = arm which arms.0 arms.1 in
    record { by = o.0; then = arms.0 ∙ ap Some same; other = arms.1 ∙ ap Some same }
  where
    arm : {w : ℕ} → (k ≡ b) ⊎ (k ≡ c) → slice_get g.widths b.0 ≡ Some w → slice_get g.widths c.0 ≡ Some w → w ≡ 1
    arm {w} (inl e) p q = some_same w 1 (sym p ∙ ap (λ (j : NodeId). slice_get g.widths j.0) (sym e) ∙ sym one)
    arm {w} (inr e) p q = some_same w 1 (sym q ∙ ap (λ (j : NodeId). slice_get g.widths j.0) (sym e) ∙ sym one)

pub ite_bit_turned : (g : Graph) (n : Node) (a b c : NodeId) (ch : List (Option Node)) → n ≡ Ite a b c → IsConst (slice_index_or ch 1 None) 0 → IsConst (slice_index_or ch 2 None) 1 → IsView g n ch → SameValue g n (one_plan (step (Not a) (Old a) (New 0) (New 0)))
ite_bit_turned g n a b c ch is zero_is one view = at_node g n (Ite a b c) (one_plan (step (Not a) (Old a) (New 0) (New 0))) ch is view (λ v0 input values h.
    let y : slice_index values b.0 ≡ 0 = second_const g (Ite a b c) ch 0 input values refl v0 zero_is h in
    let z : slice_index values c.0 ≡ 1 = third_const g (Ite a b c) ch 1 input values refl v0 one h in
    let bit : slice_get g.widths a.0 ≡ Some 1 = chosen_bit g a b c v0.view.fits in
    let f = h.words a.0 1 bit in
    rw (y, z, get_or_from_slice_get g.widths a.0 1 0 bit) (sym (laws.bit_turned (slice_index values a.0) f.within)))

pub ite_both : (g : Graph) (n : Node) (a b c : NodeId) (ch : List (Option Node)) → n ≡ Ite a b c → Some 1 ≡ slice_get g.widths b.0 → IsConst (slice_index_or ch 2 None) 0 → IsView g n ch → SameValue g n (one_plan (step (And a b) (Old a) (Old b) (New 0)))
ite_both g n a b c ch is width zero_is view = at_node g n (Ite a b c) (one_plan (step (And a b) (Old a) (Old b) (New 0))) ch is view (λ v0 input values h.
    let z : slice_index values c.0 ≡ 0 = third_const g (Ite a b c) ch 0 input values refl v0 zero_is h in
    let bits = bits_of g a b c b v0.view.fits (inl refl) width in
    rw z (sym (laws.both_bits (slice_index values a.0) (slice_index values b.0) (h.words a.0 1 bits.by).within (h.words b.0 1 bits.then).within)))

pub ite_either : (g : Graph) (n : Node) (a b c : NodeId) (ch : List (Option Node)) → n ≡ Ite a b c → Some 1 ≡ slice_get g.widths c.0 → IsConst (slice_index_or ch 1 None) 1 → IsView g n ch → SameValue g n (one_plan (step (Or a c) (Old a) (Old c) (New 0)))
ite_either g n a b c ch is width one view = at_node g n (Ite a b c) (one_plan (step (Or a c) (Old a) (Old c) (New 0))) ch is view (λ v0 input values h.
    let y : slice_index values b.0 ≡ 1 = second_const g (Ite a b c) ch 1 input values refl v0 one h in
    let bits = bits_of g a b c c v0.view.fits (inr refl) width in
    rw y (sym (laws.either_bit (slice_index values a.0) (slice_index values c.0) (h.words a.0 1 bits.by).within (h.words c.0 1 bits.other).within)))

pub ite_then_again : (g : Graph) (n : Node) (a b c t x y : NodeId) (ch : List (Option Node)) → n ≡ Ite a b c → slice_index_or ch 1 None ≡ Some (Ite t x y) → t ≡ a → IsView g n ch → SameValue g n (chosen a x c)
ite_then_again g n a b c t x y ch is child same view = at_node g n (Ite a b c) (chosen a x c) ch is view (λ v0 input values h.
    let node : slice_get g.nodes b.0 ≡ Some (Ite t x y) = second_child g (Ite a b c) (Ite t x y) ch refl v0 child in
    let value : slice_index values b.0 ≡ cond (nat_eq (slice_index values a.0) 1) (slice_index values x.0) (slice_index values y.0) = h.each b.0 (Ite t x y) node ∙ ap (λ (j : NodeId). cond (nat_eq (slice_index values j.0) 1) (slice_index values x.0) (slice_index values y.0)) same in
    rw value (sym (laws.then_again (nat_eq (slice_index values a.0) 1) (slice_index values x.0) (slice_index values y.0) (slice_index values c.0))))

pub ite_else_again : (g : Graph) (n : Node) (a b c t y z : NodeId) (ch : List (Option Node)) → n ≡ Ite a b c → slice_index_or ch 2 None ≡ Some (Ite t y z) → t ≡ a → IsView g n ch → SameValue g n (chosen a b z)
ite_else_again g n a b c t y z ch is child same view = at_node g n (Ite a b c) (chosen a b z) ch is view (λ v0 input values h.
    let node : slice_get g.nodes c.0 ≡ Some (Ite t y z) = third_child g (Ite a b c) (Ite t y z) ch refl v0 child in
    let value : slice_index values c.0 ≡ cond (nat_eq (slice_index values a.0) 1) (slice_index values y.0) (slice_index values z.0) = h.each c.0 (Ite t y z) node ∙ ap (λ (j : NodeId). cond (nat_eq (slice_index values j.0) 1) (slice_index values y.0) (slice_index values z.0)) same in
    rw value (sym (laws.else_again (nat_eq (slice_index values a.0) 1) (slice_index values b.0) (slice_index values y.0) (slice_index values z.0))))
