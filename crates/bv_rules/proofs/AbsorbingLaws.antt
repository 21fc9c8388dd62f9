-- Absorbing constants: what a constant makes constant.
use Rattle.std.proofs.Common.{◌≡◌, ℕ, ◌-◌, ◌≤◌, ◌^◌, List, refl, sym, ◌∙◌, ap, Option, Some, None}
use Rattle.std.specs.Prelude.{slice_get, slice_index, slice_index_or, bit_or}
use Rattle.std.specs.Int.Bits.{and_zero_l}
use Rattle.std.proofs.lemmas.Nat.{and_comm, or_comm}
use Rattle.dag.specs.declared.node.NodeId.{NodeId}
use Rattle.dag.specs.declared.node.Node.{Node}
use Rattle.dag.specs.declared.node.Node.TheVariants.{Const, And, Or, Times, Shl, Shr}
use Rattle.dag.specs.Graph.{Graph}
use Rattle.bv_rules.specs.declared.plan.PlanId.TheVariants.{New}
use Rattle.bv_rules.specs.Plans.{IsView, SameValue, IsConst, one_plan, step}
use Rattle.bv_rules.proofs.Viewing.{at_node, first_const, second_const, width_read}
use Rattle.bv_words.proofs.WordLaws as laws

pub and_zero : (g : Graph) (n : Node) (a b : NodeId) (w : ℕ) (ch : List (Option Node)) → n ≡ And a b → IsConst (slice_index_or ch 1 None) 0 → IsView g n ch → SameValue g n (one_plan (step (Const w 0) (New 0) (New 0) (New 0)))
and_zero g n a b w ch is const view = at_node g n (And a b) (one_plan (step (Const w 0) (New 0) (New 0) (New 0))) ch is view (λ v0 input values h.
    let y : slice_index values b.0 ≡ 0 = second_const g (And a b) ch 0 input values refl v0 const h in
    rw y (sym (and_comm (slice_index values a.0) 0 ∙ and_zero_l (slice_index values a.0))))

pub zero_and : (g : Graph) (n : Node) (a b : NodeId) (w : ℕ) (ch : List (Option Node)) → n ≡ And a b → IsConst (slice_index_or ch 0 None) 0 → IsView g n ch → SameValue g n (one_plan (step (Const w 0) (New 0) (New 0) (New 0)))
zero_and g n a b w ch is const view = at_node g n (And a b) (one_plan (step (Const w 0) (New 0) (New 0) (New 0))) ch is view (λ v0 input values h.
    let y : slice_index values a.0 ≡ 0 = first_const g (And a b) ch 0 input values refl v0 const h in
    rw y (sym (and_zero_l (slice_index values b.0))))

pub times_zero : (g : Graph) (n : Node) (a b : NodeId) (w : ℕ) (ch : List (Option Node)) → n ≡ Times a b → IsConst (slice_index_or ch 1 None) 0 → IsView g n ch → SameValue g n (one_plan (step (Const w 0) (New 0) (New 0) (New 0)))
times_zero g n a b w ch is const view = at_node g n (Times a b) (one_plan (step (Const w 0) (New 0) (New 0) (New 0))) ch is view (λ v0 input values h.
    let y : slice_index values b.0 ≡ 0 = second_const g (Times a b) ch 0 input values refl v0 const h in
    rw y (sym (laws.times_zero (slice_index g.widths a.0) (slice_index values a.0))))

pub zero_times : (g : Graph) (n : Node) (a b : NodeId) (w : ℕ) (ch : List (Option Node)) → n ≡ Times a b → IsConst (slice_index_or ch 0 None) 0 → IsView g n ch → SameValue g n (one_plan (step (Const w 0) (New 0) (New 0) (New 0)))
zero_times g n a b w ch is const view = at_node g n (Times a b) (one_plan (step (Const w 0) (New 0) (New 0) (New 0))) ch is view (λ v0 input values h.
    let y : slice_index values a.0 ≡ 0 = first_const g (Times a b) ch 0 input values refl v0 const h in
    rw y (sym (laws.times_comm (slice_index g.widths a.0) 0 (slice_index values b.0) ∙ laws.times_zero (slice_index g.widths a.0) (slice_index values b.0))))

pub or_ones : (g : Graph) (n : Node) (a b : NodeId) (w v : ℕ) (ch : List (Option Node)) → n ≡ Or a b → IsConst (slice_index_or ch 1 None) v → Some w ≡ slice_get g.widths a.0 → v ≡ 2 ^ w - 1 → IsView g n ch → SameValue g n (one_plan (step (Const w v) (New 0) (New 0) (New 0)))
or_ones g n a b w v ch is const width mask view = at_node g n (Or a b) (one_plan (step (Const w v) (New 0) (New 0) (New 0))) ch is view (λ v0 input values h.
    let y : slice_index values b.0 ≡ v = second_const g (Or a b) ch v input values refl v0 const h in
    let f = h.words a.0 w (sym width) in
    rw y (sym (ap (bit_or (slice_index values a.0)) mask ∙ laws.or_ones w (slice_index values a.0) f.within ∙ sym mask)))

pub ones_or : (g : Graph) (n : Node) (a b : NodeId) (w v : ℕ) (ch : List (Option Node)) → n ≡ Or a b → IsConst (slice_index_or ch 0 None) v → Some w ≡ slice_get g.widths b.0 → v ≡ 2 ^ w - 1 → IsView g n ch → SameValue g n (one_plan (step (Const w v) (New 0) (New 0) (New 0)))
ones_or g n a b w v ch is const width mask view = at_node g n (Or a b) (one_plan (step (Const w v) (New 0) (New 0) (New 0))) ch is view (λ v0 input values h.
    let y : slice_index values a.0 ≡ v = first_const g (Or a b) ch v input values refl v0 const h in
    let f = h.words b.0 w (sym width) in
    rw y (sym (or_comm v (slice_index values b.0) ∙ ap (bit_or (slice_index values b.0)) mask ∙ laws.or_ones w (slice_index values b.0) f.within ∙ sym mask)))

pub zero_shl : (g : Graph) (n : Node) (a b : NodeId) (w : ℕ) (ch : List (Option Node)) → n ≡ Shl a b → IsConst (slice_index_or ch 0 None) 0 → IsView g n ch → SameValue g n (one_plan (step (Const w 0) (New 0) (New 0) (New 0)))
zero_shl g n a b w ch is const view = at_node g n (Shl a b) (one_plan (step (Const w 0) (New 0) (New 0) (New 0))) ch is view (λ v0 input values h.
    let y : slice_index values a.0 ≡ 0 = first_const g (Shl a b) ch 0 input values refl v0 const h in
    rw y (sym (laws.zero_shl (slice_index g.widths a.0) (slice_index values b.0))))

pub zero_shr : (g : Graph) (n : Node) (a b : NodeId) (w : ℕ) (ch : List (Option Node)) → n ≡ Shr a b → IsConst (slice_index_or ch 0 None) 0 → IsView g n ch → SameValue g n (one_plan (step (Const w 0) (New 0) (New 0) (New 0)))
zero_shr g n a b w ch is const view = at_node g n (Shr a b) (one_plan (step (Const w 0) (New 0) (New 0) (New 0))) ch is view (λ v0 input values h.
    let y : slice_index values a.0 ≡ 0 = first_const g (Shr a b) ch 0 input values refl v0 const h in
    rw y (sym (laws.zero_shr (slice_index g.widths a.0) (slice_index values b.0))))

pub shl_past : (g : Graph) (n : Node) (a b : NodeId) (w k : ℕ) (ch : List (Option Node)) → n ≡ Shl a b → IsConst (slice_index_or ch 1 None) k → Some w ≡ slice_get g.widths a.0 → w ≤ k → IsView g n ch → SameValue g n (one_plan (step (Const w 0) (New 0) (New 0) (New 0)))
shl_past g n a b w k ch is const width past view = at_node g n (Shl a b) (one_plan (step (Const w 0) (New 0) (New 0) (New 0))) ch is view (λ v0 input values h.
    let y : slice_index values b.0 ≡ k = second_const g (Shl a b) ch k input values refl v0 const h in
    let e : slice_index g.widths a.0 ≡ w = width_read g a w width in
    rw (y, e) (sym (laws.shl_past w (slice_index values a.0) k past)))

pub shr_past : (g : Graph) (n : Node) (a b : NodeId) (w k : ℕ) (ch : List (Option Node)) → n ≡ Shr a b → IsConst (slice_index_or ch 1 None) k → Some w ≡ slice_get g.widths a.0 → w ≤ k → IsView g n ch → SameValue g n (one_plan (step (Const w 0) (New 0) (New 0) (New 0)))
shr_past g n a b w k ch is const width past view = at_node g n (Shr a b) (one_plan (step (Const w 0) (New 0) (New 0) (New 0))) ch is view (λ v0 input values h.
    let y : slice_index values b.0 ≡ k = second_const g (Shr a b) ch k input values refl v0 const h in
    let e : slice_index g.widths a.0 ≡ w = width_read g a w width in
    rw (y, e) (sym (laws.shr_past w (slice_index values a.0) k past)))
