-- Quotients and remainders by constants, and of 0.
use Rattle.std.proofs.Common.{◌≡◌, ℕ, ◌+◌, ◌-◌, ◌%◌, ◌<◌, ◌≤◌, ◌^◌, List, refl, sym, ◌∙◌, ap, Option, Some, None, arith}
use Rattle.std.specs.Prelude.{slice_get, slice_index, slice_index_or}
use Rattle.std.proofs.lemmas.Nat.{and_mask, pow_pos}
use Rattle.std.proofs.Math.Nat.{div-zero, mod-zero, zero-div, zero-mod, div-one, mod_self}
use Rattle.bv_words.specs.Words.{udiv, urem, cat, slice}
use Rattle.bv_words.proofs.Laws.{shr_as_cat}
use Rattle.bv_words.proofs.CodeLemmas.{shr_in}
use Rattle.bv_words.proofs.DivisionLaws.{udiv_is, urem_is}
use Rattle.dag.specs.declared.node.NodeId.{NodeId}
use Rattle.dag.specs.declared.node.Node.{Node}
use Rattle.dag.specs.declared.node.Node.TheVariants.{Const, Udiv, Urem}
use Rattle.dag.specs.Node.{constant_width, cut_width}
use Rattle.dag.specs.Graph.{Graph}
use Rattle.dag.proofs.Inverting.{constant_fits, cut_fits}
use Rattle.bv_rules.specs.declared.plan.PlanId.TheVariants.{New}
use Rattle.bv_rules.specs.Plans.{IsView, SameValue, IsConst, same_plan, one_plan, step, moved_down, lowest}
use Rattle.bv_rules.proofs.Viewing.{at_node, first_const, second_const}
use Rattle.bv_rules.proofs.Found.{cat_any}
use Rattle.bv_words.proofs.PartLaws as parts

remainder_by_one : (x : ℕ) → x % 1 ≡ 0
remainder_by_one x = omega arith

pub udiv_zero : (g : Graph) (n : Node) (a b : NodeId) (w : ℕ) (ch : List (Option Node)) → n ≡ Udiv a b → IsConst (slice_index_or ch 1 None) 0 → IsView g n ch → SameValue g n (one_plan (step (Const w 0) (New 0) (New 0) (New 0)))
udiv_zero g n a b w ch is const view = at_node g n (Udiv a b) (one_plan (step (Const w 0) (New 0) (New 0) (New 0))) ch is view (λ v0 input values h.
    let y : slice_index values b.0 ≡ 0 = second_const g (Udiv a b) ch 0 input values refl v0 const h in
    rw y (sym (udiv_is (slice_index values a.0) 0 ∙ div-zero (slice_index values a.0))))

pub urem_zero : (g : Graph) (n : Node) (a b : NodeId) (ch : List (Option Node)) → n ≡ Urem a b → IsConst (slice_index_or ch 1 None) 0 → IsView g n ch → SameValue g n (same_plan a)
urem_zero g n a b ch is const view = at_node g n (Urem a b) (same_plan a) ch is view (λ v0 input values h.
    let y : slice_index values b.0 ≡ 0 = second_const g (Urem a b) ch 0 input values refl v0 const h in
    rw y (sym (urem_is (slice_index values a.0) 0 ∙ mod-zero (slice_index values a.0))))

pub zero_udiv : (g : Graph) (n : Node) (a b : NodeId) (w : ℕ) (ch : List (Option Node)) → n ≡ Udiv a b → IsConst (slice_index_or ch 0 None) 0 → IsView g n ch → SameValue g n (one_plan (step (Const w 0) (New 0) (New 0) (New 0)))
zero_udiv g n a b w ch is const view = at_node g n (Udiv a b) (one_plan (step (Const w 0) (New 0) (New 0) (New 0))) ch is view (λ v0 input values h.
    let y : slice_index values a.0 ≡ 0 = first_const g (Udiv a b) ch 0 input values refl v0 const h in
    rw y (sym (udiv_is 0 (slice_index values b.0) ∙ zero-div (slice_index values b.0))))

pub zero_urem : (g : Graph) (n : Node) (a b : NodeId) (w : ℕ) (ch : List (Option Node)) → n ≡ Urem a b → IsConst (slice_index_or ch 0 None) 0 → IsView g n ch → SameValue g n (one_plan (step (Const w 0) (New 0) (New 0) (New 0)))
zero_urem g n a b w ch is const view = at_node g n (Urem a b) (one_plan (step (Const w 0) (New 0) (New 0) (New 0))) ch is view (λ v0 input values h.
    let y : slice_index values a.0 ≡ 0 = first_const g (Urem a b) ch 0 input values refl v0 const h in
    rw y (sym (urem_is 0 (slice_index values b.0) ∙ zero-mod (slice_index values b.0))))

pub udiv_one : (g : Graph) (n : Node) (a b : NodeId) (ch : List (Option Node)) → n ≡ Udiv a b → IsConst (slice_index_or ch 1 None) 1 → IsView g n ch → SameValue g n (same_plan a)
udiv_one g n a b ch is const view = at_node g n (Udiv a b) (same_plan a) ch is view (λ v0 input values h.
    let y : slice_index values b.0 ≡ 1 = second_const g (Udiv a b) ch 1 input values refl v0 const h in
    rw y (sym (udiv_is (slice_index values a.0) 1 ∙ div-one (slice_index values a.0))))

pub urem_one : (g : Graph) (n : Node) (a b : NodeId) (w : ℕ) (ch : List (Option Node)) → n ≡ Urem a b → IsConst (slice_index_or ch 1 None) 1 → IsView g n ch → SameValue g n (one_plan (step (Const w 0) (New 0) (New 0) (New 0)))
urem_one g n a b w ch is const view = at_node g n (Urem a b) (one_plan (step (Const w 0) (New 0) (New 0) (New 0))) ch is view (λ v0 input values h.
    let y : slice_index values b.0 ≡ 1 = second_const g (Urem a b) ch 1 input values refl v0 const h in
    rw y (sym (urem_is (slice_index values a.0) 1 ∙ remainder_by_one (slice_index values a.0))))

pub urem_self : (g : Graph) (n : Node) (a b : NodeId) (w : ℕ) (ch : List (Option Node)) → n ≡ Urem a b → a ≡ b → IsView g n ch → SameValue g n (one_plan (step (Const w 0) (New 0) (New 0) (New 0)))
urem_self g n a b w ch is same view = at_node g n (Urem a a) (one_plan (step (Const w 0) (New 0) (New 0) (New 0))) ch (is ∙ ap (λ (k : NodeId). Urem a k) (sym same)) view (λ v0 input values h. sym (urem_is (slice_index values a.0) (slice_index values a.0) ∙ mod_self (slice_index values a.0)))

-- a quotient by a power of two is a word moved down, and a remainder its lowest bits
power_down : (w k x : ℕ) → k < w → x < 2 ^ w → udiv x (2 ^ k) ≡ cat k 0 (w - k) (slice (w - 1) k x)
power_down w k x small below = udiv_is x (2 ^ k) ∙ shr_in w x k small ∙ shr_as_cat w k x small below

power_low : (w k x : ℕ) → 1 ≤ k → urem x (2 ^ k) ≡ cat (w - k) 0 k (slice (k - 1) 0 x)
power_low w k x some = urem_is x (2 ^ k) ∙ sym (and_mask x k) ∙ parts.mask_low w k x some

pub udiv_power : (g : Graph) (n : Node) (a b : NodeId) (c w k : ℕ) (ch : List (Option Node)) → n ≡ Udiv a b → IsConst (slice_index_or ch 1 None) c → Some w ≡ slice_get g.widths a.0 → c ≡ 2 ^ k → 0 < k → k < w → IsView g n ch → SameValue g n (moved_down w a k)
udiv_power g n a b c w k ch is const width power some small view = at_node g n (Udiv a b) (moved_down w a k) ch is view (λ v0 input values h.
    let y : slice_index values b.0 ≡ 2 ^ k = second_const g (Udiv a b) ch c input values refl v0 const h ∙ power in
    let f = h.words a.0 w (sym width) in
    let z : constant_width k 0 ≡ Some k = constant_fits k 0 (omega arith) (omega (arith, f.high)) (pow_pos k) in
    let d : w - 1 - k + 1 ≡ w - k = omega arith in
    let s : cut_width (w - 1) k (slice_get g.widths a.0) ≡ Some (w - 1 - k + 1) = rw (← width) (cut_fits (w - 1) k w (omega arith) (omega arith)) in
    rw (y, z, s, d) (sym (power_down w k (slice_index values a.0) small f.within)))

pub urem_power : (g : Graph) (n : Node) (a b : NodeId) (c w k : ℕ) (ch : List (Option Node)) → n ≡ Urem a b → IsConst (slice_index_or ch 1 None) c → Some w ≡ slice_get g.widths a.0 → c ≡ 2 ^ k → 0 < k → k < w → IsView g n ch → SameValue g n (lowest (w - k) k a)
urem_power g n a b c w k ch is const width power some small view = at_node g n (Urem a b) (lowest (w - k) k a) ch is view (λ v0 input values h.
    let y : slice_index values b.0 ≡ 2 ^ k = second_const g (Urem a b) ch c input values refl v0 const h ∙ power in
    let d : k - 1 - 0 + 1 ≡ k = omega arith in
    let s : cut_width (k - 1) 0 (slice_get g.widths a.0) ≡ Some (k - 1 - 0 + 1) = rw (← width) (cut_fits (k - 1) 0 w (omega arith) (omega arith)) in
    rw (y, s, d) (cat_any _ (w - k) 0 k _ ∙ sym (power_low w k (slice_index values a.0) (omega arith))))
