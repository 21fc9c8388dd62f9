-- Equal children.
use Rattle.std.proofs.Common.{◌≡◌, ℕ, List, sym, ◌∙◌, ap, Option}
use Rattle.std.specs.Prelude.{slice_index}
use Rattle.std.specs.Int.Bits.{and_self as and_self_bits, or_self as or_self_bits, xor_self as xor_self_bits}
use Rattle.dag.specs.declared.node.NodeId.{NodeId}
use Rattle.dag.specs.declared.node.Node.{Node}
use Rattle.dag.specs.declared.node.Node.TheVariants.{Const, And, Or, Xor, Eq, Ult, Slt}
use Rattle.dag.specs.Graph.{Graph}
use Rattle.bv_rules.specs.declared.plan.PlanId.TheVariants.{New}
use Rattle.bv_rules.specs.Plans.{IsView, SameValue, same_plan, one_plan, step}
use Rattle.bv_rules.proofs.Viewing.{at_node}
use Rattle.bv_words.proofs.WordLaws as laws

pub and_self : (g : Graph) (n : Node) (a b : NodeId) (ch : List (Option Node)) → n ≡ And a b → a ≡ b → IsView g n ch → SameValue g n (same_plan a)
and_self g n a b ch is same view = at_node g n (And a a) (same_plan a) ch (is ∙ ap (λ (k : NodeId). And a k) (sym same)) view (λ v0 input values h. sym (and_self_bits (slice_index values a.0)))

pub or_self : (g : Graph) (n : Node) (a b : NodeId) (ch : List (Option Node)) → n ≡ Or a b → a ≡ b → IsView g n ch → SameValue g n (same_plan a)
or_self g n a b ch is same view = at_node g n (Or a a) (same_plan a) ch (is ∙ ap (λ (k : NodeId). Or a k) (sym same)) view (λ v0 input values h. sym (or_self_bits (slice_index values a.0)))

pub xor_self : (g : Graph) (n : Node) (a b : NodeId) (w : ℕ) (ch : List (Option Node)) → n ≡ Xor a b → a ≡ b → IsView g n ch → SameValue g n (one_plan (step (Const w 0) (New 0) (New 0) (New 0)))
xor_self g n a b w ch is same view = at_node g n (Xor a a) (one_plan (step (Const w 0) (New 0) (New 0) (New 0))) ch (is ∙ ap (λ (k : NodeId). Xor a k) (sym same)) view (λ v0 input values h. sym (xor_self_bits (slice_index values a.0)))

pub eq_self : (g : Graph) (n : Node) (a b : NodeId) (ch : List (Option Node)) → n ≡ Eq a b → a ≡ b → IsView g n ch → SameValue g n (one_plan (step (Const 1 1) (New 0) (New 0) (New 0)))
eq_self g n a b ch is same view = at_node g n (Eq a a) (one_plan (step (Const 1 1) (New 0) (New 0) (New 0))) ch (is ∙ ap (λ (k : NodeId). Eq a k) (sym same)) view (λ v0 input values h. sym (laws.eq_self (slice_index values a.0)))

pub ult_self : (g : Graph) (n : Node) (a b : NodeId) (ch : List (Option Node)) → n ≡ Ult a b → a ≡ b → IsView g n ch → SameValue g n (one_plan (step (Const 1 0) (New 0) (New 0) (New 0)))
ult_self g n a b ch is same view = at_node g n (Ult a a) (one_plan (step (Const 1 0) (New 0) (New 0) (New 0))) ch (is ∙ ap (λ (k : NodeId). Ult a k) (sym same)) view (λ v0 input values h. sym (laws.ult_self (slice_index values a.0)))

pub slt_self : (g : Graph) (n : Node) (a b : NodeId) (ch : List (Option Node)) → n ≡ Slt a b → a ≡ b → IsView g n ch → SameValue g n (one_plan (step (Const 1 0) (New 0) (New 0) (New 0)))
slt_self g n a b ch is same view = at_node g n (Slt a a) (one_plan (step (Const 1 0) (New 0) (New 0) (New 0))) ch (is ∙ ap (λ (k : NodeId). Slt a k) (sym same)) view (λ v0 input values h. sym (laws.slt_self (slice_index g.widths a.0) (slice_index values a.0)))
