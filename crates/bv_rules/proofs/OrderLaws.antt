-- The order of children: the lower place first, so that one sum is one node.
use Rattle.std.proofs.Common.{◌≡◌, List, Option}
use Rattle.std.specs.Prelude.{slice_index}
use Rattle.std.proofs.lemmas.Nat.{and_comm, or_comm, xor_comm}
use Rattle.dag.specs.declared.node.NodeId.{NodeId}
use Rattle.dag.specs.declared.node.Node.{Node}
use Rattle.dag.specs.declared.node.Node.TheVariants.{And, Or, Xor, Plus, Times, Eq}
use Rattle.dag.specs.Graph.{Graph}
use Rattle.bv_rules.specs.declared.plan.PlanId.TheVariants.{Old, New}
use Rattle.bv_rules.specs.Plans.{IsView, SameValue, one_plan, step}
use Rattle.bv_rules.proofs.Viewing.{at_node, pair_of}
use Rattle.bv_words.proofs.WordLaws as laws

pub and_swap : (g : Graph) (n : Node) (a b : NodeId) (ch : List (Option Node)) → n ≡ And a b → IsView g n ch → SameValue g n (one_plan (step (And b a) (Old b) (Old a) (New 0)))
and_swap g n a b ch is view = at_node g n (And a b) (one_plan (step (And b a) (Old b) (Old a) (New 0))) ch is view (λ v0 input values h.
    and_comm (slice_index values b.0) (slice_index values a.0))

pub or_swap : (g : Graph) (n : Node) (a b : NodeId) (ch : List (Option Node)) → n ≡ Or a b → IsView g n ch → SameValue g n (one_plan (step (Or b a) (Old b) (Old a) (New 0)))
or_swap g n a b ch is view = at_node g n (Or a b) (one_plan (step (Or b a) (Old b) (Old a) (New 0))) ch is view (λ v0 input values h.
    or_comm (slice_index values b.0) (slice_index values a.0))

pub xor_swap : (g : Graph) (n : Node) (a b : NodeId) (ch : List (Option Node)) → n ≡ Xor a b → IsView g n ch → SameValue g n (one_plan (step (Xor b a) (Old b) (Old a) (New 0)))
xor_swap g n a b ch is view = at_node g n (Xor a b) (one_plan (step (Xor b a) (Old b) (Old a) (New 0))) ch is view (λ v0 input values h.
    xor_comm (slice_index values b.0) (slice_index values a.0))

pub plus_swap : (g : Graph) (n : Node) (a b : NodeId) (ch : List (Option Node)) → n ≡ Plus a b → IsView g n ch → SameValue g n (one_plan (step (Plus b a) (Old b) (Old a) (New 0)))
plus_swap g n a b ch is view = at_node g n (Plus a b) (one_plan (step (Plus b a) (Old b) (Old a) (New 0))) ch is view (λ v0 input values h.
    let p = pair_of g a b v0.view.fits in rw p.same (laws.plus_comm (slice_index g.widths a.0) (slice_index values b.0) (slice_index values a.0)))

pub times_swap : (g : Graph) (n : Node) (a b : NodeId) (ch : List (Option Node)) → n ≡ Times a b → IsView g n ch → SameValue g n (one_plan (step (Times b a) (Old b) (Old a) (New 0)))
times_swap g n a b ch is view = at_node g n (Times a b) (one_plan (step (Times b a) (Old b) (Old a) (New 0))) ch is view (λ v0 input values h.
    let p = pair_of g a b v0.view.fits in rw p.same (laws.times_comm (slice_index g.widths a.0) (slice_index values b.0) (slice_index values a.0)))

pub eq_swap : (g : Graph) (n : Node) (a b : NodeId) (ch : List (Option Node)) → n ≡ Eq a b → IsView g n ch → SameValue g n (one_plan (step (Eq b a) (Old b) (Old a) (New 0)))
eq_swap g n a b ch is view = at_node g n (Eq a b) (one_plan (step (Eq b a) (Old b) (Old a) (New 0))) ch is view (λ v0 input values h.
    laws.eq_comm (slice_index values b.0) (slice_index values a.0))
