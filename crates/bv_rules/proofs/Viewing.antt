-- What a view tells: the words of children, and which of them are constants.
use Rattle.std.proofs.Common.{◌≡◌, ℕ, ◌<◌, ◌^◌, true, List, refl, sym, ◌∙◌, ap, subst, Option, Some, None, ◌≤◌, ◌-◌, ◌+◌, arith, []}
use Rattle.std.specs.Prelude.{slice_get, slice_index, slice_index_or, IsSome, IfSome, nat_lt}
use Rattle.std.proofs.lemmas.Option.{get_or_from_slice_get}
use Rattle.dag.specs.declared.node.NodeId.{NodeId}
use Rattle.dag.specs.declared.node.Node.{Node}
use Rattle.dag.specs.declared.node.Node.TheVariants.{Const}
use Rattle.dag.specs.Node.{children, first, second, third, IsWord, same_width, choice_width, constant_width, cut_width}
use Rattle.dag.specs.Graph.{Graph, AreValues}
use Rattle.dag.proofs.Growing.{some_of}
use Rattle.std.proofs.lemmas.Nat.{pow_pos}
use Rattle.bv_words.specs.Words.{cat, slice}
use Rattle.dag.proofs.Inverting.{same_of, choice_of, constant_fits, cut_fits}
use Rattle.bv_rules.specs.declared.plan.Plan.{Plan}
use Rattle.bv_rules.specs.Plans.{IsView, seen, IsSound, SameValue, KeepsIf, IsConst, value_at, plan_values, steps, moved_up}

-- a law at the node that the code has matched
pub at_node : (g : Graph) (n m : Node) (p : Plan) (ch : List (Option Node)) → n ≡ m → IsView g n ch → (IsView g m ch → SameValue g m p) → SameValue g n p
at_node g n m p ch e v f = subst (λ (k : Node). SameValue g k p) (sym e) (f (subst (λ (k : Node). IsView g k ch) e v))

-- a plan that passed the gate and has the value is kept
pub keeps : (g : Graph) (n : Node) (p q : Plan) (r : Option Plan) → q ≡ p → IfSome r (λ x. (x ≡ q) × IsSound g n x) → SameValue g n p → KeepsIf g n r
keeps g n p q (Some x) e h v = record { sound = h.1; value = subst (λ (k : Plan). SameValue g n k) (sym (h.0 ∙ e)) v }
keeps g n p q None e h v = tt

-- the word at a place
pub word_in : (g : Graph) (input values : List ℕ) (k : ℕ) → AreValues g input values → IsSome (slice_get g.widths k) → IsWord (slice_index g.widths k) (slice_index values k)
word_in g input values k h s =
    let w = some_of (slice_get g.widths k) s in
    h.words k (slice_index g.widths k) (w.1 ∙ ap Some (sym (get_or_from_slice_get g.widths k w.0 0 w.1)))

-- two children of one width
pub record Pair (g : Graph) (a b : NodeId) : Type 0 where
  pub left : IsSome (slice_get g.widths a.0)
  pub right : IsSome (slice_get g.widths b.0)
  pub same : slice_index g.widths b.0 ≡ slice_index g.widths a.0

pub pair_of : (g : Graph) (a b : NodeId) → IsSome (same_width (slice_get g.widths a.0) (slice_get g.widths b.0)) → Pair g a b
pair_of g a b s =
    let w = some_of (same_width (slice_get g.widths a.0) (slice_get g.widths b.0)) s in
    let p = same_of (slice_get g.widths a.0) (slice_get g.widths b.0) w.0 w.1 in
    record {
      left = subst (λ (o : Option ℕ). IsSome o) (sym p.0) refl;
      right = subst (λ (o : Option ℕ). IsSome o) (sym p.1) refl;
      same = get_or_from_slice_get g.widths b.0 w.0 0 p.1 ∙ sym (get_or_from_slice_get g.widths a.0 w.0 0 p.0);
    }

-- the graph's nodes at the children
pub first_child : (g : Graph) (n m : Node) (ch : List (Option Node)) → nat_lt 0 (children n).count ≡ true → IsView g n ch → slice_index_or ch 0 None ≡ Some m → slice_get g.nodes (first n) ≡ Some m
first_child g n m ch t v e = let s : seen g n 0 (first n) ≡ slice_get g.nodes (first n) = rw t refl in sym s ∙ sym v.view.first_is ∙ e

pub second_child : (g : Graph) (n m : Node) (ch : List (Option Node)) → nat_lt 1 (children n).count ≡ true → IsView g n ch → slice_index_or ch 1 None ≡ Some m → slice_get g.nodes (second n) ≡ Some m
second_child g n m ch t v e = let s : seen g n 1 (second n) ≡ slice_get g.nodes (second n) = rw t refl in sym s ∙ sym v.view.second_is ∙ e

pub third_child : (g : Graph) (n m : Node) (ch : List (Option Node)) → nat_lt 2 (children n).count ≡ true → IsView g n ch → slice_index_or ch 2 None ≡ Some m → slice_get g.nodes (third n) ≡ Some m
third_child g n m ch t v e = let s : seen g n 2 (third n) ≡ slice_get g.nodes (third n) = rw t refl in sym s ∙ sym v.view.third_is ∙ e

-- the values of children that are constants
pub first_const : (g : Graph) (n : Node) (ch : List (Option Node)) (c : ℕ) (input values : List ℕ) → nat_lt 0 (children n).count ≡ true → IsView g n ch → IsConst (slice_index_or ch 0 None) c → AreValues g input values → slice_index values (first n) ≡ c
first_const g n ch c input values t v k h = h.each (first n) (Const k.0 c) (first_child g n (Const k.0 c) ch t v k.1)

pub second_const : (g : Graph) (n : Node) (ch : List (Option Node)) (c : ℕ) (input values : List ℕ) → nat_lt 1 (children n).count ≡ true → IsView g n ch → IsConst (slice_index_or ch 1 None) c → AreValues g input values → slice_index values (second n) ≡ c
second_const g n ch c input values t v k h = h.each (second n) (Const k.0 c) (second_child g n (Const k.0 c) ch t v k.1)

pub third_const : (g : Graph) (n : Node) (ch : List (Option Node)) (c : ℕ) (input values : List ℕ) → nat_lt 2 (children n).count ≡ true → IsView g n ch → IsConst (slice_index_or ch 2 None) c → AreValues g input values → slice_index values (third n) ≡ c
third_const g n ch c input values t v k h = h.each (third n) (Const k.0 c) (third_child g n (Const k.0 c) ch t v k.1)

-- a width that the code has read
pub width_read : (g : Graph) (a : NodeId) (w : ℕ) → Some w ≡ slice_get g.widths a.0 → slice_index g.widths a.0 ≡ w
width_read g a w e = get_or_from_slice_get g.widths a.0 w 0 (sym e)

-- the second of two children fits the first one's width
pub pair_bound : (g : Graph) (a b : NodeId) (input values : List ℕ) → AreValues g input values → Pair g a b → slice_index values b.0 < 2 ^ slice_index g.widths a.0
pair_bound g a b input values h p = subst (λ (w : ℕ). slice_index values b.0 < 2 ^ w) p.same (word_in g input values b.0 h p.right).within

-- what a choice is by is a bit
pub chosen_bit : (g : Graph) (a b c : NodeId) → IsSome (choice_width (slice_get g.widths a.0) (same_width (slice_get g.widths b.0) (slice_get g.widths c.0))) → slice_get g.widths a.0 ≡ Some 1
chosen_bit g a b c s =
    let w = some_of (choice_width (slice_get g.widths a.0) (same_width (slice_get g.widths b.0) (slice_get g.widths c.0))) s in
    (choice_of (slice_get g.widths a.0) (same_width (slice_get g.widths b.0) (slice_get g.widths c.0)) w.0 w.1).0

pub index_same : (ws : List ℕ) (i j : ℕ) → slice_get ws j ≡ slice_get ws i → IsSome (slice_get ws j) → slice_index ws i ≡ slice_index ws j
index_same ws i j e s =
    let w = some_of (slice_get ws j) s in
    get_or_from_slice_get ws i w.0 0 (sym e ∙ w.1) ∙ sym (get_or_from_slice_get ws j w.0 0 w.1)

-- the value of a word moved up
pub moved_value : (g : Graph) (input values : List ℕ) (a : NodeId) (w k : ℕ) → Some w ≡ slice_get g.widths a.0 → 0 < k → k < w → w ≤ 64 → value_at values (plan_values g input values [] [] (steps (moved_up w a k))) (moved_up w a k).result ≡ cat (w - k) (slice (w - 1 - k) 0 (slice_index values a.0)) k 0
moved_value g input values a w k width some small wide =
    let c : constant_width k 0 ≡ Some k = constant_fits k 0 (omega arith) (omega arith) (pow_pos k) in
    let d : w - 1 - k - 0 + 1 ≡ w - k = omega arith in
    let s : cut_width (w - 1 - k) 0 (slice_get g.widths a.0) ≡ Some (w - 1 - k - 0 + 1) = rw (← width) (cut_fits (w - 1 - k) 0 w (omega arith) (omega arith)) in
    rw (c, s, d) refl
