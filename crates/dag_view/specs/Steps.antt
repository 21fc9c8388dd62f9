-- Nodes by the number of steps that they stand below two.
use Rattle.std.specs.Prelude.{◌≡◌, ◌⊎◌, ◌↔◌, ℕ, zero, suc, ◌<◌, ◌≤◌, Option, Some, None, List, length, slice_get, slice_index}
use Rattle.dag.specs.Graph.{Graph}
use Rattle.dag.specs.declared.node.Node.{Node}
use Rattle.dag_view.specs.View.{ViewParts, IsFree, IsWhole}
use Rattle.dag_view.specs.Under.{IsBelow, Among}

-- a node stands at most so many steps below one of two, where a child stands for the node that retains it
unfoldable pub Reaches : Graph → List ℕ → ℕ → ℕ → ℕ → ℕ → Type 0
Reaches g table a b zero k = (k ≡ a) ⊎ (k ≡ b)
Reaches g table a b (suc n) k = Reaches g table a b n k ⊎ ((p : ℕ) × Reaches g table a b n p × IsBelow g table p k)

-- a node's shortest way down has fewer than so many steps
abbrev pub IsWithin : Graph → List ℕ → ℕ → ℕ → ℕ → ℕ → Type 0
IsWithin g table a b zero k = ⊥
IsWithin g table a b (suc n) k = Reaches g table a b n k

-- the nodes whose shortest way down has fewer steps, and no others, stand with their definitions; all where no number
-- of steps is given
abbrev pub IsCutAt : Graph → List ℕ → ℕ → ℕ → Option ℕ → ViewParts → Type 0
IsCutAt g table a b None v = IsWhole v
IsCutAt g table a b (Some n) v = (k : ℕ) (m : Node) → slice_get v.nodes k ≡ Some m → IsFree v k m ↔ (IsWithin g table a b n (slice_index v.ids k) → ⊥)

-- what retains a child of each of some nodes is met too, and nothing else that wasn't
pub record AddsLevel (g : Graph) (table : List ℕ) (from upto : ℕ) (old new : List ℕ) : Type 0 where
  pub more : (k x : ℕ) → slice_get old k ≡ Some x → slice_get new k ≡ Some x
  pub children : (k p x : ℕ) → from ≤ k → k < upto → slice_get old k ≡ Some p → IsBelow g table p x → Among new x
  pub only : (x : ℕ) → Among new x → Among old x ⊎ ((p : ℕ) × Among old p × IsBelow g table p x)

-- the nodes that were met are those at most so many steps below, and what retains a child of each of the first is met
pub record AreReached (g : Graph) (table : List ℕ) (a b steps : ℕ) (met : List ℕ) (from : ℕ) : Type 0 where
  pub inside : (x : ℕ) → Among met x → x < length g.nodes
  pub reached : (x : ℕ) → Among met x ↔ Reaches g table a b steps x
  pub closed : (k p x : ℕ) → k < from → slice_get met k ≡ Some p → IsBelow g table p x → Among met x
