-- Which nodes a view has: two nodes, and what retains the children of each that is expanded.
use Rattle.std.specs.Prelude.{◌≡◌, ◌⊎◌, ◌↔◌, ℕ, ◌+◌, ◌^◌, ◌<◌, ◌≤◌, Bool, true, false, nat_eq, Some, List, [], ◌∷◌, length, slice_get, slice_index}
use Rattle.indexmap.specs.IndexSet.{contains}
use Rattle.dag.specs.Graph.{Graph}
use Rattle.dag.specs.declared.node.Node.{Node}
use Rattle.dag.specs.declared.node.Node.TheVariants.{Leaf}
use Rattle.dag.specs.declared.node.NodeId.{NodeId}
use Rattle.dag.specs.Node.{with_children}
use Rattle.dag_view.specs.View.{ViewParts, IsFree, IsTableOf, arity, nth_child}
use Rattle.dag_view.specs.declared.expanded.Expanded.{Expanded}
use Rattle.dag_view.specs.declared.expanded.Expanded.TheVariants.{All, Only}

-- whether a node stands with its definition
abbrev pub expands : Expanded → ℕ → Bool
expands All k = true
expands (Only set) k = contains nat_eq set k

-- the nodes that are expanded, and no others, stand with their definitions
abbrev pub IsBySet : Expanded → ViewParts → Type 0
IsBySet e v = (k : ℕ) (m : Node) → slice_get v.nodes k ≡ Some m → IsFree v k m ↔ (expands e (slice_index v.ids k) ≡ false)

-- a number is one of a list
unfoldable pub Among : List ℕ → ℕ → Type 0
Among [] x = ⊥
Among (y ∷ ys) x = (y ≡ x) ⊎ Among ys x

-- the numbers rise
abbrev pub IsRising : List ℕ → Type 0
IsRising ids = (j k x y : ℕ) → j < k → slice_get ids j ≡ Some x → slice_get ids k ≡ Some y → x < y

-- the numbers fall
abbrev pub IsFalling : List ℕ → Type 0
IsFalling ids = (j k x y : ℕ) → j < k → slice_get ids j ≡ Some x → slice_get ids k ≡ Some y → y < x

-- a node retains one of the first children of a node
abbrev pub RetainsChild : List ℕ → Node → ℕ → ℕ → Type 0
RetainsChild table n count k = (i : ℕ) × (i < count) × (slice_get table (nth_child n i) ≡ Some k)

-- a node retains a child of another one
pub record IsBelow (g : Graph) (table : List ℕ) (parent k : ℕ) : Type 0 where
  pub node : Node
  pub at : slice_get g.nodes parent ≡ Some node
  pub retains : RetainsChild table node (arity node) k

-- what retains the first children of a node is added to a list, and nothing else
pub record AddsChildren (table : List ℕ) (n : Node) (count : ℕ) (old new : List ℕ) : Type 0 where
  pub more : (k : ℕ) → Among old k → Among new k
  pub children : (k : ℕ) → RetainsChild table n count k → Among new k
  pub only : (k : ℕ) → Among new k → Among old k ⊎ RetainsChild table n count k

-- a number waits, or has been taken
abbrev pub IsMet : List ℕ → List ℕ → ℕ → Type 0
IsMet waiting taken k = Among waiting k ⊎ Among taken k

-- from the last node back: the nodes that wait stand before a bound and those that were taken don't; what retains a
-- child of an expanded one that was taken is met, and each that is met is one of the two or such a one
pub record AreMet (g : Graph) (table : List ℕ) (e : Expanded) (a b : ℕ) (waiting taken : List ℕ) (bound : ℕ) : Type 0 where
  pub low : (k : ℕ) → Among waiting k → k < bound
  pub high : (k : ℕ) → Among taken k → bound ≤ k
  pub inside : (k : ℕ) → IsMet waiting taken k → k < length g.nodes
  pub falling : IsFalling taken
  pub first : IsMet waiting taken a
  pub second : IsMet waiting taken b
  pub closed : (p k : ℕ) → Among taken p → expands e p ≡ true → IsBelow g table p k → IsMet waiting taken k
  pub under : (k : ℕ) → IsMet waiting taken k → (k ≡ a) ⊎ (k ≡ b) ⊎ ((p : ℕ) × Among taken p × (expands e p ≡ true) × IsBelow g table p k)

-- two nodes and what retains a child of an expanded one, in rising order
pub record AreUnder (g : Graph) (table : List ℕ) (e : Expanded) (a b : ℕ) (ids : List ℕ) : Type 0 where
  pub rising : IsRising ids
  pub inside : (k : ℕ) → Among ids k → k < length g.nodes
  pub first : Among ids a
  pub second : Among ids b
  pub closed : (p k : ℕ) → Among ids p → expands e p ≡ true → IsBelow g table p k → Among ids k
  pub under : (k : ℕ) → Among ids k → (k ≡ a) ⊎ (k ≡ b) ⊎ ((p : ℕ) × Among ids p × (expands e p ≡ true) × IsBelow g table p k)

-- a node of a view whose nodes stand for these: an expanded one with the places of its children, or a free leaf
pub record IsPlacedWhole (g : Graph) (table ids : List ℕ) (id : ℕ) (m : Node) : Type 0 where
  pub node : Node
  pub at : slice_get g.nodes id ≡ Some node
  pub first : NodeId
  pub second : NodeId
  pub third : NodeId
  pub is : m ≡ with_children node (first ∷ second ∷ third ∷ [])
  pub children : (i r : ℕ) → i < arity node → slice_get table (nth_child node i) ≡ Some r → slice_get ids (nth_child m i) ≡ Some r

abbrev pub IsPlaced : Graph → List ℕ → Expanded → List ℕ → List ℕ → ℕ → ℕ → Node → Type 0
IsPlaced g table e ids widths leaves k m = ((expands e (slice_index ids k) ≡ true) × IsPlacedWhole g table ids (slice_index ids k) m) ⊎ ((expands e (slice_index ids k) ≡ false) × (m ≡ Leaf (slice_index widths k) (leaves + k)))

-- the nodes stand at the places of a list of the graph's nodes
pub record ArePlaced (g : Graph) (table : List ℕ) (e : Expanded) (ids widths : List ℕ) (leaves : ℕ) (nodes : List Node) : Type 0 where
  pub each : (k : ℕ) (m : Node) → slice_get nodes k ≡ Some m → IsPlaced g table e ids widths leaves k m

-- the widths of a graph's nodes
pub record AreWidthsOf (g : Graph) (ids widths : List ℕ) : Type 0 where
  pub size : length widths ≡ length ids
  pub each : (k id : ℕ) → slice_get ids k ≡ Some id → slice_get g.widths id ≡ Some (slice_index widths k)

-- nodes of a graph that can be placed: they rise, what retains a child of an expanded one is among them, and the indexes
-- of free leaves have room
pub record AreReady (g : Graph) (table : List ℕ) (e : Expanded) (ids widths : List ℕ) (leaves : ℕ) : Type 0 where
  pub tabled : IsTableOf g table
  pub inside : (k : ℕ) → Among ids k → k < length g.nodes
  pub rising : IsRising ids
  pub closed : (p k : ℕ) → Among ids p → expands e p ≡ true → IsBelow g table p k → Among ids k
  pub measured : AreWidthsOf g ids widths
  pub few : length ids ≤ 2 ^ 31
  pub low : leaves < 2 ^ 31
