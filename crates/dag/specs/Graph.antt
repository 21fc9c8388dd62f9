-- Graphs of word operations: their nodes in order, the values of these on an input, and how graphs grow.
use Rattle.std.specs.Prelude.{◌≡◌, ◌⊎◌, ◌≢◌, ℕ, ◌+◌, ◌^◌, ◌<◌, ◌≤◌, Option, Some, List, [], ◌∷◌, ◌++◌, length, take, slice_get, slice_index, unwrap_or, Bool, nat_eq}
use Rattle.std.specs.List.{Contains, AllPairs}
use Rattle.axe_io.specs.Shapes.{ShapeParts, leaf_widths}
use Rattle.axe_io.specs.Inputs.{IsInput}
use Rattle.dag.specs.declared.node.NodeId.{NodeId}
use Rattle.dag.specs.declared.node.Node.{Node}
use Rattle.dag.specs.declared.node.Node.TheVariants.{Const}
use Rattle.dag.specs.declared.graph.DagError.{DagError}
use Rattle.dag.specs.declared.graph.DagError.TheVariants.{Full, Memory}
use Rattle.dag.specs.Node.{node_width, node_value, values_from, IsWord, charges, node_charge}

-- the nodes in the order of their places, their widths, the shape whose leaves they read, and the greatest number of nodes
pub record Graph : Type 0 where
  pub nodes : List Node
  pub widths : List ℕ
  pub shape : ShapeParts
  pub limit : ℕ

-- the widths of the leaves that a graph's nodes read
abbrev pub leaves_of : Graph → List ℕ
leaves_of g = leaf_widths g.shape.params

-- the width of a node over a graph, or None where it doesn't fit
abbrev pub fits_width : Graph → Node → Option ℕ
fits_width g n = node_width (leaves_of g) g.widths n

-- a list without repeats
abbrev pub NoRepeats : List Node → Type 0
NoRepeats ns = AllPairs (λ m n. m ≢ n) ns

-- what holds of each graph
pub record IsGraph (g : Graph) : Type 0 where
  pub fitting : (k : ℕ) (n : Node) → slice_get g.nodes k ≡ Some n → node_width (leaves_of g) (take k g.widths) n ≡ Some (slice_index g.widths k)
  pub size : length g.widths ≡ length g.nodes
  pub wide : (k w : ℕ) → slice_get g.widths k ≡ Some w → (1 ≤ w) × (w ≤ 64)
  pub distinct : NoRepeats g.nodes
  pub zero_is : slice_get g.nodes 0 ≡ Some (Const 1 0)
  pub one_is : slice_get g.nodes 1 ≡ Some (Const 1 1)
  pub within : length g.nodes ≤ g.limit
  pub small : g.limit ≤ 2 ^ 31

-- the values of a graph's nodes on an input, from front to back
abbrev pub node_values : Graph → List ℕ → List ℕ
node_values g input = values_from input g.widths [] g.nodes

-- these are values of a graph's nodes on an input, place by place
pub record AreValues (g : Graph) (input values : List ℕ) : Type 0 where
  pub inside : IsInput (leaves_of g) input
  pub words : (k w : ℕ) → slice_get g.widths k ≡ Some w → IsWord w (slice_index values k)
  pub each : (k : ℕ) (n : Node) → slice_get g.nodes k ≡ Some n → slice_index values k ≡ node_value input g.widths values n

-- each input has values, which are those from front to back, and has no others
pub record HasValues (g : Graph) : Type 0 where
  pub some : (input : List ℕ) → IsInput (leaves_of g) input → AreValues g input (node_values g input)
  pub only : (input values : List ℕ) → AreValues g input values → (k : ℕ) → k < length g.nodes → slice_index values k ≡ slice_index (node_values g input) k

-- the second graph is the first with more nodes: what is known of values and widths stays
pub record Extends (old new : Graph) : Type 0 where
  pub values : (input values : List ℕ) → AreValues new input values → AreValues old input values
  pub widths : (k w : ℕ) → slice_get old.widths k ≡ Some w → slice_get new.widths k ≡ Some w
  pub nodes : (k : ℕ) (n : Node) → slice_get old.nodes k ≡ Some n → slice_get new.nodes k ≡ Some n
  pub fits : (n : Node) (w : ℕ) → fits_width old n ≡ Some w → fits_width new n ≡ Some w
  pub shape : new.shape ≡ old.shape
  pub limit : new.limit ≡ old.limit
  pub size : length old.nodes ≤ length new.nodes

-- the second graph is the first with more nodes, and has at a place a node of this node's width and value
pub record Makes (old new : Graph) (node : Node) (place : ℕ) : Type 0 where
  pub grows : Extends old new
  pub width : slice_get new.widths place ≡ fits_width old node
  pub value : (input values : List ℕ) → AreValues new input values → slice_index values place ≡ node_value input new.widths values node

-- a node stands at a place already, and nothing changes
pub record Stands (old new : Graph) (node : Node) (place : ℕ) : Type 0 where
  pub at : slice_get old.nodes place ≡ Some node
  pub same : new ≡ old

-- a node that is new stands at the end
pub record Appends (old new : Graph) (node : Node) (place : ℕ) : Type 0 where
  pub absent : Contains old.nodes node → ⊥
  pub at : place ≡ length old.nodes
  pub grown : new ≡ record old { nodes = old.nodes ++ node ∷ []; widths = old.widths ++ unwrap_or (fits_width old node) 0 ∷ [] }

-- a node's one place
abbrev pub Adds : Graph → Graph → Node → ℕ → Type 0
Adds old new node place = Stands old new node place ⊎ Appends old new node place

-- why a node can't be added to nodes: it is new, and there are as many nodes as there may be, or memory is wanting
abbrev pub AddFails : List Node → ℕ → Node → DagError → Type 0
AddFails nodes limit node (Full named) = (Contains nodes node → ⊥) × (length nodes ≡ limit) × (named ≡ limit)
AddFails nodes limit node Memory = (Contains nodes node → ⊥) × (length nodes < limit)

-- why a graph can't be begun: its limit is below the two nodes that each graph has, or memory is wanting
abbrev pub BeginFails : ℕ → DagError → Type 0
BeginFails limit (Full named) = (limit < 2) × (named ≡ limit)
BeginFails limit Memory = 2 ≤ limit

-- the graph that a limit and a shape begin with: its nodes are the two words of width 1
abbrev pub first_graph : ℕ → ShapeParts → Graph
first_graph limit shape = record { nodes = Const 1 0 ∷ Const 1 1 ∷ []; widths = 1 ∷ 1 ∷ []; shape = shape; limit = limit }

-- the charges of all nodes of a graph
abbrev pub graph_charge : Graph → ℕ
graph_charge g = charges g.widths g.widths g.nodes

-- the charge that a node has over a graph
abbrev pub charge_in : Graph → Node → ℕ
charge_in g n = node_charge g.widths (unwrap_or (fits_width g n) 0) n

-- at most so many nodes more, whose charges together are at most so many units
pub record Costs (old new : Graph) (count sum : ℕ) : Type 0 where
  pub nodes : length new.nodes ≤ length old.nodes + count
  pub units : graph_charge new ≤ graph_charge old + sum

-- a place of a list of widths has this width
abbrev pub HasWidth : List ℕ → ℕ → ℕ → Type 0
HasWidth widths k w = slice_get widths k ≡ Some w

-- whether a node of width 1 is 1
abbrev pub is_on : List ℕ → NodeId → Bool
is_on values id = nat_eq (slice_index values id.0) 1

-- a node has this width, and on each input the value that comes from all nodes' values so
pub record Tells (g : Graph) (w : ℕ) (f : List ℕ → ℕ) (id : NodeId) : Type 0 where
  pub wide : HasWidth g.widths id.0 w
  pub is : (input values : List ℕ) → AreValues g input values → slice_index values id.0 ≡ f values

-- the second graph is the first with at most so many nodes more, whose charges together are at most so many units
pub record Grows (old new : Graph) (count sum : ℕ) : Type 0 where
  pub extends : Extends old new
  pub costs : Costs old new count sum

-- what inserting a node makes of nodes and their widths: nothing, where it stands at the place, or one node more
pub record Finds (old new : List Node) (before after : List ℕ) (node : Node) (place : ℕ) : Type 0 where
  pub at : slice_get old place ≡ Some node
  pub nodes : new ≡ old
  pub widths : after ≡ before

pub record Pushes (old new : List Node) (before after : List ℕ) (node : Node) (width place : ℕ) : Type 0 where
  pub absent : Contains old node → ⊥
  pub at : place ≡ length old
  pub nodes : new ≡ old ++ node ∷ []
  pub widths : after ≡ before ++ width ∷ []

abbrev pub Inserts : List Node → List Node → List ℕ → List ℕ → Node → ℕ → ℕ → Type 0
Inserts old new before after node width place = Finds old new before after node place ⊎ Pushes old new before after node width place
