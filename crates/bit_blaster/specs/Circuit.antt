-- Lists of nodes in which each child stands before its parent: their widths, values and charges from front to back.
--
-- A leaf has the width that it names, whatever the shape of the input.
use Rattle.std.specs.Prelude.{◌≡◌, ℕ, ◌+◌, ◌^◌, ◌<◌, ◌≤◌, List, [], ◌∷◌, ◌++◌, Option, Some, IsSome, unwrap_or, length, take, slice_get, slice_index}
use Rattle.dag.specs.Node.{node_width, node_value, node_charge, when, is_width}
use Rattle.dag.specs.declared.node.Node.{Node}
use Rattle.dag.specs.declared.node.Node.TheVariants.{Leaf}

-- the width of a node over nodes of these widths, or None where it doesn't fit
abbrev pub width_in : List ℕ → Node → Option ℕ
width_in widths (Leaf w i) = when (is_width w) w
width_in widths n = node_width [] widths n

-- the same, and 0 where it doesn't fit
abbrev pub own_width : List ℕ → Node → ℕ
own_width widths n = unwrap_or (width_in widths n) 0

-- the charge of a node over nodes of these widths
abbrev pub charge : List ℕ → Node → ℕ
charge widths n = node_charge widths (own_width widths n) n

-- widths are from 1 to 64
abbrev pub AreWide : List ℕ → Type 0
AreWide widths = (k w : ℕ) → slice_get widths k ≡ Some w → (1 ≤ w) × (w ≤ 64)

-- each node fits the nodes before it
abbrev pub AreFitting : List ℕ → List Node → Type 0
AreFitting widths [] = Unit {0}
AreFitting widths (n ∷ ns) = IsSome (width_in widths n) × AreFitting (widths ++ own_width widths n ∷ []) ns

abbrev pub IsCircuit : List Node → Type 0
IsCircuit nodes = AreFitting [] nodes

-- the charges of nodes after nodes of these widths, together
unfoldable pub charges : List ℕ → List Node → ℕ
charges widths [] = 0
charges widths (n ∷ ns) = charge widths n + charges (widths ++ own_width widths n ∷ []) ns

-- the charges of a circuit's nodes together
abbrev pub units : List Node → ℕ
units nodes = charges [] nodes

-- the widths of nodes, after those of the nodes before them
unfoldable pub widths_from : List ℕ → List Node → List ℕ
widths_from widths [] = widths
widths_from widths (n ∷ ns) = widths_from (widths ++ own_width widths n ∷ []) ns

abbrev pub widths_of : List Node → List ℕ
widths_of nodes = widths_from [] nodes

-- the values of nodes on an input, after those of the nodes before them
unfoldable pub values_from : List ℕ → List ℕ → List ℕ → List Node → List ℕ
values_from input widths values [] = values
values_from input widths values (n ∷ ns) = values_from input (widths ++ own_width widths n ∷ []) (values ++ node_value input widths values n ∷ []) ns

abbrev pub values_of : List ℕ → List Node → List ℕ
values_of input nodes = values_from input [] [] nodes

-- an input's number fits a leaf
abbrev pub FitsLeaf : List ℕ → Node → Type 0
FitsLeaf input (Leaf w i) = slice_index input i < 2 ^ w
FitsLeaf input n = Unit {0}

-- an input fits all leaves
abbrev pub FitsLeaves : List ℕ → List Node → Type 0
FitsLeaves input [] = Unit {0}
FitsLeaves input (n ∷ ns) = FitsLeaf input n × FitsLeaves input ns

-- the most units that are made into clauses
abbrev pub most_units : ℕ
most_units = 16777216

-- the nodes have these widths: each fits the ones before it
pub record HaveWidths (nodes : List Node) (widths : List ℕ) : Type 0 where
  pub size : length widths ≡ length nodes
  pub each : (k : ℕ) (n : Node) → slice_get nodes k ≡ Some n → width_in (take k widths) n ≡ Some (slice_index widths k)

-- nodes of these widths have these values on an input
pub record HaveValues (input : List ℕ) (nodes : List Node) (widths values : List ℕ) : Type 0 where
  pub size : length values ≡ length nodes
  pub each : (k : ℕ) (n : Node) → slice_get nodes k ≡ Some n → slice_index values k ≡ node_value input widths values n
