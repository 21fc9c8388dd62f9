-- What a table of retained nodes says of a graph: each node may be read as its retained node.
use Rattle.std.specs.Prelude.{◌≡◌, ℕ, Some, List, length, slice_get, slice_index}
use Rattle.dag.specs.Graph.{Graph, AreValues}
use Rattle.merge_table.specs.Table.{IsFlat}

-- two nodes have the same value on each input
abbrev pub AlwaysEqual : Graph → ℕ → ℕ → Type 0
AlwaysEqual g a b = (input values : List ℕ) → AreValues g input values → slice_index values a ≡ slice_index values b

-- each node's retained node stands no later, is retained by itself, and has the node's width and its value on each input
pub record KeepsValues (g : Graph) (table : List ℕ) : Type 0 where
  pub size : length table ≡ length g.nodes
  pub flat : IsFlat table
  pub widths : (k r : ℕ) → slice_get table k ≡ Some r → slice_get g.widths r ≡ slice_get g.widths k
  pub values : (k r : ℕ) → slice_get table k ≡ Some r → AlwaysEqual g r k
