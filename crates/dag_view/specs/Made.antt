-- What a view is made of.
use Rattle.std.specs.Prelude.{◌≡◌, ℕ, Some, List, length, slice_get}
use Rattle.dag.specs.Graph.{Graph, IsGraph, leaves_of, fits_width}
use Rattle.dag.specs.declared.node.Node.{Node}
use Rattle.dag_view.specs.View.{ViewParts, IsTableOf}
use Rattle.dag_view.specs.Under.{AreUnder, AreWidthsOf, ArePlaced}
use Rattle.dag_view.specs.declared.expanded.Expanded.{Expanded}
use Rattle.dag_view.specs.declared.place.Placed.{Placed}

-- the nodes of a graph that stand under a pair, placed, with their widths and the places of the pair
pub record IsMade (g : Graph) (table : List ℕ) (e : Expanded) (v : ViewParts) : Type 0 where
  pub graph : IsGraph g
  pub fits : (k : ℕ) (n : Node) → slice_get g.nodes k ≡ Some n → fits_width g n ≡ slice_get g.widths k
  pub tabled : IsTableOf g table
  pub under : AreUnder g table e v.a v.b v.ids
  pub measured : AreWidthsOf g v.ids v.widths
  pub size : length v.nodes ≡ length v.ids
  pub placed : ArePlaced g table e v.ids v.widths v.leaves v.nodes
  pub first_at : slice_get v.ids v.first ≡ Some v.a
  pub second_at : slice_get v.ids v.second ≡ Some v.b
  pub same : slice_get g.widths v.a ≡ slice_get g.widths v.b
  pub many : v.leaves ≡ length (leaves_of g)

-- the view of what was placed
abbrev pub view_of : Placed → ℕ → ℕ → ViewParts
view_of p a b = record { nodes = p.nodes.items; widths = p.widths.items; ids = p.ids.items; first = p.first; second = p.second; a = a; b = b; leaves = p.leaves }
