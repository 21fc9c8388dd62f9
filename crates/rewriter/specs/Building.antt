-- Building a node: a plan's nodes are placed one after another, and what is added is counted.
use Rattle.std.specs.Prelude.{◌≡◌, ℕ, ◌+◌, ◌-◌, ◌^◌, ◌<◌, ◌≤◌, min, Option, Some, None, List, [], ◌∷◌, length, map, slice_get, slice_index, slice_index_or}
use Rattle.dag.specs.declared.node.NodeId.{NodeId}
use Rattle.dag.specs.declared.node.Node.{Node}
use Rattle.dag.specs.declared.graph.DagError.{DagError}
use Rattle.dag.specs.declared.graph.DagError.TheVariants.{Full, Memory}
use Rattle.dag.specs.Node.{no_node, with_children, node_value}
use Rattle.dag.specs.Graph.{Graph, AreValues, Extends, graph_charge, fits_width, charge_in}
use Rattle.bv_rules.specs.declared.plan.PlanId.{PlanId}
use Rattle.bv_rules.specs.declared.plan.PlanId.TheVariants.{Old, New}
use Rattle.bv_rules.specs.declared.plan.PlanNode.{PlanNode}
use Rattle.bv_rules.specs.declared.plan.Plan.{Plan}
use Rattle.bv_rules.specs.Plans.{step_child, plan_widths, plan_values, plan_charge}
use Rattle.rewriter.specs.declared.building.Charge.{Charge}

-- a count that stands still at its type's end
abbrev pub counted : ℕ → ℕ → ℕ
counted count more = min (count + more) (2 ^ 64 - 1)

-- the nodes that a graph gained were counted, and their charges
pub record IsCounted (before after : Charge) (old new : Graph) : Type 0 where
  pub added : after.added ≡ counted before.added (length new.nodes - length old.nodes)
  pub units : after.units ≡ counted before.units (graph_charge new - graph_charge old)
  pub more : length old.nodes ≤ length new.nodes
  pub dearer : graph_charge old ≤ graph_charge new

-- Full only where the graph holds as many nodes as it may, and Memory only where it holds fewer
abbrev pub BuildFails : Graph → DagError → Type 0
BuildFails g (Full limit) = (length g.nodes ≡ g.limit) × (limit ≡ g.limit)
BuildFails g Memory = length g.nodes < g.limit

-- the node of the graph that an id of a plan stands for, once the plan's first nodes have these places
abbrev pub resolve : List NodeId → PlanId → NodeId
resolve ids (Old k) = k
resolve ids (New i) = slice_index_or ids i no_node

-- a plan's node over the graph
abbrev pub placed : List NodeId → PlanNode → Node
placed ids p = with_children p.node (resolve ids (step_child p 0) ∷ resolve ids (step_child p 1) ∷ resolve ids (step_child p 2) ∷ [])

-- the widths and values at places
abbrev pub widths_at : List ℕ → List NodeId → List ℕ
widths_at widths ids = map (λ (id : NodeId). slice_index widths id.0) ids

abbrev pub values_at : List ℕ → List NodeId → List ℕ
values_at values ids = map (λ (id : NodeId). slice_index values id.0) ids

-- each place has a width
abbrev pub AreInside : List ℕ → List NodeId → Type 0
AreInside widths ids = (i : ℕ) (id : NodeId) → slice_get ids i ≡ Some id → slice_get widths id.0 ≡ Some (slice_index widths id.0)

-- a plan over g has been placed up to the nodes to do: what these give after the places gives what all give
pub record IsPlaced (g now : Graph) (ids : List NodeId) (todo all : List PlanNode) : Type 0 where
  pub grows : Extends g now
  pub inside : AreInside now.widths ids
  pub widths : plan_widths g (widths_at now.widths ids) todo ≡ plan_widths g [] all
  pub values : (input values : List ℕ) → AreValues now input values → plan_values g input values (widths_at now.widths ids) (values_at values ids) todo ≡ plan_values g input values [] [] all
  pub nodes : length now.nodes ≤ length g.nodes + length ids
  pub units : graph_charge now + plan_charge g (widths_at now.widths ids) todo ≤ graph_charge g + plan_charge g [] all

-- a node of another's width and value, and no dearer
pub record IsLike (g : Graph) (asked node : Node) : Type 0 where
  pub width : fits_width g node ≡ fits_width g asked
  pub value : (input values : List ℕ) → AreValues g input values → node_value input g.widths values node ≡ node_value input g.widths values asked
  pub charge : charge_in g node ≤ charge_in g asked

-- a plan adds no node: it is a node of the graph
abbrev pub IsPresent : Option Plan → NodeId → Type 0
IsPresent None id = ⊥
IsPresent (Some p) id = (p.count ≡ 0) × (p.result ≡ Old id)
