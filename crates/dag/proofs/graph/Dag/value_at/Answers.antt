use Rattle.std.proofs.Common.{◌≡◌, ℕ, ◌<◌, ◌≤◌, take, List, length, sym, ◌∙◌, ap, subst, arith, Some, length-set}
use Rattle.std.specs.Prelude.{slice_get}
use Rattle.std.specs.Option.{option_copied}
use Rattle.axe_io.specs.Inputs.{IsInput}
use Rattle.dag.specs.Node.{node_value}
use Rattle.dag.specs.Graph.{Graph, AreValues, leaves_of, node_values}
use Rattle.dag.proofs.Values.{written_more, written_all, values_are}
use Rattle.dag.proofs.graph.Dag.value_at.Goals as goal

pub loop-i-preserved : goal.loop-i-preserved
loop-i-preserved c =
    let g : Graph = record { nodes = c.self.inside.nodes.keys; widths = c.self.inside.widths.items; shape = c.self.inside.shape; limit = c.self.inside.limit } in
    let lt : c.loop-i.i < length c.self.inside.nodes.keys = omega (arith, c.self.invariant.size, c.self.inside.widths.ok.0) in
    let at : slice_get c.self.inside.nodes.keys c.loop-i.i ≡ Some c.unwrap-node.result.now = sym c.get_index.ensures.key ∙ ap option_copied c.unwrap-node.ensures in
    let inside : IsInput (leaves_of g) c.args.input.now = subst (λ (h : Graph). IsInput (leaves_of h) c.args.input.now) (sym c.self.view_is) c.requires.input in
    let leaves : c.node_value.result ≡ node_value c.args.input.now c.deref.result.now (take c.loop-i.i c.loop-i.values) c.unwrap-node.result.now = subst (λ (xs : List ℕ). c.node_value.result ≡ node_value xs c.deref.result.now (take c.loop-i.i c.loop-i.values) c.unwrap-node.result.now) c.leaves-leaves.ensures c.node_value.ensures in
    let value = subst (λ (ws : List ℕ). c.node_value.result ≡ node_value c.args.input.now ws (take c.loop-i.i c.loop-i.values) c.unwrap-node.result.now) c.deref.ensures.value leaves in
    record {
      first = written_more g c.args.input.now c.loop-i.values c.loop-i.i c.node_value.result c.unwrap-node.result.now c.self.invariant inside c.loop-i.invariant.size lt at value c.loop-i.invariant.first;
      size = length-set _ _ _ ∙ c.loop-i.invariant.size;
    }

pub returns-clause-values : goal.returns-clause-values
returns-clause-values c =
    let g : Graph = record { nodes = c.self.inside.nodes.keys; widths = c.self.inside.widths.items; shape = c.self.inside.shape; limit = c.self.inside.limit } in
    let inside : IsInput (leaves_of g) c.args.input.now = subst (λ (h : Graph). IsInput (leaves_of h) c.args.input.now) (sym c.self.view_is) c.requires.input in
    let end : length c.self.inside.nodes.keys ≤ c.loop-i.i = omega (arith, c.self.invariant.size, c.self.inside.widths.ok.0) in
    let hold : AreValues g c.args.input.now c.loop-i.values = written_all g c.args.input.now c.loop-i.values c.loop-i.i c.self.invariant inside c.loop-i.invariant.size end c.loop-i.invariant.first in
    subst (λ (h : Graph). c.loop-i.values ≡ node_values h c.args.input.now) c.self.view_is (values_are g c.args.input.now c.loop-i.values c.self.invariant hold c.loop-i.invariant.size)

pub returns-clause-hold : goal.returns-clause-hold
returns-clause-hold c =
    let g : Graph = record { nodes = c.self.inside.nodes.keys; widths = c.self.inside.widths.items; shape = c.self.inside.shape; limit = c.self.inside.limit } in
    let inside : IsInput (leaves_of g) c.args.input.now = subst (λ (h : Graph). IsInput (leaves_of h) c.args.input.now) (sym c.self.view_is) c.requires.input in
    let end : length c.self.inside.nodes.keys ≤ c.loop-i.i = omega (arith, c.self.invariant.size, c.self.inside.widths.ok.0) in
    subst (λ (h : Graph). AreValues h c.args.input.now c.loop-i.values) c.self.view_is (written_all g c.args.input.now c.loop-i.values c.loop-i.i c.self.invariant inside c.loop-i.invariant.size end c.loop-i.invariant.first)
