use Rattle.std.proofs.Common.{◌≡◌, ◌<◌, length, sym, ◌∙◌, subst, Some, inl, refl}
use Rattle.std.specs.Prelude.{slice_get}
use Rattle.dag.specs.Graph.{Graph, Makes, Costs, Inserts, fits_width, charge_in}
use Rattle.dag.proofs.Growing.{IsAdded, added, added_graph}
use Rattle.dag.proofs.graph.Dag.add.Goals as goal

pub returns-in-Some-clause-makes : goal.returns-in-Some-clause-makes
returns-in-Some-clause-makes c =
    let g : Graph = record { nodes = c.self.inside.nodes.keys; widths = c.self.inside.widths.items; shape = c.self.inside.shape; limit = c.self.inside.limit } in
    let new : Graph = record { nodes = c.self.inside.nodes.keys; widths = c.make_room.new.widths.items; shape = c.self.inside.shape; limit = c.self.inside.limit } in
    let fits : fits_width g c.args.node ≡ Some c.unwrap-width.result = subst (λ (h : Graph). fits_width h c.args.node ≡ Some c.unwrap-width.result) (sym c.self.view_is) (sym c.width_of.ensures.is ∙ c.unwrap-width.ensures) in
    let at : slice_get c.self.inside.nodes.keys c.in-Some.id.0 ≡ Some c.args.node = rw c.in-Some.is at c.in_ok-id.ensures.found in
    let place : Inserts g.nodes new.nodes g.widths new.widths c.args.node c.unwrap-width.result c.in-Some.id.0 = inl (record { at = at; nodes = refl; widths = c.in_ok-id.ensures.same }) in
    let all : IsAdded g new c.args.node c.in-Some.id.0 = added g c.args.node c.unwrap-width.result c.in-Some.id.0 new.nodes g.widths new.widths c.self.invariant fits refl place in
    subst (λ (h : Graph). Makes h new c.args.node c.in-Some.id.0) c.self.view_is all.makes

pub invariant_of-self-2 : goal.invariant_of-self-2
invariant_of-self-2 c =
    let g : Graph = record { nodes = c.self.inside.nodes.keys; widths = c.self.inside.widths.items; shape = c.self.inside.shape; limit = c.self.inside.limit } in
    let fits : fits_width g c.args.node ≡ Some c.unwrap-width.result = subst (λ (h : Graph). fits_width h c.args.node ≡ Some c.unwrap-width.result) (sym c.self.view_is) (sym c.width_of.ensures.is ∙ c.unwrap-width.ensures) in
    let room : length c.self.inside.nodes.keys < c.self.inside.limit = rw c.in_default.is at c.in_ok-id.ensures.found in
    added_graph g c.args.node c.unwrap-width.result c.in_ok-id-2.id.0 c.insert.new.nodes.keys c.make_room.new.widths.items c.insert.new.widths.items c.self.invariant fits c.in_ok-id.ensures.same room c.in_ok-id-2.ensures.distinct c.in_ok-id-2.ensures.place

pub returns-clause-makes : goal.returns-clause-makes
returns-clause-makes c =
    let g : Graph = record { nodes = c.self.inside.nodes.keys; widths = c.self.inside.widths.items; shape = c.self.inside.shape; limit = c.self.inside.limit } in
    let new : Graph = record { nodes = c.insert.new.nodes.keys; widths = c.insert.new.widths.items; shape = c.self.inside.shape; limit = c.self.inside.limit } in
    let fits : fits_width g c.args.node ≡ Some c.unwrap-width.result = subst (λ (h : Graph). fits_width h c.args.node ≡ Some c.unwrap-width.result) (sym c.self.view_is) (sym c.width_of.ensures.is ∙ c.unwrap-width.ensures) in
    let all : IsAdded g new c.args.node c.in_ok-id-2.id.0 = added g c.args.node c.unwrap-width.result c.in_ok-id-2.id.0 new.nodes c.make_room.new.widths.items new.widths c.self.invariant fits c.in_ok-id.ensures.same c.in_ok-id-2.ensures.place in
    subst (λ (h : Graph). Makes h new c.args.node c.in_ok-id-2.id.0) c.self.view_is all.makes

pub returns-clause-cost : goal.returns-clause-cost
returns-clause-cost c =
    let g : Graph = record { nodes = c.self.inside.nodes.keys; widths = c.self.inside.widths.items; shape = c.self.inside.shape; limit = c.self.inside.limit } in
    let new : Graph = record { nodes = c.insert.new.nodes.keys; widths = c.insert.new.widths.items; shape = c.self.inside.shape; limit = c.self.inside.limit } in
    let fits : fits_width g c.args.node ≡ Some c.unwrap-width.result = subst (λ (h : Graph). fits_width h c.args.node ≡ Some c.unwrap-width.result) (sym c.self.view_is) (sym c.width_of.ensures.is ∙ c.unwrap-width.ensures) in
    let all : IsAdded g new c.args.node c.in_ok-id-2.id.0 = added g c.args.node c.unwrap-width.result c.in_ok-id-2.id.0 new.nodes c.make_room.new.widths.items new.widths c.self.invariant fits c.in_ok-id.ensures.same c.in_ok-id-2.ensures.place in
    subst (λ (h : Graph). Costs h new 1 (charge_in h c.args.node)) c.self.view_is all.cost
