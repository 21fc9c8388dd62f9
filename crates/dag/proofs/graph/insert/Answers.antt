use Rattle.std.proofs.Common.{◌≡◌, true, false, refl, ◌++◌, ◌∷◌, []}
use Rattle.std.proofs.lemmas.Map.Made.{AllPairs-from_IsDistinct}
use Rattle.dag.specs.contracts.node.NodePartialEq.TheImpl.{eq-value}
use Rattle.dag.proofs.Sets.{decides, inserts}
use Rattle.dag.proofs.graph.insert.Goals as goal
use Rattle.dag.proofs.graph.insert.Goals.{then-is_new, else-is_new}

pub returns-clause-place : goal.returns-clause-place
returns-clause-place c =
    let pushed : c.in_ok-place.is_new ≡ true → c.if-is_new.widths.items ≡ c.args.widths.now.items ++ c.args.width ∷ [] = (λ e. elim c.if-is_new.branch [ then-is_new w ↦ rw w.widths-is w.push_reserved.ensures.items | else-is_new w ↦ cc (e, w.if-is_new.false) ]) in
    let kept : c.in_ok-place.is_new ≡ false → c.if-is_new.widths.items ≡ c.args.widths.now.items = (λ e. elim c.if-is_new.branch [ then-is_new w ↦ cc (e, w.if-is_new.true) | else-is_new w ↦ rw w.widths-is refl ]) in
    inserts eq-value.it decides c.args.node c.args.nodes.now.keys c.insert_full.new.self.keys c.args.widths.now.items c.if-is_new.widths.items c.args.width c.in_ok-place.place c.in_ok-place.is_new c.in_ok-place.ensures.added c.in_ok-place.ensures.keys c.in_ok-place.ensures.index pushed kept

pub returns-clause-distinct : goal.returns-clause-distinct
returns-clause-distinct c = AllPairs-from_IsDistinct decides _ c.insert_full.ensures.unique
