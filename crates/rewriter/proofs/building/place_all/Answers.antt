use Rattle.std.proofs.Common.{◌+◌, ◌<◌, List, [], length, take, drop, get_or, length-take, subst, sym, arith}
use Rattle.std.specs.Prelude.{IsSome}
use Rattle.dag.specs.declared.node.Node.{Node}
use Rattle.dag.specs.declared.node.Node.TheVariants.{Leaf}
use Rattle.dag.specs.Graph.{Makes, Costs, fits_width, charge_in}
use Rattle.dag.proofs.Growing.{extends_trans}
use Rattle.bv_rules.specs.declared.plan.PlanNode.{PlanNode}
use Rattle.bv_rules.specs.Plans.{steps}
use Rattle.rewriter.proofs.Placing.{placed_fits, placed_next, placed_more, placed_written, placed_spent, placed_end, placed_all, plan_fits}
use Rattle.rewriter.proofs.Counting.{counted_trans}
use Rattle.rewriter.proofs.building.place_all.Goals as goal

-- what fills a read past the end of a list of a plan's nodes
abbrev none : PlanNode
none = record { node = Leaf 0 0; children = [] }

pub place_settled-requires : goal.place_settled-requires
place_settled-requires c =
    let all : List PlanNode = steps c.args.plan in
    let next = placed_next c.args.dag.now c.loop-i.dag (take c.loop-i.i c.loop-i.ids) all c.loop-i.i none c.loop-i-test.true c.loop-i.invariant.placed in
    let fits = placed_fits c.args.dag.now c.loop-i.dag (take c.loop-i.i c.loop-i.ids) (get_or all c.loop-i.i none) (drop (c.loop-i.i + 1) all) all next (plan_fits c.args.dag.now c.args.node c.args.plan c.requires.fits c.requires.keeps) in
    subst (λ (n : Node). IsSome (fits_width c.loop-i.dag n)) (sym c.placed-next.ensures) fits

pub returns-in_err-ids-clause-grows : goal.returns-in_err-ids-clause-grows
returns-in_err-ids-clause-grows c = extends_trans c.args.dag.now c.loop-i.dag c.place_settled.new.dag c.loop-i.invariant.placed.grows c.in_err-ids.ensures.grows

pub returns-in_err-ids-clause-cost : goal.returns-in_err-ids-clause-cost
returns-in_err-ids-clause-cost c =
    let all : List PlanNode = steps c.args.plan in
    let next = placed_next c.args.dag.now c.loop-i.dag (take c.loop-i.i c.loop-i.ids) all c.loop-i.i none c.loop-i-test.true c.loop-i.invariant.placed in
    let few : length (take c.loop-i.i c.loop-i.ids) < 16 = omega (arith, length-take c.loop-i.i c.loop-i.ids, length-take c.args.plan.count c.args.plan.nodes, c.loop-i-test.true, c.requires.keeps.sound.few) in
    let cost = subst (λ (n : Node). Costs c.loop-i.dag c.place_settled.new.dag 1 (charge_in c.loop-i.dag n)) c.placed-next.ensures c.in_err-ids.ensures.cost in
    placed_spent c.args.dag.now c.loop-i.dag c.place_settled.new.dag c.args.node c.args.plan (take c.loop-i.i c.loop-i.ids) (get_or all c.loop-i.i none) (drop (c.loop-i.i + 1) all) c.requires.fits c.requires.keeps few next cost

pub loop-i-preserved : goal.loop-i-preserved
loop-i-preserved c =
    let all : List PlanNode = steps c.args.plan in
    let next = placed_next c.args.dag.now c.loop-i.dag (take c.loop-i.i c.loop-i.ids) all c.loop-i.i none c.loop-i-test.true c.loop-i.invariant.placed in
    let within : c.loop-i.i < length c.loop-i.ids = omega (arith, length-take c.args.plan.count c.args.plan.nodes, c.loop-i-test.true, c.requires.keeps.sound.few, c.loop-i-test.array_long) in
    let makes = subst (λ (n : Node). Makes c.loop-i.dag c.place_settled.new.dag n c.in_ok-ids.field-0.0) c.placed-next.ensures c.in_ok-ids.ensures.makes in
    let cost = subst (λ (n : Node). Costs c.loop-i.dag c.place_settled.new.dag 1 (charge_in c.loop-i.dag n)) c.placed-next.ensures c.in_ok-ids.ensures.cost in
    let more = placed_more c.args.dag.now c.loop-i.dag c.place_settled.new.dag (take c.loop-i.i c.loop-i.ids) c.in_ok-ids.field-0 (get_or all c.loop-i.i none) (drop (c.loop-i.i + 1) all) all next (plan_fits c.args.dag.now c.args.node c.args.plan c.requires.fits c.requires.keeps) makes cost in
    record {
      placed = placed_written c.args.dag.now c.place_settled.new.dag c.loop-i.ids all c.loop-i.i c.in_ok-ids.field-0 within more;
      counted = counted_trans _ _ _ _ _ _ c.loop-i.invariant.counted c.in_ok-ids.ensures.counted;
    }

pub returns-clause-makes : goal.returns-clause-makes
returns-clause-makes c =
    let all : List PlanNode = steps c.args.plan in
    let end = placed_end c.args.dag.now c.loop-i.dag c.loop-i.ids all c.loop-i.i c.loop-i-test.false c.loop-i.auto.i-end c.loop-i.invariant.placed in
    let makes = placed_all c.args.dag.now c.loop-i.dag c.args.node c.args.plan (take (length all) c.loop-i.ids) c.requires.fits c.requires.keeps end in
    rw c.resolve.ensures makes
