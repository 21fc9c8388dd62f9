use Rattle.std.proofs.Common.{◌≡◌, ◌<◌, arith, ℕ, length, subst}
use Rattle.dag_view.specs.Steps.{AddsLevel}
use Rattle.dag_view.proofs.Positions.{child_before}
use Rattle.dag_view.proofs.Stepping.{level_none, level_next, level_inside, level_long}
use Rattle.dag_view.proofs.steps.meet_level.Goals as goal

pub met_at-id-requires : goal.met_at-id-requires
met_at-id-requires g c = level_long c.args.dag.now (g.R.Retains.table c.args.table.now) c.args.from c.loop-k.k c.args.met.now.keys c.loop-k.met.keys c.loop-k.invariant c.loop-k.k (omega (arith, c.loop-k-test.true, c.requires.within))

pub node-requires : goal.node-requires
node-requires g c = level_inside c.args.dag.now (g.R.Retains.table c.args.table.now) c.args.from c.loop-k.k c.args.met.now.keys c.loop-k.met.keys c.loop-k.k c.met_at-id.result c.loop-k.invariant c.requires.inside (omega (arith, c.loop-k-test.true, c.requires.within)) c.met_at-id.ensures

pub meet_children-requires : goal.meet_children-requires
meet_children-requires g c =
    let inside : c.met_at-id.result < length c.args.dag.now.nodes = level_inside c.args.dag.now (g.R.Retains.table c.args.table.now) c.args.from c.loop-k.k c.args.met.now.keys c.loop-k.met.keys c.loop-k.k c.met_at-id.result c.loop-k.invariant c.requires.inside (omega (arith, c.loop-k-test.true, c.requires.within)) c.met_at-id.ensures in
    λ i lt. omega (arith, child_before c.args.dag.now c.met_at-id.result c.node.result i c.known.ensures.graph c.node.ensures lt, inside, c.requires.table.size)

pub loop-k-init : goal.loop-k-init
loop-k-init g c = level_none _ _ _ _

pub loop-k-preserved : goal.loop-k-preserved
loop-k-preserved g c = level_next c.args.dag.now (g.R.Retains.table c.args.table.now) c.args.from c.loop-k.k c.met_at-id.result c.node.result c.args.met.now.keys c.loop-k.met.keys c.meet_children.new.met.keys c.loop-k.invariant c.met_at-id.ensures (omega (arith, c.loop-k-test.true, c.requires.within)) c.node.ensures c.in_ok-meet_children.ensures.adds c.in_ok-meet_children.ensures.kept

pub returns : goal.returns
returns g c = let e : c.loop-k.k ≡ c.args.upto = omega (arith, c.loop-k-test.false, c.loop-k.auto.k-end, c.requires.order) in subst (λ (k : ℕ). AddsLevel c.args.dag.now (g.R.Retains.table c.args.table.now) c.args.from k c.args.met.now.keys c.loop-k.met.keys) e c.loop-k.invariant
