use Rattle.std.proofs.Common.{◌<◌, arith, inl, length}
use Rattle.dag_view.proofs.Positions.{child_before}
use Rattle.dag_view.proofs.Taking.{last_waits, met_none, met_expanded, met_free, met_all}
use Rattle.dag_view.proofs.under.nodes_under.Goals as goal

pub loop-id-init : goal.loop-id-init
loop-id-init g c = rw (c.new-taken.ensures.items, c.len-bound.ensures) (met_none c.args.dag.now (g.R.Retains.table c.args.table.now) c.args.expanded.now c.args.a c.args.b c.new-waiting.result.keys c.wait.new.waiting.keys c.wait-2.new.waiting.keys c.new-waiting.ensures.empty c.in_ok-wait.ensures c.in_ok-wait-2.ensures c.requires.first c.requires.second)

pub node-requires : goal.node-requires
node-requires g c = c.loop-id.invariant.inside c.in-Some.id (inl (last_waits _ _ _ c.in-Some.ensures.taken))

pub wait_for_children-requires : goal.wait_for_children-requires
wait_for_children-requires g c =
    let inside : c.in-Some.id < length c.args.dag.now.nodes = c.loop-id.invariant.inside c.in-Some.id (inl (last_waits _ _ _ c.in-Some.ensures.taken)) in
    λ i lt. omega (arith, child_before c.args.dag.now c.in-Some.id c.node.result i c.known.ensures.graph c.node.ensures lt, inside, c.requires.table.size)

pub loop-id-smaller-in-Continue-branch-4 : goal.loop-id-smaller-in-Continue-branch-4
loop-id-smaller-in-Continue-branch-4 g c = c.loop-id.invariant.low c.in-Some.id (last_waits _ _ _ c.in-Some.ensures.taken)

pub loop-id-preserved-in-Continue-branch-4 : goal.loop-id-preserved-in-Continue-branch-4
loop-id-preserved-in-Continue-branch-4 g c = rw c.in_ok-push.ensures.items (met_expanded c.args.dag.now (g.R.Retains.table c.args.table.now) c.args.expanded.now c.args.a c.args.b c.loop-id.waiting.keys c.take_last.new.waiting.keys c.wait_for_children.new.waiting.keys c.loop-id.taken.items c.loop-id.bound c.in-Some.id c.node.result c.known.ensures.graph c.requires.table.flat c.loop-id.invariant c.in-Some.ensures.taken c.in-Some.ensures.last (rw c.expands.ensures at c.if-expands.true) c.node.ensures c.in_ok-wait_for_children.ensures)

pub loop-id-smaller : goal.loop-id-smaller
loop-id-smaller g c = c.loop-id.invariant.low c.in-Some.id (last_waits _ _ _ c.in-Some.ensures.taken)

pub loop-id-preserved : goal.loop-id-preserved
loop-id-preserved g c = rw c.in_ok-push.ensures.items (met_free c.args.dag.now (g.R.Retains.table c.args.table.now) c.args.expanded.now c.args.a c.args.b c.loop-id.waiting.keys c.take_last.new.waiting.keys c.loop-id.taken.items c.loop-id.bound c.in-Some.id c.known.ensures.graph c.requires.table.flat c.loop-id.invariant c.in-Some.ensures.taken c.in-Some.ensures.last (rw c.expands.ensures at c.if-expands.false))

pub returns : goal.returns
returns g c = met_all c.args.dag.now (g.R.Retains.table c.args.table.now) c.args.expanded.now c.args.a c.args.b c.loop-id.waiting.keys c.loop-id.taken.items c.reverse.new.self.items c.loop-id.bound c.loop-id.invariant c.in_default.ensures.none c.reverse.ensures.items
