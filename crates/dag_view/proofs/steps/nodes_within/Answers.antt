use Rattle.std.proofs.Common.{arith}
use Rattle.dag_view.proofs.Stepping.{within_none, within_still, within_all, reached_none, level_step, level_size, below_inside}
use Rattle.dag_view.proofs.steps.nodes_within.Goals as goal

pub returns-then-steps-eq0 : goal.returns-then-steps-eq0
returns-then-steps-eq0 g c = within_none c.args.dag.now (g.R.Retains.table c.args.table.now) c.args.a c.args.b c.args.steps c.new-met.result.keys c.new-met.ensures.empty c.if-steps-eq0.true

pub loop-level-init : goal.loop-level-init
loop-level-init g c = record {
  reached = reached_none c.args.dag.now (g.R.Retains.table c.args.table.now) c.args.a c.args.b c.new-met.result.keys c.meet.new.met.keys c.meet-2.new.met.keys c.new-met.ensures.empty c.in_ok-meet.ensures.among c.in_ok-meet-2.ensures.among c.requires.first c.requires.second;
  low = omega arith;
  high = omega (arith, c.if-steps-eq0.false);
  order = omega arith;
}

pub meet_level-requires-clause-inside : goal.meet_level-requires-clause-inside
meet_level-requires-clause-inside g c = c.loop-level.invariant.reached.inside

pub loop-level-preserved : goal.loop-level-preserved
loop-level-preserved g c = record {
  reached = level_step c.args.dag.now (g.R.Retains.table c.args.table.now) c.args.a c.args.b c.loop-level.level c.loop-level.from _ c.loop-level.met.keys c.meet_level.new.met.keys c.loop-level.invariant.low c.loop-level.invariant.reached c.len-upto.ensures.len c.loop-level.invariant.order c.in_ok-meet_level.ensures (below_inside c.args.dag.now (g.R.Retains.table c.args.table.now) c.known.ensures.graph c.requires.table.flat);
  low = omega arith;
  high = omega (arith, c.loop-level-test.true);
  order = level_size c.args.dag.now (g.R.Retains.table c.args.table.now) c.loop-level.from _ c.loop-level.met.keys c.meet_level.new.met.keys c.in_ok-meet_level.ensures c.len-upto.ensures.len;
}

pub returns : goal.returns
returns g c = within_all c.args.dag.now (g.R.Retains.table c.args.table.now) c.args.a c.args.b _ c.args.steps c.loop-level.from c.loop-level.met.keys c.loop-level.invariant.reached (omega (arith, c.loop-level.invariant.low, c.loop-level.invariant.high, c.loop-level-test.false))

pub returns-then-from-upto : goal.returns-then-from-upto
returns-then-from-upto g c = within_still c.args.dag.now (g.R.Retains.table c.args.table.now) c.args.a c.args.b _ c.args.steps c.loop-level.from c.loop-level.met.keys c.loop-level.invariant.reached (omega (arith, c.if-from-upto.true, c.len-upto.ensures.len)) (omega (arith, c.loop-level.invariant.low, c.loop-level-test.true))
