use Rattle.dag_view.proofs.Making.{made_view, made_embeds, made_under, made_by_set}
use Rattle.dag_view.proofs.Charged.{made_few}
use Rattle.dag_view.proofs.view.View.by_set.Goals as goal

pub invariant_of-result : goal.invariant_of-result
invariant_of-result g c = made_view c.args.dag.now (g.R.Retains.table c.args.table.now) c.args.expanded.now _ c.in_ok-placed.ensures

pub returns-clause-leaves : goal.returns-clause-leaves
returns-clause-leaves g c = c.in_ok-placed.ensures.many

pub returns-clause-embeds : goal.returns-clause-embeds
returns-clause-embeds g c = made_embeds c.args.dag.now (g.R.Retains.table c.args.table.now) c.args.expanded.now _ c.in_ok-placed.ensures

pub returns-clause-under : goal.returns-clause-under
returns-clause-under g c = made_under c.args.dag.now (g.R.Retains.table c.args.table.now) c.args.expanded.now _ c.in_ok-placed.ensures

pub returns-clause-by_set : goal.returns-clause-by_set
returns-clause-by_set g c = made_by_set c.args.dag.now (g.R.Retains.table c.args.table.now) c.args.expanded.now _ c.in_ok-placed.ensures

pub returns-clause-few : goal.returns-clause-few
returns-clause-few g c = made_few c.args.dag.now (g.R.Retains.table c.args.table.now) c.args.expanded.now _ c.in_ok-placed.ensures
