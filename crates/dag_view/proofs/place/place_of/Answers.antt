use Rattle.dag_view.proofs.Placing.{sought_all}
use Rattle.dag_view.proofs.place.place_of.Goals as goal

pub returns-clause-at : goal.returns-clause-at
returns-clause-at c = λ m. sought_all c.args.ids.now c.args.id c.loop-low.low c.loop-low.high c.loop-low.invariant c.loop-low-test.false m
