use Rattle.std.proofs.Common.{sym}
use Rattle.dag.specs.contracts.node.NodePartialEq.TheImpl.{eq-value}
use Rattle.dag.proofs.Sets.{decides, found}
use Rattle.dag.proofs.graph.make_room.Goals as goal

pub returns-in-Some-clause-found : goal.returns-in-Some-clause-found
returns-in-Some-clause-found c = found eq-value.it decides c.args.node c.args.nodes.now.keys c.in-Some.place (sym c.in-Some.ensures.index)
