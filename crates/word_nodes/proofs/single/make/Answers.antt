use Rattle.word_nodes.proofs.Making.{gains_built}
use Rattle.word_nodes.proofs.single.make.Goals as goal

pub returns-clause-gains : goal.returns-clause-gains
returns-clause-gains c = gains_built _ _ _ _ _ c.known.ensures.graph c.requires c.build.ensures.grows c.build.ensures.cost c.build.ensures.counted
