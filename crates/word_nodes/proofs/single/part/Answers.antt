use Rattle.word_nodes.proofs.Making.{part_tells}
use Rattle.word_nodes.proofs.single.part.Goals as goal

pub returns-clause-tells : goal.returns-clause-tells
returns-clause-tells c = part_tells _ _ _ _ _ _ _ c.requires.a c.requires.order c.requires.within c.in_ok-id.ensures.makes
