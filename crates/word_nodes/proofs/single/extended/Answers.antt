use Rattle.word_nodes.proofs.Making.{extended_tells}
use Rattle.word_nodes.proofs.single.extended.Goals as goal

pub returns-clause-tells : goal.returns-clause-tells
returns-clause-tells c = extended_tells _ _ _ _ _ _ c.requires.a c.requires.order c.requires.high c.in_ok-id.ensures.makes
