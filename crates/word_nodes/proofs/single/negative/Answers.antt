use Rattle.word_nodes.proofs.Making.{negative_tells}
use Rattle.word_nodes.proofs.single.negative.Goals as goal

pub returns-clause-tells : goal.returns-clause-tells
returns-clause-tells c = negative_tells _ _ _ _ _ c.requires.a c.in_ok-id.ensures.makes
