use Rattle.word_nodes.proofs.Making.{inverted_tells}
use Rattle.word_nodes.proofs.single.inverted.Goals as goal

pub returns-clause-tells : goal.returns-clause-tells
returns-clause-tells c = inverted_tells _ _ _ _ _ c.requires.a c.in_ok-id.ensures.makes
