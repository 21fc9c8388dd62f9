use Rattle.word_nodes.proofs.Making.{either_tells}
use Rattle.word_nodes.proofs.single.either.Goals as goal

pub returns-clause-tells : goal.returns-clause-tells
returns-clause-tells c = either_tells _ _ _ _ _ _ c.requires.a c.requires.b c.in_ok-id.ensures.makes
