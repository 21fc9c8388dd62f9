use Rattle.word_nodes.proofs.Making.{quotient_tells}
use Rattle.word_nodes.proofs.single.quotient.Goals as goal

pub returns-clause-tells : goal.returns-clause-tells
returns-clause-tells c = quotient_tells _ _ _ _ _ _ c.requires.a c.requires.b c.in_ok-id.ensures.makes
