use Rattle.word_nodes.proofs.Making.{sum_tells}
use Rattle.word_nodes.proofs.single.sum.Goals as goal

pub returns-clause-tells : goal.returns-clause-tells
returns-clause-tells c = sum_tells _ _ _ _ _ _ c.requires.a c.requires.b c.in_ok-id.ensures.makes
