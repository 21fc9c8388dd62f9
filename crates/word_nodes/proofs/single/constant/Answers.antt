use Rattle.word_nodes.proofs.Making.{constant_tells}
use Rattle.word_nodes.proofs.single.constant.Goals as goal

pub returns-clause-tells : goal.returns-clause-tells
returns-clause-tells c = constant_tells _ _ _ _ _ c.requires.low c.requires.high c.requires.word c.in_ok-id.ensures.makes
