use Rattle.word_nodes.proofs.Making.{down_tells}
use Rattle.word_nodes.proofs.single.down.Goals as goal

pub returns-clause-tells : goal.returns-clause-tells
returns-clause-tells c = down_tells _ _ _ _ _ _ _ c.requires.a c.requires.by c.in_ok-id.ensures.makes
