use Rattle.word_nodes.proofs.Making.{up_tells}
use Rattle.word_nodes.proofs.single.up.Goals as goal

pub returns-clause-tells : goal.returns-clause-tells
returns-clause-tells c = up_tells _ _ _ _ _ _ _ c.requires.a c.requires.by c.in_ok-id.ensures.makes
