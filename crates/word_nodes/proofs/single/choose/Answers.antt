use Rattle.word_nodes.proofs.Making.{choose_tells}
use Rattle.word_nodes.proofs.single.choose.Goals as goal

pub returns-clause-tells : goal.returns-clause-tells
returns-clause-tells c = choose_tells _ _ _ _ _ _ _ c.requires.bit c.requires.a c.requires.b c.in_ok-id.ensures.makes
