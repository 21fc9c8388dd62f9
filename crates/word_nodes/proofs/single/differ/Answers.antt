use Rattle.word_nodes.proofs.Making.{differ_tells}
use Rattle.word_nodes.proofs.single.differ.Goals as goal

pub returns-clause-tells : goal.returns-clause-tells
returns-clause-tells c = differ_tells _ _ _ _ _ _ c.requires.a c.requires.b c.in_ok-id.ensures.makes
