use Rattle.word_nodes.proofs.Making.{joined_tells}
use Rattle.word_nodes.proofs.single.joined.Goals as goal

pub returns-clause-tells : goal.returns-clause-tells
returns-clause-tells c = joined_tells _ _ _ _ _ _ _ c.requires.a c.requires.b c.requires.both c.in_ok-id.ensures.makes
