use Rattle.word_nodes.proofs.Making.{low_tells}
use Rattle.word_nodes.proofs.several.low_bits.Goals as goal

pub returns-clause-tells : goal.returns-clause-tells
returns-clause-tells c = low_tells _ _ _ _ c.requires.low c.in_ok-id.ensures.tells
