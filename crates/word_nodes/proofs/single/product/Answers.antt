use Rattle.word_nodes.proofs.Making.{product_tells}
use Rattle.word_nodes.proofs.single.product.Goals as goal

pub returns-clause-tells : goal.returns-clause-tells
returns-clause-tells c = product_tells _ _ _ _ _ _ c.requires.a c.requires.b c.in_ok-id.ensures.makes
