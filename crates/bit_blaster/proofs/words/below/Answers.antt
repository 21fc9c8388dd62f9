use Rattle.bit_blaster.proofs.Spells.{less_test}
use Rattle.bit_blaster.proofs.words.below.Goals as goal

pub returns : goal.returns
returns c = less_test _ _ _ _ _ _ c.requires.same c.in_ok-n.ensures
