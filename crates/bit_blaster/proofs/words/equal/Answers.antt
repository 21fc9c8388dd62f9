use Rattle.bit_blaster.proofs.Spells.{same_test}
use Rattle.bit_blaster.proofs.words.equal.Goals as goal

pub returns : goal.returns
returns c = same_test _ _ _ _ _ _ c.requires.same c.in_ok-n.ensures
