use Rattle.bit_blaster.proofs.Spells.{either_spelled}
use Rattle.bit_blaster.proofs.words.or.Goals as goal

pub returns : goal.returns
returns c = either_spelled _ _ _ _ _ _ _ c.requires.same c.in_ok-out.ensures
