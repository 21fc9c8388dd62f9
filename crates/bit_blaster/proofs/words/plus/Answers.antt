use Rattle.bit_blaster.proofs.Spells.{sum_spelled}
use Rattle.bit_blaster.proofs.words.plus.Goals as goal

pub returns : goal.returns
returns c = sum_spelled _ _ _ _ _ _ c.requires.same c.in_ok-out.ensures
