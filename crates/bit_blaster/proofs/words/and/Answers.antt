use Rattle.bit_blaster.proofs.Spells.{both_spelled}
use Rattle.bit_blaster.proofs.words.and.Goals as goal

pub returns : goal.returns
returns c = both_spelled _ _ _ _ _ _ _ c.requires.same c.in_ok-out.ensures
