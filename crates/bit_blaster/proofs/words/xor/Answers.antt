use Rattle.bit_blaster.proofs.Spells.{differ_spelled}
use Rattle.bit_blaster.proofs.words.xor.Goals as goal

pub returns : goal.returns
returns c = differ_spelled _ _ _ _ _ _ _ c.requires.same c.in_ok-out.ensures
