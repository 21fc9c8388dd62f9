use Rattle.bit_blaster.proofs.Spells.{chosen_spelled}
use Rattle.bit_blaster.proofs.words.chosen.Goals as goal

pub returns : goal.returns
returns c = chosen_spelled _ _ _ _ _ _ c.requires.same c.in_ok-out.ensures
