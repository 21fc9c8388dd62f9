use Rattle.bit_blaster.proofs.Growing.{constant_gate, constant_in}
use Rattle.bit_blaster.proofs.Spells.{combined_from}
use Rattle.bit_blaster.proofs.words.combined.Goals as goal

pub ripple-requires-clause-c_in : goal.ripple-requires-clause-c_in
ripple-requires-clause-c_in c = constant_in _ _ _ _ c.requires.room c.constant-c.ensures

pub returns : goal.returns
returns c = combined_from _ _ _ _ _ _ _ _ _ c.requires.same (constant_gate _ _ _ _ c.requires.room c.constant-c.ensures) (rw c.new-out.ensures.items at c.in_ok-n.ensures)
