use Rattle.std.proofs.Common.{◌∙◌, false}
use Rattle.bit_blaster.proofs.Growing.{constant_gate, constant_in}
use Rattle.bit_blaster.proofs.Spells.{negated_spelled, over_flipped, over_repeated}
use Rattle.bit_blaster.proofs.words.negated.Goals as goal

pub combined-requires-clause-xs_in : goal.combined-requires-clause-xs_in
combined-requires-clause-xs_in c = rw (c.deref.ensures.value ∙ c.in_ok-turned.ensures) (over_flipped _ _ c.requires.xs_in)

pub combined-requires-clause-ys_in : goal.combined-requires-clause-ys_in
combined-requires-clause-ys_in c = rw (c.deref-2.ensures.value ∙ c.in_ok-zeros.ensures) (over_repeated _ _ _ (constant_in _ _ _ false c.requires.room c.constant-zero.ensures))

pub returns : goal.returns
returns c = negated_spelled _ _ _ _ _ _ (constant_gate _ _ _ false c.requires.room c.constant-zero.ensures) (rw (c.deref.ensures.value ∙ c.in_ok-turned.ensures, c.deref-2.ensures.value ∙ c.in_ok-zeros.ensures) at c.in_ok-out.ensures)
