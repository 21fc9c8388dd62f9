use Rattle.std.proofs.Common.{◌≡◌, ◌∙◌, true, false, refl}
use Rattle.bit_blaster.proofs.Growing.{over_after, constant_gate, constant_in}
use Rattle.bit_blaster.proofs.Spells.{over_repeated}
use Rattle.bit_blaster.proofs.DivisionLemmas.{turned_up, over_turned_up, length-turned_up, division_whole}
use Rattle.bit_blaster.proofs.division.division.Goals as goal

pub divided-requires-clause-turned_in : goal.divided-requires-clause-turned_in
divided-requires-clause-turned_in c =
    let e : c.deref-3.result.now ≡ turned_up c.args.ys.now c.constant-one.result = c.deref-3.ensures.value ∙ c.in_ok-turned.ensures ∙ rw (c.deref.ensures.value ∙ c.in_ok-low.ensures, c.deref-2.ensures.value ∙ c.in_ok-top.ensures) refl in
    rw e (over_turned_up _ _ _ c.requires.ys_in (constant_in _ _ _ true c.requires.room c.constant-one.ensures))

pub divided-requires-clause-longer : goal.divided-requires-clause-longer
divided-requires-clause-longer c =
    let e : c.deref-3.result.now ≡ turned_up c.args.ys.now c.constant-one.result = c.deref-3.ensures.value ∙ c.in_ok-turned.ensures ∙ rw (c.deref.ensures.value ∙ c.in_ok-low.ensures, c.deref-2.ensures.value ∙ c.in_ok-top.ensures) refl in
    rw (e, c.requires.same) (length-turned_up c.args.ys.now c.constant-one.result)

pub below-requires-clause-xs_in : goal.below-requires-clause-xs_in
below-requires-clause-xs_in c = rw (c.deref-4.ensures.value ∙ c.in_ok-zeros.ensures) (over_after _ _ _ _ c.in_ok-bits.ensures.grows (over_repeated _ _ _ (constant_in _ _ _ false c.requires.room c.constant-zero.ensures)))

pub below-requires-clause-ys_in : goal.below-requires-clause-ys_in
below-requires-clause-ys_in c = over_after _ _ _ _ c.in_ok-bits.ensures.grows c.requires.ys_in

pub chosen-requires-clause-xs_in : goal.chosen-requires-clause-xs_in
chosen-requires-clause-xs_in c = rw c.deref-5.ensures.value (over_after _ _ _ _ c.in_ok-some.ensures.grows c.in_ok-bits.ensures.q_in)

pub chosen-requires-clause-ys_in : goal.chosen-requires-clause-ys_in
chosen-requires-clause-ys_in c = rw (c.deref-6.ensures.value ∙ c.in_ok-zeros.ensures) (over_after _ _ _ _ c.in_ok-some.ensures.grows (over_after _ _ _ _ c.in_ok-bits.ensures.grows (over_repeated _ _ _ (constant_in _ _ _ false c.requires.room c.constant-zero.ensures))))

pub returns : goal.returns
returns c =
    let e : c.deref-3.result.now ≡ turned_up c.args.ys.now c.constant-one.result = c.deref-3.ensures.value ∙ c.in_ok-turned.ensures ∙ rw (c.deref.ensures.value ∙ c.in_ok-low.ensures, c.deref-2.ensures.value ∙ c.in_ok-top.ensures) refl in
    division_whole _ _ _ _ _ _ _ _ _ _ _ _ _ _ (constant_gate _ _ _ false c.requires.room c.constant-zero.ensures) (constant_gate _ _ _ true c.requires.room c.constant-one.ensures) e (c.in_ok-zeros.ensures) c.requires.same
    c.in_ok-bits.ensures (rw c.deref-4.ensures.value at c.in_ok-some.ensures) (rw (c.deref-5.ensures.value, c.deref-6.ensures.value) at c.in_ok-quotient.ensures)
