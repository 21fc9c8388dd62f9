use Rattle.std.proofs.Common.{◌∙◌}
use Rattle.bit_blaster.proofs.Growing.{over_after}
use Rattle.bit_blaster.proofs.ProductLemmas.{over_raised, length-raised, row_spelled}
use Rattle.bit_blaster.proofs.products.row_added.Goals as goal

pub chosen-requires-clause-xs_in : goal.chosen-requires-clause-xs_in
chosen-requires-clause-xs_in c = rw (c.deref.ensures.value, c.in_ok-up.ensures) (over_raised _ _ _ _ c.requires.zero_in c.requires.xs_in)

pub rippled-requires-clause-xs_in : goal.rippled-requires-clause-xs_in
rippled-requires-clause-xs_in c = over_after _ _ _ _ c.in_ok-row.ensures.grows c.requires.sum_in

pub returns : goal.returns
returns c = row_spelled _ _ _ _ _ _ _ _ _ _ _ (length-raised c.args.zero c.args.i c.args.xs.now c.requires.place) c.requires.sum_size
    (rw (c.deref.ensures.value ∙ c.in_ok-up.ensures) at c.in_ok-row.ensures) (rw c.deref-2.ensures.value at c.in_ok-out.ensures)
