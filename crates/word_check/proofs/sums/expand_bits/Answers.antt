use Rattle.std.proofs.Common.{refl, ◌+◌, ◌^◌}
use Rattle.word_check.specs.Overlaps.{overlaps}
use Rattle.word_check.specs.Sums.{weighed, bit_parts_total}
use Rattle.word_check.proofs.Weighing.{expanded_bits, read_or}
use Rattle.word_check.proofs.Modular.{add_two}
use Rattle.word_check.proofs.sums.expand_bits.Goals as goal

pub returns-clause-total : goal.returns-clause-total
returns-clause-total c = λ on widths vs values.
    expanded_bits c.args.width c.args.sum.now.factors.items vs c.args.place (c.args.sum.now.constant + weighed c.args.sum.now.overlaps.items (overlaps c.args.nodes.now vs)) _ (bit_parts_total c.args.nodes.now c.in-Some.parts vs) _
    c.requires.place (read_or _ _ _ c.requires.place c.index.ensures) (c.in-Some.ensures widths vs values)
    (add_two (2 ^ c.args.width) _ _ _ _ _ (add_two (2 ^ c.args.width) _ _ _ _ _ (c.if-not-add.ensures.adds refl c.args.nodes.now vs) (c.if-not-add-2.ensures.adds refl c.args.nodes.now vs)) (c.add_overlap.ensures.adds on c.args.nodes.now vs))
