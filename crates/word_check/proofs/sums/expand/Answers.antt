use Rattle.std.proofs.Common.{refl, ◌^◌}
use Rattle.word_check.specs.Overlaps.{overlaps}
use Rattle.word_check.specs.Sums.{weighed}
use Rattle.word_check.proofs.Weighing.{expanded_total, read_or}
use Rattle.word_check.proofs.Modular.{add_two}
use Rattle.word_check.proofs.sums.expand.Goals as goal

pub returns-clause-total : goal.returns-clause-total
returns-clause-total c = λ on vs values.
    expanded_total c.args.width c.args.sum.now.factors.items vs c.args.place c.args.sum.now.constant _ (weighed c.args.sum.now.overlaps.items (overlaps c.args.nodes.now vs)) c.in-Some.parts.constant _ _ _ _
    c.requires.place (read_or _ _ _ c.requires.place c.index.ensures) c.plus-sum.ensures.value (c.in-Some.ensures vs values)
    (add_two (2 ^ c.args.width) _ _ _ _ _ (c.if-not-add.ensures.adds refl c.args.nodes.now vs) (c.add-2.ensures.adds on c.args.nodes.now vs))

pub returns-in_default-clause-total : goal.returns-in_default-clause-total
returns-in_default-clause-total c = λ on. c.expand_bits.ensures.total on c.args.widths.now
