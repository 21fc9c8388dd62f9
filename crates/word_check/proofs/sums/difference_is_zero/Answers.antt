use Rattle.std.proofs.Common.{refl, arith}
use Rattle.std.proofs.lemmas.Option.{slice_get-get_or}
use Rattle.word_check.proofs.Differing.{no_difference}
use Rattle.word_check.proofs.sums.difference_is_zero.Goals as goal

pub returns : goal.returns
returns c = λ on. no_difference c.args.nodes.now c.args.widths.now c.args.first c.args.second (record { factors = c.in_ok-no_factors.field-0; overlaps = c.in_ok-no_factors-2.field-0; constant = 0 }) c.begin.new.sum c.expand_all.new.sum _ c.requires.size c.requires.first c.requires.second c.requires.same refl c.in_ok-no_factors.ensures c.in_ok-no_factors-2.ensures (c.if-not-begin.ensures refl) (c.if-not-expand_all.ensures refl) (c.is_zero.ensures on)

pub expand_all-requires-clause-low : goal.expand_all-requires-clause-low
expand_all-requires-clause-low c = (c.requires.wide c.args.first _ (slice_get-get_or c.args.widths.now c.args.first 0 (omega (arith, c.requires.first, c.requires.size)))).0

pub expand_all-requires-clause-high : goal.expand_all-requires-clause-high
expand_all-requires-clause-high c = (c.requires.wide c.args.first _ (slice_get-get_or c.args.widths.now c.args.first 0 (omega (arith, c.requires.first, c.requires.size)))).1
