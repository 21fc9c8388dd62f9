use Rattle.std.proofs.Common.{arith, ◌<◌, length}
use Rattle.word_check.specs.Overlaps.{overlaps}
use Rattle.word_check.specs.Sums.{weighed}
use Rattle.word_check.proofs.Weighing.{overlap_more, read_or}
use Rattle.word_check.proofs.sums.add_overlap.Goals as goal

pub returns-clause-adds : goal.returns-clause-adds
returns-clause-adds c =
    let lt : c.args.term.place < length c.args.sum.now.overlaps.items = omega (arith, c.if-place-len.false, c.len.ensures, c.args.sum.now.overlaps.ok.0) in
    λ on nodes vs. overlap_more c.args.width c.args.sum.now.overlaps.items (overlaps nodes vs) c.args.term.place c.args.term.factor _ _ c.args.sum.now.constant (weighed c.args.sum.now.factors.items vs) lt (read_or _ _ _ lt c.index-factor.ensures) c.plus.ensures.value
