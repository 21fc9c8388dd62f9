use Rattle.word_check.proofs.Valuing.{every_wide, same_never}
use Rattle.word_check.proofs.never.never_differ.Goals as goal

pub difference_is_zero-requires-clause-wide : goal.difference_is_zero-requires-clause-wide
difference_is_zero-requires-clause-wide c = every_wide c.args.nodes.now c.args.widths.now c.requires.widths

pub returns-then-branch : goal.returns-then-branch
returns-then-branch c = λ on. same_never c.args.nodes.now c.args.widths.now c.args.first c.args.second c.requires.widths (c.in_ok-difference_is_zero.ensures c.if-branch.true)

pub xor_is_zero-requires : goal.xor_is_zero-requires
xor_is_zero-requires c = every_wide c.args.nodes.now c.args.widths.now c.requires.widths

pub returns-then-branch-2 : goal.returns-then-branch-2
returns-then-branch-2 c = λ on. same_never c.args.nodes.now c.args.widths.now c.args.first c.args.second c.requires.widths (c.in_ok-xor_is_zero.ensures c.if-branch-2.true)

pub returns-then-branch-3 : goal.returns-then-branch-3
returns-then-branch-3 c = λ on. same_never c.args.nodes.now c.args.widths.now c.args.first c.args.second c.requires.widths (c.in_ok-have_same_operands.ensures c.if-branch-3.true c.args.widths.now c.requires.widths.size (every_wide c.args.nodes.now c.args.widths.now c.requires.widths))
