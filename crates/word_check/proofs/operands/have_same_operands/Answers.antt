use Rattle.word_check.proofs.OperandLaws.{same_operands}
use Rattle.word_check.proofs.operands.have_same_operands.Goals as goal

pub returns : goal.returns
returns c = λ on widths size wide. same_operands c.args.nodes.now widths c.in-Some.joining c.args.first c.args.second c.in_ok-left.left.items c.in_ok-right.right.items c.requires.first c.requires.second size wide c.in_ok-left.ensures c.in_ok-right.ensures
    (rw (c.deref.ensures.value, c.deref-2.ensures.value) at c.are_same.ensures on)
