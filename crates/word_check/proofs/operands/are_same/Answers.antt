use Rattle.word_check.proofs.OperandLaws.{one_set}
use Rattle.word_check.proofs.operands.are_same.Goals as goal

pub returns : goal.returns
returns c = λ on. one_set c.args.left.now c.args.right.now (rw c.eq.ensures at on)
