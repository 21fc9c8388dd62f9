use Rattle.std.proofs.Common.{arith}
use Rattle.word_nodes.proofs.Making.{gains_trans, zeros_tell}
use Rattle.word_nodes.proofs.several.below_zeros.Goals as goal

pub returns-in_err-id-clause-gains : goal.returns-in_err-id-clause-gains
returns-in_err-id-clause-gains c = gains_trans _ _ _ _ _ _ 16 1024 16 1024 32 2048 c.in_ok-zeros.ensures.gains c.in_err-id.ensures.gains (omega arith) (omega arith)

pub returns-clause-gains : goal.returns-clause-gains
returns-clause-gains c = gains_trans _ _ _ _ _ _ 16 1024 16 1024 32 2048 c.in_ok-zeros.ensures.gains c.in_ok-id.ensures.gains (omega arith) (omega arith)

pub returns-clause-tells : goal.returns-clause-tells
returns-clause-tells c = zeros_tell _ _ _ _ _ _ _ _ c.requires.order c.in_ok-zeros.ensures.tells c.in_ok-id.ensures.gains.grows c.in_ok-id.ensures.tells
