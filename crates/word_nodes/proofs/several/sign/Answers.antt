use Rattle.std.proofs.Common.{arith}
use Rattle.word_nodes.proofs.Making.{gains_trans, sign_tells}
use Rattle.word_nodes.proofs.several.sign.Goals as goal

pub returns-in_err-id-clause-gains : goal.returns-in_err-id-clause-gains
returns-in_err-id-clause-gains c = gains_trans _ _ _ _ _ _ 16 1024 16 1024 32 2048 c.in_ok-top.ensures.gains c.in_err-id.ensures.gains (omega arith) (omega arith)

pub returns-clause-gains : goal.returns-clause-gains
returns-clause-gains c = gains_trans _ _ _ _ _ _ 16 1024 16 1024 32 2048 c.in_ok-top.ensures.gains c.in_ok-id.ensures.gains (omega arith) (omega arith)

pub returns-clause-tells : goal.returns-clause-tells
returns-clause-tells c = sign_tells _ _ _ _ _ _ c.in_ok-top.ensures.tells c.in_ok-id.ensures.gains.grows c.in_ok-id.ensures.tells
