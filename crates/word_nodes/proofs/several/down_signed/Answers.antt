use Rattle.std.proofs.Common.{arith}
use Rattle.word_nodes.proofs.Making.{gains_trans, down_signed_tells}
use Rattle.word_nodes.proofs.several.down_signed.Goals as goal

pub returns-in_err-turned-clause-gains : goal.returns-in_err-turned-clause-gains
returns-in_err-turned-clause-gains c = gains_trans _ _ _ _ _ _ 32 2048 16 1024 80 8192 c.in_ok-sign.ensures.gains c.in_err-turned.ensures.gains (omega arith) (omega arith)

pub returns-in_err-moved-clause-gains : goal.returns-in_err-moved-clause-gains
returns-in_err-moved-clause-gains c = gains_trans _ _ _ _ _ _ 48 3072 16 4096 80 8192 (gains_trans _ _ _ _ _ _ 32 2048 16 1024 48 3072 c.in_ok-sign.ensures.gains c.in_ok-turned.ensures.gains (omega arith) (omega arith)) c.in_err-moved.ensures.gains (omega arith) (omega arith)

pub returns-in_err-id-clause-gains : goal.returns-in_err-id-clause-gains
returns-in_err-id-clause-gains c = gains_trans _ _ _ _ _ _ 64 7168 16 1024 80 8192 (gains_trans _ _ _ _ _ _ 48 3072 16 4096 64 7168 (gains_trans _ _ _ _ _ _ 32 2048 16 1024 48 3072 c.in_ok-sign.ensures.gains c.in_ok-turned.ensures.gains (omega arith) (omega arith)) c.in_ok-moved.ensures.gains (omega arith) (omega arith)) c.in_err-id.ensures.gains (omega arith) (omega arith)

pub returns-clause-gains : goal.returns-clause-gains
returns-clause-gains c = gains_trans _ _ _ _ _ _ 64 7168 16 1024 80 8192 (gains_trans _ _ _ _ _ _ 48 3072 16 4096 64 7168 (gains_trans _ _ _ _ _ _ 32 2048 16 1024 48 3072 c.in_ok-sign.ensures.gains c.in_ok-turned.ensures.gains (omega arith) (omega arith)) c.in_ok-moved.ensures.gains (omega arith) (omega arith)) c.in_ok-id.ensures.gains (omega arith) (omega arith)

pub returns-clause-tells : goal.returns-clause-tells
returns-clause-tells c = down_signed_tells _ _ _ _ _ _ _ _ _ _ _ c.in_ok-sign.ensures.tells c.in_ok-turned.ensures.gains.grows c.in_ok-turned.ensures.tells c.in_ok-moved.ensures.gains.grows c.in_ok-moved.ensures.tells c.in_ok-id.ensures.gains.grows c.in_ok-id.ensures.tells
