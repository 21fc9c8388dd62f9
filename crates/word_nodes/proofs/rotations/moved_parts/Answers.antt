use Rattle.std.proofs.Common.{arith}
use Rattle.word_nodes.proofs.Making.{gains_trans}
use Rattle.word_nodes.proofs.Turning.{parts_tell}
use Rattle.word_nodes.proofs.rotations.moved_parts.Goals as goal

pub returns-in_err-low-clause-gains : goal.returns-in_err-low-clause-gains
returns-in_err-low-clause-gains c = gains_trans _ _ _ _ _ _ 16 4096 16 4096 48 9216 c.in_ok-high.ensures.gains c.in_err-low.ensures.gains (omega arith) (omega arith)

pub returns-in_err-id-clause-gains : goal.returns-in_err-id-clause-gains
returns-in_err-id-clause-gains c = gains_trans _ _ _ _ _ _ 32 8192 16 1024 48 9216 (gains_trans _ _ _ _ _ _ 16 4096 16 4096 32 8192 c.in_ok-high.ensures.gains c.in_ok-low.ensures.gains (omega arith) (omega arith)) c.in_err-id.ensures.gains (omega arith) (omega arith)

pub returns-clause-gains : goal.returns-clause-gains
returns-clause-gains c = gains_trans _ _ _ _ _ _ 32 8192 16 1024 48 9216 (gains_trans _ _ _ _ _ _ 16 4096 16 4096 32 8192 c.in_ok-high.ensures.gains c.in_ok-low.ensures.gains (omega arith) (omega arith)) c.in_ok-id.ensures.gains (omega arith) (omega arith)

pub returns-clause-tells : goal.returns-clause-tells
returns-clause-tells c = parts_tell _ _ _ _ _ _ _ _ _ _ c.in_ok-high.ensures.tells c.in_ok-low.ensures.gains.grows c.in_ok-low.ensures.tells c.in_ok-id.ensures.gains.grows c.in_ok-id.ensures.tells
