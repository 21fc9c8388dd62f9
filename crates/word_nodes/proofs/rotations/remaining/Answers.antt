use Rattle.std.proofs.Common.{arith}
use Rattle.word_nodes.proofs.Making.{gains_trans}
use Rattle.word_nodes.proofs.Turning.{remaining_tells}
use Rattle.word_nodes.proofs.rotations.remaining.Goals as goal

pub returns-in_err-id-clause-gains : goal.returns-in_err-id-clause-gains
returns-in_err-id-clause-gains c = gains_trans _ _ _ _ _ _ 16 1024 32 2048 48 3072 c.in_ok-all.ensures.gains c.in_err-id.ensures.gains (omega arith) (omega arith)

pub returns-clause-gains : goal.returns-clause-gains
returns-clause-gains c = gains_trans _ _ _ _ _ _ 16 1024 32 2048 48 3072 c.in_ok-all.ensures.gains c.in_ok-id.ensures.gains (omega arith) (omega arith)

pub returns-clause-tells : goal.returns-clause-tells
returns-clause-tells c = remaining_tells _ _ _ _ _ _ _ (rw c.from-whole.ensures at c.in_ok-all.ensures.tells) c.in_ok-id.ensures.gains.grows c.in_ok-id.ensures.tells
