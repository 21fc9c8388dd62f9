use Rattle.std.proofs.Common.{arith}
use Rattle.word_nodes.proofs.Making.{gains_trans}
use Rattle.word_nodes.proofs.Turning.{right_tells}
use Rattle.word_nodes.proofs.rotations.turned_right.Goals as goal

pub returns-in_err-rest-clause-gains : goal.returns-in_err-rest-clause-gains
returns-in_err-rest-clause-gains c = gains_trans _ _ _ _ _ _ 32 2048 48 3072 128 14336 c.in_ok-by.ensures.gains c.in_err-rest.ensures.gains (omega arith) (omega arith)

pub returns-in_err-id-clause-gains : goal.returns-in_err-id-clause-gains
returns-in_err-id-clause-gains c = gains_trans _ _ _ _ _ _ 80 5120 48 9216 128 14336 (gains_trans _ _ _ _ _ _ 32 2048 48 3072 80 5120 c.in_ok-by.ensures.gains c.in_ok-rest.ensures.gains (omega arith) (omega arith)) c.in_err-id.ensures.gains (omega arith) (omega arith)

pub returns-clause-gains : goal.returns-clause-gains
returns-clause-gains c = gains_trans _ _ _ _ _ _ 80 5120 48 9216 128 14336 (gains_trans _ _ _ _ _ _ 32 2048 48 3072 80 5120 c.in_ok-by.ensures.gains c.in_ok-rest.ensures.gains (omega arith) (omega arith)) c.in_ok-id.ensures.gains (omega arith) (omega arith)

pub returns-clause-tells : goal.returns-clause-tells
returns-clause-tells c = right_tells _ _ _ _ _ _ _ _ _ _ _ c.requires.width c.requires.room c.requires.a c.in_ok-by.ensures.gains.grows c.in_ok-by.ensures.tells c.in_ok-rest.ensures.gains.grows c.in_ok-rest.ensures.tells c.in_ok-id.ensures.gains.grows c.in_ok-id.ensures.tells
