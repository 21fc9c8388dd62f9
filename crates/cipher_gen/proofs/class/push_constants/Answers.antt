use Rattle.std.proofs.Common.{arith, rules}
use Rattle.cipher_gen.proofs.Rounds.{begun, more, done}
use Rattle.cipher_gen.proofs.class.push_constants.Goals as goal

pub loop-round-init : goal.loop-round-init
loop-round-init c = begun _ _ _

pub loop-round-preserved : goal.loop-round-preserved
loop-round-preserved c = more _ _ _ _ _ _ (omega arith) (search rules) c.loop-round.invariant

pub returns : goal.returns
returns c = done _ _ _ _ _ (omega arith) c.loop-round.invariant
