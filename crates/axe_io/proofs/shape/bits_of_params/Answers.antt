use Rattle.std.proofs.Common.{arith}
use Rattle.axe_io.proofs.Leaves.{no_param, bits_next, bits_of-le}
use Rattle.axe_io.proofs.shape.bits_of_params.Goals as goal

pub overflow_add-bits : goal.overflow_add-bits
overflow_add-bits c = rw (c.leaves.ensures, c.width.ensures) (omega (arith, c.loop-param.invariant, bits_next c.args.params.now c.loop-param.param-index no_param c.loop-param-test.true, bits_of-le c.args.params.now, c.requires))

pub loop-param-preserved : goal.loop-param-preserved
loop-param-preserved c = rw (c.leaves.ensures, c.width.ensures) (omega (arith, c.loop-param.invariant, bits_next c.args.params.now c.loop-param.param-index no_param c.loop-param-test.true))
