use Rattle.std.proofs.Common.{◌∙◌, sym, arith}
use Rattle.axe_io.proofs.Leaves.{no_param, found, passed}
use Rattle.axe_io.proofs.shape.width_of_leaf.Goals as goal

pub returns-then-left-count : goal.returns-then-left-count
returns-then-left-count c = rw c.width.ensures (sym (found c.args.params.now c.loop-param.param-index no_param c.loop-param.left c.loop-param-test.true (omega (arith, c.leaves-count.ensures, c.if-left-count.true))) ∙ c.loop-param.invariant)

pub loop-param-preserved : goal.loop-param-preserved
loop-param-preserved c = rw c.leaves-count.ensures (passed c.args.params.now c.loop-param.param-index no_param c.loop-param.left c.loop-param-test.true (omega (arith, c.leaves-count.ensures, c.if-left-count.false)) ∙ c.loop-param.invariant)
