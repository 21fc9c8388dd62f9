use Rattle.std.proofs.Common.{◌≡◌, ◌+◌, ◌-◌, arith}
use Rattle.jvm_run.proofs.RowLemmas.{copy_step}
use Rattle.jvm_run.proofs.rows.push_empty.Goals as goal

pub loop-preserved : goal.loop-preserved
loop-preserved c =
    let e : c.args.many - (c.loop.counter + 1) ≡ (c.args.many - c.loop.counter) - 1 = omega arith in
    rw (c.in_ok-push.ensures, c.in_ok-array.ensures, e) (copy_step _ _ _ _ (omega (arith, c.loop-test.true)) c.loop.invariant)
