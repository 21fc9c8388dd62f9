use Rattle.std.proofs.Common.{◌≡◌, ◌+◌, ◌-◌, arith}
use Rattle.jvm_run.proofs.RowLemmas.{count_step}
use Rattle.jvm_run.proofs.rows.counted.Goals as goal

pub loop-preserved : goal.loop-preserved
loop-preserved c =
    let e : c.args.count - (c.loop.counter + 1) ≡ (c.args.count - c.loop.counter) - 1 = omega arith in
    rw (c.in_ok-push.ensures, e) (count_step _ _ _ _ (omega (arith, c.loop-test.true)) c.loop.invariant)
