use Rattle.std.proofs.Common.{◌≡◌, ◌+◌, ◌-◌, arith}
use Rattle.jvm_run.proofs.RowLemmas.{row_step}
use Rattle.jvm_run.proofs.rows.push_rows.Goals as goal

pub loop-preserved : goal.loop-preserved
loop-preserved c =
    let e : c.args.many - (c.loop.counter + 1) ≡ (c.args.many - c.loop.counter) - 1 = omega arith in
    let next : c.in-Some-checked_add.next ≡ c.loop.first + c.args.count = omega (arith, c.in-Some-checked_add.ensures.1, c.from.ensures) in
    rw (c.in_ok-push.ensures, c.in_ok-references.ensures, e, next) (row_step _ _ _ _ _ _ (omega (arith, c.loop-test.true)) c.loop.invariant)
