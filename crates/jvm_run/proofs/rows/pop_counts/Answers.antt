use Rattle.std.proofs.lemmas.Result.{err_from_is_err_and}
use Rattle.jvm_run.proofs.RowLemmas.{pop_step, pop_stop}
use Rattle.jvm_run.proofs.rows.pop_counts.Goals as goal

pub returns-in_err-count : goal.returns-in_err-count
returns-in_err-count c =
    let p = err_from_is_err_and c.from_residual.result c.from_residual.ensures.1 in
    rw (p.1, p.2) (pop_stop c.args.dimensions c.loop.counter c.loop.taken.items c.loop.stack c.in_err-count.field-0.0 _ c.loop-test.true c.in_err-count.ensures c.loop.invariant)

pub loop-preserved : goal.loop-preserved
loop-preserved c = pop_step c.args.dimensions c.loop.counter c.loop.taken.items _ c.loop.stack _ _ _ c.loop-test.true c.in_ok-push.ensures.items c.in_ok-count.ensures c.loop.invariant
