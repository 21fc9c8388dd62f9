use Rattle.std.proofs.lemmas.Result.{err_from_is_err_and}
use Rattle.class_file.specs.declared.error.ClassError.TheVariants.{Memory}
use Rattle.class_reader.specs.MemberReaders.{row_at}
use Rattle.reading.specs.Readers.{one_more}
use Rattle.reading.proofs.Turns.{list_goes_on, list_fails, ends}
use Rattle.class_reader.proofs.code.each_row.Goals as goal

pub returns-in_err-row : goal.returns-in_err-row
returns-in_err-row c =
    let p = err_from_is_err_and c.from_residual.result c.from_residual.ensures.1 in
    rw (p.1, p.2) (list_fails Memory c.in_err-row.field-0.0 (row_at c.args.end) c.args.count c.loop.counter _ _ _ c.loop-test.true c.in_err-row.ensures c.loop.invariant)

pub loop-preserved : goal.loop-preserved
loop-preserved c = rw c.in_ok-push.ensures.items (list_goes_on (row_at c.args.end) c.args.count c.loop.counter _ _ _ _ _ c.loop-test.true c.in_ok-row.ensures c.loop.invariant)

pub returns : goal.returns
returns c = ends (one_more (row_at c.args.end)) c.args.count c.loop.counter _ _ _ c.loop-test.false c.loop.invariant
