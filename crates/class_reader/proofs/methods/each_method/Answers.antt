use Rattle.std.proofs.Common.{arith}
use Rattle.std.proofs.lemmas.Result.{err_from_is_err_and}
use Rattle.class_file.specs.declared.error.ClassError.TheVariants.{Memory}
use Rattle.class_reader.specs.MemberReaders.{method_at}
use Rattle.reading.specs.Readers.{one_more}
use Rattle.reading.proofs.Turns.{list_goes_on, list_fails, ends}
use Rattle.class_reader.proofs.methods.each_method.Goals as goal

pub returns-in_err-method-clause-read : goal.returns-in_err-method-clause-read
returns-in_err-method-clause-read c =
    let p = err_from_is_err_and c.from_residual.result c.from_residual.ensures.1 in
    rw (p.1, p.2) (list_fails Memory c.in_err-method.field-0.0 (method_at c.args.pool.now c.args.end) c.args.count c.loop.counter _ _ _ c.loop-test.true c.in_err-method.ensures c.loop.invariant.read)

pub loop-preserved : goal.loop-preserved
loop-preserved c = record {
  read = rw c.in_ok-push.ensures.items (list_goes_on (method_at c.args.pool.now c.args.end) c.args.count c.loop.counter _ _ _ _ _ c.loop-test.true c.in_ok-method.ensures c.loop.invariant.read);
  few = omega (arith, c.in_ok-push.ensures.len);
}

pub returns-clause-read : goal.returns-clause-read
returns-clause-read c = ends (one_more (method_at c.args.pool.now c.args.end)) c.args.count c.loop.counter _ _ _ c.loop-test.false c.loop.invariant.read
