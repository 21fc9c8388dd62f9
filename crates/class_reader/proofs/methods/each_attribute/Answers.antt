use Rattle.std.proofs.lemmas.Result.{err_from_is_err_and}
use Rattle.std.proofs.Common.{◌-◌, ◌+◌}
use Rattle.class_file.specs.declared.error.ClassError.TheVariants.{Memory}
use Rattle.class_reader.specs.MemberReaders.{method_attribute_at}
use Rattle.reading.proofs.Turns.{goes_on, fails, ends}
use Rattle.class_reader.proofs.methods.each_attribute.Goals as goal

pub returns-in_err-next : goal.returns-in_err-next
returns-in_err-next c =
    let p = err_from_is_err_and c.from_residual.result c.from_residual.ensures.1 in
    rw (p.1, p.2) (fails Memory c.in_err-next.field-0.0 (method_attribute_at c.args.pool.now c.args.end) c.args.count c.loop.counter _ _ _ c.loop-test.true (c.in_err-next.ensures (c.args.count - (c.loop.counter + 1))) c.loop.invariant)

pub loop-preserved : goal.loop-preserved
loop-preserved c = goes_on (method_attribute_at c.args.pool.now c.args.end) c.args.count c.loop.counter _ _ _ _ _ c.loop-test.true (c.in_ok-next.ensures (c.args.count - (c.loop.counter + 1))) c.loop.invariant

pub returns : goal.returns
returns c = ends (method_attribute_at c.args.pool.now c.args.end) c.args.count c.loop.counter _ _ _ c.loop-test.false c.loop.invariant
