use Rattle.std.proofs.lemmas.Result.{err_from_is_err_and}
use Rattle.class_file.specs.declared.error.ClassError.TheVariants.{Memory}
use Rattle.class_reader.specs.MemberReaders.{attribute_turn}
use Rattle.reading.proofs.Turns.{goes_on, fails, ends}
use Rattle.class_reader.proofs.attributes.each_attribute.Goals as goal

pub returns-in_err-rest : goal.returns-in_err-rest
returns-in_err-rest c =
    let p = err_from_is_err_and c.from_residual.result c.from_residual.ensures.1 in
    rw (p.1, p.2) (fails Memory c.in_err-rest.field-0.0 (attribute_turn c.args.pool.now c.args.end) c.args.count c.loop.counter tt _ _ c.loop-test.true c.in_err-rest.ensures c.loop.invariant)

pub loop-preserved : goal.loop-preserved
loop-preserved c = goes_on (attribute_turn c.args.pool.now c.args.end) c.args.count c.loop.counter tt tt _ _ _ c.loop-test.true c.in_ok-rest.ensures c.loop.invariant

pub returns : goal.returns
returns c = ends (attribute_turn c.args.pool.now c.args.end) c.args.count c.loop.counter tt _ _ c.loop-test.false c.loop.invariant
