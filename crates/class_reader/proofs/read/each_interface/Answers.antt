use Rattle.std.proofs.lemmas.Result.{err_from_is_err_and}
use Rattle.class_file.specs.declared.error.ClassError.TheVariants.{Memory}
use Rattle.class_reader.specs.ClassReaders.{interface_turn}
use Rattle.reading.proofs.Turns.{goes_on, fails, ends}
use Rattle.std.proofs.Common.{◌-◌, ◌+◌}
use Rattle.class_reader.proofs.Loops.{interface_turn-ok, interface_turn-fails}
use Rattle.class_reader.proofs.read.each_interface.Goals as goal

pub returns-in_err-_index : goal.returns-in_err-_index
returns-in_err-_index c =
    let p = err_from_is_err_and c.from_residual.result c.from_residual.ensures.1 in
    rw (p.1, p.2) (fails Memory c.in_err-_index.field-0.0 (interface_turn c.args.pool.now c.args.end) c.args.count c.loop.counter tt _ _ c.loop-test.true (interface_turn-fails _ c.args.pool.now c.args.end (c.args.count - (c.loop.counter + 1)) _ c.in_err-_index.ensures) c.loop.invariant)

pub loop-preserved : goal.loop-preserved
loop-preserved c = goes_on (interface_turn c.args.pool.now c.args.end) c.args.count c.loop.counter tt tt _ _ _ c.loop-test.true (interface_turn-ok c.args.pool.now c.args.end (c.args.count - (c.loop.counter + 1)) _ _ _ c.in_ok-_index.ensures) c.loop.invariant

pub returns : goal.returns
returns c = ends (interface_turn c.args.pool.now c.args.end) c.args.count c.loop.counter tt _ _ c.loop-test.false c.loop.invariant
