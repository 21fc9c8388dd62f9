use Rattle.std.proofs.lemmas.Result.{err_from_is_err_and}
use Rattle.spec_reader.specs.Forms.{meaning_in, meaning_of, entries}
use Rattle.spec_reader.proofs.Definitions.{goes_on, fails}
use Rattle.spec_reader.proofs.program.program_with.Goals as goal

pub loop-number-preserved : goal.loop-number-preserved
loop-number-preserved c = rw c.in_ok-add.ensures (goes_on (meaning_in c.in_ok-names.names) (meaning_of (entries c.args.definitions.now)) c.loop-number.program c.args.definitions.now c.loop-number.number c.index-definitions-number.result c.in_ok-body.body _ c.in_ok-names.ensures c.loop-number-test.true c.index-definitions-number.is c.in_ok-body.ensures c.loop-number.invariant)

pub returns-in_err-body : goal.returns-in_err-body
returns-in_err-body c =
    let p = err_from_is_err_and c.from_residual-in_err-body.result c.from_residual-in_err-body.ensures.1 in
    rw (p.1, p.2) (fails (meaning_in c.in_ok-names.names) (meaning_of (entries c.args.definitions.now)) c.loop-number.program c.args.definitions.now c.loop-number.number c.index-definitions-number.result c.in_err-body.field-0.0 _ c.in_ok-names.ensures c.loop-number-test.true c.index-definitions-number.is c.in_err-body.ensures c.loop-number.invariant)
