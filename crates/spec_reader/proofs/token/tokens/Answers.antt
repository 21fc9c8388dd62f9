use Rattle.std.proofs.lemmas.Result.{err_from_is_err_and}
use Rattle.spec_reader.proofs.Texts.{goes_on, fails, ends}
use Rattle.spec_reader.proofs.token.tokens.Goals as goal

pub loop-at-preserved : goal.loop-at-preserved
loop-at-preserved c = goes_on c.loop-at.passed c.loop-at.at c.args.bytes.now _ c.loop-at.tokens.items _ _ c.loop-at-test.true c.split_at.ensures.back c.in_ok-passed.ensures c.loop-at.invariant

pub returns : goal.returns
returns c = ends c.loop-at.passed c.loop-at.at c.args.bytes.now c.loop-at.tokens.items _ c.loop-at-test.false c.loop-at.invariant

pub returns-in_err-passed : goal.returns-in_err-passed
returns-in_err-passed c =
    let p = err_from_is_err_and c.from_residual.result c.from_residual.ensures.1 in
    rw (p.1, p.2) (fails c.loop-at.passed c.loop-at.at c.args.bytes.now _ c.loop-at.tokens.items c.in_err-passed.field-0.0 _ c.loop-at-test.true c.split_at.ensures.back c.in_err-passed.ensures c.loop-at.invariant)
