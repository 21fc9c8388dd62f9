use Rattle.jvm_run.proofs.RunLemmas.{run_goes_on, run_ends, run_is_out}
use Rattle.jvm_run.proofs.run.run_from.Goals as goal

pub returns-in-Some : goal.returns-in-Some
returns-in-Some c = run_ends _ _ _ _ _ _ _ _ c.loop-test.true (rw c.in-Some.is at c.in_ok-end.ensures) c.loop.invariant

pub loop-preserved : goal.loop-preserved
loop-preserved c = run_goes_on _ _ _ _ _ _ _ _ c.loop-test.true (rw c.in_default.is at c.in_ok-end.ensures) c.loop.invariant

pub returns : goal.returns
returns c = run_is_out _ _ _ _ _ _ _ c.loop-test.false c.loop.invariant
