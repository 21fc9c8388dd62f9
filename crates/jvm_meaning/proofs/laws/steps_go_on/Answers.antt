use Rattle.jvm_meaning.proofs.TraceLemmas.{goes_on}
use Rattle.jvm_meaning.proofs.laws.steps_go_on.Goals as goal

pub returns : goal.returns
returns c = goes_on
