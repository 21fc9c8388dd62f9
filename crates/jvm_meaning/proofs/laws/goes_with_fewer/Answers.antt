use Rattle.jvm_meaning.proofs.TraceLemmas.{goes_fewer}
use Rattle.jvm_meaning.proofs.laws.goes_with_fewer.Goals as goal

pub returns : goal.returns
returns c = goes_fewer
