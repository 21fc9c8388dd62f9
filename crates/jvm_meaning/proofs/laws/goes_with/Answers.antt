use Rattle.jvm_meaning.proofs.TraceLemmas.{goes_alike}
use Rattle.jvm_meaning.proofs.laws.goes_with.Goals as goal

pub returns : goal.returns
returns c = goes_alike
