use Rattle.jvm_meaning.proofs.TraceLemmas.{ends_stay}
use Rattle.jvm_meaning.proofs.laws.ends_stay.Goals as goal

pub returns : goal.returns
returns c = ends_stay
