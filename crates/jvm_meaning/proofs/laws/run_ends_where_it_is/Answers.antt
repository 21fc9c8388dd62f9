use Rattle.jvm_meaning.proofs.TraceLemmas.{ends_there}
use Rattle.jvm_meaning.proofs.laws.run_ends_where_it_is.Goals as goal

pub returns : goal.returns
returns c = ends_there
