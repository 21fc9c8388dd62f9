use Rattle.spec_meaning.proofs.Walks.{visits_used}
use Rattle.spec_meaning.proofs.laws.visits_are_used.Goals as goal

pub returns : goal.returns
returns c = visits_used
