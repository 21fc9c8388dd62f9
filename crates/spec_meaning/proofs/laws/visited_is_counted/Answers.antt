use Rattle.spec_meaning.proofs.Walks.{counted}
use Rattle.spec_meaning.proofs.laws.visited_is_counted.Goals as goal

pub returns : goal.returns
returns c = counted
