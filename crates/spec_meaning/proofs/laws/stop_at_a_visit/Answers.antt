use Rattle.spec_meaning.proofs.Stops.{stops_at}
use Rattle.spec_meaning.proofs.laws.stop_at_a_visit.Goals as goal

pub returns : goal.returns
returns c = stops_at
