use Rattle.decide.proofs.Completing.{complete}
use Rattle.decide.proofs.laws.run_is_complete.Goals as goal

pub returns : goal.returns
returns c = complete c.tried_is_complete.ensures
