use Rattle.job_meaning.proofs.Rightness.{complete}
use Rattle.job_meaning.proofs.shown.tried_is_complete.Goals as goal

pub returns : goal.returns
returns c = complete c.inputs_are_counted.ensures
