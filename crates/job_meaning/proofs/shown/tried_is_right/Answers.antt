use Rattle.job_meaning.proofs.Rightness.{right}
use Rattle.job_meaning.proofs.shown.tried_is_right.Goals as goal

pub returns : goal.returns
returns c = λ job. right job c.inputs_are_counted.ensures
