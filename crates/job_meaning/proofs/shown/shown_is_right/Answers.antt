use Rattle.job_meaning.proofs.Rightness.{shown_right}
use Rattle.job_meaning.proofs.shown.shown_is_right.Goals as goal

pub returns : goal.returns
returns c = shown_right
