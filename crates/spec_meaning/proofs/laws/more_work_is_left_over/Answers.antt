use Rattle.spec_meaning.proofs.MoreWork.{left_over}
use Rattle.spec_meaning.proofs.laws.more_work_is_left_over.Goals as goal

pub returns : goal.returns
returns c = left_over
