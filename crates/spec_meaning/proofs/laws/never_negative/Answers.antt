use Rattle.spec_meaning.proofs.NeverNegative.{never_negative}
use Rattle.spec_meaning.proofs.laws.never_negative.Goals as goal

pub returns : goal.returns
returns c = never_negative
