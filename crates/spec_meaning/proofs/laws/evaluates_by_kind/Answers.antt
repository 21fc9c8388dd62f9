use Rattle.spec_meaning.proofs.Depths.{too_deep_ends, without_work, entered}
use Rattle.spec_meaning.proofs.laws.evaluates_by_kind.Goals as goal

pub returns : goal.returns
returns c = record { deep = too_deep_ends; spent = without_work; entered = entered }
