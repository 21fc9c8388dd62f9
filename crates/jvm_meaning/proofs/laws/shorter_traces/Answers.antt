use Rattle.jvm_meaning.proofs.TraceLemmas.{shorter}
use Rattle.jvm_meaning.proofs.laws.shorter_traces.Goals as goal

pub returns : goal.returns
returns c = shorter
