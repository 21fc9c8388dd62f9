use Rattle.job_meaning.proofs.VaryLemmas.{differ}
use Rattle.job_meaning.proofs.shown.varying_inputs_differ.Goals as goal

pub returns : goal.returns
returns c = differ
