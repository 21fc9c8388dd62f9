use Rattle.std.proofs.Common.{map, string_bytes}
use Rattle.axe_words.specs.Command.{given_by}
use Rattle.axe_words.proofs.RangeLemmas.{ranges}
use Rattle.axe_words.proofs.read.read_words.Goals as goal

pub returns-in-Some-Prove-clause-ranges : goal.returns-in-Some-Prove-clause-ranges
returns-in-Some-Prove-clause-ranges c = ranges (given_by (map string_bytes c.in-Some.rest.now)) c.prove_job.result c.prove_job.ensures.job
