-- What clap gives is what its definition gives, and its refusals are those of its definition.
use Rattle.std.proofs.Common.{◌≡◌, ◌⊎◌, sym, ◌∙◌, subst, map}
use Rattle.std.specs.String.{string_bytes}
use Rattle.clap.specs.Words.{first_value, found_of, IsAmong}
use Rattle.clap.specs.declared.error.kind.ErrorKind.{ErrorKind}
use Rattle.clap.specs.declared.error.kind.ErrorKind.TheVariants.{OutOfMemory}
use Rattle.axe_words.specs.Command.{HasWords, faults}
use Rattle.axe_words.proofs.FaultLemmas.{value_fault, refusal_fault}
use Rattle.axe_words.proofs.read.prove_job.Goals as goal

pub job_of-requires : goal.job_of-requires
job_of-requires c = subst HasWords (sym c.in-Ok.ensures.given) c.in-Ok.ensures.present

pub returns-in-Ok-clause-fault : goal.returns-in-Ok-clause-fault
returns-in-Ok-clause-fault c = value_fault (map string_bytes c.args.words.now) (first_value (found_of c.in-Ok.matches)) c.job_of.result c.in-Ok.ensures.given c.in-Ok.ensures.fits c.job_of.ensures.fault

pub returns-in-Err-clause-fault : goal.returns-in-Err-clause-fault
returns-in-Err-clause-fault c = let is = c.kind.ensures in let words = map string_bytes c.args.words.now in
    refusal_fault words c.kind.result c.refusal.result c.refusal.ensures.memory c.refusal.ensures.other
    (subst (λ (k : ErrorKind). (k ≡ OutOfMemory) ⊎ IsAmong k (faults words)) (sym is) c.in-Err.ensures.kind) (λ taken. is ∙ c.in-Err.ensures.refused taken)
