-- When a run of the program ends with a decision.
use Rattle.std.specs.Prelude.{◌≡◌, ◌⊎◌, ◌≤◌, ℕ, nat_le, true, List, length, Option, Some, Ok}
use Rattle.axe_io.specs.Ends.{Told}
use Rattle.axe_io.specs.Inputs.{IsInput, bits_of}
use Rattle.axe_words.specs.Meaning.{IsJob}
use Rattle.axe_words.specs.declared.job.Job.{Job}
use Rattle.class_file.specs.Contents.{Contents}
use Rattle.class_file.specs.declared.class.MethodId.{MethodId}
use Rattle.job_meaning.specs.Jobs.{widths_of}
use Rattle.job_meaning.specs.Trying.{Settles}
use Rattle.job_parts.specs.Parts.{Asked, asked_of, Parts, pair_of}
use Rattle.job_parts.specs.Stages.{method_stage, parts_stage}
use Rattle.decide.specs.declared.status.Status.{Status}
use Rattle.decide.specs.declared.status.Status.TheVariants.{Equal, Different, ReadFault, WriteFault, NoMemory}
use Rattle.decide.specs.Runs.{RunEnds}

-- the store tells the class and the specification of a job, of at most 1,048,576 bytes each, and they lead to these parts
pub record Fits (w : Asked) (holds : List ℕ → Told) (p : Parts) : Type 0 where
  pub class : List ℕ
  pub spec : List ℕ
  pub method : Contents × MethodId
  pub tells_class : holds w.class ≡ Some (Some class)
  pub tells_spec : holds w.spec ≡ Some (Some spec)
  pub short_class : length class ≤ 1048576
  pub short_spec : length spec ≤ 1048576
  pub has_method : method_stage w (Some class) ≡ Ok method
  pub has_parts : parts_stage w method (Some spec) ≡ Ok p

-- a job fits, its inputs are few enough to be tried, and on each the run has a result and the evaluation a value
pub record MayBeDecided (w : Asked) (holds : List ℕ → Told) : Type 0 where
  pub parts : Parts
  pub fits : Fits w holds parts
  pub few : nat_le (bits_of (widths_of (pair_of w.budgets parts))) w.budgets.cases ≡ true
  pub settles : (input : List ℕ) → IsInput (widths_of (pair_of w.budgets parts)) input → Settles (pair_of w.budgets parts) input

-- a status is none of the three faults
abbrev pub IsAnswered : Status → Type 0
IsAnswered ReadFault = ⊥
IsAnswered WriteFault = ⊥
IsAnswered NoMemory = ⊥
IsAnswered status = Unit {0}

-- where the words mean a job that may be decided, a run without a fault ends Equal or Different
abbrev pub RunIsComplete : Type 0
RunIsComplete =
    (words : List (List ℕ)) (holds : List ℕ → Told) (read_before read_now : ℕ) (old new : Option (List ℕ)) (before now : ℕ) (status : Status)
    → RunEnds words holds read_before read_now old new before now status
    → (job : Job) → IsJob words job → ((other : Job) → IsJob words other → MayBeDecided (asked_of other) holds)
    → IsAnswered status → (status ≡ Equal) ⊎ (status ≡ Different)
