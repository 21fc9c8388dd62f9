-- How a run of the program ends.
use Rattle.std.specs.Prelude.{◌≡◌, ◌⊎◌, ℕ, List, [], take, Option}
use Rattle.axe_io.specs.Ends.{Told, Rose, Appends}
use Rattle.axe_words.specs.declared.job.WordsError.TheVariants as words_error
use Rattle.clap.specs.declared.error.kind.ErrorKind.TheVariants.{InvalidValue}
use Rattle.verdict_text.specs.Texts.{text_of}
use Rattle.verdict_text.specs.declared.verdict.Verdict.{Verdict}
use Rattle.verdict_text.specs.declared.verdict.Verdict.TheVariants as verdict
use Rattle.verdict_text.specs.declared.verdict.Refusal.TheVariants.{Words as BadWords}
use Rattle.decide.specs.declared.answer.Answer as code
use Rattle.decide.specs.declared.answer.NoAnswer.{NoAnswer}
use Rattle.decide.specs.declared.answer.NoAnswer.TheVariants as none
use Rattle.decide.specs.declared.status.Status.{Status}
use Rattle.decide.specs.declared.status.Status.TheVariants.{Equal, Different, Unknown, Refused, ReadFault, WriteFault, NoMemory}
use Rattle.decide.specs.declared.running.NoWords.{NoWords}
use Rattle.decide.specs.declared.running.NoWords.TheVariants.{NotText, OutOfMemory}
use Rattle.decide.specs.Answers.{Answer, Answers, HasCause, refusal}

-- the status of a verdict
abbrev pub status_of : Verdict → Status
status_of (verdict.Equal bits) = Equal
status_of (verdict.Different input method spec) = Different
status_of (verdict.Unknown spent) = Unknown
status_of (verdict.UnknownCases limit) = Unknown
status_of (verdict.Refused refusal) = Refused

-- a status as a number
abbrev pub code_of : Status → ℕ
code_of Equal = 0
code_of Different = 1
code_of Unknown = 2
code_of Refused = 3
code_of ReadFault = 4
code_of WriteFault = 5
code_of NoMemory = 6

abbrev pub answer : code.Answer → Answer
answer a = record { verdict = a.verdict; shape = a.shape; class = a.class }

abbrev pub text : Answer → List ℕ
text answer = text_of answer.shape answer.class answer.verdict

-- the status where no answer was reached
abbrev pub status_without : NoAnswer → Status
status_without none.ReadFault = ReadFault
status_without none.Memory = NoMemory

-- nothing was written, and no write failed
abbrev pub WroteNothing : Option (List ℕ) → Option (List ℕ) → ℕ → ℕ → Type 0
WroteNothing old new before now = Appends old new [] × (now ≡ before)

-- a text was written, whose status this is, or its beginning where the sink failed, or nothing where memory ran out
abbrev pub Wrote : List ℕ → Status → Option (List ℕ) → Option (List ℕ) → ℕ → ℕ → Status → Type 0
Wrote bytes meant old new before now WriteFault = Rose before now × ((n : ℕ) × Appends old new (take n bytes))
Wrote bytes meant old new before now NoMemory = WroteNothing old new before now
Wrote bytes meant old new before now ReadFault = ⊥
Wrote bytes meant old new before now status = (status ≡ meant) × Appends old new bytes × (now ≡ before)

-- the same of an answer
abbrev pub WroteAnswer : Answer → Option (List ℕ) → Option (List ℕ) → ℕ → ℕ → Status → Type 0
WroteAnswer answer old new before now status = Wrote (text answer) (status_of answer.verdict) old new before now status

-- no answer was reached, for this cause, and nothing written
pub record EndsWithout (words : List (List ℕ)) (holds : List ℕ → Told) (read_before read_now : ℕ) (old new : Option (List ℕ)) (before now : ℕ) (status : Status) : Type 0 where
  pub why : NoAnswer
  pub is : status ≡ status_without why
  pub cause : HasCause words holds read_before read_now why
  pub wrote : WroteNothing old new before now

-- the right answer was reached with no read that failed, and this was written of it
pub record EndsWith (words : List (List ℕ)) (holds : List ℕ → Told) (read_before read_now : ℕ) (old new : Option (List ℕ)) (before now : ℕ) (status : Status) : Type 0 where
  pub answer : Answer
  pub answers : Answers words holds answer
  pub read : read_now ≡ read_before
  pub wrote : WroteAnswer answer old new before now status

-- how a run ends
abbrev pub RunEnds : List (List ℕ) → (List ℕ → Told) → ℕ → ℕ → Option (List ℕ) → Option (List ℕ) → ℕ → ℕ → Status → Type 0
RunEnds words holds read_before read_now old new before now status =
    EndsWithout words holds read_before read_now old new before now status ⊎ EndsWith words holds read_before read_now old new before now status

-- what the program writes where the system gave it no words: a word that is no text is refused as one that isn't of the
-- command's form
abbrev pub WroteWithoutWords : NoWords → Option (List ℕ) → Option (List ℕ) → ℕ → ℕ → Status → Type 0
WroteWithoutWords NotText old new before now status = WroteAnswer (refusal (BadWords (words_error.Refused InvalidValue))) old new before now status
WroteWithoutWords OutOfMemory old new before now status = (status ≡ NoMemory) × WroteNothing old new before now
