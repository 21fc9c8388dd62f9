-- What is answered to words, where a store holds a class and a specification.
use Rattle.std.specs.Prelude.{◌≡◌, ◌⊎◌, ℕ, nat_le, true, false, List, [], ◌∷◌, Option, Some, None, Result, Ok, Err}
use Rattle.axe_io.specs.Ends.{Told, Rose}
use Rattle.axe_io.specs.Inputs.{IsInput, bits_of}
use Rattle.axe_io.specs.Shapes.{ShapeParts}
use Rattle.axe_io.specs.declared.budgets.Budgets.{Budgets}
use Rattle.axe_io.specs.declared.budgets.Spent.{Spent}
use Rattle.axe_words.specs.Meaning.{IsJob, IsWordsFault}
use Rattle.axe_words.specs.declared.job.Job.{Job}
use Rattle.axe_words.specs.declared.job.WordsError.{WordsError}
use Rattle.axe_words.specs.declared.job.WordsError.TheVariants as words_error
use Rattle.class_file.specs.Contents.{Contents}
use Rattle.job_meaning.specs.Jobs.{Job as Pair, Agrees, widths_of}
use Rattle.job_meaning.specs.Trying.{Passes, Shows, tried}
use Rattle.job_meaning.specs.declared.shown.Shown.TheVariants as shown
use Rattle.verdict_text.specs.Verdicts.{limit_of, verdict_of}
use Rattle.verdict_text.specs.declared.verdict.Refusal.{Refusal}
use Rattle.verdict_text.specs.declared.verdict.Refusal.TheVariants.{Words as BadWords, Instruction, Form}
use Rattle.verdict_text.specs.declared.verdict.Verdict.{Verdict}
use Rattle.verdict_text.specs.declared.verdict.Verdict.TheVariants.{Equal, Different, Unknown, UnknownCases, Refused}
use Rattle.job_parts.specs.Parts.{Asked, asked_of, Parts, pair_of}
use Rattle.job_parts.specs.Causes.{RanOut}
use Rattle.job_parts.specs.Found.{IsFound, IsMissing}
use Rattle.decide.specs.declared.answer.NoAnswer.{NoAnswer}
use Rattle.decide.specs.declared.answer.NoAnswer.TheVariants.{ReadFault, Memory}

-- a verdict, with the shape and the class that its text is about
pub record Answer : Type 0 where
  pub verdict : Verdict
  pub shape : Option ShapeParts
  pub class : Option Contents

abbrev pub refusal : Refusal → Answer
refusal r = record { verdict = Refused r; shape = None; class = None }

-- ---- verdicts on what was found

-- a budget of a run or of an evaluation was spent, on the one input that is told
abbrev pub IsSpent : Budgets → Pair → Spent → Type 0
IsSpent b pair spent = (spent.limit ≡ limit_of b spent.budget) × ((input : List ℕ) × (spent.inputs ≡ input ∷ []) × IsInput (widths_of pair) input × Passes pair input spent.budget)

-- what a verdict says is so: equal only where method and function agree on every input, different only with an input on
-- which they don't, with both ends as run and evaluation give them, and unknown and refused only with their cause
abbrev pub IsRight : Budgets → Pair → Verdict → Type 0
IsRight b pair (Equal bits) = (bits ≡ bits_of (widths_of pair)) × ((input : List ℕ) → IsInput (widths_of pair) input → Agrees pair input)
IsRight b pair (Different input method spec) = IsInput (widths_of pair) input × Shows pair input (shown.Differs method spec)
IsRight b pair (Unknown spent) = IsSpent b pair spent
IsRight b pair (UnknownCases limit) = (limit ≡ b.cases) × (nat_le (bits_of (widths_of pair)) limit ≡ false)
IsRight b pair (Refused (Instruction reason method pc input)) = IsInput (widths_of pair) input × Shows pair input (shown.Refused reason method pc)
IsRight b pair (Refused (Form reason at input)) = IsInput (widths_of pair) input × Shows pair input (shown.Outside at reason)
IsRight b pair (Refused _) = ⊥

-- what decides inputs of more bits than are tried: that there are more
abbrev pub IsDecided : Budgets → Pair → Verdict → Type 0
IsDecided b pair verdict = verdict ≡ UnknownCases b.cases

-- the verdict: few bits are tried, and it is right whatever there are
pub record IsVerdict (b : Budgets) (pair : Pair) (verdict : Verdict) : Type 0 where
  pub few : nat_le (bits_of (widths_of pair)) b.cases ≡ true → verdict ≡ verdict_of b (bits_of (widths_of pair)) (tried pair)
  pub many : nat_le (bits_of (widths_of pair)) b.cases ≡ false → IsDecided b pair verdict
  pub right : IsRight b pair verdict

-- the answer where this was found
abbrev pub IsAnswer : Asked → Result Parts Refusal → Answer → Type 0
IsAnswer w (Err r) answer = answer ≡ refusal r
IsAnswer w (Ok p) answer = (answer.shape ≡ Some p.shape) × (answer.class ≡ Some p.class) × IsVerdict w.budgets (pair_of w.budgets p) answer.verdict

-- the answer to a job
abbrev pub IsJobAnswer : Asked → (List ℕ → Told) → Answer → Type 0
IsJobAnswer w holds answer = (found : Result Parts Refusal) × IsFound w holds found × IsAnswer w found answer

-- ---- answers to words

-- want of memory is no refusal
abbrev pub IsRefusal : WordsError → Type 0
IsRefusal words_error.Memory = ⊥
IsRefusal e = Unit {0}

-- the words are refused, for this cause
pub record RefusesWords (words : List (List ℕ)) (answer : Answer) : Type 0 where
  pub error : WordsError
  pub fault : IsWordsFault words error
  pub told : IsRefusal error
  pub is : answer ≡ refusal (BadWords error)

-- the words mean a job, and this is its answer
pub record AnswersJob (words : List (List ℕ)) (holds : List ℕ → Told) (answer : Answer) : Type 0 where
  pub job : Job
  pub means : IsJob words job
  pub answers : IsJobAnswer (asked_of job) holds answer

-- the answer to words
abbrev pub Answers : List (List ℕ) → (List ℕ → Told) → Answer → Type 0
Answers words holds answer = RefusesWords words answer ⊎ AnswersJob words holds answer

-- ---- causes

-- a read of what a job names failed: the store's count of faults rose, or nothing stands under a name when it is read
abbrev pub FailsRead : Asked → (List ℕ → Told) → ℕ → ℕ → Type 0
FailsRead w holds before now = Rose before now ⊎ IsMissing w holds

-- the words mean a job, and a read of what it names failed
pub record FailsJob (words : List (List ℕ)) (holds : List ℕ → Told) (before now : ℕ) : Type 0 where
  pub job : Job
  pub means : IsJob words job
  pub fails : FailsRead (asked_of job) holds before now

-- why words are not answered; a fault of the store is no want of memory
abbrev pub HasCause : List (List ℕ) → (List ℕ → Told) → ℕ → ℕ → NoAnswer → Type 0
HasCause words holds before now ReadFault = FailsJob words holds before now
HasCause words holds before now Memory = now ≡ before

-- why a job is not answered
abbrev pub HasJobCause : Asked → (List ℕ → Told) → ℕ → ℕ → NoAnswer → Type 0
HasJobCause w holds before now ReadFault = FailsRead w holds before now
HasJobCause w holds before now Memory = RanOut w holds before now
