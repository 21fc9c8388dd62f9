-- What trying every input in counting order finds.
use Rattle.std.specs.Prelude.{◌≡◌, ℕ, zero, suc, ◌+◌, ◌^◌, ◌<◌, if◌then◌else◌, List, Option, Some, None, Result, Ok, Err}
use Rattle.axe_io.specs.Inputs.{IsInput, bits_of, number_of, input_at}
use Rattle.axe_io.specs.declared.budgets.Budget.{Budget}
use Rattle.axe_io.specs.declared.budgets.Budget.TheVariants.{Steps, Frames, Elements, Depth, Work}
use Rattle.class_file.specs.declared.class.MethodId.{MethodId}
use Rattle.spec_meaning.specs.declared.value.Value.{Value}
use Rattle.spec_meaning.specs.declared.value.SpecEnd.{SpecEnd}
use Rattle.spec_meaning.specs.declared.value.SpecEnd.TheVariants as evaluation
use Rattle.jvm_meaning.specs.Numbers.{Seen}
use Rattle.jvm_state.specs.declared.value.Throw.{Throw}
use Rattle.jvm_meaning.specs.Numbers.{End}
use Rattle.jvm_state.specs.declared.value.End.TheVariants as run
use Rattle.job_meaning.specs.declared.shown.Shown.{Shown}
use Rattle.job_meaning.specs.declared.shown.Shown.TheVariants.{Differs, Refused, Outside, Spends}
use Rattle.job_meaning.specs.Jobs.{Job, Agrees, widths_of, method_end, spec_end, is_same}

-- what an evaluation shows, whose value is to be compared
abbrev pub compared : (Value → Option Shown) → SpecEnd → Option Shown
compared compare (evaluation.Value value) = compare value
compared compare (evaluation.Outside at reason) = Some (Outside at reason)
compared compare evaluation.MoreDepth = Some (Spends Depth)
compared compare evaluation.MoreWork = Some (Spends Work)

-- the same of an evaluation's value, or of what it shows where it has none
abbrev pub value_or_shown : (Value → Option Shown) → Result Value Shown → Option Shown
value_or_shown compare (Ok value) = compare value
value_or_shown compare (Err shown) = Some shown

-- a run that returned agrees with the value that was observed
abbrev pub unless_same : Seen → Value → Option Shown
unless_same seen value = if is_same seen value then None else Some (Differs (run.Returned seen) value)

-- a run that threw agrees with no value
abbrev pub thrown : Throw → MethodId → ℕ → Value → Option Shown
thrown kind method pc value = Some (Differs (run.Threw kind method pc) value)

-- what the two ends on an input show: nothing where both agree; the run comes before the evaluation, and both
-- before the comparison
abbrev pub shown_by : End → SpecEnd → Option Shown
shown_by (run.Returned seen) spec = compared (unless_same seen) spec
shown_by (run.Threw kind method pc) spec = compared (thrown kind method pc) spec
shown_by (run.Refused reason method pc) spec = Some (Refused reason method pc)
shown_by run.MoreSteps spec = Some (Spends Steps)
shown_by run.MoreFrames spec = Some (Spends Frames)
shown_by run.MoreElements spec = Some (Spends Elements)

abbrev pub shown_at : Job → List ℕ → Option Shown
shown_at job input = shown_by (method_end job input) (spec_end job input)

abbrev pub found : List ℕ → Option Shown → Option (List ℕ × Shown) → Option (List ℕ × Shown)
found input (Some shown) later = Some (input, shown)
found input None later = later

-- the first of so many inputs from a number on that shows something, with what it shows
abbrev pub tried_from : Job → ℕ → ℕ → Option (List ℕ × Shown)
tried_from job zero n = None
tried_from job (suc left) n = found (input_at (widths_of job) n) (shown_at job (input_at (widths_of job) n)) (tried_from job left (n + 1))

-- the first input in counting order on which method and function don't agree
unfoldable pub tried : Job → Option (List ℕ × Shown)
tried job = tried_from job (2 ^ bits_of (widths_of job)) 0

-- on each earlier input in counting order they agree
abbrev pub AgreesBefore : Job → List ℕ → Type 0
AgreesBefore job input = (earlier : List ℕ) → IsInput (widths_of job) earlier → number_of (widths_of job) earlier < number_of (widths_of job) input → Agrees job earlier

-- the run or the evaluation on an input passes this budget
abbrev pub Passes : Job → List ℕ → Budget → Type 0
Passes job input Steps = method_end job input ≡ run.MoreSteps
Passes job input Frames = method_end job input ≡ run.MoreFrames
Passes job input Elements = method_end job input ≡ run.MoreElements
Passes job input Depth = spec_end job input ≡ evaluation.MoreDepth
Passes job input Work = spec_end job input ≡ evaluation.MoreWork
Passes job input _ = ⊥

-- a run that returned or threw has a result
abbrev pub IsResult : End → Type 0
IsResult (run.Returned seen) = Unit {0}
IsResult (run.Threw kind method pc) = Unit {0}
IsResult (run.Refused reason method pc) = ⊥
IsResult run.MoreSteps = ⊥
IsResult run.MoreFrames = ⊥
IsResult run.MoreElements = ⊥

-- an input shows this: a refusal, a form without a value, a budget that is passed, or two results that don't agree
abbrev pub Shows : Job → List ℕ → Shown → Type 0
Shows job input (Refused reason method pc) = method_end job input ≡ run.Refused reason method pc
Shows job input (Outside at reason) = spec_end job input ≡ evaluation.Outside at reason
Shows job input (Spends budget) = Passes job input budget
Shows job input (Differs end value) = IsResult end × (method_end job input ≡ end) × (spec_end job input ≡ evaluation.Value value) × (Agrees job input → ⊥)

-- the first input in counting order on which they don't agree, and what it shows
pub record IsFirst (job : Job) (input : List ℕ) (shown : Shown) : Type 0 where
  pub is_input : IsInput (widths_of job) input
  pub shows : Shows job input shown
  pub first : AgreesBefore job input

-- what trying finds is right: agreement on all inputs, or the first input without
abbrev pub IsFound : Job → Option (List ℕ × Shown) → Type 0
IsFound job None = (input : List ℕ) → IsInput (widths_of job) input → Agrees job input
IsFound job (Some first) = IsFirst job first.0 first.1

-- ---- one input

-- what one input shows is right: that it shows nothing is agreement
abbrev pub IsShown : Job → List ℕ → Option Shown → Type 0
IsShown job input None = Agrees job input
IsShown job input (Some shown) = Shows job input shown

abbrev pub ShownIsRight : Type 0
ShownIsRight = (job : Job) (input : List ℕ) → IsShown job input (shown_at job input)

-- ---- completeness

-- on an input the run has a result and the evaluation a value
pub record Settles (job : Job) (input : List ℕ) : Type 0 where
  pub result : IsResult (method_end job input)
  pub value : Value
  pub gives : spec_end job input ≡ evaluation.Value value

-- agreement on all inputs, or two results that don't agree
abbrev pub IsDecision : Option (List ℕ × Shown) → Type 0
IsDecision None = Unit {0}
IsDecision (Some (input, Differs end value)) = Unit {0}
IsDecision (Some (input, Refused reason method pc)) = ⊥
IsDecision (Some (input, Outside at reason)) = ⊥
IsDecision (Some (input, Spends budget)) = ⊥

-- where no input is refused, is outside or passes a budget, trying decides
abbrev pub TriedIsComplete : Type 0
TriedIsComplete = (job : Job) → ((input : List ℕ) → IsInput (widths_of job) input → Settles job input) → IsDecision (tried job)
