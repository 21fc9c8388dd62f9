-- Where a run goes: the states after so many steps, and its traces.
use Rattle.std.specs.Prelude.{◌≡◌, ◌↔◌, ◌<◌, ◌≤◌, ◌+◌, ◌*◌, ℕ, zero, suc, if◌then◌else◌, nat_lt, List, [], ◌∷◌, ◌++◌, length, replicate, map, take, slice_get, Option, Some, None, Result, Ok, Err}
use Rattle.axe_io.specs.Shapes.{ShapeParts}
use Rattle.class_file.specs.Contents.{Contents}
use Rattle.class_file.specs.declared.class.Code.{Code}
use Rattle.class_file.specs.declared.class.MethodId.{MethodId}
use Rattle.jvm_state.specs.declared.value.Value.TheVariants.{Int}
use Rattle.jvm_state.specs.declared.value.Reason.{Reason}
use Rattle.jvm_state.specs.declared.value.End.TheVariants.{MoreSteps}
use Rattle.jvm_state.specs.declared.state.Limits.{Limits}
use Rattle.jvm_state.specs.declared.state.Site.{Site}
use Rattle.jvm_meaning.specs.declared.operation.Instruction.{Instruction}
use Rattle.jvm_meaning.specs.declared.operation.Operation.{Operation}
use Rattle.jvm_meaning.specs.declared.operation.Operation.TheVariants as does
use Rattle.jvm_meaning.specs.declared.operation.ArrayOperation.TheVariants.{NewArray, LoadReference, StoreReference}
use Rattle.jvm_meaning.specs.Numbers.{End, Array, Arrays, Operands, State, Step}
use Rattle.jvm_meaning.specs.Calls.{code_of}
use Rattle.jvm_state.specs.Stops.{Part}
use Rattle.jvm_state.specs.Arrays.{count_in}
use Rattle.jvm_meaning.specs.ArrayUses.{pop_counts}
use Rattle.jvm_meaning.specs.Steps.{site_of}
use Rattle.jvm_meaning.specs.Operations.{instruction_at}
use Rattle.jvm_meaning.specs.Machine.{step}
use Rattle.jvm_meaning.specs.Runs.{after, run_from, start}

-- ---- states forwards

abbrev pub next : Contents → ShapeParts → Limits → Step → Step
next class shape limits (Ok s) = step class shape limits s
next class shape limits (Err end) = Err end

-- the state after so many steps from a first one, or the end that came before
unfoldable pub reach : Contents → ShapeParts → Limits → ℕ → Step → Step
reach class shape limits zero first = first
reach class shape limits (suc n) first = next class shape limits (reach class shape limits n first)

abbrev pub more : State → End
more s = MoreSteps

-- a run within so many steps ends as the state after them says
abbrev pub RunsBothWays : Type 0
RunsBothWays = (class : Contents) (shape : ShapeParts) (limits : Limits) (n : ℕ) (first : Step)
    → after first (run_from n class shape limits) ≡ after (reach class shape limits n first) more

-- what a run has come to: the end, or else a state
abbrev pub come_to : State → Option End → Step
come_to s None = Ok s
come_to s (Some end) = Err end

-- ---- traces

-- where the next step is made, none behind the end
abbrev pub place : Step → Option Site
place (Ok s) = Some (site_of s.frame)
place (Err end) = None

-- the places of at most so many steps, in the order in which they are made; the step that ends the run, in whatever way, is one of them
unfoldable pub trace_from : ℕ → Contents → ShapeParts → Limits → Step → List Site
trace_from zero class shape limits first = []
trace_from (suc n) class shape limits (Ok s) = site_of s.frame ∷ trace_from n class shape limits (step class shape limits s)
trace_from (suc n) class shape limits (Err end) = []

-- the trace of a run: the places of its steps, those of the initialiser first
unfoldable pub trace : Contents → MethodId → ShapeParts → List ℕ → ℕ → ℕ → ℕ → List Site
trace class method shape leaves steps frames elements =
    trace_from steps class shape (record { frames = frames; elements = elements }) (start class method shape leaves)

abbrev pub asked_int : Operands → List ℕ
asked_int (Int n ∷ rest) = n ∷ []
asked_int _ = []

abbrev pub counts_in : Part (List ℕ × Operands) → List ℕ
counts_in (Ok taken) = taken.0
counts_in (Err stop) = []

-- the numbers that an instruction asks for, by its operation and operands: the length or the counts of arrays that it
-- makes, that of the outermost first, and the index of a reference in an array
abbrev pub asked : Operation → Operands → List ℕ
asked (does.Array (NewArray kind)) stack = asked_int stack
asked (does.NewReferences number) stack = asked_int stack
asked (does.NewRows number dimensions) stack = counts_in (pop_counts dimensions [] stack)
asked (does.Array LoadReference) stack = asked_int stack
asked (does.Array StoreReference) (v ∷ stack) = asked_int stack
asked _ _ = []

-- the lengths of arrays by their counts, from the outermost in
abbrev pub lengths_by : ℕ → List ℕ → List ℕ
lengths_by many [] = []
lengths_by many (count ∷ counts) = replicate many count ++ lengths_by (many * count) counts

-- the lengths of the arrays that an instruction makes, by the numbers that it asked for
abbrev pub made : Operation → List ℕ → List ℕ
made (does.Array (NewArray kind)) marks = marks
made (does.NewReferences number) marks = marks
made (does.NewRows number dimensions) marks = lengths_by 1 marks
made _ marks = []

-- what is so of the instruction of a state, nothing where there is none
abbrev pub of_instruction : (Operation → Operands → List ℕ) → Operands → Result Instruction Reason → List ℕ
of_instruction tells stack (Ok instruction) = tells instruction.operation stack
of_instruction tells stack (Err reason) = []

abbrev pub of_code : (Operation → Operands → List ℕ) → State → Option Code → List ℕ
of_code tells s None = []
of_code tells s (Some code) = of_instruction tells s.frame.stack (instruction_at code s.frame.pc)

abbrev pub of_state : (Operation → Operands → List ℕ) → Contents → State → List ℕ
of_state tells class s = of_code tells s (code_of class s.frame.method)

abbrev pub made_by : Operation → Operands → List ℕ
made_by operation stack = made operation (asked operation stack)

-- the numbers that the next step asks for, and the lengths of the arrays that it makes where it goes on
abbrev pub asked_next : Contents → State → List ℕ
asked_next class s = of_state asked class s

abbrev pub made_next : Contents → State → List ℕ
made_next class s = of_state made_by class s

-- a step that is made: its place, and the numbers that its instruction asks for
pub record Visit : Type 0 where
  pub site : Site
  pub marks : List ℕ

-- a step that ends the run has no marks
abbrev pub marks_of : Contents → State → Step → List ℕ
marks_of class s (Ok next) = asked_next class s
marks_of class s (Err end) = []

abbrev pub visit : Contents → State → Step → Visit
visit class s next = record { site = site_of s.frame; marks = marks_of class s next }

unfoldable pub marked_from : ℕ → Contents → ShapeParts → Limits → Step → List Visit
marked_from zero class shape limits first = []
marked_from (suc n) class shape limits (Ok s) = visit class s (step class shape limits s) ∷ marked_from n class shape limits (step class shape limits s)
marked_from (suc n) class shape limits (Err end) = []

-- the marked trace of a run: its steps, each with the numbers that it asks for
unfoldable pub marked_trace : Contents → MethodId → ShapeParts → List ℕ → ℕ → ℕ → ℕ → List Visit
marked_trace class method shape leaves steps frames elements =
    marked_from steps class shape (record { frames = frames; elements = elements }) (start class method shape leaves)

-- ---- laws

-- the step that is made next, none behind the end
abbrev pub next_visit : Contents → ShapeParts → Limits → Step → Option Visit
next_visit class shape limits (Ok s) = Some (visit class s (step class shape limits s))
next_visit class shape limits (Err end) = None

-- a trace has at each number the place after as many steps, and nothing from the most steps on
abbrev pub TraceIsWhereRunsAre : Type 0
TraceIsWhereRunsAre = (class : Contents) (shape : ShapeParts) (limits : Limits) (n k : ℕ) (first : Step)
    → slice_get (trace_from n class shape limits first) k ≡ (if nat_lt k n then place (reach class shape limits k first) else None)

-- a marked trace has at each number the step that is made after as many steps
abbrev pub MarkedTraceIsWhatRunsDo : Type 0
MarkedTraceIsWhatRunsDo = (class : Contents) (shape : ShapeParts) (limits : Limits) (n k : ℕ) (first : Step)
    → slice_get (marked_from n class shape limits first) k ≡ (if nat_lt k n then next_visit class shape limits (reach class shape limits k first) else None)

abbrev pub site_visited : Visit → Site
site_visited v = v.site

-- a marked trace without its marks is the trace
abbrev pub MarksAreBeside : Type 0
MarksAreBeside = (class : Contents) (shape : ShapeParts) (limits : Limits) (n : ℕ) (first : Step)
    → map site_visited (marked_from n class shape limits first) ≡ trace_from n class shape limits first

-- two runs are at the same places before each of so many steps
abbrev pub GoAlike : Contents → ShapeParts → Limits → ℕ → Step → Step → Type 0
GoAlike class shape limits n one other =
    (k : ℕ) → k < n → place (reach class shape limits k one) ≡ place (reach class shape limits k other)

-- two runs do the same in each of so many steps
abbrev pub DoAlike : Contents → ShapeParts → Limits → ℕ → Step → Step → Type 0
DoAlike class shape limits n one other =
    (k : ℕ) → k < n → next_visit class shape limits (reach class shape limits k one) ≡ next_visit class shape limits (reach class shape limits k other)

-- two traces are the same exactly where the runs are at the same places
abbrev pub SameTraceIsSameWay : Type 0
SameTraceIsSameWay = (class : Contents) (shape : ShapeParts) (limits : Limits) (n : ℕ) (one other : Step)
    → (trace_from n class shape limits one ≡ trace_from n class shape limits other) ↔ GoAlike class shape limits n one other

-- two marked traces are the same exactly where the runs do the same
abbrev pub SameMarksIsSameDeeds : Type 0
SameMarksIsSameDeeds = (class : Contents) (shape : ShapeParts) (limits : Limits) (n : ℕ) (one other : Step)
    → (marked_from n class shape limits one ≡ marked_from n class shape limits other) ↔ DoAlike class shape limits n one other

abbrev pub elements_in : Array → ℕ
elements_in a = count_in a

abbrev pub lengths : Arrays → List ℕ
lengths arrays = map elements_in arrays

-- a step that goes on keeps the lengths of all arrays, and makes those that its marks say
abbrev pub MarksAreAllThatIsMade : Type 0
MarksAreAllThatIsMade = (class : Contents) (shape : ShapeParts) (limits : Limits) (s t : State)
    → step class shape limits s ≡ Ok t → lengths t.heap.arrays ≡ lengths s.heap.arrays ++ made_next class s

-- ---- two runs that go alike so far

-- the same marks in each of so many steps, and the same next place
abbrev pub GoesWith : Contents → ShapeParts → Limits → ℕ → Step → Step → Type 0
GoesWith class shape limits n one other =
    DoAlike class shape limits n one other × (place (reach class shape limits n one) ≡ place (reach class shape limits n other))

-- who does the same in one step more is at the same next place, and who is was at the same places before
abbrev pub GoesWithLaws : Type 0
GoesWithLaws = (class : Contents) (shape : ShapeParts) (limits : Limits) (n : ℕ) (one other : Step)
    → (DoAlike class shape limits (n + 1) one other → GoesWith class shape limits n one other)
    × (GoesWith class shape limits n one other → GoAlike class shape limits (n + 1) one other)

-- and so for fewer steps
abbrev pub GoesWithFewer : Type 0
GoesWithFewer = (class : Contents) (shape : ShapeParts) (limits : Limits) (m n : ℕ) (one other : Step)
    → m ≤ n → GoesWith class shape limits n one other → GoesWith class shape limits m one other

-- ---- states after so many steps

-- an end stays
abbrev pub EndsStay : Type 0
EndsStay = (class : Contents) (shape : ShapeParts) (limits : Limits) (m n : ℕ) (first : Step) (e : End)
    → n ≤ m → reach class shape limits n first ≡ Err e → reach class shape limits m first ≡ Err e

-- further steps go on from where a run is
abbrev pub StepsGoOn : Type 0
StepsGoOn = (class : Contents) (shape : ShapeParts) (limits : Limits) (m n : ℕ) (first : Step)
    → reach class shape limits (m + n) first ≡ reach class shape limits m (reach class shape limits n first)

-- an end that is reached within the steps is the run's, and a state that is reached after them has spent them
abbrev pub RunEndsWhereItIs : Type 0
RunEndsWhereItIs = (class : Contents) (shape : ShapeParts) (limits : Limits) (n steps : ℕ) (first : Step)
    → ((e : End) → n ≤ steps → reach class shape limits n first ≡ Err e → after first (run_from steps class shape limits) ≡ e)
    × ((s : State) → reach class shape limits steps first ≡ Ok s → after first (run_from steps class shape limits) ≡ MoreSteps)

-- a trace within fewer steps is the beginning of one within more
abbrev pub ShorterTraces : Type 0
ShorterTraces = (class : Contents) (shape : ShapeParts) (limits : Limits) (m n : ℕ) (first : Step) → n ≤ m
    → (trace_from n class shape limits first ≡ take n (trace_from m class shape limits first))
    × (marked_from n class shape limits first ≡ take n (marked_from m class shape limits first))
