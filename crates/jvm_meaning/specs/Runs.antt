-- The run of a method on an input (JVM Specification SE 8, sections 5.5 and 2.6).
use Rattle.std.specs.Prelude.{ℕ, zero, suc, ◌+◌, nat_lt, not, Bool, false, List, [], ◌∷◌, ◌++◌, map, take, drop, slice_index, codes, position, Option, Some, None, Ok, Err}
use Rattle.bv_words.specs.Words.{chop}
use Rattle.axe_io.specs.declared.parameters.Kind.{Kind}
use Rattle.axe_io.specs.declared.parameters.Kind.TheVariants as kind
use Rattle.axe_io.specs.declared.parameters.Param.{Param}
use Rattle.axe_io.specs.Shapes.{ShapeParts, leaf_count, width_of}
use Rattle.class_file.specs.Contents.{Contents}
use Rattle.class_file.specs.Members.{answers_to}
use Rattle.class_file.specs.declared.class.Code.{Code}
use Rattle.class_file.specs.declared.class.MethodId.{MethodId}
use Rattle.jvm_meaning.specs.Numbers.{Value, End, Array, Heap, State, Waiting, Step}
use Rattle.jvm_state.specs.declared.value.Value.TheVariants as value
use Rattle.jvm_state.specs.declared.arrays.Array.TheVariants.{Words}
use Rattle.jvm_state.specs.declared.value.End.TheVariants.{MoreSteps}
use Rattle.jvm_state.specs.declared.state.Limits.{Limits}
use Rattle.jvm_state.specs.Values.{narrowed}
use Rattle.jvm_meaning.specs.Fields.{start_values}
use Rattle.jvm_meaning.specs.Calls.{code_of, begin}
use Rattle.jvm_meaning.specs.Machine.{step}
use Rattle.jvm_meaning.specs.Steps.{started}

-- ---- arguments

-- a scalar's argument: the two's complement value of its leaf, of a char without sign
abbrev pub argument : Kind → ℕ → Value
argument kind.Long leaf = value.Long leaf
argument kind leaf = value.Int (narrowed kind (chop 32 leaf))

abbrev pub argument_in : Option ℕ → ℕ → Kind → List ℕ → Value
argument_in None arrays kind leaves = argument kind (slice_index leaves 0)
argument_in (Some count) arrays kind leaves = value.Array arrays

abbrev pub arrays_behind : Option ℕ → ℕ → ℕ
arrays_behind None arrays = arrays
arrays_behind (Some count) arrays = suc arrays

-- an argument for each parameter: a scalar's is its one leaf, an array's is the next of the arrays
abbrev pub arguments : ℕ → List Param → List ℕ → List Value
arguments arrays [] leaves = []
arguments arrays (p ∷ ps) leaves = argument_in p.len arrays p.kind leaves ∷ arguments (arrays_behind p.len arrays) ps (drop (leaf_count p) leaves)

abbrev pub chopped : Kind → List ℕ → List ℕ
chopped kind leaves = map (chop (width_of kind)) leaves

abbrev pub array_of : Kind → List ℕ → Array
array_of kind leaves = Words kind (chopped kind leaves)

abbrev pub arrays_of : Option ℕ → Kind → List ℕ → List Array
arrays_of None kind leaves = []
arrays_of (Some count) kind leaves = array_of kind (take count leaves) ∷ []

-- the arrays of the parameters, in their order: an element is a leaf
abbrev pub parameter_arrays : List Param → List ℕ → List Array
parameter_arrays [] leaves = []
parameter_arrays (p ∷ ps) leaves = arrays_of p.len p.kind leaves ++ parameter_arrays ps (drop (leaf_count p) leaves)

-- ---- the first state

-- static fields have their starting values, and no element is made; parameter arrays aren't counted
abbrev pub start_heap : Contents → ShapeParts → List ℕ → Heap
start_heap class shape leaves = record { arrays = parameter_arrays shape.params leaves; statics = start_values class; made = 0 }

-- the initialiser: a static <clinit> of ()V with Code
abbrev pub initialiser_of : Contents → Option ℕ
initialiser_of class = position (answers_to (codes "<clinit>") (Some (codes "()V"))) class.methods

abbrev pub waiting_for : MethodId → List Value → Waiting
waiting_for method values = record { method = method; arguments = values }

abbrev pub start_by : Contents → MethodId → List Value → Heap → Option ℕ → Step
start_by class method values heap None = started method heap None (begin class method values)
start_by class method values heap (Some at) =
    started (record { 0 = at }) heap (Some (waiting_for method values)) (begin class (record { 0 = at }) [])

-- the method begins, or waits while the initialiser runs
abbrev pub start : Contents → MethodId → ShapeParts → List ℕ → Step
start class method shape leaves = start_by class method (arguments 0 shape.params leaves) (start_heap class shape leaves) (initialiser_of class)

-- ---- whether a run has a first state

-- how many local variables an argument of a parameter takes: a long two, every other one
abbrev pub locals_for : Option ℕ → Kind → ℕ
locals_for None kind.Long = 2
locals_for _ _ = 1

abbrev pub locals_taken : List Param → ℕ
locals_taken [] = 0
locals_taken (p ∷ ps) = locals_for p.len p.kind + locals_taken ps

-- whether a method's Code has room for so many local variables
abbrev pub has_room : Option Code → ℕ → Bool
has_room None taken = false
has_room (Some code) taken = not (nat_lt code.max_locals taken)

abbrev pub begins_by : Contents → MethodId → List Param → Option ℕ → Bool
begins_by class method params None = has_room (code_of class method) (locals_taken params)
begins_by class method params (Some at) = has_room (code_of class (record { 0 = at })) 0

-- whether the runs of a method have a first state: that of the method, or of the initialiser
abbrev pub begins : Contents → MethodId → ShapeParts → Bool
begins class method shape = begins_by class method shape.params (initialiser_of class)

abbrev pub IsState : Step → Type 0
IsState (Ok s) = Unit {0}
IsState (Err end) = ⊥

-- ---- the run

abbrev pub after : Step → (State → End) → End
after (Ok s) run = run s
after (Err end) run = end

-- the end of at most so many instructions
unfoldable pub run_from : ℕ → Contents → ShapeParts → Limits → State → End
run_from zero class shape limits s = MoreSteps
run_from (suc n) class shape limits s = after (step class shape limits s) (run_from n class shape limits)

-- the run of a class's method on an input, within so many steps, frames and elements
unfoldable pub run_end : Contents → MethodId → ShapeParts → List ℕ → ℕ → ℕ → ℕ → End
run_end class method shape leaves steps frames elements =
    after (start class method shape leaves) (run_from steps class shape (record { frames = frames; elements = elements }))
