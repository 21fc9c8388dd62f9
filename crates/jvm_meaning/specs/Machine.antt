-- The machine: what one instruction does to a state (JVM Specification SE 8, chapters 2 and 6).
use Rattle.std.specs.Prelude.{ℕ, ◌+◌, Bool, List, [], ◌∷◌, length, slice_get, take, count_by, Option, Some, None, is_some, Result, Ok, Err}
use Rattle.bv_words.specs.Words.{chop}
use Rattle.axe_io.specs.declared.parameters.Kind.{Kind}
use Rattle.axe_io.specs.declared.parameters.Param.{Param}
use Rattle.axe_io.specs.declared.parameters.OutPlace.{OutPlace}
use Rattle.axe_io.specs.declared.parameters.OutPlace.TheVariants as out
use Rattle.axe_io.specs.Shapes.{ShapeParts, width_of}
use Rattle.class_file.specs.Contents.{Contents}
use Rattle.class_file.specs.declared.class.Code.{Code}
use Rattle.jvm_state.specs.declared.value.Value.{Value}
use Rattle.jvm_state.specs.declared.value.Value.TheVariants as value
use Rattle.jvm_state.specs.declared.value.Reason.{Reason}
use Rattle.jvm_state.specs.declared.value.Reason.TheVariants.{BadCode, WrongOperand}
use Rattle.jvm_state.specs.declared.value.Seen.{Seen}
use Rattle.jvm_state.specs.declared.value.Seen.TheVariants as seen
use Rattle.jvm_state.specs.declared.value.End.TheVariants as end
use Rattle.jvm_state.specs.declared.sorts.Sort.{Sort}
use Rattle.jvm_state.specs.declared.heap.Heap.{Heap}
use Rattle.jvm_state.specs.declared.frame.Frame.{Frame}
use Rattle.jvm_state.specs.declared.state.State.{State}
use Rattle.jvm_state.specs.declared.state.Waiting.{Waiting}
use Rattle.jvm_state.specs.declared.state.Limits.{Limits}
use Rattle.jvm_state.specs.declared.state.Site.{Site}
use Rattle.jvm_meaning.specs.declared.calls.Callee.{Callee}
use Rattle.jvm_meaning.specs.declared.calls.Callee.TheVariants as callee
use Rattle.jvm_meaning.specs.declared.operation.Instruction.{Instruction}
use Rattle.jvm_meaning.specs.declared.operation.Operation.{Operation}
use Rattle.jvm_meaning.specs.declared.operation.Operation.TheVariants as does
use Rattle.jvm_meaning.specs.declared.operation.StackOperation.{StackOperation}
use Rattle.jvm_meaning.specs.declared.operation.StackOperation.TheVariants as operands
use Rattle.jvm_state.specs.Stops.{Part, ◌>>=◌, refused}
use Rattle.jvm_state.specs.Stacks.{Operands, push}
use Rattle.jvm_meaning.specs.Words.{increment, binary, divide, negate, shift, rotate, to_long, to_int, narrow, compare}
use Rattle.jvm_meaning.specs.Branches.{branch_in, next_place}
use Rattle.jvm_state.specs.Arrays.{Arrays, items_of}
use Rattle.jvm_meaning.specs.ArrayUses.{on_arrays, new_references, new_rows}
use Rattle.jvm_meaning.specs.Constants.{load_constant}
use Rattle.jvm_meaning.specs.Fields.{put_static}
use Rattle.jvm_meaning.specs.Calls.{code_of, desc_of, begin, callee_of, returned, narrowed_by}
use Rattle.jvm_meaning.specs.Types.{deepest, return_type}
use Rattle.jvm_meaning.specs.Operations.{instruction_at}
use Rattle.jvm_meaning.specs.Moves.{move_on}
use Rattle.jvm_meaning.specs.Steps.{Step, site_of, refused_at, ended, at, call, started, resume}

-- ---- instructions that stay in their frame

abbrev pub on_stack : StackOperation → ℕ → Operands ℕ ℕ → Part (Operands ℕ ℕ)
on_stack (operands.Push v) depth stack = push depth v stack
on_stack (operands.Binary operation width) depth stack = binary operation width depth stack
on_stack (operands.Divide division width) depth stack = divide division width depth stack
on_stack (operands.Negate width) depth stack = negate width depth stack
on_stack (operands.Shift direction width) depth stack = shift direction width depth stack
on_stack (operands.Rotate direction width) depth stack = rotate direction width depth stack
on_stack operands.ToLong depth stack = to_long depth stack
on_stack operands.ToInt depth stack = to_int depth stack
on_stack (operands.Narrow kind) depth stack = narrow kind depth stack
on_stack operands.Compare depth stack = compare depth stack

-- an instruction of so many bytes in a method's code; calls and returns don't stay in their frame
abbrev pub stay : Contents → Limits → Code → Operation → ℕ → Frame ℕ ℕ → Heap ℕ ℕ ℕ → Part (Frame ℕ ℕ × Heap ℕ ℕ ℕ)
stay class limits code (does.Stack operation) size f heap = do
  stack ← on_stack operation code.max_stack f.stack
  Ok (at (f.pc + size) f.locals stack f, heap)
stay class limits code (does.Increment k amount) size f heap = do
  locals ← increment k amount f.locals
  Ok (at (f.pc + size) locals f.stack f, heap)
stay class limits code (does.Branch condition offset) size f heap = do
  next ← next_place condition (branch_in code offset size f.pc) f.stack
  Ok (at next.0 f.locals next.1 f, heap)
stay class limits code (does.Array operation) size f heap = do
  next ← on_arrays operation limits.elements code.max_stack heap f.stack
  Ok (at (f.pc + size) f.locals next.1 f, next.0)
stay class limits code (does.LoadConstant op width number) size f heap = do
  stack ← load_constant op width number class code.max_stack f.stack
  Ok (at (f.pc + size) f.locals stack f, heap)
stay class limits code (does.NewReferences number) size f heap = do
  next ← new_references class number limits.elements code.max_stack heap f.stack
  Ok (at (f.pc + size) f.locals next.1 f, next.0)
stay class limits code (does.NewRows number dimensions) size f heap = do
  next ← new_rows class number dimensions limits.elements code.max_stack heap f.stack
  Ok (at (f.pc + size) f.locals next.1 f, next.0)
stay class limits code (does.PutStatic number) size f heap = do
  next ← put_static class number heap f.stack
  Ok (at (f.pc + size) f.locals next.1 f, next.0)
stay class limits code (does.Move moving) size f heap = refused BadCode
stay class limits code (does.Invoke number) size f heap = refused BadCode
stay class limits code (does.Return sort) size f heap = refused BadCode

abbrev pub stayed : Contents → Limits → Code → Operation → ℕ → State ℕ ℕ ℕ → Part (State ℕ ℕ ℕ)
stayed class limits code operation size s = do
  next ← stay class limits code operation size s.frame s.heap
  Ok (record { frame = next.0; callers = s.callers; waiting = s.waiting; heap = next.1 })

-- ---- calls

abbrev pub invoke_callee : Contents → Limits → Code → ℕ → State ℕ ℕ ℕ → Callee → Part (State ℕ ℕ ℕ)
invoke_callee class limits code size s (callee.Own method) = call class limits method s
invoke_callee class limits code size s (callee.Rotation turn width) = stayed class limits code (does.Stack (operands.Rotate turn width)) size s

-- invokestatic
abbrev pub invoke : Contents → Limits → Code → ℕ → ℕ → State ℕ ℕ ℕ → Part (State ℕ ℕ ℕ)
invoke class limits code number size s = do
  callee ← callee_of class number
  invoke_callee class limits code size s callee

-- ---- returns

-- the array of a parameter: arrays of parameters come first, in the order of the parameters
abbrev pub is_array : Param → Bool
is_array param = is_some param.len

abbrev pub array_of_param : List Param → ℕ → ℕ
array_of_param params n = count_by is_array (take n params)

abbrev pub array_seen : Kind → Arrays ℕ → ℕ → Seen ℕ
array_seen kind arrays k = seen.Items (width_of kind) (items_of (slice_get arrays k))

abbrev pub word_seen : Kind → ℕ → Seen ℕ
word_seen kind n = seen.Word (width_of kind) (chop (width_of kind) n)

abbrev pub value_seen : Kind → Arrays ℕ → Option (Value ℕ ℕ) → Seen ℕ
value_seen kind arrays (Some (value.Int n)) = word_seen kind n
value_seen kind arrays (Some (value.Long n)) = word_seen kind n
value_seen kind arrays (Some (value.Array k)) = array_seen kind arrays k
value_seen kind arrays (Some value.Null) = seen.Null
value_seen kind arrays None = seen.Null

-- a returned null is observed as null wherever the result is
abbrev pub observed_at : OutPlace → ShapeParts → Arrays ℕ → Option (Value ℕ ℕ) → Seen ℕ
observed_at place shape arrays (Some value.Null) = seen.Null
observed_at out.Returned shape arrays result = value_seen shape.kind arrays result
observed_at (out.Param n) shape arrays result = array_seen shape.kind arrays (array_of_param shape.params n)

abbrev pub observed : ShapeParts → Arrays ℕ → Option (Value ℕ ℕ) → Seen ℕ
observed shape arrays result = observed_at shape.out shape arrays result

-- the last frame is closed: the method that waits for the initialiser begins, or the run returns
abbrev pub close : Contents → ShapeParts → Option (Value ℕ ℕ) → Heap ℕ ℕ ℕ → Option (Waiting ℕ ℕ) → Step ℕ ℕ ℕ ℕ
close class shape result heap None = Err (end.Returned (observed shape heap.arrays result))
close class shape result heap (Some w) = started w.method heap None (begin class w.method w.arguments)

abbrev pub leave_to : Contents → ShapeParts → Option (Value ℕ ℕ) → Site → State ℕ ℕ ℕ → List (Frame ℕ ℕ) → Step ℕ ℕ ℕ ℕ
leave_to class shape result site s [] = close class shape result s.heap s.waiting
leave_to class shape result site s (f ∷ callers) = resume class result site f (record { frame = s.frame; callers = callers; waiting = s.waiting; heap = s.heap })

-- the open frame is left from a place, with a result
abbrev pub leave : Contents → ShapeParts → Option (Value ℕ ℕ) → Site → State ℕ ℕ ℕ → Step ℕ ℕ ℕ ℕ
leave class shape result site s = leave_to class shape result site s s.callers

abbrev pub give_back : Contents → ShapeParts → State ℕ ℕ ℕ → Part (Option (Value ℕ ℕ)) → Step ℕ ℕ ℕ ℕ
give_back class shape s (Ok result) = leave class shape (narrowed_by (return_type deepest (desc_of class s.frame.method)) result) (site_of s.frame) s
give_back class shape s (Err stop) = Err (refused_at WrongOperand (site_of s.frame))

-- ireturn, lreturn, areturn, return
abbrev pub give : Contents → ShapeParts → Option Sort → State ℕ ℕ ℕ → Step ℕ ℕ ℕ ℕ
give class shape sort s = give_back class shape s (returned sort (return_type deepest (desc_of class s.frame.method)) s.heap.arrays s.frame.stack)

-- ---- the step

abbrev pub act : Contents → ShapeParts → Limits → Code → Operation → ℕ → State ℕ ℕ ℕ → Step ℕ ℕ ℕ ℕ
act class shape limits code (does.Return sort) size s = give class shape sort s
act class shape limits code (does.Move moving) size s = ended class s (move_on class code moving size s)
act class shape limits code (does.Invoke number) size s = ended class s (invoke class limits code number size s)
act class shape limits code operation size s = ended class s (stayed class limits code operation size s)

abbrev pub act_if : Contents → ShapeParts → Limits → Code → State ℕ ℕ ℕ → Result Instruction Reason → Step ℕ ℕ ℕ ℕ
act_if class shape limits code s (Err reason) = Err (refused_at reason (site_of s.frame))
act_if class shape limits code s (Ok instruction) = act class shape limits code instruction.operation instruction.size s

abbrev pub step_in : Contents → ShapeParts → Limits → State ℕ ℕ ℕ → Option Code → Step ℕ ℕ ℕ ℕ
step_in class shape limits s None = Err (refused_at BadCode (site_of s.frame))
step_in class shape limits s (Some code) = act_if class shape limits code s (instruction_at code s.frame.pc)

-- one instruction of a run
unfoldable pub step : Contents → ShapeParts → Limits → State ℕ ℕ ℕ → Step ℕ ℕ ℕ ℕ
step class shape limits s = step_in class shape limits s (code_of class s.frame.method)
