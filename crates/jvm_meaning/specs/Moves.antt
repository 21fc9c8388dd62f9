-- Instructions that move values and look at no number (JVM Specification SE 8, section 6.5).
use Rattle.std.specs.Prelude.{ℕ, ◌+◌, Bool, true, List, Ok}
use Rattle.class_file.specs.Contents.{Contents}
use Rattle.class_file.specs.declared.class.Code.{Code}
use Rattle.jvm_state.specs.declared.value.Value.{Value}
use Rattle.jvm_state.specs.declared.value.Value.TheVariants.{Null}
use Rattle.jvm_state.specs.declared.frame.Frame.{Frame}
use Rattle.jvm_state.specs.declared.state.State.{State}
use Rattle.jvm_meaning.specs.declared.operation.Move.{Move}
use Rattle.jvm_meaning.specs.declared.operation.Move.TheVariants.{Nothing, PushNull, Discard, Duplicate, Swap, Load, Store, GetStatic, Jump, JumpIf}
use Rattle.jvm_state.specs.Stops.{Part, ◌>>=◌}
use Rattle.jvm_state.specs.Stacks.{push, discard, duplicate, swap}
use Rattle.jvm_state.specs.Frames.{load, store}
use Rattle.jvm_meaning.specs.Fields.{get_static}
use Rattle.jvm_meaning.specs.Branches.{branch_in, taken_if, branched}
use Rattle.jvm_meaning.specs.Steps.{at}

-- a frame after a move of so many bytes
abbrev pub moved : {I L : Type 0} → Contents → Code → Move → ℕ → List (Value I L) → Frame I L → Part (Frame I L)
moved class code Nothing size statics f = Ok (at (f.pc + size) f.locals f.stack f)
moved class code PushNull size statics f = do
  stack ← push code.max_stack Null f.stack
  Ok (at (f.pc + size) f.locals stack f)
moved class code (Discard span) size statics f = do
  stack ← discard span f.stack
  Ok (at (f.pc + size) f.locals stack f)
moved class code (Duplicate top beneath) size statics f = do
  stack ← duplicate code.max_stack top beneath f.stack
  Ok (at (f.pc + size) f.locals stack f)
moved class code Swap size statics f = do
  stack ← swap code.max_stack f.stack
  Ok (at (f.pc + size) f.locals stack f)
moved class code (Load sort k) size statics f = do
  stack ← load sort k code.max_stack f.locals f.stack
  Ok (at (f.pc + size) f.locals stack f)
moved class code (Store sort k) size statics f = do
  next ← store sort k f.locals f.stack
  Ok (at (f.pc + size) next.0 next.1 f)
moved class code (GetStatic number) size statics f = do
  stack ← get_static class number code.max_stack statics f.stack
  Ok (at (f.pc + size) f.locals stack f)
moved class code (Jump offset) size statics f = do
  pc ← taken_if true (branch_in code offset size f.pc)
  Ok (at pc f.locals f.stack f)
moved class code (JumpIf test offset) size statics f = do
  next ← branched test (branch_in code offset size f.pc) f.stack
  Ok (at next.0 f.locals next.1 f)

-- a state after a move
abbrev pub move_on : {I L E : Type 0} → Contents → Code → Move → ℕ → State I L E → Part (State I L E)
move_on class code moving size s = do
  f ← moved class code moving size s.heap.statics s.frame
  Ok (record { frame = f; callers = s.callers; waiting = s.waiting; heap = s.heap })
