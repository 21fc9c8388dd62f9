-- What instructions lead to that move values, whatever stands in them: ends, calls and returns (JVM Specification
-- SE 8, sections 2.6 and 6.5).
use Rattle.std.specs.Prelude.{◌≡◌, ℕ, ◌+◌, if◌then◌else◌, Bool, List, [], ◌∷◌, length, map, Option, Some, None, is_some, find, Result, Ok, Err}
use Rattle.class_file.specs.Contents.{Contents}
use Rattle.class_file.specs.declared.class.Code.{Code}
use Rattle.class_file.specs.declared.class.MethodId.{MethodId}
use Rattle.jvm_state.specs.declared.value.Value.{Value}
use Rattle.jvm_state.specs.declared.value.Reason.{Reason}
use Rattle.jvm_state.specs.declared.value.Reason.TheVariants.{BadCode, Handler, InitThrew}
use Rattle.jvm_state.specs.declared.value.Throw.{Throw}
use Rattle.jvm_state.specs.declared.value.End.{End}
use Rattle.jvm_state.specs.declared.value.End.TheVariants as end
use Rattle.jvm_state.specs.declared.stop.Stop.{Stop}
use Rattle.jvm_state.specs.declared.stop.Stop.TheVariants as stop
use Rattle.jvm_state.specs.declared.heap.Heap.{Heap}
use Rattle.jvm_state.specs.declared.frame.Frame.{Frame}
use Rattle.jvm_state.specs.declared.state.State.{State}
use Rattle.jvm_state.specs.declared.state.Waiting.{Waiting}
use Rattle.jvm_state.specs.declared.state.Limits.{Limits}
use Rattle.jvm_state.specs.declared.state.Site.{Site}
use Rattle.jvm_state.specs.Stops.{Part, ◌>>=◌, refused}
use Rattle.jvm_state.specs.Stacks.{Operands}
use Rattle.jvm_state.specs.Frames.{Locals}
use Rattle.jvm_meaning.specs.Calls.{code_of, begin, called, pushed, handles_in}

-- an instruction leads to a state, or ends the run
abbrev pub Step : Type 0 → Type 0 → Type 0 → Type 0 → Type 0
Step I L E W = Result (State I L E) (End W)

-- where a frame is
abbrev pub site_of : {I L : Type 0} → Frame I L → Site
site_of f = record { method = f.method; pc = f.pc }

-- where callers are: each at its call
abbrev pub sites_of : {I L : Type 0} → List (Frame I L) → List Site
sites_of callers = map site_of callers

abbrev pub refused_at : {W : Type 0} → Reason → Site → End W
refused_at reason site = end.Refused reason site.method site.pc

-- whether a method has an exception row for a place
abbrev pub handles : Contents → Site → Bool
handles class site = handles_in (code_of class site.method) site.pc

-- in the initialiser a throw is a refusal
abbrev pub uncaught : {W : Type 0} → Throw → Site → Bool → End W
uncaught kind site initialises = if initialises then refused_at (InitThrew kind) site else end.Threw kind site.method site.pc

abbrev pub caught_by : {W : Type 0} → Throw → Site → Bool → Option Site → End W
caught_by kind site initialises (Some call) = refused_at Handler call
caught_by kind site initialises None = uncaught kind site initialises

-- a throw is handled in its own method, or by the first caller that handles it at its call: that is refused there
abbrev pub thrown : {W : Type 0} → Contents → Throw → Site → List Site → Bool → End W
thrown class kind site calls initialises =
    if handles class site then refused_at Handler site else caught_by kind site initialises (find (handles class) calls)

-- the end by a stop of an instruction at a place, with the places of the calls that are open, the inner one first
abbrev pub end_of : {W : Type 0} → Contents → Site → List Site → Bool → Stop → End W
end_of class site calls initialises (stop.Refused reason) = refused_at reason site
end_of class site calls initialises (stop.Throws kind) = thrown class kind site calls initialises
end_of class site calls initialises (stop.BadBegin method) = end.Refused BadCode method 0
end_of class site calls initialises stop.MoreFrames = end.MoreFrames
end_of class site calls initialises stop.MoreElements = end.MoreElements

-- what a part of an instruction leads to from a state
abbrev pub ended : {I L E W : Type 0} → Contents → State I L E → Part (State I L E) → Step I L E W
ended class s (Ok next) = Ok next
ended class s (Err stop) = Err (end_of class (site_of s.frame) (sites_of s.callers) (is_some s.waiting) stop)

-- a frame at another place, with these local variables and operands
abbrev pub at : {I L : Type 0} → ℕ → Locals I L → Operands I L → Frame I L → Frame I L
at pc locals stack f = record { method = f.method; pc = pc; locals = locals; stack = stack }

-- the caller waits at its call with its stack as it is behind the arguments
abbrev pub call : {I L E : Type 0} → Contents → Limits → MethodId → State I L E → Part (State I L E)
call class limits method s = do
  next ← called class limits.frames (length s.callers + 1) method s.heap.arrays s.frame.stack
  Ok (record { frame = next.0; callers = at s.frame.pc s.frame.locals next.1 s.frame ∷ s.callers; waiting = s.waiting; heap = s.heap })

-- how deep the stack of a method may be
abbrev pub depth_in : Option Code → ℕ
depth_in None = 0
depth_in (Some code) = code.max_stack

-- a method begins with nothing else open; where it can't begin, that is bad code
abbrev pub started : {I L E W : Type 0} → MethodId → Heap I L E → Option (Waiting I L) → Part (Frame I L) → Step I L E W
started method heap waiting (Ok f) = Ok (record { frame = f; callers = []; waiting = waiting; heap = heap })
started method heap waiting (Err stop) = Err (end.Refused BadCode method 0)

-- a caller goes on behind its call, an instruction of 3 bytes; a result without room is bad code at the return
abbrev pub resumed : {I L E W : Type 0} → Site → Frame I L → State I L E → Part (Operands I L) → Step I L E W
resumed site f s (Ok stack) = Ok (record { frame = at (f.pc + 3) f.locals stack f; callers = s.callers; waiting = s.waiting; heap = s.heap })
resumed site f s (Err stop) = Err (refused_at BadCode site)

abbrev pub resume : {I L E W : Type 0} → Contents → Option (Value I L) → Site → Frame I L → State I L E → Step I L E W
resume class result site f s = resumed site f s (pushed (depth_in (code_of class f.method)) result f.stack)

-- what a call that makes a step answers: the end, or nothing where the state is the next
abbrev pub TakesStep : {I L E W : Type 0} → Step I L E W → State I L E → Option (End W) → Type 0
TakesStep step next None = step ≡ Ok next
TakesStep step next (Some end) = step ≡ Err end
