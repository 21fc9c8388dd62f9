-- Parts of an instruction, one after another: each goes on with a value, or stops the instruction.
use Rattle.std.specs.Prelude.{◌≡◌, Bool, true, false, Option, Some, None, Result, Ok, Err}
use Rattle.jvm_state.specs.declared.stop.Stop.{Stop}
use Rattle.jvm_state.specs.declared.stop.Stop.TheVariants.{Refused}
use Rattle.jvm_state.specs.declared.stop.Halt.{Halt}
use Rattle.jvm_state.specs.declared.stop.Halt.TheVariants as halt
use Rattle.jvm_state.specs.declared.value.Reason.{Reason}

abbrev pub Part : Type 0 → Type 0
Part A = Result A Stop

infixl 10 ◌>>=◌
abbrev pub ◌>>=◌ : {A B : Type 0} → Part A → (A → Part B) → Part B
(Ok x) >>= next = next x
(Err stop) >>= next = Err stop

abbrev pub refused : {A : Type 0} → Reason → Part A
refused reason = Err (Refused reason)

-- a test that has to hold
abbrev pub check : Bool → Stop → Part (Unit {0})
check true stop = Ok tt
check false stop = Err stop

-- a value that has to be there
abbrev pub found : {A : Type 0} → Option A → Stop → Part A
found (Some x) stop = Ok x
found None stop = Err stop

-- memory ran out, or the part stops so
abbrev pub Halts : {B : Type 0} → Halt → Part B → Type 0
Halts halt.Memory part = Unit {0}
Halts (halt.Stopped stop) part = part ≡ Err stop

-- what a call answers, seen by a view, is what the part gives, unless memory ran out
abbrev pub Gives : {A B : Type 0} → (A → B) → Result A Halt → Part B → Type 0
Gives view (Ok x) part = part ≡ Ok (view x)
Gives view (Err halt) part = Halts halt part
