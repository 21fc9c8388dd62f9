-- Calls and returns of static methods (JVM Specification SE 8, sections 2.6, 6.5.invokestatic and 6.5.return).
use Rattle.std.specs.Prelude.{ℕ, ◌-◌, nat_lt, nat_le, ◌&&◌, if◌then◌else◌, Bool, true, false, List, [], ◌∷◌, ◌++◌, length, reverse, replicate, slice_get, Option, Some, None, codes, position, option_map, option_and_then, Ok, Err}
use Rattle.std.specs.List.{list_any}
use Rattle.std.specs.Str.{bytes_eq}
use Rattle.class_file.specs.Contents.{Contents}
use Rattle.class_file.specs.Members.{answers_to}
use Rattle.class_file.specs.declared.class.Code.{Code}
use Rattle.class_file.specs.declared.class.ExceptionRow.{ExceptionRow}
use Rattle.class_file.specs.declared.class.Method.{Method}
use Rattle.class_file.specs.declared.class.MethodId.{MethodId}
use Rattle.axe_io.specs.declared.parameters.Kind.TheVariants as kind
use Rattle.jvm_state.specs.declared.value.Value.{Value}
use Rattle.jvm_state.specs.declared.value.Value.TheVariants as value
use Rattle.jvm_state.specs.declared.value.Reason.TheVariants.{UnknownCallee, OutsideProfile, WrongOperand}
use Rattle.jvm_state.specs.declared.stop.Stop.TheVariants.{Refused, BadBegin, MoreFrames}
use Rattle.jvm_state.specs.declared.sorts.Sort.{Sort}
use Rattle.jvm_state.specs.declared.sorts.Sort.TheVariants as sort
use Rattle.jvm_state.specs.declared.sorts.Width.{Width}
use Rattle.jvm_state.specs.declared.sorts.Width.TheVariants as width
use Rattle.jvm_meaning.specs.declared.operation.Turn.{Turn}
use Rattle.jvm_meaning.specs.declared.operation.Turn.TheVariants as turn
use Rattle.jvm_state.specs.declared.types.FieldType.{FieldType}
use Rattle.jvm_state.specs.declared.types.FieldType.TheVariants.{Scalar, Array}
use Rattle.jvm_meaning.specs.declared.calls.Callee.{Callee}
use Rattle.jvm_meaning.specs.declared.calls.Callee.TheVariants.{Own, Rotation}
use Rattle.jvm_state.specs.declared.frame.Frame.{Frame}
use Rattle.jvm_meaning.specs.Types.{Types, deepest, method_type}
use Rattle.jvm_state.specs.Arrays.{Arrays}
use Rattle.jvm_meaning.specs.Fields.{stored, pop_typed}
use Rattle.jvm_meaning.specs.Constants.{Member, method_named, is_own}
use Rattle.jvm_state.specs.Stops.{Part, ◌>>=◌, refused, check, found}
use Rattle.jvm_state.specs.Stacks.{Operands, push}

-- ---- methods

abbrev pub code_of : Contents → MethodId → Option Code
code_of class method = option_and_then (λ m. m.code) (slice_get class.methods method.0)

abbrev pub desc_in : Option Method → List ℕ
desc_in None = []
desc_in (Some m) = m.desc

abbrev pub desc_of : Contents → MethodId → List ℕ
desc_of class method = desc_in (slice_get class.methods method.0)

-- ---- the begin of a method

-- the local variables that an argument takes: a long two, of which the second holds nothing
abbrev pub locals_of : {I L : Type 0} → List (Value I L) → List (Option (Value I L))
locals_of [] = []
locals_of (value.Long n ∷ values) = Some (value.Long n) ∷ None ∷ locals_of values
locals_of (v ∷ values) = Some v ∷ locals_of values

-- the arguments, and behind them local variables that hold nothing
abbrev pub filled : {I L : Type 0} → ℕ → List (Option (Value I L)) → List (Option (Value I L))
filled room locals = locals ++ replicate (room - length locals) None

abbrev pub begin_code : {I L : Type 0} → MethodId → Option Code → List (Option (Value I L)) → Part (Frame I L)
begin_code method None locals = Err (BadBegin method)
begin_code method (Some code) locals =
    if nat_lt code.max_locals (length locals) then Err (BadBegin method)
    else Ok (record { method = method; pc = 0; locals = filled code.max_locals locals; stack = [] })

-- the first frame of a method with these arguments, which need room among its local variables
abbrev pub begin : {I L : Type 0} → Contents → MethodId → List (Value I L) → Part (Frame I L)
begin class method arguments = begin_code method (code_of class method) (locals_of arguments)

-- ---- invokestatic

-- rotateLeft and rotateRight
abbrev pub turn_of : List ℕ → Option Turn
turn_of name =
    if bytes_eq name (codes "rotateLeft") then Some turn.Left else if bytes_eq name (codes "rotateRight") then Some turn.Right
    else None

-- those of java.lang.Integer with (II)I, and of java.lang.Long with (JI)J
abbrev pub turned_width : Member → Option Width
turned_width m =
    if bytes_eq m.owner (codes "java/lang/Integer") && bytes_eq m.desc (codes "(II)I") then Some width.Int
    else if bytes_eq m.owner (codes "java/lang/Long") && bytes_eq m.desc (codes "(JI)J") then Some width.Long
    else None

abbrev pub rotation_of : Member → Option Callee
rotation_of m = option_and_then (λ width. option_map (λ turn. Rotation turn width) (turn_of m.name)) (turned_width m)

-- a static method with Code of this class, by name and descriptor
abbrev pub own_method : Contents → Member → Option ℕ
own_method class m = if is_own class m.owner then position (answers_to m.name (Some m.desc)) class.methods else None

abbrev pub own_or_rotation : Member → Option ℕ → Option Callee
own_or_rotation m (Some at) = Some (Own (record { 0 = at }))
own_or_rotation m None = rotation_of m

abbrev pub named_callee : Contents → Member → Option Callee
named_callee class m = own_or_rotation m (own_method class m)

abbrev pub callee_in : Contents → ℕ → Option Callee
callee_in class number = option_and_then (named_callee class) (method_named class number)

-- what an invokestatic calls
abbrev pub callee_of : Contents → ℕ → Part Callee
callee_of class number = found (callee_in class number) (Refused UnknownCallee)

-- the values of types at the top, the first type that of the top, before those that were taken above them
abbrev pub pop_arguments : {I L E : Type 0} → List FieldType → Arrays E → List (Value I L) → Operands I L → Part (List (Value I L) × Operands I L)
pop_arguments [] arrays taken stack = Ok (taken, stack)
pop_arguments (type ∷ types) arrays taken stack = do
  top ← pop_typed type arrays stack
  pop_arguments types arrays (top.0 ∷ taken) top.1

abbrev pub types_called : Contents → MethodId → Part Types
types_called class method = found (method_type deepest (desc_of class method)) (Refused (OutsideProfile 184))

-- the arguments and the first frame of a method that is called where so many frames are open, and the caller's stack
abbrev pub called : {I L E : Type 0} → Contents → ℕ → ℕ → MethodId → Arrays E → Operands I L → Part (Frame I L × Operands I L)
called class limit opened method arrays stack = do
  types ← types_called class method
  taken ← pop_arguments (reverse types.0) arrays [] stack
  few ← check (nat_lt opened limit) MoreFrames
  frame ← begin class method taken.0
  Ok (frame, taken.1)

-- ---- ireturn, lreturn, areturn, return

abbrev pub is_returned_by : Option Sort → Option FieldType → Bool
is_returned_by None None = true
is_returned_by (Some sort.Long) (Some (Scalar kind.Long)) = true
is_returned_by (Some sort.Int) (Some (Scalar kind.Long)) = false
is_returned_by (Some sort.Int) (Some (Scalar k)) = true
is_returned_by (Some sort.Reference) (Some (Array type)) = true
is_returned_by _ _ = false

-- the value of the result's type at the top; nothing of a method without result
abbrev pub result_of : {I L E : Type 0} → Option FieldType → Arrays E → Operands I L → Part (Option (Value I L))
result_of None arrays stack = Ok None
result_of (Some type) arrays stack = do
  top ← pop_typed type arrays stack
  Ok (Some top.0)

-- the instruction has to be that of the result's type
abbrev pub returned : {I L E : Type 0} → Option Sort → Option (Option FieldType) → Arrays E → Operands I L → Part (Option (Value I L))
returned sort None arrays stack = refused WrongOperand
returned sort (Some type) arrays stack = if is_returned_by sort type then result_of type arrays stack else refused WrongOperand

-- a result is narrowed to the type that the method gives
abbrev pub narrowed_by : Option (Option FieldType) → Option (Value ℕ ℕ) → Option (Value ℕ ℕ)
narrowed_by (Some (Some type)) (Some v) = Some (stored type v)
narrowed_by _ result = result

-- the result on the caller's stack
abbrev pub pushed : {I L : Type 0} → ℕ → Option (Value I L) → Operands I L → Part (Operands I L)
pushed depth None stack = Ok stack
pushed depth (Some v) stack = push depth v stack

-- ---- handlers

-- an exception row covers the places from its start on and before its end
abbrev pub covers : ℕ → ExceptionRow → Bool
covers pc row = nat_le row.start pc && nat_lt pc row.end

abbrev pub handles_in : Option Code → ℕ → Bool
handles_in None pc = false
handles_in (Some code) pc = list_any (covers pc) code.rows
