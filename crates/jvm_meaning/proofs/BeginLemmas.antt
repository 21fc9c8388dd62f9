-- Whether a run has a first state.
use Rattle.std.proofs.Common.{◌≡◌, arith, ◌↔◌, ℕ, ◌+◌, not, nat_lt, if◌then◌else◌, Bool, true, false, List, [], ◌∷◌, length, Option, Some, None, Ok, Err, refl, ap, subst, sym, ◌∙◌}
use Rattle.std.specs.Prelude.{IsTrue}
use Rattle.axe_io.specs.declared.parameters.Kind.{Kind}
use Rattle.axe_io.specs.declared.parameters.Kind.TheVariants as kind
use Rattle.axe_io.specs.declared.parameters.Param.{Param}
use Rattle.axe_io.specs.Shapes.{ShapeParts}
use Rattle.class_file.specs.Contents.{Contents}
use Rattle.class_file.specs.declared.class.Code.{Code}
use Rattle.class_file.specs.declared.class.MethodId.{MethodId}
use Rattle.jvm_state.specs.declared.stop.Stop.TheVariants.{BadBegin}
use Rattle.jvm_meaning.specs.Numbers.{Value, Frame, Heap, Waiting, Locals}
use Rattle.jvm_meaning.specs.Calls.{code_of, locals_of, begin_code, begin}
use Rattle.jvm_meaning.specs.Steps.{started}
use Rattle.jvm_meaning.specs.Runs.{argument_in, arguments, initialiser_of, start_heap, start_by, start, locals_for, locals_taken, has_room, begins_by, begins, IsState}

first_taken : (len : Option ℕ) (kind : Kind) (arrays : ℕ) (leaves : List ℕ) (rest : List Value)
    → length (locals_of (argument_in len arrays kind leaves ∷ rest)) ≡ locals_for len kind + length (locals_of rest)
first_taken None kind.Byte arrays leaves rest = omega arith
first_taken None kind.Char arrays leaves rest = omega arith
first_taken None kind.Short arrays leaves rest = omega arith
first_taken None kind.Int arrays leaves rest = omega arith
first_taken None kind.Long arrays leaves rest = omega arith
first_taken (Some count) kind arrays leaves rest = omega arith

all_taken : (arrays : ℕ) (params : List Param) (leaves : List ℕ) → length (locals_of (arguments arrays params leaves)) ≡ locals_taken params
all_taken arrays [] leaves = refl
all_taken arrays (p ∷ ps) leaves = first_taken p.len p.kind arrays leaves _ ∙ ap (λ n. locals_for p.len p.kind + n) (all_taken _ ps _)

by_room : (method : MethodId) (heap : Heap) (waiting : Option Waiting) (full : Bool) (f : Frame)
    → IsTrue (not full) ↔ IsState (started method heap waiting (if full then Err (BadBegin method) else Ok f))
by_room method heap waiting true f = (λ no. absurd cc, λ no. absurd no)
by_room method heap waiting false f = (λ yes. tt, λ yes. refl)

by_code : (method : MethodId) (heap : Heap) (waiting : Option Waiting) (code : Option Code) (locals : Locals)
    → IsTrue (has_room code (length locals)) ↔ IsState (started method heap waiting (begin_code method code locals))
by_code method heap waiting None locals = (λ no. absurd cc, λ no. absurd no)
by_code method heap waiting (Some code) locals = by_room method heap waiting (nat_lt code.max_locals (length locals)) _

by_initialiser : (class : Contents) (method : MethodId) (shape : ShapeParts) (leaves : List ℕ) (found : Option ℕ)
    → IsTrue (begins_by class method shape.params found) ↔ IsState (start_by class method (arguments 0 shape.params leaves) (start_heap class shape leaves) found)
by_initialiser class method shape leaves None =
    subst (λ n. IsTrue (has_room (code_of class method) n) ↔ IsState (started method (start_heap class shape leaves) None (begin class method (arguments 0 shape.params leaves))))
    (all_taken 0 shape.params leaves)
    (by_code method (start_heap class shape leaves) None (code_of class method) (locals_of (arguments 0 shape.params leaves)))
by_initialiser class method shape leaves (Some at) = by_code (record { 0 = at }) (start_heap class shape leaves) _ (code_of class (record { 0 = at })) []

begins_exactly : (class : Contents) (method : MethodId) (shape : ShapeParts) (leaves : List ℕ) → IsTrue (begins class method shape) ↔ IsState (start class method shape leaves)
begins_exactly class method shape leaves = by_initialiser class method shape leaves (initialiser_of class)

pub told_exactly : (class : Contents) (method : MethodId) (shape : ShapeParts) (told : Bool) → told ≡ begins class method shape
    → (leaves : List ℕ) → IsTrue told ↔ IsState (start class method shape leaves)
told_exactly class method shape told is leaves = subst (λ (b : Bool). IsTrue b ↔ IsState (start class method shape leaves)) (sym is) (begins_exactly class method shape leaves)
