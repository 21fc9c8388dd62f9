-- A step keeps the lengths of all arrays, and makes at most one more.
use Rattle.std.proofs.Common.{◌≡◌, ℕ, zero, suc, ◌+◌, ◌*◌, List, [], ◌∷◌, ◌++◌, length, slice_get, slice_set, replicate, Option, Some, None, Result, Ok, Err, refl, sym, ap, subst, ◌∙◌, arith, not, nat_le}
use Rattle.std.proofs.lemmas.List.{append-nil, map-append, length-set, length-replicate}
use Rattle.bv_words.specs.Words.{chop, slt}
use Rattle.axe_io.specs.declared.parameters.Kind.{Kind}
use Rattle.axe_io.specs.Shapes.{ShapeParts, width_of}
use Rattle.class_file.specs.Contents.{Contents}
use Rattle.class_file.specs.declared.class.Code.{Code}
use Rattle.class_file.specs.declared.class.MethodId.{MethodId}
use Rattle.jvm_meaning.specs.Numbers.{Value, Array, Heap, Frame, State, Waiting, Operands, Arrays, Step}
use Rattle.jvm_state.specs.declared.value.Value.TheVariants as value
use Rattle.jvm_state.specs.declared.value.Throw.TheVariants.{NegativeSize}
use Rattle.jvm_state.specs.declared.value.Reason.{Reason}
use Rattle.jvm_state.specs.declared.value.Reason.TheVariants.{WrongOperand, OutsideProfile}
use Rattle.jvm_state.specs.declared.stop.Stop.TheVariants.{Refused, Throws, MoreElements}
use Rattle.jvm_state.specs.declared.state.Limits.{Limits}
use Rattle.jvm_state.specs.declared.state.Site.{Site}
use Rattle.jvm_meaning.specs.declared.calls.Callee.{Callee}
use Rattle.jvm_meaning.specs.declared.calls.Callee.TheVariants as callee
use Rattle.jvm_meaning.specs.declared.operation.ArrayOperation.{ArrayOperation}
use Rattle.jvm_meaning.specs.declared.operation.ArrayOperation.TheVariants.{LoadElement, StoreElement, LoadReference, StoreReference, NewArray, ArrayLength}
use Rattle.jvm_meaning.specs.declared.operation.Instruction.{Instruction}
use Rattle.jvm_meaning.specs.declared.operation.Operation.{Operation}
use Rattle.jvm_meaning.specs.declared.operation.Operation.TheVariants as does
use Rattle.jvm_meaning.specs.declared.operation.StackOperation.TheVariants as operands
use Rattle.jvm_state.specs.Stops.{Part, ◌>>=◌, check, found}
use Rattle.jvm_state.specs.Stacks.{push, pop_word, pop_int, pop_reference}
use Rattle.jvm_meaning.specs.Moves.{moved, move_on}
use Rattle.jvm_meaning.specs.Words.{increment}
use Rattle.jvm_meaning.specs.Branches.{branch_in, next_place}
use Rattle.jvm_state.specs.Arrays.{count_in, accepts, with_word, with_element, with_reference, with_row}
use Rattle.jvm_state.specs.ArrayTypes.{of_depth, inner_type}
use Rattle.jvm_state.specs.declared.types.ArrayType.{ArrayType}
use Rattle.jvm_state.specs.declared.types.FieldType.{FieldType}
use Rattle.jvm_state.specs.declared.types.FieldType.TheVariants as type
use Rattle.jvm_state.specs.declared.arrays.Array.TheVariants.{Words, References}
use Rattle.jvm_meaning.specs.ArrayUses.{pop_array, pop_rows, present, element, row, width_for, load_element, load_reference, store_element, store_reference, empty, new_array, new_references, counted, rows, lowered, made_arrays, total_in, pop_counts, none_negative, make_rows, with_dimensions, new_rows, array_length, on_arrays}
use Rattle.jvm_meaning.specs.Constants.{load_constant, array_class}
use Rattle.jvm_meaning.specs.Fields.{pop_static, put_static}
use Rattle.jvm_meaning.specs.Calls.{code_of, desc_of, begin, callee_of, called, returned, narrowed_by, pushed}
use Rattle.jvm_meaning.specs.Types.{deepest, return_type}
use Rattle.jvm_meaning.specs.Operations.{instruction_at}
use Rattle.jvm_meaning.specs.Steps.{ended, started, depth_in, resumed, site_of}
use Rattle.jvm_meaning.specs.Machine.{step, on_stack, stay, stayed, invoke_callee, invoke, close, leave_to, give_back, act, act_if, step_in}
use Rattle.jvm_meaning.specs.Traces.{asked_int, counts_in, lengths_by, made_by, made_next, of_instruction, of_code, elements_in, lengths, MarksAreAllThatIsMade}

-- arrays keep their lengths, and those that are made stand behind them
abbrev Grows : Arrays → List ℕ → Arrays → Type 0
Grows old made new = lengths new ≡ lengths old ++ made

steady : (old new : Arrays) → lengths new ≡ lengths old → Grows old [] new
steady old new e = e ∙ sym (append-nil (lengths old))

same : (arrays : Arrays) → Grows arrays [] arrays
same arrays = steady arrays arrays refl

one_more : (arrays : Arrays) (a : Array) → Grows arrays (count_in a ∷ []) (arrays ++ a ∷ [])
one_more arrays a = map-append elements_in arrays (a ∷ [])

set_lengths : (arrays : Arrays) (k : ℕ) (a b : Array) → slice_get arrays k ≡ Some a → count_in b ≡ count_in a → lengths (slice_set arrays k b) ≡ lengths arrays
set_lengths [] k a b is e = refl
set_lengths (c ∷ arrays) zero a b is e =
    let found : c ≡ a = cc in
    ap (λ n. n ∷ lengths arrays) (e ∙ sym (ap (λ (x : Array). count_in x) found))
set_lengths (c ∷ arrays) (suc k) a b is e = ap (λ ns. count_in c ∷ ns) (set_lengths arrays k a b is e)

word_count : (index word : ℕ) (a : Array) → count_in (with_word index word a) ≡ count_in a
word_count index word (Words kind words) = length-set words index word
word_count index word (References type references) = refl

reference_count : (index : ℕ) (reference : Option ℕ) (a : Array) → count_in (with_reference index reference a) ≡ count_in a
reference_count index reference (Words kind words) = refl
reference_count index reference (References type references) = length-set references index reference

with_lengths : (index word : ℕ) (found : Option Array) (arrays : Arrays) (k : ℕ) → slice_get arrays k ≡ found → Grows arrays [] (with_element index word found arrays k)
with_lengths index word None arrays k is = same arrays
with_lengths index word (Some a) arrays k is = steady arrays _ (set_lengths arrays k a (with_word index word a) is (word_count index word a))

row_lengths : (index : ℕ) (reference : Option ℕ) (found : Option Array) (arrays : Arrays) (k : ℕ) → slice_get arrays k ≡ found → Grows arrays [] (with_row index reference found arrays k)
row_lengths index reference None arrays k is = same arrays
row_lengths index reference (Some a) arrays k is = steady arrays _ (set_lengths arrays k a (with_reference index reference a) is (reference_count index reference a))

-- ---- arrays that are made

pub empty_count : (inner : FieldType) (count : ℕ) → count_in (empty inner count) ≡ count
empty_count (type.Scalar kind) count = length-replicate count 0
empty_count (type.Array inner) count = length-replicate count None

pub counted_count : (first count : ℕ) → length (counted first count) ≡ count
counted_count first zero = refl
counted_count first (suc count) = ap suc (counted_count (suc first) count)

row_counts : (inner : ArrayType) (first count many : ℕ) → lengths (rows inner first count many) ≡ replicate many count
row_counts inner first count zero = refl
row_counts inner first count (suc many) =
    let here = counted_count first count in
    let rest = row_counts inner (first + count) count many in
    ap (λ n. n ∷ lengths (rows inner (first + count) count many)) here ∙ ap (λ ns. count ∷ ns) rest

last_counts : (inner : FieldType) (count many : ℕ) → lengths (replicate many (empty inner count)) ≡ replicate many count
last_counts inner count zero = refl
last_counts inner count (suc many) =
    ap (λ n. n ∷ lengths (replicate many (empty inner count))) (empty_count inner count) ∙ ap (λ ns. count ∷ ns) (last_counts inner count many)

made_counts : (first : ℕ) (t : ArrayType) (many : ℕ) (counts : List ℕ) → lengths (made_arrays first t many counts) ≡ lengths_by many counts
made_counts first t many [] = refl
made_counts first t many (count ∷ []) = last_counts (inner_type t) count many ∙ sym (append-nil (replicate many count))
made_counts first t many (count ∷ (below ∷ counts)) =
    map-append elements_in (rows (lowered t) (first + many) count many) (made_arrays (first + many) (lowered t) (many * count) (below ∷ counts))
    ∙ ap (λ ns. ns ++ lengths (made_arrays (first + many) (lowered t) (many * count) (below ∷ counts))) (row_counts (lowered t) (first + many) count many)
    ∙ ap (λ ns. replicate many count ++ ns) (made_counts (first + many) (lowered t) (many * count) (below ∷ counts))

-- ---- parts of an instruction

abbrev Grown : {A : Type 0} → (A → Arrays) → Arrays → List ℕ → Part A → Type 0
Grown view old made (Ok x) = Grows old made (view x)
Grown view old made (Err stop) = Unit {0}

via : {A B : Type 0} (view : B → Arrays) (old : Arrays) (made : List ℕ) (part : Part A) (next : A → Part B) → ((x : A) → Grown view old made (next x)) → Grown view old made (part >>= next)
via view old made (Ok x) next each = each x
via view old made (Err stop) next each = tt

via_grown : {A B : Type 0} (seen : A → Arrays) (view : B → Arrays) (old : Arrays) (made : List ℕ) (part : Part A) (next : A → Part B) → Grown seen old made part → ((x : A) → Grows old made (seen x) → Grown view old made (next x)) → Grown view old made (part >>= next)
via_grown seen view old made (Ok x) next grown each = each x grown
via_grown seen view old made (Err stop) next grown each = tt

abbrev stored_arrays : Arrays × Operands → Arrays
stored_arrays x = x.0

store_grows : (kind : Kind) (arrays : Arrays) (stack : Operands) → Grown stored_arrays arrays [] (store_element kind arrays stack)
store_grows kind arrays stack =
    via stored_arrays arrays [] (pop_word (width_for kind) stack) _ (λ word.
    via stored_arrays arrays [] (pop_int word.1) _ (λ index.
    via stored_arrays arrays [] (pop_array (of_depth 1 kind) arrays index.1) _ (λ reference.
    via stored_arrays arrays [] (present reference.0) _ (λ k.
    via stored_arrays arrays [] (element arrays k index.0) _ (λ old.
    with_lengths index.0 (chop (width_of kind) word.0) (slice_get arrays k) arrays k refl)))))

abbrev heaped_arrays : Heap × Operands → Arrays
heaped_arrays x = x.0.arrays

stored_grows : (arrays : Arrays) (stack : Operands) → Grown stored_arrays arrays [] (store_reference arrays stack)
stored_grows arrays stack =
    via stored_arrays arrays [] (pop_reference stack) _ (λ stored.
    via stored_arrays arrays [] (pop_int stored.1) _ (λ index.
    via stored_arrays arrays [] (pop_rows arrays index.1) _ (λ reference.
    via stored_arrays arrays [] (present reference.0) _ (λ k.
    via stored_arrays arrays [] (row arrays k index.0) _ (λ old.
    via stored_arrays arrays [] (check (accepts arrays (slice_get arrays k) stored.0) (Refused WrongOperand)) _ (λ fits.
    row_lengths index.0 stored.0 (slice_get arrays k) arrays k refl))))))

made_grows : (inner : FieldType) (limit depth n : ℕ) (heap : Heap) (stack : Operands) → Grown heaped_arrays heap.arrays (n ∷ []) (new_array inner limit depth heap (value.Int n ∷ stack))
made_grows inner limit depth n heap stack =
    via heaped_arrays heap.arrays (n ∷ []) (check (not (slt 32 n 0)) (Throws NegativeSize)) _ (λ not_negative.
    via heaped_arrays heap.arrays (n ∷ []) (check (nat_le (heap.made + n) limit) MoreElements) _ (λ few.
    via heaped_arrays heap.arrays (n ∷ []) (push depth (value.Array (length heap.arrays)) stack) _ (λ next.
    one_more heap.arrays (empty inner n) ∙ ap (λ len. lengths heap.arrays ++ len ∷ []) (empty_count inner n))))

new_grows : (inner : FieldType) (limit depth : ℕ) (heap : Heap) (stack : Operands) → Grown heaped_arrays heap.arrays (asked_int stack) (new_array inner limit depth heap stack)
new_grows inner limit depth heap [] = tt
new_grows inner limit depth heap (value.Int n ∷ stack) = made_grows inner limit depth n heap stack
new_grows inner limit depth heap (value.Long n ∷ stack) = tt
new_grows inner limit depth heap (value.Null ∷ stack) = tt
new_grows inner limit depth heap (value.Array k ∷ stack) = tt

references_grow : (class : Contents) (number limit depth : ℕ) (heap : Heap) (stack : Operands) → Grown heaped_arrays heap.arrays (asked_int stack) (new_references class number limit depth heap stack)
references_grow class number limit depth heap stack =
    via heaped_arrays heap.arrays (asked_int stack) (found (array_class class number) (Refused (OutsideProfile 189))) _ (λ inner.
    new_grows (type.Array inner) limit depth heap stack)

make_grows : (t : ArrayType) (limit depth : ℕ) (heap : Heap) (taken : List ℕ × Operands) → Grown heaped_arrays heap.arrays (lengths_by 1 taken.0) (make_rows t limit depth heap taken)
make_grows t limit depth heap taken =
    via heaped_arrays heap.arrays (lengths_by 1 taken.0) (check (none_negative taken.0) (Throws NegativeSize)) _ (λ not_negative.
    via heaped_arrays heap.arrays (lengths_by 1 taken.0) (check (nat_le (heap.made + total_in 1 taken.0) limit) MoreElements) _ (λ few.
    via heaped_arrays heap.arrays (lengths_by 1 taken.0) (push depth (value.Array (length heap.arrays)) taken.1) _ (λ next.
    map-append elements_in heap.arrays (made_arrays (length heap.arrays) t 1 taken.0)
    ∙ ap (λ ns. lengths heap.arrays ++ ns) (made_counts (length heap.arrays) t 1 taken.0))))

taken_grows : (t : ArrayType) (limit depth : ℕ) (heap : Heap) (part : Part (List ℕ × Operands)) → Grown heaped_arrays heap.arrays (lengths_by 1 (counts_in part)) (part >>= make_rows t limit depth heap)
taken_grows t limit depth heap (Ok taken) = make_grows t limit depth heap taken
taken_grows t limit depth heap (Err stop) = tt

rows_grow : (class : Contents) (number dimensions limit depth : ℕ) (heap : Heap) (stack : Operands)
    → Grown heaped_arrays heap.arrays (lengths_by 1 (counts_in (pop_counts dimensions [] stack))) (new_rows class number dimensions limit depth heap stack)
rows_grow class number dimensions limit depth heap stack =
    via heaped_arrays heap.arrays (lengths_by 1 (counts_in (pop_counts dimensions [] stack))) (found (with_dimensions dimensions (array_class class number)) (Refused (OutsideProfile 197))) _ (λ t.
    taken_grows t limit depth heap (pop_counts dimensions [] stack))

on_arrays_grows : (operation : ArrayOperation) (limit depth : ℕ) (heap : Heap) (stack : Operands) → Grown heaped_arrays heap.arrays (made_by (does.Array operation) stack) (on_arrays operation limit depth heap stack)
on_arrays_grows (LoadElement kind) limit depth heap stack = via heaped_arrays heap.arrays [] (load_element kind depth heap.arrays stack) _ (λ next. same heap.arrays)
on_arrays_grows (StoreElement kind) limit depth heap stack =
    via_grown stored_arrays heaped_arrays heap.arrays [] (store_element kind heap.arrays stack) _ (store_grows kind heap.arrays stack) (λ next grown. grown)
on_arrays_grows LoadReference limit depth heap stack = via heaped_arrays heap.arrays [] (load_reference depth heap.arrays stack) _ (λ next. same heap.arrays)
on_arrays_grows StoreReference limit depth heap stack =
    via_grown stored_arrays heaped_arrays heap.arrays [] (store_reference heap.arrays stack) _ (stored_grows heap.arrays stack) (λ next grown. grown)
on_arrays_grows (NewArray kind) limit depth heap stack = new_grows (type.Scalar kind) limit depth heap stack
on_arrays_grows ArrayLength limit depth heap stack = via heaped_arrays heap.arrays [] (array_length depth heap.arrays stack) _ (λ next. same heap.arrays)

abbrev framed_arrays : Frame × Heap → Arrays
framed_arrays x = x.1.arrays

put_grows : (class : Contents) (number : ℕ) (heap : Heap) (stack : Operands) → Grown heaped_arrays heap.arrays [] (put_static class number heap stack)
put_grows class number heap stack =
    via heaped_arrays heap.arrays [] (pop_static class number heap.arrays stack) _ (λ taken. same heap.arrays)

stay_grows : (class : Contents) (limits : Limits) (code : Code) (operation : Operation) (size : ℕ) (f : Frame) (heap : Heap) → Grown framed_arrays heap.arrays (made_by operation f.stack) (stay class limits code operation size f heap)
stay_grows class limits code (does.Stack operation) size f heap = via framed_arrays heap.arrays [] (on_stack operation code.max_stack f.stack) _ (λ stack. same heap.arrays)
stay_grows class limits code (does.Increment k amount) size f heap = via framed_arrays heap.arrays [] (increment k amount f.locals) _ (λ locals. same heap.arrays)
stay_grows class limits code (does.Branch condition offset) size f heap = via framed_arrays heap.arrays [] (next_place condition (branch_in code offset size f.pc) f.stack) _ (λ next. same heap.arrays)
stay_grows class limits code (does.Array operation) size f heap =
    via_grown heaped_arrays framed_arrays heap.arrays (made_by (does.Array operation) f.stack) (on_arrays operation limits.elements code.max_stack heap f.stack) _ (on_arrays_grows operation limits.elements code.max_stack heap f.stack) (λ next grown. grown)
stay_grows class limits code (does.LoadConstant op width number) size f heap = via framed_arrays heap.arrays [] (load_constant op width number class code.max_stack f.stack) _ (λ stack. same heap.arrays)
stay_grows class limits code (does.NewReferences number) size f heap =
    via_grown heaped_arrays framed_arrays heap.arrays (asked_int f.stack) (new_references class number limits.elements code.max_stack heap f.stack) _ (references_grow class number limits.elements code.max_stack heap f.stack) (λ next grown. grown)
stay_grows class limits code (does.NewRows number dimensions) size f heap =
    via_grown heaped_arrays framed_arrays heap.arrays (lengths_by 1 (counts_in (pop_counts dimensions [] f.stack))) (new_rows class number dimensions limits.elements code.max_stack heap f.stack) _ (rows_grow class number dimensions limits.elements code.max_stack heap f.stack) (λ next grown. grown)
stay_grows class limits code (does.Move moving) size f heap = tt
stay_grows class limits code (does.PutStatic number) size f heap =
    via_grown heaped_arrays framed_arrays heap.arrays [] (put_static class number heap f.stack) _ (put_grows class number heap f.stack) (λ next grown. grown)
stay_grows class limits code (does.Invoke number) size f heap = tt
stay_grows class limits code (does.Return sort) size f heap = tt

-- ---- steps

abbrev state_arrays : State → Arrays
state_arrays s = s.heap.arrays

stayed_grows : (class : Contents) (limits : Limits) (code : Code) (operation : Operation) (size : ℕ) (s : State) → Grown state_arrays s.heap.arrays (made_by operation s.frame.stack) (stayed class limits code operation size s)
stayed_grows class limits code operation size s =
    via_grown framed_arrays state_arrays s.heap.arrays (made_by operation s.frame.stack) (stay class limits code operation size s.frame s.heap) _ (stay_grows class limits code operation size s.frame s.heap) (λ next grown. grown)

callee_grows : (class : Contents) (limits : Limits) (code : Code) (size : ℕ) (s : State) (c : Callee) → Grown state_arrays s.heap.arrays [] (invoke_callee class limits code size s c)
callee_grows class limits code size s (callee.Own method) =
    via state_arrays s.heap.arrays [] (called class limits.frames (length s.callers + 1) method s.heap.arrays s.frame.stack) _ (λ next. same s.heap.arrays)
callee_grows class limits code size s (callee.Rotation turn width) = stayed_grows class limits code (does.Stack (operands.Rotate turn width)) size s

invoke_grows : (class : Contents) (limits : Limits) (code : Code) (number size : ℕ) (s : State) → Grown state_arrays s.heap.arrays [] (invoke class limits code number size s)
invoke_grows class limits code number size s = via state_arrays s.heap.arrays [] (callee_of class number) _ (callee_grows class limits code size s)

abbrev Steps : Arrays → List ℕ → Step → Type 0
Steps old made (Ok s) = Grows old made s.heap.arrays
Steps old made (Err end) = Unit {0}

ended_grows : (class : Contents) (s : State) (made : List ℕ) (part : Part State) → Grown state_arrays s.heap.arrays made part → Steps s.heap.arrays made (ended class s part)
ended_grows class s made (Ok next) grown = grown
ended_grows class s made (Err stop) grown = tt

started_grows : (method : MethodId) (heap : Heap) (waiting : Option Waiting) (part : Part Frame) → Steps heap.arrays [] (started method heap waiting part)
started_grows method heap waiting (Ok f) = same heap.arrays
started_grows method heap waiting (Err stop) = tt

close_grows : (class : Contents) (shape : ShapeParts) (result : Option Value) (heap : Heap) (waiting : Option Waiting) → Steps heap.arrays [] (close class shape result heap waiting)
close_grows class shape result heap None = tt
close_grows class shape result heap (Some w) = started_grows w.method heap None (begin class w.method w.arguments)

resumed_grows : (site : Site) (f : Frame) (s : State) (part : Part Operands) → Steps s.heap.arrays [] (resumed site f s part)
resumed_grows site f s (Ok stack) = same s.heap.arrays
resumed_grows site f s (Err stop) = tt

leave_grows : (class : Contents) (shape : ShapeParts) (result : Option Value) (site : Site) (s : State) (callers : List Frame) → Steps s.heap.arrays [] (leave_to class shape result site s callers)
leave_grows class shape result site s [] = close_grows class shape result s.heap s.waiting
leave_grows class shape result site s (f ∷ callers) =
    resumed_grows site f (record { frame = s.frame; callers = callers; waiting = s.waiting; heap = s.heap }) (pushed (depth_in (code_of class f.method)) result f.stack)

give_grows : (class : Contents) (shape : ShapeParts) (s : State) (part : Part (Option Value)) → Steps s.heap.arrays [] (give_back class shape s part)
give_grows class shape s (Ok result) = leave_grows class shape (narrowed_by (return_type deepest (desc_of class s.frame.method)) result) (site_of s.frame) s s.callers
give_grows class shape s (Err stop) = tt

act_grows : (class : Contents) (shape : ShapeParts) (limits : Limits) (code : Code) (operation : Operation) (size : ℕ) (s : State) → Steps s.heap.arrays (made_by operation s.frame.stack) (act class shape limits code operation size s)
act_grows class shape limits code (does.Return sort) size s = give_grows class shape s (returned sort (return_type deepest (desc_of class s.frame.method)) s.heap.arrays s.frame.stack)
act_grows class shape limits code (does.Move moving) size s =
    ended_grows class s [] (move_on class code moving size s) (via state_arrays s.heap.arrays [] (moved class code moving size s.heap.statics s.frame) _ (λ f. same s.heap.arrays))
act_grows class shape limits code (does.Invoke number) size s = ended_grows class s [] (invoke class limits code number size s) (invoke_grows class limits code number size s)
act_grows class shape limits code operation size s = ended_grows class s (made_by operation s.frame.stack) (stayed class limits code operation size s) (stayed_grows class limits code operation size s)

act_if_grows : (class : Contents) (shape : ShapeParts) (limits : Limits) (code : Code) (s : State) (found : Result Instruction Reason) → Steps s.heap.arrays (of_instruction made_by s.frame.stack found) (act_if class shape limits code s found)
act_if_grows class shape limits code s (Err reason) = tt
act_if_grows class shape limits code s (Ok instruction) = act_grows class shape limits code instruction.operation instruction.size s

step_in_grows : (class : Contents) (shape : ShapeParts) (limits : Limits) (s : State) (code : Option Code) → Steps s.heap.arrays (of_code made_by s code) (step_in class shape limits s code)
step_in_grows class shape limits s None = tt
step_in_grows class shape limits s (Some code) = act_if_grows class shape limits code s (instruction_at code s.frame.pc)

pub all_made : MarksAreAllThatIsMade
unfolding step
all_made class shape limits s next e =
    subst (λ (r : Step). Steps s.heap.arrays (made_next class s) r) e (step_in_grows class shape limits s (code_of class s.frame.method))
