-- What instructions do with arrays (JVM Specification SE 8, section 6.5). Words are of their array's kind.
use Rattle.std.specs.Prelude.{ℕ, zero, suc, ◌+◌, ◌-◌, ◌*◌, ◌&&◌, not, nat_le, if◌then◌else◌, Bool, true, List, [], ◌∷◌, ◌++◌, length, replicate, slice_get, Option, Some, None, Ok}
use Rattle.bv_words.specs.Words.{chop, slt}
use Rattle.axe_io.specs.declared.parameters.Kind.{Kind}
use Rattle.axe_io.specs.declared.parameters.Kind.TheVariants as kind
use Rattle.axe_io.specs.Shapes.{width_of}
use Rattle.class_file.specs.Contents.{Contents}
use Rattle.jvm_state.specs.declared.value.Value.{Value}
use Rattle.jvm_state.specs.declared.value.Value.TheVariants as value
use Rattle.jvm_state.specs.declared.value.Reason.TheVariants.{WrongOperand, OutsideProfile}
use Rattle.jvm_state.specs.declared.value.Throw.TheVariants.{NullPointer, ArrayIndex, NegativeSize}
use Rattle.jvm_state.specs.declared.stop.Stop.TheVariants.{Refused, Throws, MoreElements}
use Rattle.jvm_state.specs.declared.sorts.Width.{Width}
use Rattle.jvm_state.specs.declared.sorts.Width.TheVariants as width
use Rattle.jvm_state.specs.declared.types.ArrayType.{ArrayType}
use Rattle.jvm_state.specs.declared.types.FieldType.{FieldType}
use Rattle.jvm_state.specs.declared.types.FieldType.TheVariants as type
use Rattle.jvm_state.specs.declared.arrays.Array.{Array}
use Rattle.jvm_state.specs.declared.arrays.Array.TheVariants.{Words, References}
use Rattle.jvm_state.specs.declared.heap.Heap.{Heap}
use Rattle.jvm_meaning.specs.declared.operation.ArrayOperation.{ArrayOperation}
use Rattle.jvm_meaning.specs.declared.operation.ArrayOperation.TheVariants.{LoadElement, StoreElement, LoadReference, StoreReference, NewArray, ArrayLength}
use Rattle.jvm_state.specs.Values.{narrowed}
use Rattle.jvm_state.specs.Stops.{Part, ◌>>=◌, refused, check, found}
use Rattle.jvm_state.specs.Stacks.{Operands, push, pop_word, pop_int, pop_reference}
use Rattle.jvm_state.specs.ArrayTypes.{of_depth, inner_type}
use Rattle.jvm_state.specs.Arrays.{Arrays, refers_to, refers_to_rows, element_at, reference_at, accepts, set_element, set_row, with_one_more, length_in}
use Rattle.jvm_meaning.specs.Constants.{array_class}

-- the reference at the top, which is to an array of a type if it isn't null
abbrev pub pop_array : {I L E : Type 0} → ArrayType → Arrays E → Operands I L → Part (Option ℕ × Operands I L)
pop_array wanted arrays stack = do
  top ← pop_reference stack
  if refers_to wanted arrays top.0 then Ok top else refused WrongOperand

-- the reference at the top, which is to an array of references if it isn't null
abbrev pub pop_rows : {I L E : Type 0} → Arrays E → Operands I L → Part (Option ℕ × Operands I L)
pop_rows arrays stack = do
  top ← pop_reference stack
  if refers_to_rows arrays top.0 then Ok top else refused WrongOperand

-- null is the first fault of an array's use
abbrev pub present : Option ℕ → Part ℕ
present reference = found reference (Throws NullPointer)

abbrev pub element : {E : Type 0} → Arrays E → ℕ → ℕ → Part E
element arrays k index = found (element_at arrays k index) (Throws ArrayIndex)

abbrev pub row : {E : Type 0} → Arrays E → ℕ → ℕ → Part (Option ℕ)
row arrays k index = found (reference_at arrays k index) (Throws ArrayIndex)

abbrev pub reference_value : {I L : Type 0} → Option ℕ → Value I L
reference_value None = value.Null
reference_value (Some k) = value.Array k

-- byte and short with sign, char with zeros
abbrev pub element_value : Kind → ℕ → Value ℕ ℕ
element_value kind.Long word = value.Long word
element_value kind word = value.Int (narrowed kind (chop 32 word))

-- ints and longs, by the kind of the elements
abbrev pub width_for : Kind → Width
width_for kind.Long = width.Long
width_for _ = width.Int

-- iaload, laload, baload, caload, saload
abbrev pub load_element : Kind → ℕ → Arrays ℕ → Operands ℕ ℕ → Part (Operands ℕ ℕ)
load_element kind depth arrays stack = do
  index ← pop_int stack
  reference ← pop_array (of_depth 1 kind) arrays index.1
  k ← present reference.0
  word ← element arrays k index.0
  push depth (element_value kind word) reference.1

-- aaload
abbrev pub load_reference : ℕ → Arrays ℕ → Operands ℕ ℕ → Part (Operands ℕ ℕ)
load_reference depth arrays stack = do
  index ← pop_int stack
  reference ← pop_rows arrays index.1
  k ← present reference.0
  there ← row arrays k index.0
  push depth (reference_value there) reference.1

-- iastore, lastore, bastore, castore, sastore: narrowed to the element
abbrev pub store_element : Kind → Arrays ℕ → Operands ℕ ℕ → Part (Arrays ℕ × Operands ℕ ℕ)
store_element kind arrays stack = do
  word ← pop_word (width_for kind) stack
  index ← pop_int word.1
  reference ← pop_array (of_depth 1 kind) arrays index.1
  k ← present reference.0
  old ← element arrays k index.0
  Ok (set_element arrays k index.0 (chop (width_of kind) word.0), reference.1)

-- aastore: null, or an array of the element type, which is asked last
abbrev pub store_reference : Arrays ℕ → Operands ℕ ℕ → Part (Arrays ℕ × Operands ℕ ℕ)
store_reference arrays stack = do
  stored ← pop_reference stack
  index ← pop_int stored.1
  reference ← pop_rows arrays index.1
  k ← present reference.0
  old ← row arrays k index.0
  fits ← check (accepts arrays (slice_get arrays k) stored.0) (Refused WrongOperand)
  Ok (set_row arrays k index.0 stored.0, reference.1)

-- ---- arrays that are made

-- an array of zeros or nulls
abbrev pub empty : FieldType → ℕ → Array ℕ
empty (type.Scalar kind) count = Words kind (replicate count 0)
empty (type.Array inner) count = References inner (replicate count None)

-- an array behind those that were made before
abbrev pub with_array : FieldType → ℕ → Heap ℕ ℕ ℕ → Heap ℕ ℕ ℕ
with_array inner count heap = record { arrays = with_one_more heap.arrays (empty inner count); statics = heap.statics; made = heap.made + count }

-- newarray, anewarray: an array of an element type, within so many elements in all
abbrev pub new_array : FieldType → ℕ → ℕ → Heap ℕ ℕ ℕ → Operands ℕ ℕ → Part (Heap ℕ ℕ ℕ × Operands ℕ ℕ)
new_array inner limit depth heap stack = do
  count ← pop_int stack
  not_negative ← check (not (slt 32 count.0 0)) (Throws NegativeSize)
  few ← check (nat_le (heap.made + count.0) limit) MoreElements
  next ← push depth (value.Array (length heap.arrays)) count.1
  Ok (with_array inner count.0 heap, next)

-- anewarray: its constant names the type of the elements
abbrev pub new_references : Contents → ℕ → ℕ → ℕ → Heap ℕ ℕ ℕ → Operands ℕ ℕ → Part (Heap ℕ ℕ ℕ × Operands ℕ ℕ)
new_references class number limit depth heap stack = do
  inner ← found (array_class class number) (Refused (OutsideProfile 189))
  new_array (type.Array inner) limit depth heap stack

-- references to so many arrays, one after another
abbrev pub counted : ℕ → ℕ → List (Option ℕ)
counted first zero = []
counted first (suc count) = Some first ∷ counted (suc first) count

-- so many arrays, each of references to so many arrays behind those of the one before
abbrev pub rows : ArrayType → ℕ → ℕ → ℕ → Arrays ℕ
rows inner first count zero = []
rows inner first count (suc many) = References inner (counted first count) ∷ rows inner (first + count) count many

abbrev pub lowered : ArrayType → ArrayType
lowered t = of_depth (t.depth - 1) t.kind

-- so many arrays of a type by their counts, with all below them, from the outermost in; the first of them has a number
abbrev pub made_arrays : ℕ → ArrayType → ℕ → List ℕ → Arrays ℕ
made_arrays first t many [] = []
made_arrays first t many (count ∷ []) = replicate many (empty (inner_type t) count)
made_arrays first t many (count ∷ (below ∷ counts)) =
    rows (lowered t) (first + many) count many ++ made_arrays (first + many) (lowered t) (many * count) (below ∷ counts)

-- how many elements they have in all
abbrev pub total_in : ℕ → List ℕ → ℕ
total_in many [] = 0
total_in many (count ∷ counts) = many * count + total_in (many * count) counts

-- the counts at the top, that of the outermost arrays first
abbrev pub pop_counts : ℕ → List ℕ → Operands ℕ ℕ → Part (List ℕ × Operands ℕ ℕ)
pop_counts zero taken stack = Ok (taken, stack)
pop_counts (suc n) taken stack = do
  count ← pop_int stack
  pop_counts n (count.0 ∷ taken) count.1

abbrev pub none_negative : List ℕ → Bool
none_negative [] = true
none_negative (count ∷ counts) = not (slt 32 count 0) && none_negative counts

abbrev pub with_rows : Arrays ℕ → ℕ → Heap ℕ ℕ ℕ → Heap ℕ ℕ ℕ
with_rows more count heap = record { arrays = heap.arrays ++ more; statics = heap.statics; made = heap.made + count }

abbrev pub make_rows : ArrayType → ℕ → ℕ → Heap ℕ ℕ ℕ → List ℕ × Operands ℕ ℕ → Part (Heap ℕ ℕ ℕ × Operands ℕ ℕ)
make_rows t limit depth heap taken = do
  not_negative ← check (none_negative taken.0) (Throws NegativeSize)
  few ← check (nat_le (heap.made + total_in 1 taken.0) limit) MoreElements
  next ← push depth (value.Array (length heap.arrays)) taken.1
  Ok (with_rows (made_arrays (length heap.arrays) t 1 taken.0) (total_in 1 taken.0) heap, next)

-- dimensions are from 1 to the brackets of the type
abbrev pub with_dimensions : ℕ → Option ArrayType → Option ArrayType
with_dimensions dimensions None = None
with_dimensions dimensions (Some t) = if nat_le 1 dimensions && nat_le dimensions t.depth then Some t else None

-- multianewarray
abbrev pub new_rows : Contents → ℕ → ℕ → ℕ → ℕ → Heap ℕ ℕ ℕ → Operands ℕ ℕ → Part (Heap ℕ ℕ ℕ × Operands ℕ ℕ)
new_rows class number dimensions limit depth heap stack = do
  t ← found (with_dimensions dimensions (array_class class number)) (Refused (OutsideProfile 197))
  taken ← pop_counts dimensions [] stack
  make_rows t limit depth heap taken

-- arraylength
abbrev pub array_length : ℕ → Arrays ℕ → Operands ℕ ℕ → Part (Operands ℕ ℕ)
array_length depth arrays stack = do
  reference ← pop_reference stack
  k ← present reference.0
  push depth (value.Int (length_in (slice_get arrays k))) reference.1

abbrev pub with_arrays : {I L E : Type 0} → Heap I L E → Arrays E → Heap I L E
with_arrays heap arrays = record { arrays = arrays; statics = heap.statics; made = heap.made }

abbrev pub on_arrays : ArrayOperation → ℕ → ℕ → Heap ℕ ℕ ℕ → Operands ℕ ℕ → Part (Heap ℕ ℕ ℕ × Operands ℕ ℕ)
on_arrays (LoadElement kind) limit depth heap stack = do
  next ← load_element kind depth heap.arrays stack
  Ok (heap, next)
on_arrays (StoreElement kind) limit depth heap stack = do
  next ← store_element kind heap.arrays stack
  Ok (with_arrays heap next.0, next.1)
on_arrays LoadReference limit depth heap stack = do
  next ← load_reference depth heap.arrays stack
  Ok (heap, next)
on_arrays StoreReference limit depth heap stack = do
  next ← store_reference heap.arrays stack
  Ok (with_arrays heap next.0, next.1)
on_arrays (NewArray kind) limit depth heap stack = new_array (type.Scalar kind) limit depth heap stack
on_arrays ArrayLength limit depth heap stack = do
  next ← array_length depth heap.arrays stack
  Ok (heap, next)
