-- Arrays (JVM Specification SE 8, sections 2.4 and 2.7), by their numbers, which count from 0. An array has words of its
-- kind's width, in whose place other types may stand, or references of an element type: null, or an array's number.
use Rattle.std.specs.Prelude.{ℕ, ◌+◌, ◌<◌, ◌^◌, Bool, true, false, List, [], ◌∷◌, ◌++◌, length, slice_get, slice_set, Option, Some, None}
use Rattle.std.specs.List.{All}
use Rattle.bv_words.specs.Words.{chop}
use Rattle.axe_io.specs.declared.parameters.Kind.{Kind}
use Rattle.jvm_state.specs.declared.types.ArrayType.{ArrayType}
use Rattle.jvm_state.specs.declared.arrays.Array.{Array}
use Rattle.jvm_state.specs.declared.arrays.Array.TheVariants.{Words, References}
use Rattle.jvm_state.specs.ArrayTypes.{of_depth, is_same_type}

abbrev pub Arrays : Type 0 → Type 0
Arrays E = List (Array E)

-- the type of an array
abbrev pub type_of : {E : Type 0} → Array E → ArrayType
type_of (Words kind words) = of_depth 1 kind
type_of (References type references) = of_depth (type.depth + 1) type.kind

abbrev pub has_type : {E : Type 0} → ArrayType → Option (Array E) → Bool
has_type type None = false
has_type type (Some a) = is_same_type (type_of a) type

-- whether a reference is null, or to an array of a type
abbrev pub refers_to : {E : Type 0} → ArrayType → Arrays E → Option ℕ → Bool
refers_to type arrays None = true
refers_to type arrays (Some k) = has_type type (slice_get arrays k)

abbrev pub holds_references : {E : Type 0} → Option (Array E) → Bool
holds_references (Some (References type references)) = true
holds_references _ = false

-- whether a reference is null, or to an array of references
abbrev pub refers_to_rows : {E : Type 0} → Arrays E → Option ℕ → Bool
refers_to_rows arrays None = true
refers_to_rows arrays (Some k) = holds_references (slice_get arrays k)

-- how many elements an array has
abbrev pub count_in : {E : Type 0} → Array E → ℕ
count_in (Words kind words) = length words
count_in (References type references) = length references

-- a length is an int that isn't negative
abbrev pub AreShort : {E : Type 0} → Arrays E → Type 0
AreShort arrays = All (λ a. count_in a < 2 ^ 31) arrays

-- the word at an index; a negative one is past the end, since as a word it is 2^31 or more
abbrev pub element_in : {E : Type 0} → Option (Array E) → ℕ → Option E
element_in (Some (Words kind words)) index = slice_get words index
element_in _ index = None

abbrev pub element_at : {E : Type 0} → Arrays E → ℕ → ℕ → Option E
element_at arrays k index = element_in (slice_get arrays k) index

-- the reference at an index
abbrev pub reference_in : {E : Type 0} → Option (Array E) → ℕ → Option (Option ℕ)
reference_in (Some (References type references)) index = slice_get references index
reference_in _ index = None

abbrev pub reference_at : {E : Type 0} → Arrays E → ℕ → ℕ → Option (Option ℕ)
reference_at arrays k index = reference_in (slice_get arrays k) index

-- whether a reference is of the element type of an array of references
abbrev pub accepts : {E : Type 0} → Arrays E → Option (Array E) → Option ℕ → Bool
accepts arrays (Some (References type references)) reference = refers_to type arrays reference
accepts arrays _ reference = false

-- another word at an index of an array
abbrev pub with_word : {E : Type 0} → ℕ → E → Array E → Array E
with_word index word (Words kind words) = Words kind (slice_set words index word)
with_word index word (References type references) = References type references

abbrev pub with_element : {E : Type 0} → ℕ → E → Option (Array E) → Arrays E → ℕ → Arrays E
with_element index word None arrays k = arrays
with_element index word (Some a) arrays k = slice_set arrays k (with_word index word a)

abbrev pub set_element : {E : Type 0} → Arrays E → ℕ → ℕ → E → Arrays E
set_element arrays k index word = with_element index word (slice_get arrays k) arrays k

-- another reference at an index of an array
abbrev pub with_reference : {E : Type 0} → ℕ → Option ℕ → Array E → Array E
with_reference index reference (Words kind words) = Words kind words
with_reference index reference (References type references) = References type (slice_set references index reference)

abbrev pub with_row : {E : Type 0} → ℕ → Option ℕ → Option (Array E) → Arrays E → ℕ → Arrays E
with_row index reference None arrays k = arrays
with_row index reference (Some a) arrays k = slice_set arrays k (with_reference index reference a)

abbrev pub set_row : {E : Type 0} → Arrays E → ℕ → ℕ → Option ℕ → Arrays E
set_row arrays k index reference = with_row index reference (slice_get arrays k) arrays k

-- one more array, behind the others
abbrev pub with_one_more : {E : Type 0} → Arrays E → Array E → Arrays E
with_one_more arrays a = arrays ++ a ∷ []

abbrev pub length_in : {E : Type 0} → Option (Array E) → ℕ
length_in None = 0
length_in (Some a) = chop 32 (count_in a)

abbrev pub items_of : {E : Type 0} → Option (Array E) → List E
items_of (Some (Words kind words)) = words
items_of _ = []
