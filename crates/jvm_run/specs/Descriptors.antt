-- The shape of a method by its descriptor, the sizes of its arrays, and the place where its result is observed
-- (JVM Specification SE 8, section 4.3.3).
use Rattle.std.specs.Prelude.{◌≡◌, ℕ, suc, ◌+◌, ◌==◌, if◌then◌else◌, Bool, true, false, List, [], ◌∷◌, length, take, drop, count_by, slice_get, slice_index, Option, Some, None, is_some, Result, Ok, Err}
use Rattle.axe_io.specs.declared.parameters.Kind.{Kind}
use Rattle.axe_io.specs.declared.parameters.Param.{Param}
use Rattle.axe_io.specs.declared.parameters.OutPlace.{OutPlace}
use Rattle.axe_io.specs.declared.parameters.OutPlace.TheVariants as out
use Rattle.axe_io.specs.Shapes.{ShapeParts}
use Rattle.class_file.specs.Contents.{Contents}
use Rattle.class_file.specs.declared.class.MethodId.{MethodId}
use Rattle.jvm_run.specs.declared.descriptor.ShapeError.{ShapeError}
use Rattle.jvm_run.specs.declared.descriptor.ShapeError.TheVariants.{BadType, Sizes, Out, Memory}
use Rattle.jvm_state.specs.declared.types.FieldType.{FieldType}
use Rattle.jvm_state.specs.declared.types.FieldType.TheVariants.{Scalar, Array}
use Rattle.jvm_meaning.specs.declared.types.Letter.{Letter}
use Rattle.jvm_meaning.specs.declared.types.Letter.TheVariants.{Closes, Opens, Names, Unknown}
use Rattle.jvm_meaning.specs.Types.{Types, kind_of, letter_of, method_type}
use Rattle.jvm_meaning.specs.Calls.{desc_of}

abbrev pub Shaped : Type 0 → Type 0
Shaped A = Result A ShapeError

infixl 10 ◌>>=◌
abbrev pub ◌>>=◌ : {A B : Type 0} → Shaped A → (A → Shaped B) → Shaped B
(Ok x) >>= next = next x
(Err e) >>= next = Err e

-- what a call answers, unless memory ran out
abbrev pub FailsShape : {B : Type 0} → ShapeError → Shaped B → Type 0
FailsShape Memory part = Unit {0}
FailsShape e part = part ≡ Err e

abbrev pub GivesPart : {A B : Type 0} → (A → B) → Result A ShapeError → Shaped B → Type 0
GivesPart view (Ok x) part = part ≡ Ok (view x)
GivesPart view (Err e) part = FailsShape e part

abbrev pub GivesShape : Result ShapeParts ShapeError → Shaped ShapeParts → Type 0
GivesShape result end = GivesPart (λ shape. shape) result end

-- ---- how far some letters begin a descriptor

abbrev pub one_if : Bool → ℕ
one_if true = 1
one_if false = 0

abbrev pub kind_letters : List ℕ → ℕ
kind_letters [] = 0
kind_letters (letter ∷ letters) = one_if (is_some (kind_of letter))

-- the letters of the longest beginning that also begins a result
abbrev pub result_letters : List ℕ → ℕ
result_letters [] = 0
result_letters (letter ∷ letters) =
    if letter == 86 then 1 else if letter == 91 then suc (kind_letters letters) else kind_letters (letter ∷ letters)

abbrev pub letters_by : Letter → ℕ → ℕ → ℕ → ℕ
letters_by Closes result opened rest = suc result
letters_by Opens result opened rest = suc opened
letters_by (Names type) result opened rest = suc rest
letters_by Unknown result opened rest = 0

-- those of the longest beginning that also begins parameters and a result
abbrev pub types_letters : ℕ → List ℕ → ℕ
types_letters depth [] = 0
types_letters depth (letter ∷ letters) =
    letters_by (letter_of 1 depth letter) (result_letters letters) (types_letters (suc depth) letters) (types_letters 0 letters)

-- those of the longest beginning that also begins a descriptor of the profile
abbrev pub descriptor_letters : List ℕ → ℕ
descriptor_letters [] = 0
descriptor_letters (letter ∷ letters) = if letter == 40 then suc (types_letters 0 letters) else 0

-- ---- sizes

abbrev pub total : List ℕ → ℕ
total [] = 0
total (n ∷ ns) = n + total ns

abbrev pub is_array : FieldType → Bool
is_array (Scalar kind) = false
is_array (Array type) = true

-- a size for each array
abbrev pub sizes_fit : List FieldType → ℕ → Shaped (Unit {0})
sizes_fit types given = if count_by is_array types == given then Ok tt else Err (Sizes (count_by is_array types) given)

abbrev pub param : Kind → Option ℕ → Param
param kind len = record { kind = kind; len = len }

-- a parameter of a type, an array with the first of the sizes, and the sizes behind it
abbrev pub param_of : FieldType → List ℕ → Param
param_of (Scalar kind) sizes = param kind None
param_of (Array type) sizes = param type.kind (Some (slice_index sizes 0))

abbrev pub sizes_behind : FieldType → List ℕ → List ℕ
sizes_behind (Scalar kind) sizes = sizes
sizes_behind (Array type) sizes = drop 1 sizes

-- the parameters with their sizes, each array with the next one
abbrev pub params_of : List FieldType → List ℕ → List Param
params_of [] sizes = []
params_of (type ∷ types) sizes = param_of type sizes ∷ params_of types (sizes_behind type sizes)

-- ---- the observed result: its kind, and whether it is an array

abbrev pub observed_type : FieldType → Kind × Bool
observed_type (Scalar kind) = (kind, false)
observed_type (Array type) = (type.kind, true)

abbrev pub returned_type : Option FieldType → Shaped (Kind × Bool)
returned_type None = Err Out
returned_type (Some type) = Ok (observed_type type)

abbrev pub parameter_type : Option FieldType → Shaped (Kind × Bool)
parameter_type (Some (Array type)) = Ok (type.kind, true)
parameter_type _ = Err Out

-- what the method returns, which has to be something, or a parameter, which has to be an array
abbrev pub out_type : Types → OutPlace → Shaped (Kind × Bool)
out_type types out.Returned = returned_type types.1
out_type types (out.Param n) = parameter_type (slice_get types.0 n)

-- ---- the shape

abbrev pub spelled : List ℕ → Option Types → Shaped Types
spelled letters None = Err (BadType (descriptor_letters letters))
spelled letters (Some types) = Ok types

-- a class has no room for a descriptor of more than 65,535 letters (section 4.4.7)
abbrev pub read_letters : List ℕ → List ℕ
read_letters desc = take 65535 desc

abbrev pub shape_with : List FieldType → List ℕ → OutPlace → Kind × Bool → ShapeParts
shape_with types sizes place seen = record { params = params_of types sizes; out = place; kind = seen.0; is_array = seen.1 }

abbrev pub shape_by : List ℕ → List ℕ → OutPlace → Shaped ShapeParts
shape_by letters sizes place = do
  types ← spelled letters (method_type 1 letters)
  fit ← sizes_fit types.0 (length sizes)
  seen ← out_type types place
  Ok (shape_with types.0 sizes place seen)

-- the shape of a method
unfoldable pub shape_end : Contents → MethodId → List ℕ → OutPlace → Result ShapeParts ShapeError
shape_end class method sizes place = shape_by (read_letters (desc_of class method)) sizes place
