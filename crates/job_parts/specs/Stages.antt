-- The stages that find a job's parts, in their order. Each gives a part, or the refusal of the job.
use Rattle.std.specs.Prelude.{ℕ, ◌==◌, if◌then◌else◌, List, length, count_by, position, slice_get, Option, Some, None, Result, Ok, Err}
use Rattle.axe_io.specs.Shapes.{ShapeParts}
use Rattle.class_file.specs.Contents.{Contents}
use Rattle.class_file.specs.Members.{answers_to}
use Rattle.class_reader.specs.ClassReaders.{class_of}
use Rattle.class_file.specs.declared.class.MethodId.{MethodId}
use Rattle.class_file.specs.declared.error.ClassError.{ClassError}
use Rattle.jvm_run.specs.declared.descriptor.ShapeError.{ShapeError}
use Rattle.jvm_run.specs.Descriptors.{shape_end}
use Rattle.spec_form.specs.Names.{function_named}
use Rattle.spec_reader.specs.Programs.{program_of}
use Rattle.spec_form.specs.declared.program.Program.{Program}
use Rattle.spec_form.specs.declared.program.Function.{Function as ProgramFunction}
use Rattle.spec_form.specs.declared.program.FunId.{FunId}
use Rattle.spec_form.specs.declared.error.SpecError.{SpecError}
use Rattle.verdict_text.specs.declared.verdict.Refusal.{Refusal}
use Rattle.verdict_text.specs.declared.verdict.Refusal.TheVariants.{ClassLong, Class, Method, SpecLong, Spec, Function, Shape, Formals}
use Rattle.job_parts.specs.Parts.{Asked, Parts}

infixl 10 ◌>>=◌
abbrev pub ◌>>=◌ : {A B : Type 0} → Result A Refusal → (A → Result B Refusal) → Result B Refusal
(Ok x) >>= f = f x
(Err e) >>= f = Err e

-- ---- the class and its method

abbrev pub classed : Result Contents ClassError → Result Contents Refusal
classed (Ok c) = Ok c
classed (Err e) = Err (Class e)

-- a class that was given, if it isn't too long
abbrev pub class_given : Option (List ℕ) → Result Contents Refusal
class_given None = Err ClassLong
class_given (Some bytes) = classed (class_of bytes)

abbrev pub with_id : Contents → Option ℕ → ℕ → Result (Contents × MethodId) Refusal
with_id c (Some k) count = Ok (c, record { 0 = k })
with_id c None count = Err (Method count)

abbrev pub one_method : Contents → ℕ → Option ℕ → Result (Contents × MethodId) Refusal
one_method c count first = if count == 1 then with_id c first count else Err (Method count)

-- the one static method with Code of the name and, where one is given, of the descriptor
abbrev pub method_in : Asked → Contents → Result (Contents × MethodId) Refusal
method_in w c = one_method c (count_by (answers_to w.method w.desc) c.methods) (position (answers_to w.method w.desc) c.methods)

unfoldable pub method_stage : Asked → Option (List ℕ) → Result (Contents × MethodId) Refusal
method_stage w given = do
  c ← class_given given
  method_in w c

-- ---- the specification and its function

abbrev pub programmed : Result Program SpecError → Result Program Refusal
programmed (Ok p) = Ok p
programmed (Err e) = Err (Spec e)

-- a specification that was given, if it isn't too long
abbrev pub program_given : Option (List ℕ) → Result Program Refusal
program_given None = Err SpecLong
program_given (Some bytes) = programmed (program_of bytes)

abbrev pub function_found : Option ℕ → Result FunId Refusal
function_found (Some k) = Ok (record { 0 = k })
function_found None = Err Function

abbrev pub function_in : Asked → Program → Result FunId Refusal
function_in w p = function_found (function_named p.functions w.function)

-- ---- the shape

-- the function has a formal for each parameter
abbrev pub with_formals : ℕ → ShapeParts → Result ShapeParts Refusal
with_formals formals shape = if formals == length shape.params then Ok shape else Err (Formals formals (length shape.params))

abbrev pub shape_found : ℕ → Result ShapeParts ShapeError → Result ShapeParts Refusal
shape_found formals (Ok shape) = with_formals formals shape
shape_found formals (Err e) = Err (Shape e)

abbrev pub formals_of : Option ProgramFunction → ℕ
formals_of None = 0
formals_of (Some f) = f.formals

abbrev pub shape_in : Asked → Contents → MethodId → ℕ → Result ShapeParts Refusal
shape_in w c m formals = shape_found formals (shape_end c m w.sizes w.out)

-- ---- all parts

abbrev pub made : Contents × MethodId → Program → FunId → ShapeParts → Parts
made cm p f s = record { class = cm.0; method = cm.1; program = p; function = f; shape = s }

unfoldable pub parts_stage : Asked → Contents × MethodId → Option (List ℕ) → Result Parts Refusal
parts_stage w cm given = do
  p ← program_given given
  f ← function_in w p
  s ← shape_in w cm.0 cm.1 (formals_of (slice_get p.functions f.0))
  Ok (made cm p f s)
