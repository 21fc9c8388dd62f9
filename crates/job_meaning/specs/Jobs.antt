-- Jobs, and when a method and a function agree.
use Rattle.std.specs.Prelude.{◌≡◌, ℕ, ℤ, pos, Bool, true, false, ◌&&◌, List, [], ◌∷◌}
use Rattle.std.specs.Ordering.{int_eq}
use Rattle.axe_io.specs.Shapes.{ShapeParts, leaf_widths}
use Rattle.class_file.specs.Contents.{Contents}
use Rattle.class_file.specs.declared.class.MethodId.{MethodId}
use Rattle.spec_form.specs.declared.program.Program.{Program}
use Rattle.spec_form.specs.declared.program.FunId.{FunId}
use Rattle.spec_meaning.specs.declared.value.Value.{Value}
use Rattle.spec_meaning.specs.declared.value.Value.TheVariants.{Number, List as Numbers}
use Rattle.spec_meaning.specs.declared.value.SpecEnd.{SpecEnd}
use Rattle.spec_meaning.specs.declared.value.SpecEnd.TheVariants as evaluation
use Rattle.spec_meaning.specs.Evaluations.{eval_end}
use Rattle.spec_meaning.specs.Arguments.{spec_arguments}
use Rattle.jvm_meaning.specs.Numbers.{Seen}
use Rattle.jvm_state.specs.declared.value.Seen.TheVariants as observed
use Rattle.jvm_meaning.specs.Numbers.{End}
use Rattle.jvm_state.specs.declared.value.End.TheVariants as run
use Rattle.jvm_meaning.specs.Runs.{run_end}

-- a method and a function, the shape of their inputs, and the limits
pub record Job : Type 0 where
  pub class : Contents
  pub method : MethodId
  pub program : Program
  pub function : FunId
  pub shape : ShapeParts
  pub steps : ℕ
  pub frames : ℕ
  pub elements : ℕ
  pub depth : ℕ
  pub work : ℕ

abbrev pub widths_of : Job → List ℕ
widths_of job = leaf_widths job.shape.params

-- the end of the method's run on an input
abbrev pub method_end : Job → List ℕ → End
method_end job input = run_end job.class job.method job.shape input job.steps job.frames job.elements

-- the end of the function's evaluation on an input
abbrev pub spec_end : Job → List ℕ → SpecEnd
spec_end job input = eval_end job.program job.function (spec_arguments job.shape.params input) job.depth job.work

abbrev pub are_numbers : List ℕ → List ℤ → Bool
are_numbers [] [] = true
are_numbers (n ∷ ns) (z ∷ zs) = int_eq z (pos n) && are_numbers ns zs
are_numbers [] (z ∷ zs) = false
are_numbers (n ∷ ns) [] = false

-- what was observed is the specification's value
abbrev pub is_same : Seen → Value → Bool
is_same (observed.Word width n) (Number z) = int_eq z (pos n)
is_same (observed.Items width ns) (Numbers zs) = are_numbers ns zs
is_same _ _ = false

-- the run returns, not with null, the evaluation gives a value, and what was observed is that value
pub record Agrees (job : Job) (input : List ℕ) : Type 0 where
  pub seen : Seen
  pub value : Value
  pub returns : method_end job input ≡ run.Returned seen
  pub gives : spec_end job input ≡ evaluation.Value value
  pub same : is_same seen value ≡ true
