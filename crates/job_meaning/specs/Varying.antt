-- When two inputs of a job vary: in the method, where an array that is made has another length, or in the specification.
use Rattle.std.specs.Prelude.{◌≡◌, ◌≢◌, ℕ, List, take, slice_get, Some}
use Rattle.class_file.specs.declared.class.MethodId.{MethodId}
use Rattle.jvm_meaning.specs.Traces.{Visit, marked_trace}
use Rattle.spec_meaning.specs.Arguments.{spec_arguments}
use Rattle.spec_meaning.specs.Varying.{VaryInSpecification}
use Rattle.job_meaning.specs.Jobs.{Job}

-- the steps of the method's run on an input, each with what it makes
abbrev pub marked : Job → List ℕ → List Visit
marked job input = marked_trace job.class job.method job.shape input job.steps job.frames job.elements

-- the runs on two inputs do the same up to a step at one place, where both make arrays, of different lengths
pub record VaryInMethod (job : Job) (input other : List ℕ) (method : MethodId) (pc : ℕ) : Type 0 where
  pub before : ℕ
  pub one : Visit
  pub two : Visit
  pub same : take before (marked job input) ≡ take before (marked job other)
  pub here : slice_get (marked job input) before ≡ Some one
  pub there : slice_get (marked job other) before ≡ Some two
  pub site : one.site ≡ two.site
  pub method_is : one.site.method ≡ method
  pub pc_is : one.site.pc ≡ pc
  pub array : ℕ
  pub length : ℕ
  pub another : ℕ
  pub makes : slice_get one.marks array ≡ Some length
  pub makes_too : slice_get two.marks array ≡ Some another
  pub differs : length ≢ another

-- the evaluations on two inputs vary at a form with this offset
abbrev pub VaryInFunction : Job → List ℕ → List ℕ → ℕ → Type 0
VaryInFunction job input other at = VaryInSpecification job.program job.function (spec_arguments job.shape.params input) (spec_arguments job.shape.params other) job.depth job.work at

-- two inputs that vary aren't one input
pub record VaryingInputsDiffer : Type 0 where
  pub method : (job : Job) (input other : List ℕ) (method : MethodId) (pc : ℕ) → VaryInMethod job input other method pc → input ≢ other
  pub function : (job : Job) (input other : List ℕ) (at : ℕ) → VaryInFunction job input other at → input ≢ other
