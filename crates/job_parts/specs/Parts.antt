-- What a job is made of.
use Rattle.std.specs.Prelude.{◌≡◌, ◌≤◌, ℕ, List, Option, option_map, Result, Ok, Err}
use Rattle.std.specs.String.{string_bytes}
use Rattle.axe_io.specs.Shapes.{ShapeParts}
use Rattle.axe_io.specs.declared.parameters.OutPlace.{OutPlace}
use Rattle.axe_io.specs.declared.budgets.Budgets.{Budgets}
use Rattle.axe_words.specs.declared.job.Job.{Job}
use Rattle.axe_words.specs.declared.job.Job.TheVariants.{Prove}
use Rattle.class_file.specs.Contents.{Contents}
use Rattle.class_file.specs.declared.class.MethodId.{MethodId}
use Rattle.spec_form.specs.declared.program.Program.{Program}
use Rattle.spec_form.specs.declared.program.FunId.{FunId}
use Rattle.jvm_run.specs.Descriptors.{total}
use Rattle.job_meaning.specs.Jobs.{Job as Pair}
use Rattle.verdict_text.specs.declared.verdict.Refusal.{Refusal}
use Rattle.job_parts.specs.declared.parts.Parts as code
use Rattle.job_parts.specs.declared.parts.Asked as code_asked
use Rattle.job_parts.specs.declared.parts.Stop.{Stop}
use Rattle.job_parts.specs.declared.parts.Stop.TheVariants.{Refused, ReadFault, Memory}

-- what a job names
pub record Asked : Type 0 where
  pub class : List ℕ
  pub method : List ℕ
  pub spec : List ℕ
  pub function : List ℕ
  pub desc : Option (List ℕ)
  pub sizes : List ℕ
  pub out : OutPlace
  pub budgets : Budgets

abbrev pub asked_of : Job → Asked
asked_of (Prove class method spec function desc sizes out budgets) = record { class = string_bytes class; method = string_bytes method; spec = string_bytes spec; function = string_bytes function; desc = option_map string_bytes desc; sizes = sizes.items; out = out; budgets = budgets }

abbrev pub meant : code_asked.Asked → Asked
meant w = record { class = w.class.now; method = w.method.now; spec = w.spec.now; function = w.function.now; desc = option_map (λ d. d.now) w.desc; sizes = w.sizes.now; out = w.out; budgets = w.budgets.now }

-- what was found: a method of a class and a function of a program, and the shape of their inputs
pub record Parts : Type 0 where
  pub class : Contents
  pub method : MethodId
  pub program : Program
  pub function : FunId
  pub shape : ShapeParts

abbrev pub parts : code.Parts → Parts
parts p = record { class = p.class; method = p.method; program = p.program; function = p.function; shape = p.shape }

-- the pair of these parts within the limits of a job
abbrev pub pair_of : Budgets → Parts → Pair
pair_of b p = record { class = p.class; method = p.method; program = p.program; function = p.function; shape = p.shape; steps = b.steps; frames = b.frames; elements = b.elements; depth = b.depth; work = b.work }

-- a stage's stop is the refusal that the stage gives, unless memory ran out
abbrev pub Fails : {Y : Type 0} → Stop → Result Y Refusal → Type 0
Fails (Refused refusal) stage = stage ≡ Err refusal
Fails ReadFault stage = ⊥
Fails Memory stage = Unit {0}

-- what a stage answered, seen by a view
abbrev pub Gives : {X Y : Type 0} → (X → Y) → Result X Stop → Result Y Refusal → Type 0
Gives view (Ok x) stage = stage ≡ Ok (view x)
Gives view (Err stop) stage = Fails stop stage

-- the sizes have a sum of at most 16,384
abbrev pub HasFewSizes : Asked → Type 0
HasFewSizes w = total w.sizes ≤ 16384
