-- The text of a verdict. Each line ends with one line feed.
use Rattle.std.specs.Prelude.{ℕ, ◌+◌, List, [], ◌∷◌, ◌++◌, codes, take, drop, slice_index, Option, Some, None}
use Rattle.std.specs.Fmt.{decimal}
use Rattle.axe_io.specs.Shapes.{ShapeParts, width_of, leaf_count}
use Rattle.axe_io.specs.declared.parameters.Param.{Param}
use Rattle.axe_io.specs.declared.budgets.Budget.{Budget}
use Rattle.axe_io.specs.declared.budgets.Budget.TheVariants as budget
use Rattle.std.specs.String.{string_bytes}
use Rattle.axe_words.specs.declared.job.NumberWord.{NumberWord}
use Rattle.axe_words.specs.declared.job.NumberWord.TheVariants as option
use Rattle.axe_words.specs.declared.job.WordsError.{WordsError}
use Rattle.axe_words.specs.declared.job.WordsError.TheVariants as words_error
use Rattle.class_file.specs.Contents.{Contents}
use Rattle.class_file.specs.declared.class.Method.{Method}
use Rattle.class_file.specs.declared.class.MethodId.{MethodId}
use Rattle.class_file.specs.declared.error.ClassError.{ClassError}
use Rattle.class_file.specs.declared.error.ClassError.TheVariants as class
use Rattle.jvm_state.specs.declared.value.Throw.{Throw}
use Rattle.jvm_state.specs.declared.value.Throw.TheVariants as throw
use Rattle.jvm_state.specs.declared.value.Reason.{Reason}
use Rattle.jvm_state.specs.declared.value.Reason.TheVariants as reason
use Rattle.jvm_meaning.specs.Numbers.{Seen}
use Rattle.jvm_state.specs.declared.value.Seen.TheVariants as seen
use Rattle.jvm_meaning.specs.Numbers.{End}
use Rattle.jvm_state.specs.declared.value.End.TheVariants as run
use Rattle.jvm_run.specs.declared.descriptor.ShapeError.{ShapeError}
use Rattle.jvm_run.specs.declared.descriptor.ShapeError.TheVariants as shape
use Rattle.spec_form.specs.declared.error.SpecError.{SpecError}
use Rattle.spec_form.specs.declared.error.SpecError.TheVariants as spec
use Rattle.spec_meaning.specs.declared.value.Value.{Value}
use Rattle.spec_meaning.specs.declared.value.Value.TheVariants as value
use Rattle.spec_meaning.specs.declared.value.Why.{Why}
use Rattle.spec_meaning.specs.declared.value.Why.TheVariants as why
use Rattle.verdict_text.specs.declared.verdict.Refusal.{Refusal}
use Rattle.verdict_text.specs.declared.verdict.Refusal.TheVariants as refusal
use Rattle.verdict_text.specs.declared.verdict.Verdict.{Verdict}
use Rattle.verdict_text.specs.declared.verdict.Verdict.TheVariants as verdict
use Rattle.verdict_text.specs.Words.{joined, word, words, number, numbers, name, method}

-- ---- inputs

-- a scalar's leaf, or an array's leaves in brackets
abbrev pub param_value : Option ℕ → ℕ → List ℕ → List ℕ
param_value None width leaves = word width (slice_index leaves 0)
param_value (Some length) width leaves = words width leaves

abbrev pub input_line : ℕ → List ℕ → List ℕ
input_line at text = joined (codes "in " ∷ decimal at ∷ codes " = " ∷ text ∷ codes "\n" ∷ [])

-- a line for each parameter, from a number on
abbrev pub input_from : ℕ → List Param → List ℕ → List ℕ
input_from at [] leaves = []
input_from at (param ∷ params) leaves = input_line at (param_value param.len (width_of param.kind) (take (leaf_count param) leaves)) ++ input_from (at + 1) params (drop (leaf_count param) leaves)

abbrev pub params_of : Option ShapeParts → List Param
params_of None = []
params_of (Some shape) = shape.params

abbrev pub input_text : Option ShapeParts → List ℕ → List ℕ
input_text shape leaves = input_from 0 (params_of shape) leaves

-- ---- results

abbrev pub throw_name : Throw → List ℕ
throw_name throw.NullPointer = codes "java.lang.NullPointerException"
throw_name throw.ArrayIndex = codes "java.lang.ArrayIndexOutOfBoundsException"
throw_name throw.NegativeSize = codes "java.lang.NegativeArraySizeException"
throw_name throw.Arithmetic = codes "java.lang.ArithmeticException"

abbrev pub methods_of : Option Contents → List Method
methods_of None = []
methods_of (Some c) = c.methods

abbrev pub place : Option Contents → MethodId → ℕ → List ℕ
place c id pc = joined (method (methods_of c) id ∷ codes " at " ∷ decimal pc ∷ [])

abbrev pub seen_text : Seen → List ℕ
seen_text (seen.Word width n) = word width n
seen_text (seen.Items width ns) = words width ns
seen_text seen.Null = codes "null"

-- what the method gives; it returns or throws
abbrev pub end_text : Option Contents → End → List ℕ
end_text c (run.Returned seen) = joined (codes "method = " ∷ seen_text seen ∷ codes "\n" ∷ [])
end_text c (run.Threw kind id pc) = joined (codes "method threw " ∷ throw_name kind ∷ codes " in " ∷ place c id pc ∷ codes "\n" ∷ [])
end_text c end = []

abbrev pub value_text : ℕ → Value → List ℕ
value_text width (value.Number z) = number width z
value_text width value.T = codes "t"
value_text width (value.List zs) = numbers width zs

abbrev pub result_width : Option ShapeParts → ℕ
result_width None = 64
result_width (Some shape) = width_of shape.kind

-- ---- causes

abbrev pub reason_text : Reason → List ℕ
reason_text (reason.OutsideProfile op) = joined (codes "opcode " ∷ decimal op ∷ [])
reason_text reason.WrongOperand = codes "wrong operand"
reason_text reason.BadCode = codes "bad code"
reason_text reason.Handler = codes "handler"
reason_text reason.UnknownCallee = codes "unknown callee"
reason_text reason.UnknownField = codes "unknown field"
reason_text (reason.InitThrew kind) = joined (codes "initialiser threw " ∷ throw_name kind ∷ [])

abbrev pub why_text : Why → List ℕ
why_text why.NotANumber = codes "not a number"
why_text why.NotAList = codes "not a list"
why_text why.BadWidth = codes "bad width"
why_text why.BadPlace = codes "bad place"
why_text why.BadLength = codes "bad length"
why_text why.TooWide = codes "too wide"

abbrev pub class_text : ClassError → List ℕ
class_text (class.Truncated at) = joined (codes "truncated at " ∷ decimal at ∷ [])
class_text class.BadMagic = codes "bad magic"
class_text (class.BadVersion major) = joined (codes "bad version " ∷ decimal major ∷ [])
class_text (class.BadTag at tag) = joined (codes "bad tag " ∷ decimal tag ∷ codes " at " ∷ decimal at ∷ [])
class_text (class.BadIndex at index) = joined (codes "bad index " ∷ decimal index ∷ codes " at " ∷ decimal at ∷ [])
class_text (class.BadLength at) = joined (codes "bad length at " ∷ decimal at ∷ [])
class_text (class.Trailing at) = joined (codes "trailing bytes at " ∷ decimal at ∷ [])
class_text class.Memory = []

-- the option of a number
abbrev pub option_name : NumberWord → List ℕ
option_name option.Steps = codes "steps"
option_name option.Paths = codes "paths"
option_name option.Frames = codes "frames"
option_name option.Elements = codes "elements"
option_name option.Depth = codes "depth"
option_name option.Work = codes "work"
option_name option.Nodes = codes "nodes"
option_name option.Lines = codes "lines"
option_name option.Total = codes "total"
option_name option.Cases = codes "cases"
option_name option.Vectors = codes "vectors"
option_name option.Workers = codes "workers"
option_name option.Seed = codes "seed"

abbrev pub words_text : WordsError → List ℕ
words_text (words_error.Unknown w) = joined (codes "unknown command '" ∷ name (string_bytes w) ∷ codes "'" ∷ [])
words_text (words_error.Refused kind) = codes "not of this command's form"
words_text (words_error.BadNumber o) = joined (codes "bad value of --" ∷ option_name o ∷ [])
words_text (words_error.BadSizes at) = joined (codes "bad sizes at " ∷ decimal at ∷ [])
words_text words_error.BadOut = codes "bad out"
words_text words_error.Memory = []

abbrev pub spec_text : SpecError → List ℕ
spec_text (spec.BadToken at) = joined (codes "bad token at " ∷ decimal at ∷ [])
spec_text (spec.Unclosed at) = joined (codes "unclosed at " ∷ decimal at ∷ [])
spec_text (spec.BadForm at) = joined (codes "bad form at " ∷ decimal at ∷ [])
spec_text (spec.UnboundName at) = joined (codes "unbound name at " ∷ decimal at ∷ [])
spec_text (spec.Duplicate at) = joined (codes "duplicate at " ∷ decimal at ∷ [])
spec_text (spec.TooDeep at) = joined (codes "too deep at " ∷ decimal at ∷ [])
spec_text spec.Memory = []

abbrev pub shape_text : ShapeError → List ℕ
shape_text (shape.BadType at) = joined (codes "type at " ∷ decimal at ∷ [])
shape_text (shape.Sizes wanted given) = joined (codes "sizes wanted " ∷ decimal wanted ∷ codes " given " ∷ decimal given ∷ [])
shape_text shape.Out = codes "out"
shape_text shape.Memory = []

abbrev pub budget_name : Budget → List ℕ
budget_name budget.Steps = codes "steps"
budget_name budget.Paths = codes "paths"
budget_name budget.Frames = codes "frames"
budget_name budget.Elements = codes "elements"
budget_name budget.Depth = codes "depth"
budget_name budget.Work = codes "work"
budget_name budget.Nodes = codes "nodes"
budget_name budget.Variables = codes "variables"
budget_name budget.Settle = codes "settle"
budget_name budget.Lines = codes "lines"
budget_name budget.Total = codes "total"

-- an unknown of steps, frames, elements or depth prints its input; one of another budget prints none
abbrev pub shown_input : Option ShapeParts → Budget → List (List ℕ) → List ℕ
shown_input shape budget.Steps (input ∷ inputs) = input_text shape input
shown_input shape budget.Frames (input ∷ inputs) = input_text shape input
shown_input shape budget.Elements (input ∷ inputs) = input_text shape input
shown_input shape budget.Depth (input ∷ inputs) = input_text shape input
shown_input shape b inputs = []

-- ---- verdicts

abbrev pub refusal_text : Option ShapeParts → Option Contents → Refusal → List ℕ
refusal_text shape c (refusal.Words error) = joined (codes "refused: words: " ∷ words_text error ∷ codes "\n" ∷ [])
refusal_text shape c refusal.ClassLong = codes "refused: class: too long\n"
refusal_text shape c (refusal.Class error) = joined (codes "refused: class: " ∷ class_text error ∷ codes "\n" ∷ [])
refusal_text shape c (refusal.Method count) = joined (codes "refused: method: " ∷ decimal count ∷ codes " found\n" ∷ [])
refusal_text shape c refusal.SpecLong = codes "refused: spec: too long\n"
refusal_text shape c (refusal.Spec error) = joined (codes "refused: spec: " ∷ spec_text error ∷ codes "\n" ∷ [])
refusal_text shape c refusal.Function = codes "refused: function: not found\n"
refusal_text shape c (refusal.Shape error) = joined (codes "refused: shape: " ∷ shape_text error ∷ codes "\n" ∷ [])
refusal_text shape c (refusal.Formals formals parameters) = joined (codes "refused: shape: formals " ∷ decimal formals ∷ codes " parameters " ∷ decimal parameters ∷ codes "\n" ∷ [])
refusal_text shape c (refusal.Instruction reason id pc input) = joined (codes "refused: instruction: " ∷ reason_text reason ∷ codes " in " ∷ place c id pc ∷ codes "\n" ∷ input_text shape input ∷ [])
refusal_text shape c (refusal.Form why at input) = joined (codes "refused: form: " ∷ why_text why ∷ codes " at " ∷ decimal at ∷ codes "\n" ∷ input_text shape input ∷ [])

abbrev pub text_of : Option ShapeParts → Option Contents → Verdict → List ℕ
text_of shape c (verdict.Equal bits) = joined (codes "equal: " ∷ decimal bits ∷ codes " bits of input\n" ∷ [])
text_of shape c (verdict.Different input end spec) = joined (codes "different\n" ∷ input_text shape input ∷ end_text c end ∷ codes "spec = " ∷ value_text (result_width shape) spec ∷ codes "\n" ∷ [])
text_of shape c (verdict.Unknown spent) = joined (codes "unknown: " ∷ budget_name spent.budget ∷ codes " " ∷ decimal spent.limit ∷ codes "\n" ∷ shown_input shape spent.budget spent.inputs ∷ [])
text_of shape c (verdict.UnknownCases limit) = joined (codes "unknown: cases " ∷ decimal limit ∷ codes "\n" ∷ [])
text_of shape c (verdict.Refused refused) = refusal_text shape c refused
