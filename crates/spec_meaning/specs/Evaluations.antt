-- The evaluation of a form.
use Rattle.std.specs.Prelude.{ℕ, zero, suc, Bool, true, false, if◌then◌else◌, option_map, List, [], ◌∷◌, ◌++◌, slice_get, Option, Some, None, Result, Ok, Err}
use Rattle.spec_form.specs.declared.builtin.Builtin.{Builtin}
use Rattle.spec_form.specs.declared.form.Form.{Form, out-Form}
use Rattle.spec_form.specs.declared.form.FormKind.{FormKind, out-FormKind}
use Rattle.spec_form.specs.declared.form.FormKind.TheOpen.{FormKind-F}
use Rattle.spec_form.specs.declared.form.FormKind.TheOpen as kind
use Rattle.spec_form.specs.declared.program.Program.{Program}
use Rattle.spec_form.specs.declared.program.Function.{Function}
use Rattle.spec_form.specs.declared.program.NamedConstant.{NamedConstant}
use Rattle.spec_form.specs.declared.program.FunId.{FunId}
use Rattle.spec_meaning.specs.declared.value.Value.{Value}
use Rattle.spec_meaning.specs.declared.value.Value.TheVariants.{Number, T, List as Numbers}
use Rattle.spec_meaning.specs.declared.value.Why.{Why}
use Rattle.spec_meaning.specs.declared.value.SpecEnd.{SpecEnd}
use Rattle.spec_meaning.specs.declared.value.SpecEnd.TheVariants as ends
use Rattle.spec_meaning.specs.declared.stop.Stop.{Stop}
use Rattle.spec_meaning.specs.declared.stop.Stop.TheVariants as stop
use Rattle.spec_meaning.specs.Checks.{is_nil}
use Rattle.spec_meaning.specs.Table.{applied}
use Rattle.spec_meaning.specs.Work.{Work, ◌>>=◌, gives, stops, visit, valued, malformed}

-- the values of parts from left to right, after these values
abbrev pub eval_parts : (Form → Work Value) → List Value → List Form → Work (List Value)
eval_parts step values [] = gives values
eval_parts step values (part ∷ parts) = step part >>= λ v. eval_parts step (values ++ v ∷ []) parts

-- a variable's value; each variable has one
abbrev pub variable : ℕ → Option Value → Work Value
variable at (Some value) = gives value
variable at None = malformed at

-- a constant's expression, which has no variables
abbrev pub eval_constant : (List Value → Form → Work Value) → ℕ → Option NamedConstant → Work Value
eval_constant step at (Some c) = step [] c.value
eval_constant step at None = malformed at

-- only nil is false
abbrev pub eval_if : (Form → Work Value) → ℕ → List Form → Work Value
eval_if step at (test ∷ one ∷ other ∷ []) = step test >>= λ v. step (if is_nil v then other else one)
eval_if step at parts = malformed at

-- the parts before the last one, and the last one
abbrev pub last_apart : List Form → Option (List Form × Form)
last_apart [] = None
last_apart (part ∷ []) = Some ([], part)
last_apart (part ∷ next ∷ parts) = option_map (λ p. (part ∷ p.0, p.1)) (last_apart (next ∷ parts))

-- all bindings are evaluated before any name is bound
abbrev pub eval_let : (List Value → Form → Work Value) → List Value → ℕ → Option (List Form × Form) → Work Value
eval_let step variables at (Some (bindings, body)) = eval_parts (step variables) [] bindings >>= λ values. step (variables ++ values) body
eval_let step variables at None = malformed at

-- each binding is evaluated where the names before it are bound
abbrev pub bind_each : (List Value → Form → Work Value) → List Value → List Form → Form → Work Value
bind_each step variables [] body = step variables body
bind_each step variables (binding ∷ bindings) body = step variables binding >>= λ v. bind_each step (variables ++ v ∷ []) bindings body

abbrev pub eval_let_star : (List Value → Form → Work Value) → List Value → ℕ → Option (List Form × Form) → Work Value
eval_let_star step variables at (Some (bindings, body)) = bind_each step variables bindings body
eval_let_star step variables at None = malformed at

-- the expression of the first clause whose test isn't nil; nil where there is none
abbrev pub eval_cond : (Form → Work Value) → ℕ → List Form → Work Value
eval_cond step at [] = gives (Numbers [])
eval_cond step at (test ∷ []) = malformed at
eval_cond step at (test ∷ value ∷ clauses) = step test >>= λ v. if is_nil v then eval_cond step at clauses else step value

-- the last value, or the first that is nil; value is the one before
abbrev pub eval_and : (Form → Work Value) → Value → List Form → Work Value
eval_and step value [] = gives value
eval_and step value (part ∷ parts) = step part >>= λ v. if is_nil v then gives v else eval_and step v parts

-- the first value that isn't nil
abbrev pub eval_or : (Form → Work Value) → List Form → Work Value
eval_or step [] = gives (Numbers [])
eval_or step (part ∷ parts) = step part >>= λ v. if is_nil v then eval_or step parts else gives v

-- a function's body, where its formals have these values
abbrev pub eval_body : (List Value → Form → Work Value) → ℕ → Option Function → List Value → Work Value
eval_body step at (Some f) args = step args f.body
eval_body step at None args = malformed at

-- the table, which the walk over forms doesn't look into
unfoldable pub call_value : Builtin → List Value → Result Value Why
call_value builtin values = applied builtin values

-- a call of the language: all arguments are evaluated before any is checked
abbrev pub eval_builtin : (Form → Work Value) → ℕ → Builtin → List Form → Work Value
eval_builtin step at builtin parts = eval_parts step [] parts >>= λ values. valued at (call_value builtin values)

-- a call of the program
abbrev pub eval_call : Program → (List Value → Form → Work Value) → List Value → ℕ → FunId → List Form → Work Value
eval_call p step variables at f parts = eval_parts (step variables) [] parts >>= λ args. eval_body step at (slice_get p.functions f.0) args

-- what a form is evaluated to, where step evaluates its parts and the body that it calls
abbrev pub eval_kind : Program → (List Value → Form → Work Value) → List Value → ℕ → FormKind-F FormKind Form → Work Value
eval_kind p step variables at (kind.Number n) = gives (Number n)
eval_kind p step variables at kind.T = gives T
eval_kind p step variables at (kind.Quoted zs) = gives (Numbers zs)
eval_kind p step variables at (kind.Variable place) = variable at (slice_get variables place)
eval_kind p step variables at (kind.Constant c) = eval_constant step at (slice_get p.constants c.0)
eval_kind p step variables at (kind.If parts) = eval_if (step variables) at parts
eval_kind p step variables at (kind.Let parts) = eval_let step variables at (last_apart parts)
eval_kind p step variables at (kind.LetStar parts) = eval_let_star step variables at (last_apart parts)
eval_kind p step variables at (kind.Cond parts) = eval_cond (step variables) at parts
eval_kind p step variables at (kind.And parts) = eval_and (step variables) T parts
eval_kind p step variables at (kind.Or parts) = eval_or (step variables) parts
eval_kind p step variables at (kind.Builtin b parts) = eval_builtin (step variables) at b parts
eval_kind p step variables at (kind.Call f parts) = eval_call p step variables at f parts

abbrev pub are_some : List Form → Bool
are_some [] = false
are_some (part ∷ parts) = true

-- a form is open while its parts, or the body that it calls, are evaluated; these have neither
abbrev pub opens : FormKind-F FormKind Form → Bool
opens (kind.Number n) = false
opens kind.T = false
opens (kind.Quoted zs) = false
opens (kind.Variable place) = false
opens (kind.Constant c) = true
opens (kind.If parts) = true
opens (kind.Let parts) = true
opens (kind.LetStar parts) = true
opens (kind.Cond parts) = are_some parts
opens (kind.And parts) = are_some parts
opens (kind.Or parts) = are_some parts
opens (kind.Builtin b parts) = true
opens (kind.Call f parts) = true

-- a form that would be open where none may be
abbrev pub is_too_deep : ℕ → FormKind-F FormKind Form → Bool
is_too_deep zero kind = opens kind
is_too_deep (suc depth) kind = false

-- where no form may be open
abbrev pub too_deep : List Value → Form → Work Value
too_deep variables part = stops stop.MoreDepth

abbrev pub kind_of : Form → FormKind-F FormKind Form
kind_of form = out-FormKind (out-Form form).kind

-- the evaluation of a form, where so many forms may be open
unfoldable pub eval_form : Program → ℕ → List Value → Form → Work Value
eval_form p zero variables form left = if is_too_deep 0 (kind_of form) then Err stop.MoreDepth else visit (eval_kind p too_deep variables (out-Form form).at (kind_of form)) left
eval_form p (suc depth) variables form left = visit (eval_kind p (eval_form p depth) variables (out-Form form).at (kind_of form)) left

abbrev pub stop_end : Stop → SpecEnd
stop_end (stop.Outside at why) = ends.Outside at why
stop_end stop.MoreDepth = ends.MoreDepth
stop_end stop.MoreWork = ends.MoreWork

abbrev pub end_of : Result (Value × ℕ) Stop → SpecEnd
end_of (Ok (value, left)) = ends.Value value
end_of (Err stop) = stop_end stop

-- the end of a function's evaluation, where so many forms may be open at once and so many visited
abbrev pub eval_end : Program → FunId → List Value → ℕ → ℕ → SpecEnd
eval_end p f args depth work = end_of (eval_body (eval_form p depth) 0 (slice_get p.functions f.0) args work)
