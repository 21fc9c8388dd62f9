-- What names mean, and the forms that expressions are.
use Rattle.std.specs.Prelude.{ℕ, ◌+◌, ◌-◌, ◌^◌, min, max, map, Bool, true, false, ◌==◌, if◌then◌else◌, List, [], ◌∷◌, ◌++◌, length, take, drop, Option, Some, None, Result, Ok, Err}
use Rattle.std.specs.Str.{bytes_eq}
use Rattle.std.specs.HashMap.{get_by}
use Rattle.spec_form.specs.declared.error.SpecError.{SpecError}
use Rattle.spec_form.specs.declared.error.SpecError.TheVariants.{BadForm, UnboundName, Duplicate}
use Rattle.spec_reader.specs.declared.expression.Literal.{Literal}
use Rattle.spec_reader.specs.declared.expression.Literal.TheVariants as literal
use Rattle.spec_reader.specs.declared.expression.Special.{Special}
use Rattle.spec_reader.specs.declared.expression.Special.TheVariants as special
use Rattle.spec_reader.specs.declared.expression.Expression.{Expression}
use Rattle.spec_reader.specs.declared.expression.Expression.TheOpen.{Expression-F}
use Rattle.spec_reader.specs.declared.expression.Expression.TheOpen as expression
use Rattle.spec_reader.specs.declared.expression.Expression.TheFolds.{fold-Expression}
use Rattle.spec_reader.specs.declared.expression.Definition.{Definition}
use Rattle.spec_form.specs.declared.form.Form.{Form, roll-Form}
use Rattle.spec_form.specs.declared.form.FormKind.{FormKind, roll-FormKind}
use Rattle.spec_form.specs.declared.form.FormKind.TheOpen.{FormKind-F}
use Rattle.spec_form.specs.declared.form.FormKind.TheOpen as kind
use Rattle.spec_reader.specs.declared.meaning.Meaning.{Meaning}
use Rattle.spec_reader.specs.declared.meaning.Names.{Names}
use Rattle.spec_reader.specs.Reading.{◌>>=◌}
use Rattle.spec_reader.specs.Names.{is_free, are_distinct}
use Rattle.spec_reader.specs.Nesting.{deepest}

-- ---- the names of a text

-- a name with a meaning
pub record Entry : Type 0 where
  pub name : List ℕ
  pub meaning : Meaning

-- Each definition in text order that may have its name, with its meaning: its number among all, its place among the
-- functions or among the constants, and of a function how many formals it has. So a name that no definition may have
-- means nothing, also where a text defines it.
abbrev pub entry : ℕ → ℕ → Option ℕ → Definition → Entry
entry number place formals d = record { name = d.name; meaning = record { number = number; place = place; formals = formals } }

abbrev pub if_free : Entry → List Entry → List Entry
if_free e es = if is_free e.name then e ∷ es else es

abbrev pub entries_by : (ℕ → ℕ → ℕ → List Entry) → ℕ → ℕ → ℕ → Definition → Option (List (List ℕ)) → List Entry
entries_by rest number functions constants d (Some formals) = if_free (entry number functions (Some (length formals)) d) (rest (number + 1) (functions + 1) constants)
entries_by rest number functions constants d None = if_free (entry number constants None d) (rest (number + 1) functions (constants + 1))

-- of definitions behind so many others, so many functions and so many constants
abbrev pub entries_from : List Definition → ℕ → ℕ → ℕ → List Entry
entries_from [] number functions constants = []
entries_from (d ∷ ds) number functions constants = entries_by (entries_from ds) number functions constants d d.formals

abbrev pub entries : List Definition → List Entry
entries ds = entries_from ds 0 0 0

-- what a name means: its first definition
abbrev pub meaning_of : List Entry → List ℕ → Option Meaning
meaning_of [] name = None
meaning_of (e ∷ es) name = if bytes_eq e.name name then Some e.meaning else meaning_of es name

-- what is known first, or else what follows
abbrev pub or_meaning : Option Meaning → Option Meaning → Option Meaning
or_meaning (Some m) later = Some m
or_meaning None later = later

-- what each name means
abbrev pub Meanings : Type 0
Meanings = List ℕ → Option Meaning

-- what a name means in a table
abbrev pub meaning_in : Names → Meanings
meaning_in names name = get_by (λ key. bytes_eq name key.now) names.meanings

-- the variables in scope: formals first, and then bound names from the outermost on
abbrev pub Scope : Type 0
Scope = List (List ℕ)

abbrev pub or_here : Bool → Option ℕ → Option ℕ
or_here here (Some k) = Some (k + 1)
or_here true None = Some 0
or_here false None = None

-- the place of a name's last binding
abbrev pub place : Scope → List ℕ → Option ℕ
place [] name = None
place (first ∷ names) name = or_here (bytes_eq first name) (place names name)

-- ---- forms

abbrev pub form : ℕ → FormKind-F FormKind Form → Form
form at k = roll-Form (record { at = at; kind = roll-FormKind k })

-- a text has no room for 2^32 things of one kind
abbrev pub count : ℕ → ℕ
count n = min n (2 ^ 32 - 1)

abbrev pub literal_form : ℕ → Literal → Form
literal_form at (literal.Number n) = form at (kind.Number n)
literal_form at literal.T = form at kind.T
literal_form at (literal.List ns) = form at (kind.Quoted ns)

abbrev pub special_kind : Special → List Form → FormKind-F FormKind Form
special_kind special.If parts = kind.If parts
special_kind special.Cond parts = kind.Cond parts
special_kind special.And parts = kind.And parts
special_kind special.Or parts = kind.Or parts

abbrev pub constant_with : ℕ → ℕ → Option ℕ → Result Form SpecError
constant_with at place None = Ok (form at (kind.Constant (record { 0 = place })))
constant_with at place (Some formals) = Err (UnboundName at)

abbrev pub constant_form : ℕ → Option Meaning → Result Form SpecError
constant_form at None = Err (UnboundName at)
constant_form at (Some m) = constant_with at m.place m.formals

-- a variable in scope hides a constant of its name
abbrev pub name_form : ℕ → Option ℕ → Option Meaning → Result Form SpecError
name_form at (Some k) meaning = Ok (form at (kind.Variable (count k)))
name_form at None meaning = constant_form at meaning

-- an expression among the names of the text and the variables in scope
abbrev pub Resolver : Type 0
Resolver = Meanings → Scope → Result Form SpecError

abbrev pub forms : List Resolver → Meanings → Scope → Result (List Form) SpecError
forms [] names scope = Ok []
forms (r ∷ rs) names scope = r names scope >>= λ f. forms rs names scope >>= λ fs. Ok (f ∷ fs)

abbrev pub with_kind : ℕ → (List Form → FormKind-F FormKind Form) → Result (List Form) SpecError → Result Form SpecError
with_kind at make read = read >>= λ parts. Ok (form at (make parts))

-- values in the scope of the `let`, and the body in that of its names too
abbrev pub let_parts : List (List ℕ) → List Resolver → Resolver → Meanings → Scope → Result (List Form) SpecError
let_parts bound values body names scope = forms values names scope >>= λ vs. body names (scope ++ bound) >>= λ b. Ok (vs ++ b ∷ [])

-- the names of a `let` are distinct
abbrev pub let_form : ℕ → List (List ℕ) → List Resolver → Resolver → Meanings → Scope → Result Form SpecError
let_form at bound values body names scope = if are_distinct bound then with_kind at kind.Let (let_parts bound values body names scope) else Err (Duplicate at)

-- each value in the scope of the names before it
abbrev pub star_parts : List (List ℕ) → List Resolver → Resolver → Meanings → Scope → Result (List Form) SpecError
star_parts bound [] body names scope = body names (scope ++ bound) >>= λ b. Ok (b ∷ [])
star_parts bound (v ∷ vs) body names scope = v names scope >>= λ f. star_parts (drop 1 bound) vs body names (scope ++ take 1 bound) >>= λ fs. Ok (f ∷ fs)

abbrev pub call_with : ℕ → ℕ → Option ℕ → ℕ → Result (List Form) SpecError → Result Form SpecError
call_with at place None given read = Err (UnboundName at)
call_with at place (Some formals) given read = if formals == given then with_kind at (kind.Call (record { 0 = place })) read else Err (BadForm at)

-- a call of a function of the text has as many arguments as that has formals
abbrev pub call_form : ℕ → Option Meaning → ℕ → Result (List Form) SpecError → Result Form SpecError
call_form at None given read = Err (UnboundName at)
call_form at (Some m) given read = call_with at m.place m.formals given read

abbrev pub resolve_step : Expression-F Resolver → Resolver
resolve_step (expression.Literal at l) = λ names scope. Ok (literal_form at l)
resolve_step (expression.Name at w) = λ names scope. name_form at (place scope w) (names w)
resolve_step (expression.Special at s parts) = λ names scope. with_kind at (special_kind s) (forms parts names scope)
resolve_step (expression.Let at bound values body) = let_form at bound values body
resolve_step (expression.LetStar at bound values body) = λ names scope. with_kind at kind.LetStar (star_parts bound values body names scope)
resolve_step (expression.Builtin at b parts) = λ names scope. with_kind at (kind.Builtin b) (forms parts names scope)
resolve_step (expression.Call at w parts) = λ names scope. call_form at (names w) (length parts) (forms parts names scope)

-- the form that an expression is, or the first fault of its names
abbrev pub resolve : Expression → Resolver
resolve = fold-Expression Resolver resolve_step

-- ---- how deep expressions are

abbrev pub depth_step : Expression-F ℕ → ℕ
depth_step (expression.Literal at l) = 0
depth_step (expression.Name at w) = 0
depth_step (expression.Special at s parts) = 1 + deepest parts
depth_step (expression.Let at bound values body) = 1 + max (deepest values) body
depth_step (expression.LetStar at bound values body) = 1 + max (deepest values) body
depth_step (expression.Builtin at b parts) = 1 + deepest parts
depth_step (expression.Call at w parts) = 1 + deepest parts

-- how many expressions lie in one another
abbrev pub depth : Expression → ℕ
depth = fold-Expression ℕ depth_step

abbrev pub depth_of_all : List Expression → ℕ
depth_of_all es = deepest (map depth es)
