-- The expressions and definitions that data spell, before their names are looked up.
use Rattle.std.specs.Prelude.{ℕ, ℤ, Bool, true, false, ◌&&◌, ◌||◌, ◌==◌, if◌then◌else◌, List, [], ◌∷◌, ◌++◌, length, codes, Option, Some, None, is_some, option_map, map, Result, Ok, Err}
use Rattle.std.specs.Option.{option_and_then}
use Rattle.std.specs.List.{list_all}
use Rattle.std.specs.Str.{bytes_eq}
use Rattle.spec_form.specs.declared.error.SpecError.{SpecError}
use Rattle.spec_form.specs.declared.error.SpecError.TheVariants.{BadForm}
use Rattle.spec_reader.specs.declared.calls.Call.{Call}
use Rattle.spec_reader.specs.declared.datum.Datum.{Datum}
use Rattle.spec_reader.specs.declared.datum.Datum.TheOpen.{Datum-F}
use Rattle.spec_reader.specs.declared.datum.Datum.TheOpen as layer
use Rattle.spec_reader.specs.declared.datum.Datum.TheFolds.{fold-Datum}
use Rattle.spec_reader.specs.declared.expression.Literal.{Literal}
use Rattle.spec_reader.specs.declared.expression.Literal.TheVariants as literal
use Rattle.spec_reader.specs.declared.expression.Special.{Special}
use Rattle.spec_reader.specs.declared.expression.Special.TheVariants as special
use Rattle.spec_reader.specs.declared.expression.Expression.{Expression}
use Rattle.spec_reader.specs.declared.expression.Expression.TheOpen as expression
use Rattle.spec_reader.specs.declared.expression.Expression.TheViews.{roll-Expression}
use Rattle.spec_reader.specs.declared.expression.Definition.{Definition}
use Rattle.spec_reader.specs.declared.keyword.Keyword.{Keyword}
use Rattle.spec_reader.specs.declared.keyword.Keyword.TheVariants as keyword
use Rattle.spec_reader.specs.Reading.{◌>>=◌}
use Rattle.spec_reader.specs.Calls.{call_named, takes}
use Rattle.spec_reader.specs.Names.{is_t, is_nil, is_variable, are_variables, is_skipped, is_defun, is_defconst, is_declare, is_constant}

-- a name and the value that it is bound to
pub record Binding : Type 0 where
  pub name : List ℕ
  pub value : Result Expression SpecError

-- a test and the value where it holds
pub record Clause : Type 0 where
  pub test : Result Expression SpecError
  pub value : Result Expression SpecError

-- what a datum says, read as each thing that may stand at its place
pub record Reading : Type 0 where
  -- a symbol
  pub name : Option (List ℕ)
  -- a number
  pub number : Option ℤ
  -- the offset of a string
  pub text : Option ℕ
  -- `(declare ..)`
  pub is_declaration : Bool
  -- a list of symbols
  pub names : Option (List (List ℕ))
  -- what a quote of it means: a number, `t`, `nil` or a list of numbers
  pub literal : Option Literal
  -- `(name value)`
  pub binding : Option Binding
  -- a list, of which each part may be a binding
  pub bindings : Option (List (Option Binding))
  -- `(test value)`
  pub clause : Option Clause
  pub expression : Result Expression SpecError
  -- what it defines at the top level, if anything
  pub definition : Result (List Definition) SpecError

-- ---- parts of a list

-- all of them, where each is there
abbrev pub all_of : {A : Type 0} → List (Option A) → Option (List A)
all_of [] = Some []
all_of (None ∷ others) = None
all_of (Some x ∷ others) = option_map (λ xs. x ∷ xs) (all_of others)

-- the only one
abbrev pub only_of : {A : Type 0} → List A → Option A
only_of [] = None
only_of (x ∷ []) = Some x
only_of (x ∷ (y ∷ more)) = None

-- the only two
abbrev pub pair_of : {A : Type 0} → List A → Option (A × A)
pair_of [] = None
pair_of (x ∷ []) = None
pair_of (x ∷ (y ∷ [])) = Some (x, y)
pair_of (x ∷ (y ∷ (z ∷ more))) = None

abbrev pub with_first : {A : Type 0} → A → Option (List A × A) → Option (List A × A)
with_first x None = Some ([], x)
with_first x (Some parts) = Some (x ∷ parts.0, parts.1)

-- the last, and what stands before it
abbrev pub split_last : {A : Type 0} → List A → Option (List A × A)
split_last [] = None
split_last (x ∷ xs) = with_first x (split_last xs)

-- the expressions of data, one after another
abbrev pub expressions : List Reading → Result (List Expression) SpecError
expressions [] = Ok []
expressions (r ∷ rs) = r.expression >>= λ e. expressions rs >>= λ es. Ok (e ∷ es)

-- ---- literals and names

abbrev pub word_literal : List ℕ → Option Literal
word_literal w = if is_t w then Some literal.T else if is_nil w then Some (literal.List []) else None

abbrev pub literal_at : ℕ → Literal → Expression
literal_at at l = roll-Expression (expression.Literal at l)

abbrev pub name_at : ℕ → List ℕ → Expression
name_at at w = roll-Expression (expression.Name at w)

-- `t` and `nil` are values, and other symbols are names
abbrev pub word_expression : ℕ → List ℕ → Option Literal → Expression
word_expression at w None = name_at at w
word_expression at w (Some l) = literal_at at l

abbrev pub quote_of : ℕ → Option Literal → Result Expression SpecError
quote_of at None = Err (BadForm at)
quote_of at (Some l) = Ok (literal_at at l)

-- a quote has one part
abbrev pub quote_form : ℕ → List Reading → Result Expression SpecError
quote_form at parts = quote_of at (option_and_then (λ r. r.literal) (only_of parts))

-- one apostrophe quotes; what several quote is no literal
abbrev pub apostrophe_form : ℕ → List ℕ → List Reading → Result Expression SpecError
apostrophe_form at [] parts = quote_form at parts
apostrophe_form at (m ∷ more) parts = Err (BadForm at)

-- ---- special forms

abbrev pub special_at : ℕ → Special → Result (List Expression) SpecError → Result Expression SpecError
special_at at s read = read >>= λ parts. Ok (roll-Expression (expression.Special at s parts))

abbrev pub if_form : ℕ → List Reading → Result Expression SpecError
if_form at parts = if length parts == 3 then special_at at special.If (expressions parts) else Err (BadForm at)

abbrev pub clause_of : Option (Reading × Reading) → Option Clause
clause_of parts = option_map (λ p. record { test = p.0.expression; value = p.1.expression }) parts

abbrev pub clause_then : ℕ → Option Clause → Result (List Expression) SpecError → Result (List Expression) SpecError
clause_then at None rest = Err (BadForm at)
clause_then at (Some c) rest = c.test >>= λ test. c.value >>= λ value. rest >>= λ more. Ok (test ∷ (value ∷ more))

-- of each clause the test and then the value
abbrev pub clauses : ℕ → List Reading → Result (List Expression) SpecError
clauses at [] = Ok []
clauses at (r ∷ rs) = clause_then at r.clause (clauses at rs)

abbrev pub are_clauses : List Reading → Bool
are_clauses parts = list_all (λ r. is_some r.clause) parts

abbrev pub cond_form : ℕ → List Reading → Result Expression SpecError
cond_form at parts = if are_clauses parts then special_at at special.Cond (clauses at parts) else Err (BadForm at)

-- ---- bodies, behind strings and declarations

-- what may stand before a body
abbrev pub is_preamble : Reading → Bool
is_preamble r = r.is_declaration || is_some r.text

abbrev pub are_preamble : List Reading → Bool
are_preamble parts = list_all is_preamble parts

abbrev pub or_later : Option ℕ → Option ℕ → Option ℕ
or_later None later = later
or_later (Some at) later = Some at

-- the first string
abbrev pub first_text : List Reading → Option ℕ
first_text [] = None
first_text (r ∷ rs) = or_later r.text (first_text rs)

-- a body, where no string that may not be there stands before it
abbrev pub body_behind : Option ℕ → Reading → Result Expression SpecError
body_behind None body = body.expression
body_behind (Some at) body = Err (BadForm at)

-- ---- let

abbrev pub bound : Option (List ℕ) → Result Expression SpecError → Option Binding
bound None value = None
bound (Some name) value = if is_variable name then Some (record { name = name; value = value }) else None

abbrev pub binding_of : Option (Reading × Reading) → Option Binding
binding_of parts = option_and_then (λ p. bound p.0.name p.1.expression) parts

abbrev pub bound_names : List (Option Binding) → Option (List (List ℕ))
bound_names bindings = all_of (map (λ b. option_map (λ x. x.name) b) bindings)

abbrev pub value_then : ℕ → Option Binding → Result (List Expression) SpecError → Result (List Expression) SpecError
value_then at None rest = Err (BadForm at)
value_then at (Some b) rest = b.value >>= λ value. rest >>= λ more. Ok (value ∷ more)

abbrev pub bound_values : ℕ → List (Option Binding) → Result (List Expression) SpecError
bound_values at [] = Ok []
bound_values at (b ∷ bs) = value_then at b (bound_values at bs)

abbrev pub let_at : Bool → ℕ → List (List ℕ) → List Expression → Expression → Expression
let_at false at names values body = roll-Expression (expression.Let at names values body)
let_at true at names values body = roll-Expression (expression.LetStar at names values body)

-- `let`, or where it is told so `let*`, of bindings whose names are read
abbrev pub let_named : Bool → ℕ → Option (List (List ℕ)) → List (Option Binding) → List Reading → Reading → Result Expression SpecError
let_named star at None bindings preamble body = Err (BadForm at)
let_named star at (Some names) bindings preamble body =
    if are_preamble preamble then (bound_values at bindings >>= λ values. body_behind (first_text preamble) body >>= λ b. Ok (let_at star at names values b))
    else Err (BadForm at)

abbrev pub let_parts : Bool → ℕ → Option (List (Option Binding)) → Option (List Reading × Reading) → Result Expression SpecError
let_parts star at None parts = Err (BadForm at)
let_parts star at (Some bindings) None = Err (BadForm at)
let_parts star at (Some bindings) (Some parts) = let_named star at (bound_names bindings) bindings parts.0 parts.1

abbrev pub let_form : Bool → ℕ → List Reading → Result Expression SpecError
let_form star at [] = Err (BadForm at)
let_form star at (bindings ∷ rest) = let_parts star at bindings.bindings (split_last rest)

-- ---- calls

abbrev pub built : ℕ → Call → Result (List Expression) SpecError → Result Expression SpecError
built at call read = read >>= λ parts. Ok (roll-Expression (expression.Builtin at call.builtin parts))

abbrev pub called : ℕ → List ℕ → Result (List Expression) SpecError → Result Expression SpecError
called at name read = read >>= λ parts. Ok (roll-Expression (expression.Call at name parts))

-- a call of a function of the language has as many arguments as that takes
abbrev pub call_form : ℕ → List ℕ → Option Call → List Reading → Result Expression SpecError
call_form at name None parts = called at name (expressions parts)
call_form at name (Some call) parts = if takes call (length parts) then built at call (expressions parts) else Err (BadForm at)

abbrev pub keyword_named : List ℕ → Option Keyword
keyword_named name =
    if bytes_eq name (codes "quote") then Some keyword.Quote
    else if bytes_eq name (codes "if") then Some keyword.If
    else if bytes_eq name (codes "cond") then Some keyword.Cond
    else if bytes_eq name (codes "and") then Some keyword.And
    else if bytes_eq name (codes "or") then Some keyword.Or
    else if bytes_eq name (codes "let") then Some keyword.Let
    else if bytes_eq name (codes "let*") then Some keyword.LetStar
    else None

abbrev pub keyword_form : ℕ → Keyword → List Reading → Result Expression SpecError
keyword_form at keyword.Quote parts = quote_form at parts
keyword_form at keyword.If parts = if_form at parts
keyword_form at keyword.Cond parts = cond_form at parts
keyword_form at keyword.And parts = special_at at special.And (expressions parts)
keyword_form at keyword.Or parts = special_at at special.Or (expressions parts)
keyword_form at keyword.Let parts = let_form false at parts
keyword_form at keyword.LetStar parts = let_form true at parts

abbrev pub special_or_call : ℕ → List ℕ → Option Keyword → List Reading → Result Expression SpecError
special_or_call at name (Some k) parts = keyword_form at k parts
special_or_call at name None parts = call_form at name (call_named name) parts

abbrev pub operator_form : ℕ → Option (List ℕ) → List Reading → Result Expression SpecError
operator_form at None parts = Err (BadForm at)
operator_form at (Some name) parts = special_or_call at name (keyword_named name) parts

-- a list is a form by the symbol that it begins with
abbrev pub list_form : ℕ → List Reading → Result Expression SpecError
list_form at [] = Err (BadForm at)
list_form at (operator ∷ parts) = operator_form at operator.name parts

-- ---- definitions

-- the strings that may not stand before a function's body: all but one that comes first
abbrev pub behind_text : List Reading → List Reading
behind_text [] = []
behind_text (r ∷ rs) = if is_some r.text then rs else r ∷ rs

abbrev pub defines : ℕ → List ℕ → Option (List (List ℕ)) → Result Expression SpecError → Result (List Definition) SpecError
defines at name formals read = read >>= λ body. Ok (record { at = at; name = name; formals = formals; body = body } ∷ [])

abbrev pub function_named : ℕ → List ℕ → List (List ℕ) → List Reading → Reading → Result (List Definition) SpecError
function_named at name formals preamble body =
    if are_variables formals && are_preamble preamble then defines at name (Some formals) (body_behind (first_text (behind_text preamble)) body)
    else Err (BadForm at)

abbrev pub function_parts : ℕ → Option (List ℕ) → Option (List (List ℕ)) → Option (List Reading × Reading) → Result (List Definition) SpecError
function_parts at (Some name) (Some formals) (Some parts) = function_named at name formals parts.0 parts.1
function_parts at _ _ _ = Err (BadForm at)

-- a name, formals, and a body
abbrev pub function_form : ℕ → List Reading → Result (List Definition) SpecError
function_form at [] = Err (BadForm at)
function_form at (name ∷ []) = Err (BadForm at)
function_form at (name ∷ (formals ∷ rest)) = function_parts at name.name formals.names (split_last rest)

abbrev pub constant_named : ℕ → Option (List ℕ) → Reading → Result (List Definition) SpecError
constant_named at None value = Err (BadForm at)
constant_named at (Some name) value = if is_constant name then defines at name None value.expression else Err (BadForm at)

abbrev pub constant_parts : ℕ → Option (Reading × Reading) → Result (List Definition) SpecError
constant_parts at None = Err (BadForm at)
constant_parts at (Some parts) = constant_named at parts.0.name parts.1

abbrev pub top_form : ℕ → List ℕ → List Reading → Result (List Definition) SpecError
top_form at name parts =
    if is_defun name then function_form at parts
    else if is_defconst name then constant_parts at (pair_of parts)
    else if is_skipped name then Ok []
    else Err (BadForm at)

abbrev pub top_operator : ℕ → Option (List ℕ) → List Reading → Result (List Definition) SpecError
top_operator at None parts = Err (BadForm at)
top_operator at (Some name) parts = top_form at name parts

abbrev pub top_list : ℕ → List Reading → Result (List Definition) SpecError
top_list at [] = Err (BadForm at)
top_list at (operator ∷ parts) = top_operator at operator.name parts

-- ---- data

abbrev pub is_declaration_of : Option (List ℕ) → Bool
is_declaration_of None = false
is_declaration_of (Some name) = is_declare name

abbrev pub is_declaration_in : List Reading → Bool
is_declaration_in [] = false
is_declaration_in (operator ∷ parts) = is_declaration_of operator.name

-- a datum that is an expression and nothing else
abbrev pub plain : ℕ → Result Expression SpecError → Reading
plain at e = record { name = None; number = None; text = None; is_declaration = false; names = None; literal = None; binding = None; bindings = None; clause = None; expression = e; definition = Err (BadForm at) }

abbrev pub reading_step : Datum-F Reading → Reading
reading_step (layer.Word at w) = record (plain at (Ok (word_expression at w (word_literal w)))) { name = Some w; literal = word_literal w }
reading_step (layer.Number at n) = record (plain at (Ok (literal_at at (literal.Number n)))) { number = Some n; literal = Some (literal.Number n) }
reading_step (layer.Text at) = record (plain at (Err (BadForm at))) { text = Some at }
reading_step (layer.Quote at more parts) = plain at (apostrophe_form at more parts)
reading_step (layer.List at end parts) = record {
  name = None;
  number = None;
  text = None;
  is_declaration = is_declaration_in parts;
  names = all_of (map (λ part. part.name) parts);
  literal = option_map (λ numbers. literal.List numbers) (all_of (map (λ part. part.number) parts));
  binding = binding_of (pair_of parts);
  bindings = Some (map (λ part. part.binding) parts);
  clause = clause_of (pair_of parts);
  expression = list_form at parts;
  definition = top_list at parts;
}

abbrev pub reading : Datum → Reading
reading = fold-Datum Reading reading_step

-- the definitions of the data of the top level
abbrev pub definitions : List Reading → Result (List Definition) SpecError
definitions [] = Ok []
definitions (r ∷ rs) = r.definition >>= λ first. definitions rs >>= λ more. Ok (first ++ more)
