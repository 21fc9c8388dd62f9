-- The forms that an evaluation visits, and where they stand.
use Rattle.std.specs.Prelude.{◌≡◌, ℕ, zero, suc, ◌+◌, ◌-◌, Bool, true, false, if◌then◌else◌, option_map, List, [], ◌∷◌, ◌++◌, slice_get, Option, Some, None, Result, Ok, Err}
use Rattle.std.specs.Option.{option_and_then}
use Rattle.spec_form.specs.declared.form.Form.{Form}
use Rattle.spec_form.specs.declared.form.FormKind.{FormKind}
use Rattle.spec_form.specs.declared.form.FormKind.TheOpen.{FormKind-F}
use Rattle.spec_form.specs.declared.form.FormKind.TheOpen as kind
use Rattle.spec_form.specs.declared.program.Program.{Program}
use Rattle.spec_form.specs.declared.program.FunId.{FunId}
use Rattle.spec_form.specs.declared.program.ConstId.{ConstId}
use Rattle.spec_meaning.specs.declared.value.Value.{Value}
use Rattle.spec_meaning.specs.declared.stop.Stop.{Stop}
use Rattle.spec_meaning.specs.Checks.{is_nil}
use Rattle.spec_meaning.specs.Work.{Work}
use Rattle.spec_meaning.specs.Evaluations.{eval_form, eval_parts, is_too_deep, kind_of, last_apart}

-- the child places that lead to a form from a function's body, the first from the body; beside its parts, the body
-- that a call calls and the expression that a constant names are children of a form, behind the parts
abbrev pub Address : Type 0
Address = List ℕ

-- a form that is to be evaluated: the values of its variables, how many more forms may be open, and be visited
pub record Visit : Type 0 where
  pub form : Form
  pub variables : List Value
  pub depth : ℕ
  pub left : ℕ

-- what comes after a part that has a value
abbrev pub after : Result (Value × ℕ) Stop → (Value → ℕ → Option Visit) → Option Visit
after (Ok x) next = next x.0 x.1
after (Err stop) next = None

-- how a form is evaluated, and how its visit looks, where its variables have these values
abbrev pub Step : Type 0
Step = List Value → Form → Work Value

abbrev pub See : Type 0
See = List Value → Form → ℕ → Option Visit

-- child k of a list of parts, each of which is visited where those before it have values; behind them, what last gives
-- for these values and theirs
abbrev pub part_visit : Step → See → List Value → (List Value → ℕ → Option Visit) → List Value → List Form → ℕ → ℕ → Option Visit
part_visit step see variables last values [] zero left = last values left
part_visit step see variables last values [] (suc k) left = None
part_visit step see variables last values (part ∷ parts) zero left = see variables part left
part_visit step see variables last values (part ∷ parts) (suc k) left = after (step variables part left) (λ v left. part_visit step see variables last (values ++ v ∷ []) parts k left)

-- no child behind the parts
abbrev pub no_more : List Value → ℕ → Option Visit
no_more values left = None

abbrev pub if_visit : Step → See → List Value → List Form → ℕ → ℕ → Option Visit
if_visit step see variables (test ∷ one ∷ other ∷ []) zero left = see variables test left
if_visit step see variables (test ∷ one ∷ other ∷ []) (suc zero) left = after (step variables test left) (λ v left. if is_nil v then None else see variables one left)
if_visit step see variables (test ∷ one ∷ other ∷ []) (suc (suc zero)) left = after (step variables test left) (λ v left. if is_nil v then see variables other left else None)
if_visit step see variables parts k left = None

abbrev pub let_visit : Step → See → List Value → Option (List Form × Form) → ℕ → ℕ → Option Visit
let_visit step see variables (Some (bindings, body)) k left = part_visit step see variables (λ values left. see (variables ++ values) body left) [] bindings k left
let_visit step see variables None k left = None

abbrev pub each_visit : Step → See → List Value → List Form → Form → ℕ → ℕ → Option Visit
each_visit step see variables [] body zero left = see variables body left
each_visit step see variables [] body (suc k) left = None
each_visit step see variables (binding ∷ bindings) body zero left = see variables binding left
each_visit step see variables (binding ∷ bindings) body (suc k) left = after (step variables binding left) (λ v left. each_visit step see (variables ++ v ∷ []) bindings body k left)

abbrev pub let_star_visit : Step → See → List Value → Option (List Form × Form) → ℕ → ℕ → Option Visit
let_star_visit step see variables (Some (bindings, body)) k left = each_visit step see variables bindings body k left
let_star_visit step see variables None k left = None

-- the tests up to the first that isn't nil, and the expression of that clause
abbrev pub cond_visit : Step → See → List Value → List Form → ℕ → ℕ → Option Visit
cond_visit step see variables (test ∷ value ∷ clauses) zero left = see variables test left
cond_visit step see variables (test ∷ value ∷ clauses) (suc zero) left = after (step variables test left) (λ v left. if is_nil v then None else see variables value left)
cond_visit step see variables (test ∷ value ∷ clauses) (suc (suc k)) left = after (step variables test left) (λ v left. if is_nil v then cond_visit step see variables clauses k left else None)
cond_visit step see variables parts k left = None

-- parts as long as their values are nil, or as long as they aren't
abbrev pub while_visit : Step → See → Bool → List Value → List Form → ℕ → ℕ → Option Visit
while_visit step see nil variables [] k left = None
while_visit step see nil variables (part ∷ parts) zero left = see variables part left
while_visit step see true variables (part ∷ parts) (suc k) left = after (step variables part left) (λ v left. if is_nil v then while_visit step see true variables parts k left else None)
while_visit step see false variables (part ∷ parts) (suc k) left = after (step variables part left) (λ v left. if is_nil v then None else while_visit step see false variables parts k left)

abbrev pub constant_visit : See → Option Form → ℕ → ℕ → Option Visit
constant_visit see (Some value) zero left = see [] value left
constant_visit see value k left = None

abbrev pub body_visit : See → Option Form → List Value → ℕ → Option Visit
body_visit see (Some body) args left = see args body left
body_visit see None args left = None

-- ---- addresses without an input

abbrev pub listed : Option Form → List Form
listed (Some form) = form ∷ []
listed None = []

-- a function's body
abbrev pub body_of : Program → FunId → Option Form
body_of p f = option_map (λ f. f.body) (slice_get p.functions f.0)

-- a constant's expression
abbrev pub constant_of : Program → ConstId → Option Form
constant_of p c = option_map (λ c. c.value) (slice_get p.constants c.0)

-- the forms under a form by their child places
abbrev pub children : Program → FormKind-F FormKind Form → List Form
children p (kind.Number n) = []
children p kind.T = []
children p (kind.Quoted zs) = []
children p (kind.Variable place) = []
children p (kind.Constant c) = listed (constant_of p c)
children p (kind.If parts) = parts
children p (kind.Let parts) = parts
children p (kind.LetStar parts) = parts
children p (kind.Cond parts) = parts
children p (kind.And parts) = parts
children p (kind.Or parts) = parts
children p (kind.Builtin b parts) = parts
children p (kind.Call f parts) = parts ++ listed (body_of p f)

-- the form at an address under a form
abbrev pub form_under : Program → Address → Form → Option Form
form_under p [] form = Some form
form_under p (k ∷ address) form = option_and_then (form_under p address) (slice_get (children p (kind_of form)) k)

-- the form at an address of a function, on every input
abbrev pub form_at : Program → FunId → Address → Option Form
form_at p f address = option_and_then (form_under p address) (body_of p f)

-- ---- visits

-- child k of a form whose visit is paid
abbrev pub child_visit : Program → Step → See → List Value → FormKind-F FormKind Form → ℕ → ℕ → Option Visit
child_visit p step see variables (kind.Number n) k left = None
child_visit p step see variables kind.T k left = None
child_visit p step see variables (kind.Quoted zs) k left = None
child_visit p step see variables (kind.Variable place) k left = None
child_visit p step see variables (kind.Constant c) k left = constant_visit see (constant_of p c) k left
child_visit p step see variables (kind.If parts) k left = if_visit step see variables parts k left
child_visit p step see variables (kind.Let parts) k left = let_visit step see variables (last_apart parts) k left
child_visit p step see variables (kind.LetStar parts) k left = let_star_visit step see variables (last_apart parts) k left
child_visit p step see variables (kind.Cond parts) k left = cond_visit step see variables parts k left
child_visit p step see variables (kind.And parts) k left = while_visit step see false variables parts k left
child_visit p step see variables (kind.Or parts) k left = while_visit step see true variables parts k left
child_visit p step see variables (kind.Builtin b parts) k left = part_visit step see variables no_more [] parts k left
child_visit p step see variables (kind.Call f parts) k left = part_visit step see variables (body_visit see (body_of p f)) [] parts k left

-- a form is visited where it may be open, if it needs that, and a visit is left
abbrev pub seen : ℕ → See
seen depth variables form zero = None
seen depth variables form (suc left) = if is_too_deep depth (kind_of form) then None else Some (record { form = form; variables = variables; depth = depth; left = suc left })

abbrev pub child : Program → Visit → ℕ → Option Visit
child p v k = child_visit p (eval_form p (v.depth - 1)) (seen (v.depth - 1)) v.variables (kind_of v.form) k (v.left - 1)

-- the visit at an address, if there is one: an evaluation visits each address at most once
abbrev pub visit_from : Program → Address → Visit → Option Visit
visit_from p [] v = Some v
visit_from p (k ∷ address) v = option_and_then (visit_from p address) (child p v k)

abbrev pub first_visit : Option Form → List Value → ℕ → ℕ → Option Visit
first_visit (Some body) args depth work = seen depth args body work
first_visit None args depth work = None

-- how the evaluation of a function at arguments visits the form at an address
abbrev pub visit_at : Program → FunId → List Value → ℕ → ℕ → Address → Option Visit
visit_at p f args depth work address = option_and_then (visit_from p address) (first_visit (body_of p f) args depth work)

-- an evaluation visits the form at an address so
abbrev pub Visits : Program → FunId → List Value → ℕ → ℕ → Address → Visit → Type 0
Visits p f args depth work address v = visit_at p f args depth work address ≡ Some v

abbrev pub IsVisited : Program → FunId → List Value → ℕ → ℕ → Address → Type 0
IsVisited p f args depth work address = (v : Visit) × Visits p f args depth work address v

-- An address is counted where an evaluation visits it, or would visit it next where its work runs out: one with the
-- budget of one visit more visits just these.
abbrev pub IsCounted : Program → FunId → List Value → ℕ → ℕ → Address → Type 0
IsCounted p f args depth work address = IsVisited p f args depth (work + 1) address

-- ---- what a visit gives

-- the value of the visited form with the visits that are left then, or why it stops
abbrev pub value_at : Program → Visit → Result (Value × ℕ) Stop
value_at p v = eval_form p v.depth v.variables v.form v.left

-- the values of the visited form's parts, all of which are evaluated before it is a call
abbrev pub arguments_at : Program → Visit → List Form → Result (List Value × ℕ) Stop
arguments_at p v parts = eval_parts (eval_form p (v.depth - 1) v.variables) [] parts (v.left - 1)
