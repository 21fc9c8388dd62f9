-- A form's evaluation and its visits, as one plan: which form under it comes next, and how its value goes on. Each of
-- the kinds follows its plan, so that what is true of all plans is true of all kinds.
use Rattle.std.proofs.Common.{◌≡◌, ℕ, zero, suc, Bool, true, false, cond, List, [], ◌∷◌, ◌++◌, Option, Some, None, refl, sym, ap, ◌∙◌}
use Rattle.std.specs.Prelude.{Result, Ok, Err, slice_get, option_map, if◌then◌else◌}
use Rattle.spec_form.specs.declared.form.Form.{Form}
use Rattle.spec_form.specs.declared.form.FormKind.{FormKind}
use Rattle.spec_form.specs.declared.form.FormKind.TheOpen.{FormKind-F}
use Rattle.spec_form.specs.declared.form.FormKind.TheOpen as kind
use Rattle.spec_form.specs.declared.program.Program.{Program}
use Rattle.spec_form.specs.declared.program.Function.{Function}
use Rattle.spec_form.specs.declared.program.NamedConstant.{NamedConstant}
use Rattle.spec_meaning.specs.declared.value.Value.{Value}
use Rattle.spec_meaning.specs.declared.value.Value.TheVariants.{Number, T, List as Numbers}
use Rattle.spec_meaning.specs.declared.value.Why.{Why}
use Rattle.spec_meaning.specs.declared.value.Why.TheVariants.{NotANumber}
use Rattle.spec_meaning.specs.declared.stop.Stop.{Stop}
use Rattle.spec_meaning.specs.Checks.{is_nil}
use Rattle.spec_meaning.specs.Work.{Work, continued, gives, valued}
use Rattle.spec_meaning.specs.Evaluations.{eval_kind, eval_parts, eval_if, eval_let, bind_each, eval_let_star, eval_cond, eval_and, eval_or, eval_constant, eval_body, variable, call_value, last_apart}
use Rattle.spec_meaning.specs.Visits.{Visit, Step, See, after, part_visit, no_more, if_visit, let_visit, each_visit, let_star_visit, cond_visit, while_visit, constant_visit, body_visit, child_visit, body_of}

-- the end; a child place that is passed over; a form under these variables, and how its value goes on
pub data Plan : Type 0 where
  Done : Result Value Why → Plan
  Skip : Plan → Plan
  Then : List Value → Form → (Value → Plan) → Plan

-- the evaluation of a plan, made by the form at this offset
abbrev pub run : Step → ℕ → Plan → Work Value
run step at (Done r) left = valued at r left
run step at (Skip plan) left = run step at plan left
run step at (Then vs f next) left = continued (step vs f left) (λ v. run step at (next v))

-- the visit of a plan's child at a place
abbrev pub sight : Step → See → Plan → ℕ → ℕ → Option Visit
sight step see (Done r) k left = None
sight step see (Skip plan) zero left = None
sight step see (Skip plan) (suc k) left = sight step see plan k left
sight step see (Then vs f next) zero left = see vs f left
sight step see (Then vs f next) (suc k) left = after (step vs f left) (λ v left. sight step see (next v) k left)

-- ---- the plans of the kinds

abbrev pub finish : Value → Plan
finish v = Done (Ok v)

abbrev pub bad : Plan
bad = Done (Err NotANumber)

abbrev pub parts_plan : List Value → (List Value → Plan) → List Value → List Form → Plan
parts_plan vs last values [] = last values
parts_plan vs last values (part ∷ parts) = Then vs part (λ v. parts_plan vs last (values ++ v ∷ []) parts)

abbrev pub if_plan : List Value → List Form → Plan
if_plan vs (test ∷ one ∷ other ∷ []) = Then vs test (λ v. if is_nil v then Skip (Then vs other finish) else Then vs one finish)
if_plan vs parts = bad

abbrev pub let_plan : List Value → Option (List Form × Form) → Plan
let_plan vs (Some (bindings, body)) = parts_plan vs (λ values. Then (vs ++ values) body finish) [] bindings
let_plan vs None = bad

abbrev pub each_plan : List Value → List Form → Form → Plan
each_plan vs [] body = Then vs body finish
each_plan vs (binding ∷ bindings) body = Then vs binding (λ v. each_plan (vs ++ v ∷ []) bindings body)

abbrev pub let_star_plan : List Value → Option (List Form × Form) → Plan
let_star_plan vs (Some (bindings, body)) = each_plan vs bindings body
let_star_plan vs None = bad

abbrev pub cond_plan : List Value → List Form → Plan
cond_plan vs [] = finish (Numbers [])
cond_plan vs (test ∷ []) = bad
cond_plan vs (test ∷ value ∷ clauses) = Then vs test (λ v. if is_nil v then Skip (cond_plan vs clauses) else Then vs value finish)

abbrev pub and_plan : List Value → Value → List Form → Plan
and_plan vs value [] = finish value
and_plan vs value (part ∷ parts) = Then vs part (λ v. if is_nil v then finish v else and_plan vs v parts)

abbrev pub or_plan : List Value → List Form → Plan
or_plan vs [] = finish (Numbers [])
or_plan vs (part ∷ parts) = Then vs part (λ v. if is_nil v then or_plan vs parts else finish v)

abbrev pub variable_plan : Option Value → Plan
variable_plan (Some v) = finish v
variable_plan None = bad

abbrev pub constant_plan : Option NamedConstant → Plan
constant_plan (Some c) = Then [] c.value finish
constant_plan None = bad

abbrev pub body_plan : Option Function → List Value → Plan
body_plan (Some f) args = Then args f.body finish
body_plan None args = bad

abbrev pub plan : Program → List Value → FormKind-F FormKind Form → Plan
plan p vs (kind.Number n) = finish (Number n)
plan p vs kind.T = finish T
plan p vs (kind.Quoted zs) = finish (Numbers zs)
plan p vs (kind.Variable place) = variable_plan (slice_get vs place)
plan p vs (kind.Constant c) = constant_plan (slice_get p.constants c.0)
plan p vs (kind.If parts) = if_plan vs parts
plan p vs (kind.Let parts) = let_plan vs (last_apart parts)
plan p vs (kind.LetStar parts) = let_star_plan vs (last_apart parts)
plan p vs (kind.Cond parts) = cond_plan vs parts
plan p vs (kind.And parts) = and_plan vs T parts
plan p vs (kind.Or parts) = or_plan vs parts
plan p vs (kind.Builtin b parts) = parts_plan vs (λ values. Done (call_value b values)) [] parts
plan p vs (kind.Call f parts) = parts_plan vs (body_plan (slice_get p.functions f.0)) [] parts

-- ---- an evaluation follows its plan

ends : (r : Result (Value × ℕ) Stop) → continued r gives ≡ r
ends (Ok x) = refl
ends (Err stop) = refl

-- what goes on from one result, step by step
goes_on : {A B : Type 0} (r : Result (A × ℕ) Stop) (one other : A → Work B) → ((x : A) (left : ℕ) → one x left ≡ other x left) → continued r one ≡ continued r other
goes_on (Ok x) one other same = same x.0 x.1
goes_on (Err stop) one other same = refl

-- two steps, one in the other or one behind the other
nested : {A B C : Type 0} (r : Result (A × ℕ) Stop) (inner : A → Work B) (outer : B → Work C) (other : A → Work C) → ((x : A) (left : ℕ) → continued (inner x left) outer ≡ other x left) → continued (continued r inner) outer ≡ continued r other
nested (Ok x) inner outer other same = same x.0 x.1
nested (Err stop) inner outer other same = refl

last_step : (step : Step) (at : ℕ) (vs : List Value) (f : Form) (left : ℕ) → step vs f left ≡ run step at (Then vs f finish) left
last_step step at vs f left = sym (ends (step vs f left))

pub parts_run : (step : Step) (at : ℕ) (vs values : List Value) (parts : List Form) (next : List Value → Work Value) (last : List Value → Plan) (left : ℕ) → ((xs : List Value) (left : ℕ) → next xs left ≡ run step at (last xs) left) → continued (eval_parts (step vs) values parts left) next ≡ run step at (parts_plan vs last values parts) left
parts_run step at vs values [] next last left same = same values left
parts_run step at vs values (part ∷ parts) next last left same = nested (step vs part left) (λ v. eval_parts (step vs) (values ++ v ∷ []) parts) next (λ v. run step at (parts_plan vs last (values ++ v ∷ []) parts)) (λ v left. parts_run step at vs (values ++ v ∷ []) parts next last left same)

chosen : (step : Step) (at : ℕ) (vs : List Value) (one other : Form) (nil : Bool) (left : ℕ) → step vs (cond nil other one) left ≡ run step at (cond nil (Skip (Then vs other finish)) (Then vs one finish)) left
chosen step at vs one other true left = last_step step at vs other left
chosen step at vs one other false left = last_step step at vs one left

if_run : (step : Step) (at : ℕ) (vs : List Value) (parts : List Form) (left : ℕ) → eval_if (step vs) at parts left ≡ run step at (if_plan vs parts) left
if_run step at vs [] left = refl
if_run step at vs (test ∷ []) left = refl
if_run step at vs (test ∷ one ∷ []) left = refl
if_run step at vs (test ∷ one ∷ other ∷ []) left = goes_on (step vs test left) _ _ (λ v left. chosen step at vs one other (is_nil v) left)
if_run step at vs (test ∷ one ∷ other ∷ more ∷ parts) left = refl

let_run : (step : Step) (at : ℕ) (vs : List Value) (parts : Option (List Form × Form)) (left : ℕ) → eval_let step vs at parts left ≡ run step at (let_plan vs parts) left
let_run step at vs None left = refl
let_run step at vs (Some (bindings, body)) left = parts_run step at vs [] bindings (λ values. step (vs ++ values) body) (λ values. Then (vs ++ values) body finish) left (λ values left. last_step step at (vs ++ values) body left)

each_run : (step : Step) (at : ℕ) (vs : List Value) (bindings : List Form) (body : Form) (left : ℕ) → bind_each step vs bindings body left ≡ run step at (each_plan vs bindings body) left
each_run step at vs [] body left = last_step step at vs body left
each_run step at vs (binding ∷ bindings) body left = goes_on (step vs binding left) _ _ (λ v left. each_run step at (vs ++ v ∷ []) bindings body left)

let_star_run : (step : Step) (at : ℕ) (vs : List Value) (parts : Option (List Form × Form)) (left : ℕ) → eval_let_star step vs at parts left ≡ run step at (let_star_plan vs parts) left
let_star_run step at vs None left = refl
let_star_run step at vs (Some (bindings, body)) left = each_run step at vs bindings body left

cond_by : (step : Step) (at : ℕ) (vs : List Value) (value : Form) (clauses : List Form) (nil : Bool) (left : ℕ) → eval_cond (step vs) at clauses left ≡ run step at (cond_plan vs clauses) left → cond nil (eval_cond (step vs) at clauses) (step vs value) left ≡ run step at (cond nil (Skip (cond_plan vs clauses)) (Then vs value finish)) left
cond_by step at vs value clauses true left rest = rest
cond_by step at vs value clauses false left rest = last_step step at vs value left

cond_run : (step : Step) (at : ℕ) (vs : List Value) (clauses : List Form) (left : ℕ) → eval_cond (step vs) at clauses left ≡ run step at (cond_plan vs clauses) left
cond_run step at vs [] left = refl
cond_run step at vs (test ∷ []) left = refl
cond_run step at vs (test ∷ value ∷ clauses) left = goes_on (step vs test left) _ _ (λ v left. cond_by step at vs value clauses (is_nil v) left (cond_run step at vs clauses left))

and_by : (step : Step) (at : ℕ) (vs : List Value) (v : Value) (parts : List Form) (nil : Bool) (left : ℕ) → eval_and (step vs) v parts left ≡ run step at (and_plan vs v parts) left → cond nil (gives v) (eval_and (step vs) v parts) left ≡ run step at (cond nil (finish v) (and_plan vs v parts)) left
and_by step at vs v parts true left rest = refl
and_by step at vs v parts false left rest = rest

and_run : (step : Step) (at : ℕ) (vs : List Value) (value : Value) (parts : List Form) (left : ℕ) → eval_and (step vs) value parts left ≡ run step at (and_plan vs value parts) left
and_run step at vs value [] left = refl
and_run step at vs value (part ∷ parts) left = goes_on (step vs part left) _ _ (λ v left. and_by step at vs v parts (is_nil v) left (and_run step at vs v parts left))

or_by : (step : Step) (at : ℕ) (vs : List Value) (v : Value) (parts : List Form) (nil : Bool) (left : ℕ) → eval_or (step vs) parts left ≡ run step at (or_plan vs parts) left → cond nil (eval_or (step vs) parts) (gives v) left ≡ run step at (cond nil (or_plan vs parts) (finish v)) left
or_by step at vs v parts true left rest = rest
or_by step at vs v parts false left rest = refl

or_run : (step : Step) (at : ℕ) (vs : List Value) (parts : List Form) (left : ℕ) → eval_or (step vs) parts left ≡ run step at (or_plan vs parts) left
or_run step at vs [] left = refl
or_run step at vs (part ∷ parts) left = goes_on (step vs part left) _ _ (λ v left. or_by step at vs v parts (is_nil v) left (or_run step at vs parts left))

variable_run : (step : Step) (at : ℕ) (o : Option Value) (left : ℕ) → variable at o left ≡ run step at (variable_plan o) left
variable_run step at None left = refl
variable_run step at (Some v) left = refl

constant_run : (step : Step) (at : ℕ) (o : Option NamedConstant) (left : ℕ) → eval_constant step at o left ≡ run step at (constant_plan o) left
constant_run step at None left = refl
constant_run step at (Some c) left = last_step step at [] c.value left

body_run : (step : Step) (at : ℕ) (o : Option Function) (args : List Value) (left : ℕ) → eval_body step at o args left ≡ run step at (body_plan o args) left
body_run step at None args left = refl
body_run step at (Some f) args left = last_step step at args f.body left

pub kind_runs : (p : Program) (step : Step) (vs : List Value) (at : ℕ) (k : FormKind-F FormKind Form) (left : ℕ) → eval_kind p step vs at k left ≡ run step at (plan p vs k) left
kind_runs p step vs at (kind.Number n) left = refl
kind_runs p step vs at kind.T left = refl
kind_runs p step vs at (kind.Quoted zs) left = refl
kind_runs p step vs at (kind.Variable place) left = variable_run step at (slice_get vs place) left
kind_runs p step vs at (kind.Constant c) left = constant_run step at (slice_get p.constants c.0) left
kind_runs p step vs at (kind.If parts) left = if_run step at vs parts left
kind_runs p step vs at (kind.Let parts) left = let_run step at vs (last_apart parts) left
kind_runs p step vs at (kind.LetStar parts) left = let_star_run step at vs (last_apart parts) left
kind_runs p step vs at (kind.Cond parts) left = cond_run step at vs parts left
kind_runs p step vs at (kind.And parts) left = and_run step at vs T parts left
kind_runs p step vs at (kind.Or parts) left = or_run step at vs parts left
kind_runs p step vs at (kind.Builtin b parts) left = parts_run step at vs [] parts (λ values. valued at (call_value b values)) (λ values. Done (call_value b values)) left (λ values left. refl)
kind_runs p step vs at (kind.Call f parts) left = parts_run step at vs [] parts (eval_body step at (slice_get p.functions f.0)) (body_plan (slice_get p.functions f.0)) left (λ args left. body_run step at (slice_get p.functions f.0) args left)

-- ---- visits follow the plan

seen_none : (r : Result (Value × ℕ) Stop) → after r (λ v left. None) ≡ None
seen_none (Ok x) = refl
seen_none (Err stop) = refl

sees_on : (r : Result (Value × ℕ) Stop) (one other : Value → ℕ → Option Visit) → ((v : Value) (left : ℕ) → one v left ≡ other v left) → after r one ≡ after r other
sees_on (Ok x) one other same = same x.0 x.1
sees_on (Err stop) one other same = refl

last_sight : (step : Step) (see : See) (vs : List Value) (f : Form) (k left : ℕ) → sight step see (Then vs f finish) (suc k) left ≡ None
last_sight step see vs f k left = seen_none (step vs f left)

-- a plan of at most one child
record IsSingle (step : Step) (see : See) (child : ℕ → Option Visit) (plan : Plan) : Type 0 where
  first : (left : ℕ) → child left ≡ sight step see plan zero left
  no_other : (k left : ℕ) → sight step see plan (suc k) left ≡ None

parts_sight : (step : Step) (see : See) (vs : List Value) (next : List Value → ℕ → Option Visit) (last : List Value → Plan) (values : List Value) (parts : List Form) (k left : ℕ) → ((xs : List Value) → IsSingle step see (next xs) (last xs)) → part_visit step see vs next values parts k left ≡ sight step see (parts_plan vs last values parts) k left
parts_sight step see vs next last values [] zero left single = (single values).first left
parts_sight step see vs next last values [] (suc k) left single = sym ((single values).no_other k left)
parts_sight step see vs next last values (part ∷ parts) zero left single = refl
parts_sight step see vs next last values (part ∷ parts) (suc k) left single = sees_on (step vs part left) _ _ (λ v left. parts_sight step see vs next last (values ++ v ∷ []) parts k left single)

chosen_first : (step : Step) (see : See) (vs : List Value) (one other : Form) (nil : Bool) (left : ℕ) → cond nil None (see vs one left) ≡ sight step see (cond nil (Skip (Then vs other finish)) (Then vs one finish)) zero left
chosen_first step see vs one other true left = refl
chosen_first step see vs one other false left = refl

chosen_second : (step : Step) (see : See) (vs : List Value) (one other : Form) (nil : Bool) (left : ℕ) → cond nil (see vs other left) None ≡ sight step see (cond nil (Skip (Then vs other finish)) (Then vs one finish)) (suc zero) left
chosen_second step see vs one other true left = refl
chosen_second step see vs one other false left = sym (last_sight step see vs one zero left)

chosen_none : (step : Step) (see : See) (vs : List Value) (one other : Form) (nil : Bool) (k left : ℕ) → None ≡ sight step see (cond nil (Skip (Then vs other finish)) (Then vs one finish)) (suc (suc k)) left
chosen_none step see vs one other true k left = sym (last_sight step see vs other k left)
chosen_none step see vs one other false k left = sym (last_sight step see vs one (suc k) left)

if_sight : (step : Step) (see : See) (vs : List Value) (parts : List Form) (k left : ℕ) → if_visit step see vs parts k left ≡ sight step see (if_plan vs parts) k left
if_sight step see vs [] k left = refl
if_sight step see vs (test ∷ []) k left = refl
if_sight step see vs (test ∷ one ∷ []) k left = refl
if_sight step see vs (test ∷ one ∷ other ∷ []) zero left = refl
if_sight step see vs (test ∷ one ∷ other ∷ []) (suc zero) left = sees_on (step vs test left) _ _ (λ v left. chosen_first step see vs one other (is_nil v) left)
if_sight step see vs (test ∷ one ∷ other ∷ []) (suc (suc zero)) left = sees_on (step vs test left) _ _ (λ v left. chosen_second step see vs one other (is_nil v) left)
if_sight step see vs (test ∷ one ∷ other ∷ []) (suc (suc (suc k))) left = sym (seen_none (step vs test left)) ∙ sees_on (step vs test left) _ _ (λ v left. chosen_none step see vs one other (is_nil v) k left)
if_sight step see vs (test ∷ one ∷ other ∷ more ∷ parts) k left = refl

let_sight : (step : Step) (see : See) (vs : List Value) (parts : Option (List Form × Form)) (k left : ℕ) → let_visit step see vs parts k left ≡ sight step see (let_plan vs parts) k left
let_sight step see vs None k left = refl
let_sight step see vs (Some (bindings, body)) k left = parts_sight step see vs (λ values left. see (vs ++ values) body left) (λ values. Then (vs ++ values) body finish) [] bindings k left (λ values. record { first = λ left. refl; no_other = λ k left. last_sight step see (vs ++ values) body k left })

each_sight : (step : Step) (see : See) (vs : List Value) (bindings : List Form) (body : Form) (k left : ℕ) → each_visit step see vs bindings body k left ≡ sight step see (each_plan vs bindings body) k left
each_sight step see vs [] body zero left = refl
each_sight step see vs [] body (suc k) left = sym (last_sight step see vs body k left)
each_sight step see vs (binding ∷ bindings) body zero left = refl
each_sight step see vs (binding ∷ bindings) body (suc k) left = sees_on (step vs binding left) _ _ (λ v left. each_sight step see (vs ++ v ∷ []) bindings body k left)

let_star_sight : (step : Step) (see : See) (vs : List Value) (parts : Option (List Form × Form)) (k left : ℕ) → let_star_visit step see vs parts k left ≡ sight step see (let_star_plan vs parts) k left
let_star_sight step see vs None k left = refl
let_star_sight step see vs (Some (bindings, body)) k left = each_sight step see vs bindings body k left

clause_first : (step : Step) (see : See) (vs : List Value) (value : Form) (clauses : List Form) (nil : Bool) (left : ℕ) → cond nil None (see vs value left) ≡ sight step see (cond nil (Skip (cond_plan vs clauses)) (Then vs value finish)) zero left
clause_first step see vs value clauses true left = refl
clause_first step see vs value clauses false left = refl

clause_later : (step : Step) (see : See) (vs : List Value) (value : Form) (clauses : List Form) (nil : Bool) (k left : ℕ) → cond_visit step see vs clauses k left ≡ sight step see (cond_plan vs clauses) k left → cond nil (cond_visit step see vs clauses k left) None ≡ sight step see (cond nil (Skip (cond_plan vs clauses)) (Then vs value finish)) (suc k) left
clause_later step see vs value clauses true k left same = same
clause_later step see vs value clauses false k left same = sym (last_sight step see vs value k left)

cond_sight : (step : Step) (see : See) (vs : List Value) (clauses : List Form) (k left : ℕ) → cond_visit step see vs clauses k left ≡ sight step see (cond_plan vs clauses) k left
cond_sight step see vs [] k left = refl
cond_sight step see vs (test ∷ []) k left = refl
cond_sight step see vs (test ∷ value ∷ clauses) zero left = refl
cond_sight step see vs (test ∷ value ∷ clauses) (suc zero) left = sees_on (step vs test left) _ _ (λ v left. clause_first step see vs value clauses (is_nil v) left)
cond_sight step see vs (test ∷ value ∷ clauses) (suc (suc k)) left = sees_on (step vs test left) _ _ (λ v left. clause_later step see vs value clauses (is_nil v) k left (cond_sight step see vs clauses k left))

and_later : (step : Step) (see : See) (vs : List Value) (v : Value) (parts : List Form) (nil : Bool) (k left : ℕ) → while_visit step see false vs parts k left ≡ sight step see (and_plan vs v parts) k left → cond nil None (while_visit step see false vs parts k left) ≡ sight step see (cond nil (finish v) (and_plan vs v parts)) k left
and_later step see vs v parts true k left same = refl
and_later step see vs v parts false k left same = same

and_sight : (step : Step) (see : See) (vs : List Value) (value : Value) (parts : List Form) (k left : ℕ) → while_visit step see false vs parts k left ≡ sight step see (and_plan vs value parts) k left
and_sight step see vs value [] k left = refl
and_sight step see vs value (part ∷ parts) zero left = refl
and_sight step see vs value (part ∷ parts) (suc k) left = sees_on (step vs part left) _ _ (λ v left. and_later step see vs v parts (is_nil v) k left (and_sight step see vs v parts k left))

or_later : (step : Step) (see : See) (vs : List Value) (v : Value) (parts : List Form) (nil : Bool) (k left : ℕ) → while_visit step see true vs parts k left ≡ sight step see (or_plan vs parts) k left → cond nil (while_visit step see true vs parts k left) None ≡ sight step see (cond nil (or_plan vs parts) (finish v)) k left
or_later step see vs v parts true k left same = same
or_later step see vs v parts false k left same = refl

or_sight : (step : Step) (see : See) (vs : List Value) (parts : List Form) (k left : ℕ) → while_visit step see true vs parts k left ≡ sight step see (or_plan vs parts) k left
or_sight step see vs [] k left = refl
or_sight step see vs (part ∷ parts) zero left = refl
or_sight step see vs (part ∷ parts) (suc k) left = sees_on (step vs part left) _ _ (λ v left. or_later step see vs v parts (is_nil v) k left (or_sight step see vs parts k left))

variable_sight : (step : Step) (see : See) (o : Option Value) (k left : ℕ) → None ≡ sight step see (variable_plan o) k left
variable_sight step see None k left = refl
variable_sight step see (Some v) k left = refl

abbrev value_in : Option NamedConstant → Option Form
value_in (Some c) = Some c.value
value_in None = None

constant_sight : (step : Step) (see : See) (o : Option NamedConstant) (k left : ℕ) → constant_visit see (value_in o) k left ≡ sight step see (constant_plan o) k left
constant_sight step see None k left = refl
constant_sight step see (Some c) zero left = refl
constant_sight step see (Some c) (suc k) left = sym (last_sight step see [] c.value k left)

same_value : (o : Option NamedConstant) → value_in o ≡ option_map (λ c. c.value) o
same_value None = refl
same_value (Some c) = refl

body_single : (step : Step) (see : See) (o : Option Function) (args : List Value) → IsSingle step see (body_visit see (option_map (λ f. f.body) o) args) (body_plan o args)
body_single step see None args = record { first = λ left. refl; no_other = λ k left. refl }
body_single step see (Some f) args = record { first = λ left. refl; no_other = λ k left. last_sight step see args f.body k left }

pub kind_sees : (p : Program) (step : Step) (see : See) (vs : List Value) (k : FormKind-F FormKind Form) (i left : ℕ) → child_visit p step see vs k i left ≡ sight step see (plan p vs k) i left
kind_sees p step see vs (kind.Number n) i left = refl
kind_sees p step see vs kind.T i left = refl
kind_sees p step see vs (kind.Quoted zs) i left = refl
kind_sees p step see vs (kind.Variable place) i left = variable_sight step see (slice_get vs place) i left
kind_sees p step see vs (kind.Constant c) i left = ap (λ (o : Option Form). constant_visit see o i left) (sym (same_value (slice_get p.constants c.0))) ∙ constant_sight step see (slice_get p.constants c.0) i left
kind_sees p step see vs (kind.If parts) i left = if_sight step see vs parts i left
kind_sees p step see vs (kind.Let parts) i left = let_sight step see vs (last_apart parts) i left
kind_sees p step see vs (kind.LetStar parts) i left = let_star_sight step see vs (last_apart parts) i left
kind_sees p step see vs (kind.Cond parts) i left = cond_sight step see vs parts i left
kind_sees p step see vs (kind.And parts) i left = and_sight step see vs T parts i left
kind_sees p step see vs (kind.Or parts) i left = or_sight step see vs parts i left
kind_sees p step see vs (kind.Builtin b parts) i left = parts_sight step see vs no_more (λ values. Done (call_value b values)) [] parts i left (λ values. record { first = λ left. refl; no_other = λ k left. refl })
kind_sees p step see vs (kind.Call f parts) i left = parts_sight step see vs (body_visit see (body_of p f)) (body_plan (slice_get p.functions f.0)) [] parts i left (body_single step see (slice_get p.functions f.0))
