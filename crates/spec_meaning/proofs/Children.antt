-- The form at a child place is the same in every plan of its kind.
use Rattle.std.proofs.Common.{◌≡◌, ℕ, zero, suc, ◌-◌, Bool, true, false, cond, List, [], ◌∷◌, ◌++◌, Option, Some, None, refl, sym, ap, ◌∙◌, subst}
use Rattle.std.specs.Prelude.{Result, Ok, Err, slice_get, option_map}
use Rattle.std.specs.Option.{option_and_then}
use Rattle.spec_form.specs.declared.form.Form.{Form}
use Rattle.spec_form.specs.declared.form.FormKind.{FormKind}
use Rattle.spec_form.specs.declared.form.FormKind.TheOpen.{FormKind-F}
use Rattle.spec_form.specs.declared.form.FormKind.TheOpen as kind
use Rattle.spec_form.specs.declared.program.Program.{Program}
use Rattle.spec_form.specs.declared.program.Function.{Function}
use Rattle.spec_form.specs.declared.program.NamedConstant.{NamedConstant}
use Rattle.spec_meaning.specs.declared.value.Value.{Value}
use Rattle.spec_meaning.specs.declared.value.Value.TheVariants.{T}
use Rattle.spec_meaning.specs.declared.stop.Stop.{Stop}
use Rattle.spec_meaning.specs.Checks.{is_nil}
use Rattle.spec_meaning.specs.Evaluations.{eval_form, call_value, is_too_deep, kind_of, last_apart}
use Rattle.spec_meaning.specs.Visits.{Address, Visit, Step, See, after, seen, child, visit_from, first_visit, body_of, listed, children, form_under}
use Rattle.spec_meaning.specs.VisitLaws.{FormIsTheAddress}
use Rattle.spec_meaning.proofs.Plans.{Plan, Done, Skip, Then, finish, sight, plan, parts_plan, if_plan, let_plan, each_plan, let_star_plan, cond_plan, and_plan, or_plan, variable_plan, constant_plan, body_plan, kind_sees}

-- the forms of a plan's children stand in this list by their places
abbrev Stands : List Form → Plan → Type 0
Stands forms (Done r) = Unit {0}
Stands [] (Skip plan) = Stands [] plan
Stands (form ∷ forms) (Skip plan) = Stands forms plan
Stands [] (Then vs f next) = ⊥
Stands (form ∷ forms) (Then vs f next) = (form ≡ f) × ((v : Value) → Stands forms (next v))

parts_stand : (vs values : List Value) (parts more : List Form) (last : List Value → Plan) → ((xs : List Value) → Stands more (last xs)) → Stands (parts ++ more) (parts_plan vs last values parts)
parts_stand vs values [] more last rest = rest values
parts_stand vs values (part ∷ parts) more last rest = (refl, λ v. parts_stand vs (values ++ v ∷ []) parts more last rest)

-- parts alone
all_stand : (vs values : List Value) (parts : List Form) (last : List Value → Plan) → ((xs : List Value) → Stands [] (last xs)) → Stands parts (parts_plan vs last values parts)
all_stand vs values [] last rest = rest values
all_stand vs values (part ∷ parts) last rest = (refl, λ v. all_stand vs (values ++ v ∷ []) parts last rest)

chosen_stands : (vs : List Value) (one other : Form) (nil : Bool) → Stands (one ∷ other ∷ []) (cond nil (Skip (Then vs other finish)) (Then vs one finish))
chosen_stands vs one other true = (refl, λ v. tt)
chosen_stands vs one other false = (refl, λ v. tt)

if_stands : (vs : List Value) (parts : List Form) → Stands parts (if_plan vs parts)
if_stands vs [] = tt
if_stands vs (test ∷ []) = tt
if_stands vs (test ∷ one ∷ []) = tt
if_stands vs (test ∷ one ∷ other ∷ []) = (refl, λ v. chosen_stands vs one other (is_nil v))
if_stands vs (test ∷ one ∷ other ∷ more ∷ parts) = tt

-- what is before the last part, and the last part
joined : (part : Form) (o : Option (List Form × Form)) (rest : List Form) → ((p : List Form × Form) → o ≡ Some p → rest ≡ p.0 ++ p.1 ∷ []) → (p : List Form × Form) → option_map (λ p. (part ∷ p.0, p.1)) o ≡ Some p → part ∷ rest ≡ p.0 ++ p.1 ∷ []
joined part None rest h p e = absurd cc
joined part (Some q) rest h p e = let same : (part ∷ q.0, q.1) ≡ p = cc in subst (λ (z : List Form × Form). part ∷ rest ≡ z.0 ++ z.1 ∷ []) same (ap (λ zs. part ∷ zs) (h q refl))

last_joined : (parts : List Form) (p : List Form × Form) → last_apart parts ≡ Some p → parts ≡ p.0 ++ p.1 ∷ []
last_joined [] p e = absurd cc
last_joined (part ∷ []) p e = let same : ([], part) ≡ p = cc in subst (λ (z : List Form × Form). part ∷ [] ≡ z.0 ++ z.1 ∷ []) same refl
last_joined (part ∷ next ∷ parts) p e = joined part (last_apart (next ∷ parts)) (next ∷ parts) (last_joined (next ∷ parts)) p e

let_stands : (vs : List Value) (parts : List Form) (o : Option (List Form × Form)) → last_apart parts ≡ o → Stands parts (let_plan vs o)
let_stands vs parts None is = tt
let_stands vs parts (Some p) is = rw (last_joined parts p is) (parts_stand vs [] p.0 (p.1 ∷ []) (λ values. Then (vs ++ values) p.1 finish) (λ xs. (refl, λ v. tt)))

each_stands : (vs : List Value) (bindings : List Form) (body : Form) → Stands (bindings ++ body ∷ []) (each_plan vs bindings body)
each_stands vs [] body = (refl, λ v. tt)
each_stands vs (binding ∷ bindings) body = (refl, λ v. each_stands (vs ++ v ∷ []) bindings body)

let_star_stands : (vs : List Value) (parts : List Form) (o : Option (List Form × Form)) → last_apart parts ≡ o → Stands parts (let_star_plan vs o)
let_star_stands vs parts None is = tt
let_star_stands vs parts (Some p) is = rw (last_joined parts p is) (each_stands vs p.0 p.1)

clause_stands : (vs : List Value) (value : Form) (clauses : List Form) (nil : Bool) → Stands clauses (cond_plan vs clauses) → Stands (value ∷ clauses) (cond nil (Skip (cond_plan vs clauses)) (Then vs value finish))
clause_stands vs value clauses true rest = rest
clause_stands vs value clauses false rest = (refl, λ v. tt)

cond_stands : (vs : List Value) (clauses : List Form) → Stands clauses (cond_plan vs clauses)
cond_stands vs [] = tt
cond_stands vs (test ∷ []) = tt
cond_stands vs (test ∷ value ∷ clauses) = (refl, λ v. clause_stands vs value clauses (is_nil v) (cond_stands vs clauses))

and_later : (vs : List Value) (v : Value) (parts : List Form) (nil : Bool) → Stands parts (and_plan vs v parts) → Stands parts (cond nil (finish v) (and_plan vs v parts))
and_later vs v parts true rest = tt
and_later vs v parts false rest = rest

and_stands : (vs : List Value) (value : Value) (parts : List Form) → Stands parts (and_plan vs value parts)
and_stands vs value [] = tt
and_stands vs value (part ∷ parts) = (refl, λ v. and_later vs v parts (is_nil v) (and_stands vs v parts))

or_later : (vs : List Value) (v : Value) (parts : List Form) (nil : Bool) → Stands parts (or_plan vs parts) → Stands parts (cond nil (or_plan vs parts) (finish v))
or_later vs v parts true rest = rest
or_later vs v parts false rest = tt

or_stands : (vs : List Value) (parts : List Form) → Stands parts (or_plan vs parts)
or_stands vs [] = tt
or_stands vs (part ∷ parts) = (refl, λ v. or_later vs v parts (is_nil v) (or_stands vs parts))

variable_stands : (o : Option Value) → Stands [] (variable_plan o)
variable_stands None = tt
variable_stands (Some v) = tt

constant_stands : (o : Option NamedConstant) → Stands (listed (option_map (λ c. c.value) o)) (constant_plan o)
constant_stands None = tt
constant_stands (Some c) = (refl, λ v. tt)

body_stands : (o : Option Function) (args : List Value) → Stands (listed (option_map (λ f. f.body) o)) (body_plan o args)
body_stands None args = tt
body_stands (Some f) args = (refl, λ v. tt)

kind_stands : (p : Program) (vs : List Value) (k : FormKind-F FormKind Form) → Stands (children p k) (plan p vs k)
kind_stands p vs (kind.Number n) = tt
kind_stands p vs kind.T = tt
kind_stands p vs (kind.Quoted zs) = tt
kind_stands p vs (kind.Variable place) = variable_stands (slice_get vs place)
kind_stands p vs (kind.Constant c) = constant_stands (slice_get p.constants c.0)
kind_stands p vs (kind.If parts) = if_stands vs parts
kind_stands p vs (kind.Let parts) = let_stands vs parts (last_apart parts) refl
kind_stands p vs (kind.LetStar parts) = let_star_stands vs parts (last_apart parts) refl
kind_stands p vs (kind.Cond parts) = cond_stands vs parts
kind_stands p vs (kind.And parts) = and_stands vs T parts
kind_stands p vs (kind.Or parts) = or_stands vs parts
kind_stands p vs (kind.Builtin b parts) = all_stand vs [] parts (λ values. Done (call_value b values)) (λ xs. tt)
kind_stands p vs (kind.Call f parts) = parts_stand vs [] parts (listed (body_of p f)) (body_plan (slice_get p.functions f.0)) (λ xs. body_stands (slice_get p.functions f.0) xs)

-- ---- what is seen at a place is the form there

abbrev IsForm : See → Type 0
IsForm see = (vs : List Value) (f : Form) (left : ℕ) (v : Visit) → see vs f left ≡ Some v → f ≡ v.form

form_if : (deep : Bool) (u v : Visit) → cond deep None (Some u) ≡ Some v → u.form ≡ v.form
form_if true u v e = absurd cc
form_if false u v e = let same : u ≡ v = cc in ap (λ w. w.form) same

pub seen_form : (depth : ℕ) → IsForm (seen depth)
seen_form depth vs f zero v e = absurd cc
seen_form depth vs f (suc left) v e = form_if (is_too_deep depth (kind_of f)) (record { form = f; variables = vs; depth = depth; left = suc left }) v e

after_seen : (r : Result (Value × ℕ) Stop) (next : Value → ℕ → Option Visit) (v : Visit) (P : Type 0) → ((x : Value) (left : ℕ) → next x left ≡ Some v → P) → after r next ≡ Some v → P
after_seen (Ok x) next v P rest e = rest x.0 x.1 e
after_seen (Err stop) next v P rest e = absurd cc

none_there : (k : ℕ) (f : Form) → slice_get [] k ≡ Some f → ⊥
none_there zero f e = cc
none_there (suc k) f e = cc

next_there : (form : Form) (forms : List Form) (k : ℕ) (f : Form) → slice_get forms k ≡ Some f → slice_get (form ∷ forms) (suc k) ≡ Some f
next_there form forms k f e = e

sight_form : (step : Step) (see : See) → IsForm see → (forms : List Form) (plan : Plan) → Stands forms plan → (k left : ℕ) (v : Visit) → sight step see plan k left ≡ Some v → slice_get forms k ≡ Some v.form
sight_form step see is forms (Done r) stands k left v e = absurd cc
sight_form step see is forms (Skip plan) stands zero left v e = absurd cc
sight_form step see is [] (Skip plan) stands (suc k) left v e = absurd (let e' : slice_get [] k ≡ Some v.form = sight_form step see is [] plan stands k left v e in none_there k v.form e')
sight_form step see is (form ∷ forms) (Skip plan) stands (suc k) left v e = next_there form forms k v.form (sight_form step see is forms plan stands k left v e)
sight_form step see is [] (Then vs f next) stands k left v e = absurd stands
sight_form step see is (form ∷ forms) (Then vs f next) stands zero left v e = ap (λ g. Some g) (stands.0 ∙ is vs f left v e)
sight_form step see is (form ∷ forms) (Then vs f next) stands (suc k) left v e = next_there form forms k v.form (after_seen (step vs f left) (λ x left. sight step see (next x) k left) v (slice_get forms k ≡ Some v.form) (λ x left seen. sight_form step see is forms (next x) (stands.1 x) k left v seen) e)

child_form : (p : Program) (v w : Visit) (k : ℕ) → child p v k ≡ Some w → slice_get (children p (kind_of v.form)) k ≡ Some w.form
child_form p v w k e = sight_form (eval_form p (v.depth - 1)) (seen (v.depth - 1)) (seen_form (v.depth - 1)) (children p (kind_of v.form)) (plan p v.variables (kind_of v.form)) (kind_stands p v.variables (kind_of v.form)) k (v.left - 1) w (sym (kind_sees p (eval_form p (v.depth - 1)) (seen (v.depth - 1)) v.variables (kind_of v.form) k (v.left - 1)) ∙ e)

pub from_some : (p : Program) (a : Address) (o : Option Visit) (v : Visit) (P : Type 0) → ((w : Visit) → o ≡ Some w → visit_from p a w ≡ Some v → P) → option_and_then (visit_from p a) o ≡ Some v → P
from_some p a None v P rest e = absurd cc
from_some p a (Some w) v P rest e = rest w refl e

pub form_from : (p : Program) (a : Address) (u v : Visit) → visit_from p a u ≡ Some v → form_under p a u.form ≡ Some v.form
form_from p [] u v e = let same : u ≡ v = cc in ap (λ w. Some w.form) same
form_from p (k ∷ a) u v e = from_some p a (child p u k) v (form_under p (k ∷ a) u.form ≡ Some v.form) (λ w is rest. rw (child_form p u w k is) (form_from p a w v rest)) e

first_form : (o : Option Form) (args : List Value) (depth work : ℕ) (w : Visit) → first_visit o args depth work ≡ Some w → o ≡ Some w.form
first_form None args depth work w e = absurd cc
first_form (Some body) args depth work w e = ap (λ g. Some g) (seen_form depth args body work w e)

pub form_is : FormIsTheAddress
form_is p f args depth work a v visits = from_some p a (first_visit (body_of p f) args depth work) v (option_and_then (form_under p a) (body_of p f) ≡ Some v.form) (λ w is rest. rw (first_form (body_of p f) args depth work w is) (form_from p a w v rest)) visits
