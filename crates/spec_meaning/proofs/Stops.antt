-- Where an evaluation stops.
use Rattle.std.proofs.Common.{◌≡◌, ℕ, zero, suc, ◌-◌, ◌<◌, ◌≤◌, Bool, true, false, cond, List, [], ◌∷◌, ◌++◌, length, Option, Some, None, refl, sym, ap, ◌∙◌, subst, inl, inr, arith}
use Rattle.std.specs.Prelude.{Result, Ok, Err, ◌⊎◌, slice_get, option_map}
use Rattle.std.specs.Option.{option_and_then}
use Rattle.std.proofs.lemmas.Option.{slice_get_cases}
use Rattle.spec_form.specs.declared.builtin.Builtin.{Builtin}
use Rattle.spec_form.specs.declared.form.Form.{Form, out-Form}
use Rattle.spec_form.specs.declared.form.FormKind.{FormKind}
use Rattle.spec_form.specs.declared.form.FormKind.TheOpen.{FormKind-F}
use Rattle.spec_form.specs.declared.form.FormKind.TheOpen as kind
use Rattle.spec_form.specs.declared.program.Program.{Program}
use Rattle.spec_form.specs.declared.program.Function.{Function}
use Rattle.spec_form.specs.declared.program.NamedConstant.{NamedConstant}
use Rattle.spec_form.specs.declared.program.FunId.{FunId}
use Rattle.spec_meaning.specs.declared.value.Value.{Value}
use Rattle.spec_meaning.specs.declared.value.Value.TheVariants.{T}
use Rattle.spec_meaning.specs.declared.value.Why.{Why}
use Rattle.spec_meaning.specs.declared.value.Why.TheVariants.{NotANumber}
use Rattle.spec_meaning.specs.declared.stop.Stop.{Stop}
use Rattle.spec_meaning.specs.declared.stop.Stop.TheVariants.{Outside, MoreDepth, MoreWork}
use Rattle.spec_meaning.specs.Checks.{is_nil}
use Rattle.spec_meaning.specs.Work.{Work, continued, valued}
use Rattle.spec_meaning.specs.Evaluations.{eval_form, eval_parts, eval_body, call_value, is_too_deep, kind_of, last_apart}
use Rattle.spec_meaning.specs.Visits.{Address, Visit, Step, See, after, seen, child, visit_from, first_visit, value_at}
use Rattle.spec_meaning.specs.VisitLaws.{HasNoValue, StopsAt, StopAtAVisit, evaluated}
use Rattle.spec_meaning.proofs.Depths.{too_deep_ends, without_work, entered}
use Rattle.spec_meaning.proofs.Plans.{Plan, Done, Skip, Then, finish, run, sight, plan, parts_plan, if_plan, let_plan, each_plan, let_star_plan, cond_plan, and_plan, or_plan, variable_plan, constant_plan, body_plan, kind_runs, kind_sees, parts_run}
use Rattle.spec_meaning.proofs.Walks.{closed_child}
use Rattle.spec_meaning.proofs.Children.{from_some}

tested : (b : Bool) → (b ≡ true) ⊎ (b ≡ false)
tested true = inl refl
tested false = inr refl

-- ---- a visited form may be open, and a visit is left for it

record IsOpen (v : Visit) : Type 0 where
  shallow : is_too_deep v.depth (kind_of v.form) ≡ false
  some : v.left ≡ 0 → ⊥

-- what is seen is open, and has the value of its form
record IsSeenSo (p : Program) (depth : ℕ) (vs : List Value) (f : Form) (left : ℕ) (v : Visit) : Type 0 where
  opens : IsOpen v
  value : value_at p v ≡ eval_form p depth vs f left
  depth_is : v.depth ≡ depth

seen_if : (p : Program) (depth : ℕ) (vs : List Value) (f : Form) (left : ℕ) (deep : Bool) (v : Visit) → is_too_deep depth (kind_of f) ≡ deep → cond deep None (Some (record { form = f; variables = vs; depth = depth; left = suc left })) ≡ Some v → IsSeenSo p depth vs f (suc left) v
seen_if p depth vs f left true v is e = absurd cc
seen_if p depth vs f left false v is e =
    let same : record { form = f; variables = vs; depth = depth; left = suc left } ≡ v = cc in
    subst (λ (w : Visit). IsSeenSo p depth vs f (suc left) w) same (record { opens = record { shallow = is; some = λ none. cc }; value = refl; depth_is = refl })

seen_so : (p : Program) (depth : ℕ) (vs : List Value) (f : Form) (left : ℕ) (v : Visit) → seen depth vs f left ≡ Some v → IsSeenSo p depth vs f left v
seen_so p depth vs f zero v e = absurd cc
seen_so p depth vs f (suc left) v e = seen_if p depth vs f left (is_too_deep depth (kind_of f)) v refl e

value_by_plan : (p : Program) (v : Visit) → IsOpen v → value_at p v ≡ run (eval_form p (v.depth - 1)) (out-Form v.form).at (plan p v.variables (kind_of v.form)) (v.left - 1)
value_by_plan p v o = entered p v.depth v.variables v.form v.left o.shallow o.some ∙ kind_runs p (eval_form p (v.depth - 1)) v.variables (out-Form v.form).at (kind_of v.form) (v.left - 1)

child_by_plan : (p : Program) (v : Visit) (k : ℕ) → child p v k ≡ sight (eval_form p (v.depth - 1)) (seen (v.depth - 1)) (plan p v.variables (kind_of v.form)) k (v.left - 1)
child_by_plan p v k = kind_sees p (eval_form p (v.depth - 1)) (seen (v.depth - 1)) v.variables (kind_of v.form) k (v.left - 1)

-- ---- what a visited form stops for, the whole stops for

behind_stops : (r : Result (Value × ℕ) Stop) (see : Value → ℕ → Option Visit) (go : Value → Work Value) (w : Visit) (stop : Stop) → ((v : Value) (left : ℕ) → see v left ≡ Some w → go v left ≡ Err stop) → after r see ≡ Some w → continued r go ≡ Err stop
behind_stops (Ok x) see go w stop rest e = rest x.0 x.1 e
behind_stops (Err s) see go w stop rest e = absurd cc

-- what is seen in a plan is what is seen of a form, and stops the plan where it stops
sight_stops : (p : Program) (depth at : ℕ) (plan : Plan) (k left : ℕ) (w : Visit) (stop : Stop) → value_at p w ≡ Err stop → sight (eval_form p depth) (seen depth) plan k left ≡ Some w → run (eval_form p depth) at plan left ≡ Err stop
sight_stops p depth at (Done r) k left w stop is e = absurd cc
sight_stops p depth at (Skip plan) zero left w stop is e = absurd cc
sight_stops p depth at (Skip plan) (suc k) left w stop is e = sight_stops p depth at plan k left w stop is e
sight_stops p depth at (Then vs f next) zero left w stop is e =
    let same : eval_form p depth vs f left ≡ Err stop = sym ((seen_so p depth vs f left w e).value) ∙ is in
    rw same refl
sight_stops p depth at (Then vs f next) (suc k) left w stop is e = behind_stops (eval_form p depth vs f left) (λ v left. sight (eval_form p depth) (seen depth) (next v) k left) (λ v. run (eval_form p depth) at (next v)) w stop (λ v left seen. sight_stops p depth at (next v) k left w stop is seen) e

behind_open : (r : Result (Value × ℕ) Stop) (see : Value → ℕ → Option Visit) (w : Visit) → ((v : Value) (left : ℕ) → see v left ≡ Some w → IsOpen w) → after r see ≡ Some w → IsOpen w
behind_open (Ok x) see w rest e = rest x.0 x.1 e
behind_open (Err s) see w rest e = absurd cc

sight_open : (p : Program) (depth : ℕ) (plan : Plan) (k left : ℕ) (w : Visit) → sight (eval_form p depth) (seen depth) plan k left ≡ Some w → IsOpen w
sight_open p depth (Done r) k left w e = absurd cc
sight_open p depth (Skip plan) zero left w e = absurd cc
sight_open p depth (Skip plan) (suc k) left w e = sight_open p depth plan k left w e
sight_open p depth (Then vs f next) zero left w e = (seen_so p depth vs f left w e).opens
sight_open p depth (Then vs f next) (suc k) left w e = behind_open (eval_form p depth vs f left) (λ v left. sight (eval_form p depth) (seen depth) (next v) k left) w (λ v left seen. sight_open p depth (next v) k left w seen) e

whole_from : (p : Program) (a : Address) (u v : Visit) (stop : Stop) → IsOpen u → visit_from p a u ≡ Some v → value_at p v ≡ Err stop → value_at p u ≡ Err stop
whole_from p [] u v stop o e is = let same : u ≡ v = cc in rw same is
whole_from p (k ∷ a) u v stop o e is = from_some p a (child p u k) v (value_at p u ≡ Err stop) (λ w there rest.
    let seen_there : sight (eval_form p (u.depth - 1)) (seen (u.depth - 1)) (plan p u.variables (kind_of u.form)) k (u.left - 1) ≡ Some w = sym (child_by_plan p u k) ∙ there in
    let below : value_at p w ≡ Err stop = whole_from p a w v stop (sight_open p (u.depth - 1) (plan p u.variables (kind_of u.form)) k (u.left - 1) w seen_there) rest is in
    value_by_plan p u o ∙ sight_stops p (u.depth - 1) (out-Form u.form).at (plan p u.variables (kind_of u.form)) k (u.left - 1) w stop below seen_there) e

whole_by : (p : Program) (o : Option Function) (args : List Value) (depth work : ℕ) (a : Address) (v : Visit) (stop : Stop) → option_and_then (visit_from p a) (first_visit (option_map (λ f. f.body) o) args depth work) ≡ Some v → value_at p v ≡ Err stop → eval_body (eval_form p depth) 0 o args work ≡ Err stop
whole_by p None args depth work a v stop e is = absurd cc
whole_by p (Some f) args depth work a v stop e is = from_some p a (seen depth args f.body work) v (eval_form p depth args f.body work ≡ Err stop) (λ w there rest. sym ((seen_so p depth args f.body work w there).value) ∙ whole_from p a w v stop ((seen_so p depth args f.body work w there).opens) rest is) e

-- ---- an evaluation that ends outside ends at a visited form

-- each cause of a plan's own
abbrev AllCauses : (Why → Type 0) → Plan → Type 0
AllCauses P (Done (Ok v)) = Unit {0}
AllCauses P (Done (Err why)) = P why
AllCauses P (Skip plan) = AllCauses P plan
AllCauses P (Then vs f next) = (v : Value) → AllCauses P (next v)

abbrev IsBad : Why → Type 0
IsBad why = why ≡ NotANumber

parts_causes : (P : Why → Type 0) (vs values : List Value) (parts : List Form) (last : List Value → Plan) → ((xs : List Value) → AllCauses P (last xs)) → AllCauses P (parts_plan vs last values parts)
parts_causes P vs values [] last rest = rest values
parts_causes P vs values (part ∷ parts) last rest = λ v. parts_causes P vs (values ++ v ∷ []) parts last rest

chosen_causes : (vs : List Value) (one other : Form) (nil : Bool) → AllCauses IsBad (cond nil (Skip (Then vs other finish)) (Then vs one finish))
chosen_causes vs one other true = λ v. tt
chosen_causes vs one other false = λ v. tt

if_causes : (vs : List Value) (parts : List Form) → AllCauses IsBad (if_plan vs parts)
if_causes vs [] = refl
if_causes vs (test ∷ []) = refl
if_causes vs (test ∷ one ∷ []) = refl
if_causes vs (test ∷ one ∷ other ∷ []) = λ v. chosen_causes vs one other (is_nil v)
if_causes vs (test ∷ one ∷ other ∷ more ∷ parts) = refl

let_causes : (vs : List Value) (o : Option (List Form × Form)) → AllCauses IsBad (let_plan vs o)
let_causes vs None = refl
let_causes vs (Some (bindings, body)) = parts_causes IsBad vs [] bindings (λ values. Then (vs ++ values) body finish) (λ xs v. tt)

each_causes : (vs : List Value) (bindings : List Form) (body : Form) → AllCauses IsBad (each_plan vs bindings body)
each_causes vs [] body = λ v. tt
each_causes vs (binding ∷ bindings) body = λ v. each_causes (vs ++ v ∷ []) bindings body

let_star_causes : (vs : List Value) (o : Option (List Form × Form)) → AllCauses IsBad (let_star_plan vs o)
let_star_causes vs None = refl
let_star_causes vs (Some (bindings, body)) = each_causes vs bindings body

clause_causes : (vs : List Value) (value : Form) (clauses : List Form) (nil : Bool) → AllCauses IsBad (cond_plan vs clauses) → AllCauses IsBad (cond nil (Skip (cond_plan vs clauses)) (Then vs value finish))
clause_causes vs value clauses true rest = rest
clause_causes vs value clauses false rest = λ v. tt

cond_causes : (vs : List Value) (clauses : List Form) → AllCauses IsBad (cond_plan vs clauses)
cond_causes vs [] = tt
cond_causes vs (test ∷ []) = refl
cond_causes vs (test ∷ value ∷ clauses) = λ v. clause_causes vs value clauses (is_nil v) (cond_causes vs clauses)

and_later : (vs : List Value) (v : Value) (parts : List Form) (nil : Bool) → AllCauses IsBad (and_plan vs v parts) → AllCauses IsBad (cond nil (finish v) (and_plan vs v parts))
and_later vs v parts true rest = tt
and_later vs v parts false rest = rest

and_causes : (vs : List Value) (value : Value) (parts : List Form) → AllCauses IsBad (and_plan vs value parts)
and_causes vs value [] = tt
and_causes vs value (part ∷ parts) = λ v. and_later vs v parts (is_nil v) (and_causes vs v parts)

or_later : (vs : List Value) (v : Value) (parts : List Form) (nil : Bool) → AllCauses IsBad (or_plan vs parts) → AllCauses IsBad (cond nil (or_plan vs parts) (finish v))
or_later vs v parts true rest = rest
or_later vs v parts false rest = tt

or_causes : (vs : List Value) (parts : List Form) → AllCauses IsBad (or_plan vs parts)
or_causes vs [] = tt
or_causes vs (part ∷ parts) = λ v. or_later vs v parts (is_nil v) (or_causes vs parts)

variable_causes : (o : Option Value) → AllCauses IsBad (variable_plan o)
variable_causes None = refl
variable_causes (Some v) = tt

constant_causes : (o : Option NamedConstant) → AllCauses IsBad (constant_plan o)
constant_causes None = refl
constant_causes (Some c) = λ v. tt

body_causes : (o : Option Function) (args : List Value) → AllCauses IsBad (body_plan o args)
body_causes None args = refl
body_causes (Some f) args = λ v. tt

-- a child of a plan that stops
record ChildStops (step : Step) (plan : Plan) (left : ℕ) (stop : Stop) : Type 0 where
  place : ℕ
  variables : List Value
  form : Form
  here : ℕ
  stops : step variables form here ≡ Err stop
  sees : (see : See) → sight step see plan place left ≡ see variables form here

child_after : (step : Step) (vs : List Value) (f : Form) (next : Value → Plan) (left : ℕ) (x : Value) (m : ℕ) (stop : Stop) → step vs f left ≡ Ok (x, m) → ChildStops step (next x) m stop → ChildStops step (Then vs f next) left stop
child_after step vs f next left x m stop is c = record {
  place = suc c.place;
  variables = c.variables;
  form = c.form;
  here = c.here;
  stops = c.stops;
  sees = λ see. rw is (c.sees see);
}

done_stops : (P : Why → Type 0) (at : ℕ) (r : Result Value Why) (left at' : ℕ) (why : Why) → AllCauses P (Done r) → valued at r left ≡ Err (Outside at' why) → (at ≡ at') × P why
done_stops P at (Ok v) left at' why all e = absurd cc
done_stops P at (Err w) left at' why all e = let same : w ≡ why = cc in (cc, subst P same all)

then_stops : (P : Why → Type 0) (step : Step) (at : ℕ) (vs : List Value) (f : Form) (next : Value → Plan) (left at' : ℕ) (why : Why) (r : Result (Value × ℕ) Stop) → step vs f left ≡ r → ((v : Value) (left : ℕ) → run step at (next v) left ≡ Err (Outside at' why) → ((at ≡ at') × P why) ⊎ ChildStops step (next v) left (Outside at' why)) → continued r (λ v. run step at (next v)) ≡ Err (Outside at' why) → ((at ≡ at') × P why) ⊎ ChildStops step (Then vs f next) left (Outside at' why)
then_stops P step at vs f next left at' why (Ok x) is rest e = elim (rest x.0 x.1 e) [ inl own ↦ inl own | inr c ↦ inr (child_after step vs f next left x.0 x.1 (Outside at' why) is c) ]
then_stops P step at vs f next left at' why (Err stop) is rest e = inr (record { place = 0; variables = vs; form = f; here = left; stops = is ∙ e; sees = λ see. refl })

plan_stops : (P : Why → Type 0) (step : Step) (at : ℕ) (plan : Plan) (left at' : ℕ) (why : Why) → AllCauses P plan → run step at plan left ≡ Err (Outside at' why) → ((at ≡ at') × P why) ⊎ ChildStops step plan left (Outside at' why)
plan_stops P step at (Done r) left at' why all e = inl (done_stops P at r left at' why all e)
plan_stops P step at (Skip plan) left at' why all e = elim (plan_stops P step at plan left at' why all e) [ inl own ↦ inl own | inr c ↦ inr (record { place = suc c.place; variables = c.variables; form = c.form; here = c.here; stops = c.stops; sees = c.sees }) ]
plan_stops P step at (Then vs f next) left at' why all e = then_stops P step at vs f next left at' why (step vs f left) refl (λ v left e. plan_stops P step at (next v) left at' why (all v) e) e

-- why a kind has no value though its parts have theirs
abbrev Cause : Step → List Value → ℕ → Why → FormKind-F FormKind Form → Type 0
Cause step vs left why (kind.Builtin b parts) = (values : List Value) × (m : ℕ) × (eval_parts (step vs) [] parts left ≡ Ok (values, m)) × (call_value b values ≡ Err why)
Cause step vs left why _ = why ≡ NotANumber

table_says : (at at' : ℕ) (r : Result Value Why) (left : ℕ) (why : Why) → valued at r left ≡ Err (Outside at' why) → at ≡ at'
table_says at at' (Ok v) left why e = absurd cc
table_says at at' (Err w) left why e = cc

said : (at at' : ℕ) (r : Result Value Why) (left : ℕ) (why : Why) → valued at r left ≡ Err (Outside at' why) → r ≡ Err why
said at at' (Ok v) left why e = absurd cc
said at at' (Err w) left why e = let same : w ≡ why = cc in ap (λ z. Err z) same

-- what is done with the values of parts isn't seen
same_after : (r : Result (Value × ℕ) Stop) (one other : Value → ℕ → Option Visit) → ((v : Value) (left : ℕ) → one v left ≡ other v left) → after r one ≡ after r other
same_after (Ok x) one other same = same x.0 x.1
same_after (Err stop) one other same = refl

same_parts : (step : Step) (see : See) (vs : List Value) (call : List Value → Result Value Why) (values : List Value) (parts : List Form) (k left : ℕ) → sight step see (parts_plan vs (λ values. Done (call values)) values parts) k left ≡ sight step see (parts_plan vs (λ values. finish T) values parts) k left
same_parts step see vs call values [] k left = refl
same_parts step see vs call values (part ∷ parts) zero left = refl
same_parts step see vs call values (part ∷ parts) (suc k) left = same_after (step vs part left) _ _ (λ v left. same_parts step see vs call (values ++ v ∷ []) parts k left)

-- the table's own cause, or a part that stops
table_on : (step : Step) (vs : List Value) (b : Builtin) (parts : List Form) (at left at' : ℕ) (why : Why) (r : Result (List Value × ℕ) Stop) → eval_parts (step vs) [] parts left ≡ r → continued r (λ values. valued at (call_value b values)) ≡ Err (Outside at' why) → ((at ≡ at') × Cause step vs left why (kind.Builtin b parts)) ⊎ ChildStops step (parts_plan vs (λ values. Done (call_value b values)) [] parts) left (Outside at' why)
table_on step vs b parts at left at' why (Ok x) is e = inl (table_says at at' (call_value b x.0) x.1 why e, (x.0, x.1, is, said at at' (call_value b x.0) x.1 why e))
table_on step vs b parts at left at' why (Err stop) is e =
    let run_stops : run step at (parts_plan vs (λ values. finish T) [] parts) left ≡ Err (Outside at' why) = sym (parts_run step at vs [] parts (λ values. valued at (Ok T)) (λ values. finish T) left (λ values left. refl)) ∙ rw is e in
    elim (plan_stops (λ why. ⊥) step at (parts_plan vs (λ values. finish T) [] parts) left at' why (parts_causes (λ why. ⊥) vs [] parts (λ values. finish T) (λ xs. tt)) run_stops) [
      | inl own ↦ absurd own.1
      | inr c ↦ inr (record { place = c.place; variables = c.variables; form = c.form; here = c.here; stops = c.stops; sees = λ see. same_parts step see vs (λ values. call_value b values) [] parts c.place left ∙ c.sees see })
    ]

kind_stops : (p : Program) (step : Step) (vs : List Value) (k : FormKind-F FormKind Form) (at left at' : ℕ) (why : Why) → run step at (plan p vs k) left ≡ Err (Outside at' why) → ((at ≡ at') × Cause step vs left why k) ⊎ ChildStops step (plan p vs k) left (Outside at' why)
kind_stops p step vs (kind.Number n) at left at' why e = plan_stops IsBad step at (plan p vs (kind.Number n)) left at' why tt e
kind_stops p step vs kind.T at left at' why e = plan_stops IsBad step at (plan p vs kind.T) left at' why tt e
kind_stops p step vs (kind.Quoted zs) at left at' why e = plan_stops IsBad step at (plan p vs (kind.Quoted zs)) left at' why tt e
kind_stops p step vs (kind.Variable place) at left at' why e = plan_stops IsBad step at (plan p vs (kind.Variable place)) left at' why (variable_causes (slice_get vs place)) e
kind_stops p step vs (kind.Constant c) at left at' why e = plan_stops IsBad step at (plan p vs (kind.Constant c)) left at' why (constant_causes (slice_get p.constants c.0)) e
kind_stops p step vs (kind.If parts) at left at' why e = plan_stops IsBad step at (plan p vs (kind.If parts)) left at' why (if_causes vs parts) e
kind_stops p step vs (kind.Let parts) at left at' why e = plan_stops IsBad step at (plan p vs (kind.Let parts)) left at' why (let_causes vs (last_apart parts)) e
kind_stops p step vs (kind.LetStar parts) at left at' why e = plan_stops IsBad step at (plan p vs (kind.LetStar parts)) left at' why (let_star_causes vs (last_apart parts)) e
kind_stops p step vs (kind.Cond parts) at left at' why e = plan_stops IsBad step at (plan p vs (kind.Cond parts)) left at' why (cond_causes vs parts) e
kind_stops p step vs (kind.And parts) at left at' why e = plan_stops IsBad step at (plan p vs (kind.And parts)) left at' why (and_causes vs T parts) e
kind_stops p step vs (kind.Or parts) at left at' why e = plan_stops IsBad step at (plan p vs (kind.Or parts)) left at' why (or_causes vs parts) e
kind_stops p step vs (kind.Builtin b parts) at left at' why e = table_on step vs b parts at left at' why (eval_parts (step vs) [] parts left) refl (parts_run step at vs [] parts (λ values. valued at (call_value b values)) (λ values. Done (call_value b values)) left (λ values left. refl) ∙ e)
kind_stops p step vs (kind.Call f parts) at left at' why e = plan_stops IsBad step at (plan p vs (kind.Call f parts)) left at' why (parts_causes IsBad vs [] parts (body_plan (slice_get p.functions f.0)) (body_causes (slice_get p.functions f.0))) e

-- a form that stops outside was visited
record IsVisitedStop (p : Program) (depth : ℕ) (vs : List Value) (f : Form) (left : ℕ) (stop : Stop) : Type 0 where
  visit : Visit
  sees : seen depth vs f left ≡ Some visit
  opens : IsOpen visit
  depth_is : visit.depth ≡ depth
  stops : value_at p visit ≡ Err stop

shallow_stop : (p : Program) (depth : ℕ) (vs : List Value) (f : Form) (left at : ℕ) (why : Why) → is_too_deep depth (kind_of f) ≡ false → eval_form p depth vs f left ≡ Err (Outside at why) → IsVisitedStop p depth vs f left (Outside at why)
shallow_stop p depth vs f zero at why shallow e = absurd (let no_end : Err MoreWork ≡ Err (Outside at why) = sym (without_work p depth vs f 0 shallow refl) ∙ e in cc)
shallow_stop p depth vs f (suc left) at why shallow e = record {
  visit = record { form = f; variables = vs; depth = depth; left = suc left };
  sees = rw shallow refl;
  opens = record { shallow = shallow; some = λ none. cc };
  depth_is = refl;
  stops = e;
}

stop_visited : (p : Program) (depth : ℕ) (vs : List Value) (f : Form) (left at : ℕ) (why : Why) → eval_form p depth vs f left ≡ Err (Outside at why) → IsVisitedStop p depth vs f left (Outside at why)
stop_visited p depth vs f left at why e = elim (tested (is_too_deep depth (kind_of f))) [
  | inl deep ↦ absurd (let no_end : Err MoreDepth ≡ Err (Outside at why) = sym (too_deep_ends p depth vs f left deep) ∙ e in cc)
  | inr shallow ↦ shallow_stop p depth vs f left at why shallow e
]

record Found (p : Program) (u : Visit) (at : ℕ) (why : Why) : Type 0 where
  address : Address
  visit : Visit
  visits : visit_from p address u ≡ Some visit
  offset : (out-Form visit.form).at ≡ at
  stops : value_at p visit ≡ Err (Outside at why)
  cause : HasNoValue p visit why (kind_of visit.form)

cause_is : (p : Program) (u : Visit) (why : Why) (k : FormKind-F FormKind Form) → Cause (eval_form p (u.depth - 1)) u.variables (u.left - 1) why k → HasNoValue p u why k
cause_is p u why (kind.Number n) c = c
cause_is p u why kind.T c = c
cause_is p u why (kind.Quoted zs) c = c
cause_is p u why (kind.Variable place) c = c
cause_is p u why (kind.Constant n) c = c
cause_is p u why (kind.If parts) c = c
cause_is p u why (kind.Let parts) c = c
cause_is p u why (kind.LetStar parts) c = c
cause_is p u why (kind.Cond parts) c = c
cause_is p u why (kind.And parts) c = c
cause_is p u why (kind.Or parts) c = c
cause_is p u why (kind.Builtin b parts) c = c
cause_is p u why (kind.Call f parts) c = c

child_found : (p : Program) (u w : Visit) (k at : ℕ) (why : Why) → child p u k ≡ Some w → Found p w at why → Found p u at why
child_found p u w k at why is found = record { address = k ∷ found.address; visit = found.visit; visits = rw is found.visits; offset = found.offset; stops = found.stops; cause = found.cause }

none_closed : (p : Program) (u w : Visit) (k : ℕ) → u.depth ≡ 0 → IsOpen u → child p u k ≡ Some w → ⊥
none_closed p u w k none o is =
    let closed : is_too_deep 0 (kind_of u.form) ≡ false = subst (λ (d : ℕ). is_too_deep d (kind_of u.form) ≡ false) none o.shallow in
    let no_child : None ≡ Some w = sym (closed_child p (eval_form p (u.depth - 1)) (seen (u.depth - 1)) u.variables (kind_of u.form) k (u.left - 1) closed) ∙ is in
    cc

found_child : (p : Program) (u : Visit) (at : ℕ) (why : Why) → IsOpen u → (c : ChildStops (eval_form p (u.depth - 1)) (plan p u.variables (kind_of u.form)) (u.left - 1) (Outside at why)) → (v : IsVisitedStop p (u.depth - 1) c.variables c.form c.here (Outside at why)) → child p u c.place ≡ Some v.visit
found_child p u at why o c v = child_by_plan p u c.place ∙ c.sees (seen (u.depth - 1)) ∙ v.sees

found_from : (p : Program) (n : ℕ) (u : Visit) (at : ℕ) (why : Why) → IsOpen u → u.depth ≤ n → value_at p u ≡ Err (Outside at why) → Found p u at why
found_from p zero u at why o within e = elim (kind_stops p (eval_form p (u.depth - 1)) u.variables (kind_of u.form) (out-Form u.form).at (u.left - 1) at why (sym (value_by_plan p u o) ∙ e)) [
  | inl own ↦ record { address = []; visit = u; visits = refl; offset = own.0; stops = e; cause = cause_is p u why (kind_of u.form) own.1 }
  | inr c ↦ let v : IsVisitedStop p (u.depth - 1) c.variables c.form c.here (Outside at why) = stop_visited p (u.depth - 1) c.variables c.form c.here at why c.stops in absurd (none_closed p u v.visit c.place (omega (arith, within)) o (found_child p u at why o c v))
]
found_from p (suc n) u at why o within e = elim (kind_stops p (eval_form p (u.depth - 1)) u.variables (kind_of u.form) (out-Form u.form).at (u.left - 1) at why (sym (value_by_plan p u o) ∙ e)) [
  | inl own ↦ record { address = []; visit = u; visits = refl; offset = own.0; stops = e; cause = cause_is p u why (kind_of u.form) own.1 }
  | inr c ↦ let v : IsVisitedStop p (u.depth - 1) c.variables c.form c.here (Outside at why) = stop_visited p (u.depth - 1) c.variables c.form c.here at why c.stops in child_found p u v.visit c.place at why (found_child p u at why o c v) (found_from p n v.visit at why v.opens (omega (arith, v.depth_is, within)) v.stops)
]

outside_by : (p : Program) (f : FunId) (args : List Value) (depth work at : ℕ) (why : Why) (g : Function) → slice_get p.functions f.0 ≡ Some g → eval_form p depth args g.body work ≡ Err (Outside at why) → StopsAt p f args depth work at why
outside_by p f args depth work at why g is e =
    let v : IsVisitedStop p depth args g.body work (Outside at why) = stop_visited p depth args g.body work at why e in
    let found : Found p v.visit at why = found_from p v.visit.depth v.visit at why v.opens (omega arith) v.stops in
    record { address = found.address; visit = found.visit; visits = rw (is, v.sees) found.visits; offset = found.offset; stops = found.stops; cause = found.cause }

outside : (p : Program) (f : FunId) (args : List Value) (depth work at : ℕ) (why : Why) → f.0 < length p.functions → evaluated p f args depth work ≡ Err (Outside at why) → StopsAt p f args depth work at why
outside p f args depth work at why within e = elim ((slice_get_cases p.functions f.0).1) [
  | inl there ↦ outside_by p f args depth work at why there.0 there.2 (rw there.2 at e)
  | inr past ↦ absurd (omega (arith, past.0, within))
]

pub stops_at : StopAtAVisit
stops_at = record { outside = outside; whole = λ p f args depth work a v stop visits is. whole_by p (slice_get p.functions f.0) args depth work a v stop visits is }
