-- What isn't used of the visits is left over.
use Rattle.std.proofs.Common.{◌≡◌, ℕ, zero, suc, ◌+◌, Bool, true, false, cond, List, refl, arith}
use Rattle.std.specs.Prelude.{Result, Ok, Err}
use Rattle.spec_form.specs.declared.form.Form.{Form, out-Form}
use Rattle.spec_form.specs.declared.program.Program.{Program}
use Rattle.spec_meaning.specs.declared.value.Value.{Value}
use Rattle.spec_meaning.specs.declared.value.Why.{Why}
use Rattle.spec_meaning.specs.declared.stop.Stop.{Stop}
use Rattle.spec_meaning.specs.declared.stop.Stop.TheVariants.{Outside, MoreDepth, MoreWork}
use Rattle.spec_meaning.specs.Work.{Work, continued, visit, valued}
use Rattle.spec_meaning.specs.Evaluations.{eval_form, eval_kind, is_too_deep, kind_of, too_deep}
use Rattle.spec_meaning.specs.Visits.{Step}
use Rattle.spec_meaning.specs.VisitLaws.{IsWith, MoreWorkIsLeftOver}
use Rattle.spec_meaning.proofs.Plans.{Plan, Done, Skip, Then, run, plan, kind_runs}

abbrev IsWide : {A : Type 0} → ℕ → Work A → Type 0
IsWide more work = (left : ℕ) → IsWith more (work left) (work (left + more))

with_next : (more : ℕ) (next : Value → Work Value) (narrow wide : Result (Value × ℕ) Stop) → ((v : Value) → IsWide more (next v)) → IsWith more narrow wide → IsWith more (continued narrow next) (continued wide next)
with_next more next (Ok x) wide rest is = rw is (rest x.0 x.1)
with_next more next (Err (Outside at why)) wide rest is = rw is refl
with_next more next (Err MoreDepth) wide rest is = rw is refl
with_next more next (Err MoreWork) wide rest is = tt

valued_wide : (more at : ℕ) (r : Result Value Why) → IsWide more (valued at r)
valued_wide more at (Ok v) left = refl
valued_wide more at (Err why) left = refl

plan_wide : (more : ℕ) (step : Step) (at : ℕ) (p : Plan) → ((vs : List Value) (f : Form) → IsWide more (step vs f)) → IsWide more (run step at p)
plan_wide more step at (Done r) steps left = valued_wide more at r left
plan_wide more step at (Skip p) steps left = plan_wide more step at p steps left
plan_wide more step at (Then vs f next) steps left = with_next more (λ v. run step at (next v)) (step vs f left) (step vs f (left + more)) (λ v left. plan_wide more step at (next v) steps left) (steps vs f left)

visit_wide : (more : ℕ) (work : Work Value) → IsWide more work → IsWide more (visit work)
visit_wide more work wide zero = tt
visit_wide more work wide (suc left) = let e : suc left + more ≡ suc (left + more) = omega arith in rw e (wide left)

kind_wide : (more : ℕ) (p : Program) (step : Step) (vs : List Value) (f : Form) → ((vs : List Value) (f : Form) → IsWide more (step vs f)) → IsWide more (eval_kind p step vs (out-Form f).at (kind_of f))
kind_wide more p step vs f steps left = rw (kind_runs p step vs (out-Form f).at (kind_of f) left, kind_runs p step vs (out-Form f).at (kind_of f) (left + more)) (plan_wide more step (out-Form f).at (plan p vs (kind_of f)) steps left)

outermost_by : (more : ℕ) (deep : Bool) (work : Work Value) → IsWide more work → (left : ℕ) → IsWith more (cond deep (Err MoreDepth) (visit work left)) (cond deep (Err MoreDepth) (visit work (left + more)))
outermost_by more true work wide left = refl
outermost_by more false work wide left = visit_wide more work wide left

pub form_wide : (more : ℕ) (p : Program) (depth : ℕ) (vs : List Value) (f : Form) → IsWide more (eval_form p depth vs f)
unfolding eval_form
form_wide more p zero vs f left = outermost_by more (is_too_deep 0 (kind_of f)) _ (kind_wide more p too_deep vs f (λ vs f left. refl)) left
form_wide more p (suc depth) vs f left = visit_wide more _ (kind_wide more p (eval_form p depth) vs f (form_wide more p depth)) left

pub left_over : MoreWorkIsLeftOver
left_over p depth vs f left more = form_wide more p depth vs f left
