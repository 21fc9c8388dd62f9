-- The values of parts on the stack.
use Rattle.std.proofs.Common.{◌≡◌, ℕ, ◌≤◌, List, [], ◌∷◌, ◌++◌, refl, sym, ◌∙◌, ap, subst}
use Rattle.std.specs.Prelude.{length, take, drop, Some, Result, Ok, Err}
use Rattle.std.proofs.lemmas.List.{append_assoc, drop-append-le}
use Rattle.std.proofs.Math.Seq.{drop-append_seam, take-append_seam}
use Rattle.spec_form.specs.declared.form.Form.{Form}
use Rattle.spec_meaning.specs.declared.value.Value.{Value}
use Rattle.spec_meaning.specs.declared.stop.Stop.{Stop}
use Rattle.spec_meaning.specs.Work.{Work, continued}
use Rattle.spec_meaning.specs.Evaluations.{eval_parts, last_apart}

abbrev Done : Type 0
Done = Result (List Value × ℕ) Stop

-- values, before which others lie
abbrev with_front : List Value → Done → Done
with_front front (Ok x) = Ok (front ++ x.0, x.1)
with_front front (Err stop) = Err stop

nothing_more : (xs : List Value) → xs ++ [] ≡ xs
nothing_more [] = refl
nothing_more (x ∷ xs) = ap (λ zs. x ∷ zs) (nothing_more xs)

-- what lies before the values of parts doesn't change them
regroup_on : (step : Form → Work Value) (front vs : List Value) (parts : List Form) (r : Result (Value × ℕ) Stop) → ((more : List Value) (left : ℕ) → eval_parts step (front ++ more) parts left ≡ with_front front (eval_parts step more parts left)) → continued r (λ v. eval_parts step (front ++ vs ++ v ∷ []) parts) ≡ with_front front (continued r (λ v. eval_parts step (vs ++ v ∷ []) parts))
regroup_on step front vs parts (Err stop) rest = refl
regroup_on step front vs parts (Ok x) rest = rw (append_assoc front vs (x.0 ∷ [])) (rest (vs ++ x.0 ∷ []) x.1)

regroup : (step : Form → Work Value) (front vs : List Value) (parts : List Form) (left : ℕ) → eval_parts step (front ++ vs) parts left ≡ with_front front (eval_parts step vs parts left)
regroup step front vs [] left = refl
regroup step front vs (part ∷ parts) left = regroup_on step front vs parts (step part left) (λ more left. regroup step front more parts left)

from_none : (step : Form → Work Value) (before : List Value) (parts : List Form) (left : ℕ) → eval_parts step before parts left ≡ with_front before (eval_parts step [] parts left)
from_none step before parts left = subst (λ (z : List Value). eval_parts step z parts left ≡ with_front before (eval_parts step [] parts left)) (nothing_more before) (regroup step before [] parts left)

abbrev values_of : Done → List Value
values_of (Ok x) = x.0
values_of (Err stop) = []

abbrev left_of : Done → ℕ
left_of (Ok x) = x.1
left_of (Err stop) = 0

valued_on : (before all : List Value) (left : ℕ) (r : Done) → with_front before r ≡ Ok (all, left) → (r ≡ Ok (drop (length before) all, left)) × (take (length before) all ≡ before)
valued_on before all left (Err stop) is = absurd cc
valued_on before all left (Ok x) is =
    let e : before ++ x.0 ≡ all = ap values_of is in
    let l : x.1 ≡ left = ap left_of is in
    (rw (← e, ← l, drop-append_seam before x.0) refl, rw (← e) (take-append_seam before x.0))

pub all_valued : (step : Form → Work Value) (before all : List Value) (parts : List Form) (left after start : ℕ) → eval_parts step before parts left ≡ Ok (all, after) → start ≡ length before → (eval_parts step [] parts left ≡ Ok (drop start all, after)) × (take start all ≡ before)
all_valued step before all parts left after start is at = rw at (valued_on before all after (eval_parts step [] parts left) (sym (from_none step before parts left) ∙ is))

stopped_on : (before : List Value) (stop : Stop) (r : Done) → with_front before r ≡ Err stop → r ≡ Err stop
stopped_on before stop (Err e) is = is
stopped_on before stop (Ok x) is = absurd cc

pub one_stopped : (step : Form → Work Value) (before : List Value) (parts : List Form) (left : ℕ) (stop : Stop) → eval_parts step before parts left ≡ Err stop → eval_parts step [] parts left ≡ Err stop
one_stopped step before parts left stop is = stopped_on before stop (eval_parts step [] parts left) (sym (from_none step before parts left) ∙ is)

-- what is bound on top of the variables is a scope of its own, or widens the scope below it
pub own_scope : (variables more : List Value) (base : ℕ) → base ≡ length variables → drop base (variables ++ more) ≡ more
own_scope variables more base at = rw at (drop-append_seam variables more)

pub wider_scope : (variables more : List Value) (base : ℕ) → base ≤ length variables → drop base (variables ++ more) ≡ drop base variables ++ more
wider_scope variables more base within = drop-append-le base variables more within

pub taken_off : (variables more : List Value) (bound : ℕ) → bound ≡ length variables → take bound (variables ++ more) ≡ variables
taken_off variables more bound at = rw at (take-append_seam variables more)

before_last : (rest : List Form) (last : Form) → last_apart (rest ++ last ∷ []) ≡ Some (rest, last)
before_last [] last = refl
before_last (part ∷ []) last = refl
before_last (part ∷ next ∷ rest) last = rw (before_last (next ∷ rest) last) refl

pub apart : (parts rest : List Form) (last : Form) → parts ≡ rest ++ last ∷ [] → last_apart parts ≡ Some (rest, last)
apart parts rest last is = rw is (before_last rest last)
