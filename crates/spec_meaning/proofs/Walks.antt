-- The addresses that an evaluation visits, in their order.
use Rattle.std.proofs.Common.{◌≡◌, ℕ, zero, suc, ◌+◌, ◌-◌, Bool, true, false, cond, List, [], ◌∷◌, ◌++◌, length, Option, Some, None, refl, sym, ap, ◌∙◌, subst, inl, inr, arith}
use Rattle.std.specs.Prelude.{Result, Ok, Err, slice_get, option_map}
use Rattle.std.specs.Option.{option_and_then}
use Rattle.std.proofs.lemmas.List.{append_assoc}
use Rattle.spec_form.specs.declared.form.Form.{Form, out-Form}
use Rattle.spec_form.specs.declared.form.FormKind.{FormKind}
use Rattle.spec_form.specs.declared.form.FormKind.TheOpen.{FormKind-F}
use Rattle.spec_form.specs.declared.form.FormKind.TheOpen as kind
use Rattle.spec_form.specs.declared.program.Program.{Program}
use Rattle.spec_form.specs.declared.program.Function.{Function}
use Rattle.spec_form.specs.declared.program.FunId.{FunId}
use Rattle.spec_meaning.specs.declared.value.Value.{Value}
use Rattle.spec_meaning.specs.declared.value.Why.{Why}
use Rattle.spec_meaning.specs.declared.stop.Stop.{Stop}
use Rattle.spec_meaning.specs.declared.stop.Stop.TheVariants.{Outside, MoreDepth, MoreWork}
use Rattle.spec_meaning.specs.Work.{Work, continued, visit, valued}
use Rattle.spec_meaning.specs.Evaluations.{eval_form, eval_kind, eval_body, is_too_deep, kind_of, too_deep}
use Rattle.spec_meaning.specs.Visits.{Address, Visit, Step, See, after, seen, child, child_visit, visit_from, first_visit, IsVisited, IsCounted}
use Rattle.spec_meaning.specs.VisitLaws.{IsWith, IsAmong, AreDifferent, UsesUp, AreVisited, VisitsAreUsed, CountsBeside, VisitedIsCounted, evaluated}
use Rattle.spec_meaning.proofs.MoreWork.{form_wide}
use Rattle.spec_meaning.proofs.Plans.{Plan, Done, Skip, Then, run, sight, plan, kind_runs, kind_sees}
use Rattle.spec_meaning.proofs.Addresses.{later, first, deeper, among_left, among_right, among_cases, in_first, of_first, first_not_later, first_not_none, in_deeper, of_deeper, deeper_not_first, deeper_none, first_different, deeper_different, joined_different, last_apart, first_apart_deeper}

abbrev Under : Type 0
Under = List Value → Form → ℕ → List Address

abbrev walk_on : Result (Value × ℕ) Stop → (Value → ℕ → List Address) → List Address
walk_on (Ok x) next = next x.0 x.1
walk_on (Err stop) next = []

-- the addresses that a plan visits under its form
abbrev walk : Step → Under → Plan → ℕ → List Address
walk step under (Done r) left = []
walk step under (Skip plan) left = deeper (walk step under plan left)
walk step under (Then vs f next) left = first (under vs f left) ++ deeper (walk_on (step vs f left) (λ v left. walk step under (next v) left))

-- those of a form that may be open
abbrev here : List Address → ℕ → (ℕ → List Address) → List Address
here none zero rest = none
here none (suc left) rest = [] ∷ rest left

unfoldable addresses : Program → ℕ → Under
addresses p zero vs f left = cond (is_too_deep 0 (kind_of f)) [] (here [] left (λ left. []))
addresses p (suc depth) vs f left = here [] left (walk (eval_form p depth) (addresses p depth) (plan p vs (kind_of f)))

-- ---- an address is among them exactly where it is visited

abbrev IsSeen : Program → Address → Option Visit → Type 0
IsSeen p address o = (v : Visit) × (option_and_then (visit_from p address) o ≡ Some v)

record IsWalked (p : Program) (see : See) (under : Under) : Type 0 where
  visited : (vs : List Value) (f : Form) (left : ℕ) (a : Address) → IsAmong (under vs f left) a → IsSeen p a (see vs f left)
  among : (vs : List Value) (f : Form) (left : ℕ) (a : Address) → IsSeen p a (see vs f left) → IsAmong (under vs f left) a

none_seen : {B : Type 0} (p : Program) (a : Address) → IsSeen p a None → B
none_seen p a s = absurd (let e : None ≡ Some s.0 = s.1 in cc)

on_visited : (p : Program) (r : Result (Value × ℕ) Stop) (next : Value → ℕ → List Address) (see : Value → ℕ → Option Visit) (k : ℕ) (a : Address) → ((v : Value) (left : ℕ) → IsAmong (next v left) (k ∷ a) → IsSeen p a (see v left)) → IsAmong (walk_on r next) (k ∷ a) → IsSeen p a (after r see)
on_visited p (Ok x) next see k a rest m = rest x.0 x.1 m
on_visited p (Err stop) next see k a rest m = absurd m

on_among : (p : Program) (r : Result (Value × ℕ) Stop) (next : Value → ℕ → List Address) (see : Value → ℕ → Option Visit) (k : ℕ) (a : Address) → ((v : Value) (left : ℕ) → IsSeen p a (see v left) → IsAmong (next v left) (k ∷ a)) → IsSeen p a (after r see) → IsAmong (walk_on r next) (k ∷ a)
on_among p (Ok x) next see k a rest s = rest x.0 x.1 s
on_among p (Err stop) next see k a rest s = none_seen p a s

walk_visited : (p : Program) (step : Step) (see : See) (under : Under) → IsWalked p see under → (plan : Plan) (left k : ℕ) (a : Address) → IsAmong (walk step under plan left) (k ∷ a) → IsSeen p a (sight step see plan k left)
walk_visited p step see under w (Done r) left k a m = absurd m
walk_visited p step see under w (Skip plan) left zero a m = absurd (deeper_not_first (walk step under plan left) a m)
walk_visited p step see under w (Skip plan) left (suc k) a m = walk_visited p step see under w plan left k a (of_deeper (walk step under plan left) k a m)
walk_visited p step see under w (Then vs f next) left zero a m = elim (among_cases (first (under vs f left)) _ (zero ∷ a) m) [ inl l ↦ w.visited vs f left a (of_first (under vs f left) a l) | inr r ↦ absurd (deeper_not_first _ a r) ]
walk_visited p step see under w (Then vs f next) left (suc k) a m = elim (among_cases (first (under vs f left)) _ (suc k ∷ a) m) [ inl l ↦ absurd (first_not_later (under vs f left) k a l) | inr r ↦ on_visited p (step vs f left) (λ v left. walk step under (next v) left) (λ v left. sight step see (next v) k left) k a (λ v left m. walk_visited p step see under w (next v) left k a m) (of_deeper _ k a r) ]

walk_among : (p : Program) (step : Step) (see : See) (under : Under) → IsWalked p see under → (plan : Plan) (left k : ℕ) (a : Address) → IsSeen p a (sight step see plan k left) → IsAmong (walk step under plan left) (k ∷ a)
walk_among p step see under w (Done r) left k a s = none_seen p a s
walk_among p step see under w (Skip plan) left zero a s = none_seen p a s
walk_among p step see under w (Skip plan) left (suc k) a s = in_deeper (walk step under plan left) k a (walk_among p step see under w plan left k a s)
walk_among p step see under w (Then vs f next) left zero a s = among_left (first (under vs f left)) _ (zero ∷ a) (in_first (under vs f left) a (w.among vs f left a s))
walk_among p step see under w (Then vs f next) left (suc k) a s = among_right (first (under vs f left)) _ (suc k ∷ a) (in_deeper _ k a (on_among p (step vs f left) (λ v left. walk step under (next v) left) (λ v left. sight step see (next v) k left) k a (λ v left s. walk_among p step see under w (next v) left k a s) s))

walk_on_not_itself : (r : Result (Value × ℕ) Stop) (next : Value → ℕ → List Address) → ((v : Value) (left : ℕ) → IsAmong (next v left) [] → ⊥) → IsAmong (walk_on r next) [] → ⊥
walk_on_not_itself (Ok x) next rest m = rest x.0 x.1 m
walk_on_not_itself (Err stop) next rest m = m

walk_not_itself : (step : Step) (under : Under) (plan : Plan) (left : ℕ) → IsAmong (walk step under plan left) [] → ⊥
walk_not_itself step under (Done r) left m = m
walk_not_itself step under (Skip plan) left m = walk_not_itself step under plan left (deeper_none (walk step under plan left) m)
walk_not_itself step under (Then vs f next) left m = elim (among_cases (first (under vs f left)) _ [] m) [ inl l ↦ first_not_none (under vs f left) l | inr r ↦ walk_on_not_itself (step vs f left) (λ v left. walk step under (next v) left) (λ v left m. walk_not_itself step under (next v) left m) (deeper_none _ r) ]

pub closed_child : (p : Program) (step : Step) (see : See) (vs : List Value) (k : FormKind-F FormKind Form) (i left : ℕ) → is_too_deep 0 k ≡ false → child_visit p step see vs k i left ≡ None
closed_child p step see vs (kind.Number n) i left closed = refl
closed_child p step see vs kind.T i left closed = refl
closed_child p step see vs (kind.Quoted zs) i left closed = refl
closed_child p step see vs (kind.Variable n) i left closed = refl
closed_child p step see vs (kind.Constant c) i left closed = absurd cc
closed_child p step see vs (kind.If parts) i left closed = absurd cc
closed_child p step see vs (kind.Let parts) i left closed = absurd cc
closed_child p step see vs (kind.LetStar parts) i left closed = absurd cc
closed_child p step see vs (kind.Cond []) i left closed = refl
closed_child p step see vs (kind.Cond (part ∷ parts)) i left closed = absurd cc
closed_child p step see vs (kind.And []) i left closed = refl
closed_child p step see vs (kind.And (part ∷ parts)) i left closed = absurd cc
closed_child p step see vs (kind.Or []) i left closed = refl
closed_child p step see vs (kind.Or (part ∷ parts)) i left closed = absurd cc
closed_child p step see vs (kind.Builtin b parts) i left closed = absurd cc
closed_child p step see vs (kind.Call f parts) i left closed = absurd cc

-- the visit of a form that may be open, where a visit is left
abbrev pub at_form : ℕ → List Value → Form → ℕ → Visit
at_form depth vs f left = record { form = f; variables = vs; depth = depth; left = suc left }

child_is : (p : Program) (depth : ℕ) (vs : List Value) (f : Form) (left k : ℕ) → child p (at_form (suc depth) vs f left) k ≡ sight (eval_form p depth) (seen depth) (plan p vs (kind_of f)) k left
child_is p depth vs f left k =
    let shallower : suc depth - 1 ≡ depth = omega arith in
    let less : suc left - 1 ≡ left = omega arith in
    rw (shallower, less) (kind_sees p (eval_form p depth) (seen depth) vs (kind_of f) k left)

-- where no form may be open
outermost_visited : (p : Program) (vs : List Value) (f : Form) (left : ℕ) (deep : Bool) (a : Address) → IsAmong (cond deep [] ([] ∷ [])) a → IsSeen p a (cond deep None (Some (at_form 0 vs f left)))
outermost_visited p vs f left true a m = absurd m
outermost_visited p vs f left false a (inl e) = subst (λ (b : Address). IsSeen p b (Some (at_form 0 vs f left))) e (at_form 0 vs f left, refl)
outermost_visited p vs f left false a (inr m) = absurd m

outermost_among : (p : Program) (vs : List Value) (f : Form) (left : ℕ) (deep : Bool) (a : Address) → is_too_deep 0 (kind_of f) ≡ deep → IsSeen p a (cond deep None (Some (at_form 0 vs f left))) → IsAmong (cond deep [] ([] ∷ [])) a
outermost_among p vs f left true a is s = none_seen p a s
outermost_among p vs f left false [] is s = inl refl
outermost_among p vs f left false (k ∷ a) is s = none_seen p a (subst (λ (o : Option Visit). IsSeen p a o) (closed_child p (eval_form p (0 - 1)) (seen (0 - 1)) vs (kind_of f) k (suc left - 1) is) s)

empty_by : (deep : Bool) (a : Address) → IsAmong (cond deep [] []) a → ⊥
empty_by true a m = m
empty_by false a m = m

below_visited : (p : Program) (depth : ℕ) (vs : List Value) (f : Form) (left : ℕ) → IsWalked p (seen depth) (addresses p depth) → (a : Address) → IsAmong ([] ∷ walk (eval_form p depth) (addresses p depth) (plan p vs (kind_of f)) left) a → IsSeen p a (Some (at_form (suc depth) vs f left))
below_visited p depth vs f left w a (inl e) = subst (λ (b : Address). IsSeen p b (Some (at_form (suc depth) vs f left))) e (at_form (suc depth) vs f left, refl)
below_visited p depth vs f left w [] (inr m) = (at_form (suc depth) vs f left, refl)
below_visited p depth vs f left w (k ∷ a) (inr m) = subst (λ (o : Option Visit). IsSeen p a o) (sym (child_is p depth vs f left k)) (walk_visited p (eval_form p depth) (seen depth) (addresses p depth) w (plan p vs (kind_of f)) left k a m)

below_among : (p : Program) (depth : ℕ) (vs : List Value) (f : Form) (left : ℕ) → IsWalked p (seen depth) (addresses p depth) → (a : Address) → IsSeen p a (Some (at_form (suc depth) vs f left)) → IsAmong ([] ∷ walk (eval_form p depth) (addresses p depth) (plan p vs (kind_of f)) left) a
below_among p depth vs f left w [] s = inl refl
below_among p depth vs f left w (k ∷ a) s = inr (walk_among p (eval_form p depth) (seen depth) (addresses p depth) w (plan p vs (kind_of f)) left k a (subst (λ (o : Option Visit). IsSeen p a o) (child_is p depth vs f left k) s))

form_visited : (p : Program) (depth : ℕ) → IsWalked p (seen depth) (addresses p depth) → (vs : List Value) (f : Form) (left : ℕ) (a : Address) → IsAmong (addresses p (suc depth) vs f left) a → IsSeen p a (seen (suc depth) vs f left)
unfolding addresses
form_visited p depth w vs f zero a m = absurd m
form_visited p depth w vs f (suc left) a m = below_visited p depth vs f left w a m

form_among : (p : Program) (depth : ℕ) → IsWalked p (seen depth) (addresses p depth) → (vs : List Value) (f : Form) (left : ℕ) (a : Address) → IsSeen p a (seen (suc depth) vs f left) → IsAmong (addresses p (suc depth) vs f left) a
unfolding addresses
form_among p depth w vs f zero a s = none_seen p a s
form_among p depth w vs f (suc left) a s = below_among p depth vs f left w a s

last_visited : (p : Program) (vs : List Value) (f : Form) (left : ℕ) (a : Address) → IsAmong (addresses p 0 vs f left) a → IsSeen p a (seen 0 vs f left)
unfolding addresses
last_visited p vs f zero a m = absurd (empty_by (is_too_deep 0 (kind_of f)) a m)
last_visited p vs f (suc left) a m = outermost_visited p vs f left (is_too_deep 0 (kind_of f)) a m

last_among : (p : Program) (vs : List Value) (f : Form) (left : ℕ) (a : Address) → IsSeen p a (seen 0 vs f left) → IsAmong (addresses p 0 vs f left) a
unfolding addresses
last_among p vs f zero a s = none_seen p a s
last_among p vs f (suc left) a s = outermost_among p vs f left (is_too_deep 0 (kind_of f)) a refl s

walked : (p : Program) (depth : ℕ) → IsWalked p (seen depth) (addresses p depth)
walked p zero = record { visited = last_visited p; among = last_among p }
walked p (suc depth) = record { visited = form_visited p depth (walked p depth); among = form_among p depth (walked p depth) }

-- ---- each address stands there once

walk_on_different : (r : Result (Value × ℕ) Stop) (next : Value → ℕ → List Address) → ((v : Value) (left : ℕ) → AreDifferent (next v left)) → AreDifferent (walk_on r next)
walk_on_different (Ok x) next rest = rest x.0 x.1
walk_on_different (Err stop) next rest = tt

walk_different : (step : Step) (under : Under) → ((vs : List Value) (f : Form) (left : ℕ) → AreDifferent (under vs f left)) → (plan : Plan) (left : ℕ) → AreDifferent (walk step under plan left)
walk_different step under d (Done r) left = tt
walk_different step under d (Skip plan) left = deeper_different (walk step under plan left) (walk_different step under d plan left)
walk_different step under d (Then vs f next) left = joined_different (first (under vs f left)) _ (first_different (under vs f left) (d vs f left)) (deeper_different _ (walk_on_different (step vs f left) (λ v left. walk step under (next v) left) (λ v left. walk_different step under d (next v) left))) (λ a l r. first_apart_deeper (under vs f left) _ a l r)

last_different : (deep : Bool) (left : ℕ) → AreDifferent (cond deep [] (here [] left (λ left. [])))
last_different true left = tt
last_different false zero = tt
last_different false (suc left) = (λ m. m, tt)

here_different : (step : Step) (under : Under) (plan : Plan) (left : ℕ) → ((vs : List Value) (f : Form) (left : ℕ) → AreDifferent (under vs f left)) → AreDifferent (here [] left (walk step under plan))
here_different step under plan zero d = tt
here_different step under plan (suc left) d = (walk_not_itself step under plan left, walk_different step under d plan left)

different : (p : Program) (depth : ℕ) (vs : List Value) (f : Form) (left : ℕ) → AreDifferent (addresses p depth vs f left)
unfolding addresses
different p zero vs f left = last_different (is_too_deep 0 (kind_of f)) left
different p (suc depth) vs f left = here_different (eval_form p depth) (addresses p depth) (plan p vs (kind_of f)) left (different p depth)

-- ---- there are as many as visits are used up

count_first : (xs : List Address) → length (first xs) ≡ length xs
count_first [] = refl
count_first (a ∷ xs) = ap suc (count_first xs)

count_deeper : (xs : List Address) → length (deeper xs) ≡ length xs
count_deeper [] = refl
count_deeper (a ∷ xs) = ap suc (count_deeper xs)

count_joined : (xs bs : List Address) → length (xs ++ bs) ≡ length xs + length bs
count_joined [] bs = omega arith
count_joined (a ∷ xs) bs = omega (arith, count_joined xs bs)

uses_same : (m n left : ℕ) (r : Result (Value × ℕ) Stop) → m ≡ n → UsesUp n left r → UsesUp m left r
uses_same m n left r is u = rw is u

uses_both : (m n left between : ℕ) (r : Result (Value × ℕ) Stop) → m + between ≡ left → UsesUp n between r → UsesUp (m + n) left r
uses_both m n left between (Ok x) is u = omega (arith, u)
uses_both m n left between (Err (Outside at why)) is u = omega (arith, u)
uses_both m n left between (Err MoreDepth) is u = omega (arith, u)
uses_both m n left between (Err MoreWork) is u = omega (arith, u)

uses_alone : (m left : ℕ) (stop : Stop) (next : Value → Work Value) → UsesUp m left (Err stop) → UsesUp (m + 0) left (continued (Err stop) next)
uses_alone m left (Outside at why) next u = omega (arith, u)
uses_alone m left MoreDepth next u = omega (arith, u)
uses_alone m left MoreWork next u = omega (arith, u)

uses_on : (m left : ℕ) (r : Result (Value × ℕ) Stop) (next : Value → ℕ → List Address) (go : Value → Work Value) → UsesUp m left r → ((v : Value) (left : ℕ) → UsesUp (length (next v left)) left (go v left)) → UsesUp (m + length (walk_on r next)) left (continued r go)
uses_on m left (Ok x) next go u rest = uses_both m (length (next x.0 x.1)) left x.1 (go x.0 x.1) u (rest x.0 x.1)
uses_on m left (Err stop) next go u rest = uses_alone m left stop go u

uses_done : (at : ℕ) (r : Result Value Why) (left : ℕ) → UsesUp 0 left (valued at r left)
uses_done at (Ok v) left = omega arith
uses_done at (Err why) left = omega arith

abbrev AllUse : Step → Under → Type 0
AllUse step under = (vs : List Value) (f : Form) (left : ℕ) → UsesUp (length (under vs f left)) left (step vs f left)

walk_uses : (step : Step) (under : Under) (at : ℕ) → AllUse step under → (plan : Plan) (left : ℕ) → UsesUp (length (walk step under plan left)) left (run step at plan left)
walk_uses step under at u (Done r) left = uses_done at r left
walk_uses step under at u (Skip plan) left = uses_same _ _ left (run step at plan left) (count_deeper (walk step under plan left)) (walk_uses step under at u plan left)
walk_uses step under at u (Then vs f next) left =
    let rest : List Address = walk_on (step vs f left) (λ v left. walk step under (next v) left) in
    uses_same _ (length (under vs f left) + length rest) left _ (omega (arith, count_joined (first (under vs f left)) (deeper rest), count_first (under vs f left), count_deeper rest)) (uses_on (length (under vs f left)) left (step vs f left) (λ v left. walk step under (next v) left) (λ v. run step at (next v)) (u vs f left) (λ v left. walk_uses step under at u (next v) left))

uses_more : (n left : ℕ) (r : Result (Value × ℕ) Stop) → UsesUp n left r → UsesUp (suc n) (suc left) r
uses_more n left (Ok x) u = omega (arith, u)
uses_more n left (Err (Outside at why)) u = omega (arith, u)
uses_more n left (Err MoreDepth) u = omega (arith, u)
uses_more n left (Err MoreWork) u = omega (arith, u)

visit_uses : (left : ℕ) (work : Work Value) (rest : ℕ → List Address) → ((left : ℕ) → UsesUp (length (rest left)) left (work left)) → UsesUp (length (here [] left rest)) left (visit work left)
visit_uses zero work rest u = refl
visit_uses (suc left) work rest u = uses_more (length (rest left)) left (work left) (u left)

last_uses : (deep : Bool) (left : ℕ) (work : Work Value) → ((left : ℕ) → UsesUp 0 left (work left)) → UsesUp (length (cond deep [] (here [] left (λ left. [])))) left (cond deep (Err MoreDepth) (visit work left))
last_uses true left work u = omega arith
last_uses false left work u = visit_uses left work (λ left. []) u

nothing_walked : (plan : Plan) (left : ℕ) → length (walk too_deep (λ vs f left. []) plan left) ≡ 0
nothing_walked (Done r) left = refl
nothing_walked (Skip plan) left = count_deeper (walk too_deep (λ vs f left. []) plan left) ∙ nothing_walked plan left
nothing_walked (Then vs f next) left = refl

closed_uses : (p : Program) (vs : List Value) (at : ℕ) (k : FormKind-F FormKind Form) (left : ℕ) → UsesUp 0 left (eval_kind p too_deep vs at k left)
closed_uses p vs at k left = rw (kind_runs p too_deep vs at k left) (uses_same 0 (length (walk too_deep (λ vs f left. []) (plan p vs k) left)) left (run too_deep at (plan p vs k) left) (sym (nothing_walked (plan p vs k) left)) (walk_uses too_deep (λ vs f left. []) at (λ vs f left. omega arith) (plan p vs k) left))

uses : (p : Program) (depth : ℕ) → AllUse (eval_form p depth) (addresses p depth)
unfolding addresses eval_form
uses p zero vs f left = last_uses (is_too_deep 0 (kind_of f)) left (eval_kind p too_deep vs (out-Form f).at (kind_of f)) (closed_uses p vs (out-Form f).at (kind_of f))
uses p (suc depth) vs f left = visit_uses left (eval_kind p (eval_form p depth) vs (out-Form f).at (kind_of f)) (walk (eval_form p depth) (addresses p depth) (plan p vs (kind_of f))) (λ left. rw (kind_runs p (eval_form p depth) vs (out-Form f).at (kind_of f) left) (walk_uses (eval_form p depth) (addresses p depth) (out-Form f).at (uses p depth) (plan p vs (kind_of f)) left))

-- ---- a function's evaluation

abbrev of_body : Program → ℕ → List Value → ℕ → Option Function → List Address
of_body p depth args work (Some f) = addresses p depth args f.body work
of_body p depth args work None = []

used_by : (p : Program) (depth : ℕ) (args : List Value) (work : ℕ) (o : Option Function) → UsesUp (length (of_body p depth args work o)) work (eval_body (eval_form p depth) 0 o args work)
used_by p depth args work None = omega arith
used_by p depth args work (Some f) = uses p depth args f.body work

visited_by : (p : Program) (depth : ℕ) (args : List Value) (work : ℕ) (o : Option Function) (a : Address) → IsAmong (of_body p depth args work o) a → IsSeen p a (first_visit (option_map (λ f. f.body) o) args depth work)
visited_by p depth args work None a m = absurd m
visited_by p depth args work (Some f) a m = (walked p depth).visited args f.body work a m

among_by : (p : Program) (depth : ℕ) (args : List Value) (work : ℕ) (o : Option Function) (a : Address) → IsSeen p a (first_visit (option_map (λ f. f.body) o) args depth work) → IsAmong (of_body p depth args work o) a
among_by p depth args work None a s = none_seen p a s
among_by p depth args work (Some f) a s = (walked p depth).among args f.body work a s

different_by : (p : Program) (depth : ℕ) (args : List Value) (work : ℕ) (o : Option Function) → AreDifferent (of_body p depth args work o)
different_by p depth args work None = tt
different_by p depth args work (Some f) = different p depth args f.body work

are_visited : (p : Program) (f : FunId) (args : List Value) (depth work : ℕ) → AreVisited p f args depth work (of_body p depth args work (slice_get p.functions f.0))
are_visited p f args depth work = record {
  each = visited_by p depth args work (slice_get p.functions f.0);
  all = among_by p depth args work (slice_get p.functions f.0);
  once = different_by p depth args work (slice_get p.functions f.0);
  used = used_by p depth args work (slice_get p.functions f.0);
}

pub visits_used : VisitsAreUsed
visits_used p f args depth work = (of_body p depth args work (slice_get p.functions f.0), are_visited p f args depth work)

-- ---- one visit more

nothing_more : (xs : List Address) → xs ++ [] ≡ xs
nothing_more [] = refl
nothing_more (x ∷ xs) = ap (λ zs. x ∷ zs) (nothing_more xs)

-- where work ran out there is one address more, and else the same are there
abbrev OneMore : Result (Value × ℕ) Stop → List Address → List Address → Type 0
OneMore (Ok x) xs ys = ys ≡ xs
OneMore (Err (Outside at why)) xs ys = ys ≡ xs
OneMore (Err MoreDepth) xs ys = ys ≡ xs
OneMore (Err MoreWork) xs ys = (n : Address) × (ys ≡ xs ++ n ∷ [])

record IsGrowing (step : Step) (under : Under) : Type 0 where
  wide : (vs : List Value) (f : Form) (left : ℕ) → IsWith 1 (step vs f left) (step vs f (left + 1))
  grows : (vs : List Value) (f : Form) (left : ℕ) → OneMore (step vs f left) (under vs f left) (under vs f (left + 1))
  used : AllUse step under
  stops : (vs : List Value) (f : Form) → (stop : Stop) × (step vs f 0 ≡ Err stop)
  none : (vs : List Value) (f : Form) → under vs f 0 ≡ []

walk_none : (step : Step) (under : Under) → IsGrowing step under → (plan : Plan) → walk step under plan 0 ≡ []
walk_none step under g (Done r) = refl
walk_none step under g (Skip plan) = ap deeper (walk_none step under g plan)
walk_none step under g (Then vs f next) = rw (g.none vs f, (g.stops vs f).1) refl

deeper_joined : (xs ys : List Address) → deeper (xs ++ ys) ≡ deeper xs ++ deeper ys
deeper_joined [] ys = refl
deeper_joined (x ∷ xs) ys = ap (λ zs. later x ∷ zs) (deeper_joined xs ys)

first_joined : (xs ys : List Address) → first (xs ++ ys) ≡ first xs ++ first ys
first_joined [] ys = refl
first_joined (x ∷ xs) ys = ap (λ zs. (0 ∷ x) ∷ zs) (first_joined xs ys)

more_deeper : (r : Result (Value × ℕ) Stop) (xs ys : List Address) → OneMore r xs ys → OneMore r (deeper xs) (deeper ys)
more_deeper (Ok x) xs ys is = ap deeper is
more_deeper (Err (Outside at why)) xs ys is = ap deeper is
more_deeper (Err MoreDepth) xs ys is = ap deeper is
more_deeper (Err MoreWork) xs ys is = (later is.0, ap deeper is.1 ∙ deeper_joined xs (is.0 ∷ []))

more_behind : (front : List Address) (r : Result (Value × ℕ) Stop) (xs ys : List Address) → OneMore r xs ys → OneMore r (front ++ xs) (front ++ ys)
more_behind front (Ok x) xs ys is = ap (λ zs. front ++ zs) is
more_behind front (Err (Outside at why)) xs ys is = ap (λ zs. front ++ zs) is
more_behind front (Err MoreDepth) xs ys is = ap (λ zs. front ++ zs) is
more_behind front (Err MoreWork) xs ys is = (is.0, ap (λ zs. front ++ zs) is.1 ∙ sym (append_assoc front xs (is.0 ∷ [])))

more_done : (at : ℕ) (r : Result Value Why) (left : ℕ) → OneMore (valued at r left) [] []
more_done at (Ok v) left = refl
more_done at (Err why) left = refl

-- a first child that ran out of work has no more visits left with one visit more
none_behind : (step : Step) (under : Under) → IsGrowing step under → (next : Value → Plan) (xs ys : List Address) (n : Address) (left : ℕ) (r : Result (Value × ℕ) Stop) → ys ≡ xs ++ n ∷ [] → length xs ≡ left → UsesUp (length ys) (left + 1) r → walk_on r (λ v left. walk step under (next v) left) ≡ []
none_behind step under g next xs ys n left (Err stop) is count u = refl
none_behind step under g next xs ys n left (Ok x) is count u =
    let long : length ys ≡ length xs + 1 = ap length is ∙ count_joined xs (n ∷ []) in
    let none : x.1 ≡ 0 = omega (arith, long, count, u) in
    rw none (walk_none step under g (next x.0))

then_more : (step : Step) (under : Under) (at : ℕ) → IsGrowing step under → (next : Value → Plan) (xs ys : List Address) (left : ℕ) (r wider : Result (Value × ℕ) Stop) → OneMore r xs ys → IsWith 1 r wider → UsesUp (length xs) left r → UsesUp (length ys) (left + 1) wider → ((v : Value) (left : ℕ) → OneMore (run step at (next v) left) (walk step under (next v) left) (walk step under (next v) (left + 1))) → OneMore (continued r (λ v. run step at (next v))) (first xs ++ deeper (walk_on r (λ v left. walk step under (next v) left))) (first ys ++ deeper (walk_on wider (λ v left. walk step under (next v) left)))
then_more step under at g next xs ys left (Ok x) wider is with u more rest = rw (with, is) (more_behind (first xs) (run step at (next x.0) x.1) _ _ (more_deeper (run step at (next x.0) x.1) _ _ (rest x.0 x.1)))
then_more step under at g next xs ys left (Err (Outside at' why)) wider is with u more rest = rw (with, is) refl
then_more step under at g next xs ys left (Err MoreDepth) wider is with u more rest = rw (with, is) refl
then_more step under at g next xs ys left (Err MoreWork) wider is with u more rest =
    let none : walk_on wider (λ v left. walk step under (next v) left) ≡ [] = none_behind step under g next xs ys is.0 left wider is.1 u more in
    (0 ∷ is.0, rw none (nothing_more (first ys) ∙ ap first is.1 ∙ first_joined xs (is.0 ∷ []) ∙ ap (λ zs. zs ++ first (is.0 ∷ [])) (sym (nothing_more (first xs)))))

walk_more : (step : Step) (under : Under) (at : ℕ) → IsGrowing step under → (plan : Plan) (left : ℕ) → OneMore (run step at plan left) (walk step under plan left) (walk step under plan (left + 1))
walk_more step under at g (Done r) left = more_done at r left
walk_more step under at g (Skip plan) left = more_deeper (run step at plan left) _ _ (walk_more step under at g plan left)
walk_more step under at g (Then vs f next) left = then_more step under at g next (under vs f left) (under vs f (left + 1)) left (step vs f left) (step vs f (left + 1)) (g.grows vs f left) (g.wide vs f left) (g.used vs f left) (g.used vs f (left + 1)) (λ v left. walk_more step under at g (next v) left)

more_cons : (a : Address) (r : Result (Value × ℕ) Stop) (xs ys : List Address) → OneMore r xs ys → OneMore r (a ∷ xs) (a ∷ ys)
more_cons a r xs ys is = more_behind (a ∷ []) r xs ys is

visit_more : (work : Work Value) (rest : ℕ → List Address) → rest 0 ≡ [] → ((left : ℕ) → OneMore (work left) (rest left) (rest (left + 1))) → (left : ℕ) → OneMore (visit work left) (here [] left rest) (here [] (left + 1) rest)
visit_more work rest none more zero = ([], let e : 0 + 1 ≡ suc 0 = refl in ap (λ zs. [] ∷ zs) none)
visit_more work rest none more (suc left) = let e : suc left + 1 ≡ suc (left + 1) = omega arith in rw e (more_cons [] (work left) (rest left) (rest (left + 1)) (more left))

last_more : (deep : Bool) (work : Work Value) (left : ℕ) → ((left : ℕ) → OneMore (work left) [] []) → OneMore (cond deep (Err MoreDepth) (visit work left)) (cond deep [] (here [] left (λ left. []))) (cond deep [] (here [] (left + 1) (λ left. [])))
last_more true work left more = refl
last_more false work left more = visit_more work (λ left. []) refl more left

outermost_growing : IsGrowing too_deep (λ vs f left. [])
outermost_growing = record { wide = λ vs f left. refl; grows = λ vs f left. refl; used = λ vs f left. omega arith; stops = λ vs f. (MoreDepth, refl); none = λ vs f. refl }

no_walk : (plan : Plan) (left : ℕ) → walk too_deep (λ vs f left. []) plan left ≡ []
no_walk (Done r) left = refl
no_walk (Skip plan) left = ap deeper (no_walk plan left)
no_walk (Then vs f next) left = refl

closed_more : (p : Program) (vs : List Value) (at : ℕ) (k : FormKind-F FormKind Form) (left : ℕ) → OneMore (eval_kind p too_deep vs at k left) [] []
closed_more p vs at k left = rw (kind_runs p too_deep vs at k left) (subst (λ (zs : List Address). OneMore (run too_deep at (plan p vs k) left) zs []) (no_walk (plan p vs k) left) (subst (λ (zs : List Address). OneMore (run too_deep at (plan p vs k) left) (walk too_deep (λ vs f left. []) (plan p vs k) left) zs) (no_walk (plan p vs k) (left + 1)) (walk_more too_deep (λ vs f left. []) at outermost_growing (plan p vs k) left)))

kind_more : (p : Program) (step : Step) (under : Under) → IsGrowing step under → (vs : List Value) (f : Form) (left : ℕ) → OneMore (eval_kind p step vs (out-Form f).at (kind_of f) left) (walk step under (plan p vs (kind_of f)) left) (walk step under (plan p vs (kind_of f)) (left + 1))
kind_more p step under g vs f left = rw (kind_runs p step vs (out-Form f).at (kind_of f) left) (walk_more step under (out-Form f).at g (plan p vs (kind_of f)) left)

form_more : (p : Program) (depth : ℕ) → IsGrowing (eval_form p depth) (addresses p depth) → (vs : List Value) (f : Form) (left : ℕ) → OneMore (eval_form p (suc depth) vs f left) (addresses p (suc depth) vs f left) (addresses p (suc depth) vs f (left + 1))
unfolding addresses eval_form
form_more p depth g vs f left = visit_more _ (walk (eval_form p depth) (addresses p depth) (plan p vs (kind_of f))) (walk_none (eval_form p depth) (addresses p depth) g (plan p vs (kind_of f))) (kind_more p (eval_form p depth) (addresses p depth) g vs f) left

outermost_more : (p : Program) (vs : List Value) (f : Form) (left : ℕ) → OneMore (eval_form p 0 vs f left) (addresses p 0 vs f left) (addresses p 0 vs f (left + 1))
unfolding addresses eval_form
outermost_more p vs f left = last_more (is_too_deep 0 (kind_of f)) _ left (closed_more p vs (out-Form f).at (kind_of f))

stops_by : (deep : Bool) (work : Work Value) → (stop : Stop) × (cond deep (Err MoreDepth) (visit work 0) ≡ Err stop)
stops_by true work = (MoreDepth, refl)
stops_by false work = (MoreWork, refl)

stops_without : (p : Program) (depth : ℕ) (vs : List Value) (f : Form) → (stop : Stop) × (eval_form p depth vs f 0 ≡ Err stop)
unfolding eval_form
stops_without p zero vs f = stops_by (is_too_deep 0 (kind_of f)) (eval_kind p too_deep vs (out-Form f).at (kind_of f))
stops_without p (suc depth) vs f = (MoreWork, refl)

none_by : (deep : Bool) (rest : ℕ → List Address) → cond deep [] (here [] 0 rest) ≡ []
none_by true rest = refl
none_by false rest = refl

none_without : (p : Program) (depth : ℕ) (vs : List Value) (f : Form) → addresses p depth vs f 0 ≡ []
unfolding addresses
none_without p zero vs f = none_by (is_too_deep 0 (kind_of f)) (λ left. [])
none_without p (suc depth) vs f = refl

growing : (p : Program) (depth : ℕ) → IsGrowing (eval_form p depth) (addresses p depth)
growing p zero = record { wide = λ vs f left. form_wide 1 p 0 vs f left; grows = outermost_more p; used = uses p 0; stops = stops_without p 0; none = none_without p 0 }
growing p (suc depth) = record { wide = λ vs f left. form_wide 1 p (suc depth) vs f left; grows = form_more p depth (growing p depth); used = uses p (suc depth); stops = stops_without p (suc depth); none = none_without p (suc depth) }

more_by : (p : Program) (depth : ℕ) (args : List Value) (work : ℕ) (o : Option Function) → OneMore (eval_body (eval_form p depth) 0 o args work) (of_body p depth args work o) (of_body p depth args (work + 1) o)
more_by p depth args work None = refl
more_by p depth args work (Some f) = (growing p depth).grows args f.body work

counts_by : (p : Program) (f : FunId) (args : List Value) (depth work : ℕ) (xs ys : List Address) (r : Result (Value × ℕ) Stop) → AreVisited p f args depth work xs → AreVisited p f args depth (work + 1) ys → OneMore r xs ys → CountsBeside p f args depth work r
counts_by p f args depth work xs ys (Ok x) one more is = λ a counted. one.each a (subst (λ (zs : List Address). IsAmong zs a) is (more.all a counted))
counts_by p f args depth work xs ys (Err (Outside at why)) one more is = λ a counted. one.each a (subst (λ (zs : List Address). IsAmong zs a) is (more.all a counted))
counts_by p f args depth work xs ys (Err MoreDepth) one more is = λ a counted. one.each a (subst (λ (zs : List Address). IsAmong zs a) is (more.all a counted))
counts_by p f args depth work xs ys (Err MoreWork) one more is = (
  is.0,
  record {
    counted = more.each is.0 (subst (λ (zs : List Address). IsAmong zs is.0) (sym is.1) (among_right xs (is.0 ∷ []) is.0 (inl refl)));
    unvisited = λ visited. last_apart xs is.0 (subst AreDifferent is.1 more.once) (one.all is.0 visited);
    only = λ a counted. elim (among_cases xs (is.0 ∷ []) a (subst (λ (zs : List Address). IsAmong zs a) is.1 (more.all a counted))) [ inl l ↦ inl (one.each a l) | inr r ↦ inr (elim r [ inl e ↦ sym e | inr m ↦ absurd m ]) ];
  },
)

stays_among : (r : Result (Value × ℕ) Stop) (xs ys : List Address) (a : Address) → OneMore r xs ys → IsAmong xs a → IsAmong ys a
stays_among (Ok x) xs ys a is m = rw is m
stays_among (Err (Outside at why)) xs ys a is m = rw is m
stays_among (Err MoreDepth) xs ys a is m = rw is m
stays_among (Err MoreWork) xs ys a is m = rw is.1 (among_left xs (is.0 ∷ []) a m)

visited_counted : (p : Program) (f : FunId) (args : List Value) (depth work : ℕ) (a : Address) → IsVisited p f args depth work a → IsCounted p f args depth work a
visited_counted p f args depth work a v = (are_visited p f args depth (work + 1)).each a (stays_among (evaluated p f args depth work) _ _ a (more_by p depth args work (slice_get p.functions f.0)) ((are_visited p f args depth work).all a v))

pub counted : VisitedIsCounted
counted = record {
  visited = visited_counted;
  beside = λ p f args depth work. counts_by p f args depth work _ _ (evaluated p f args depth work) (are_visited p f args depth work) (are_visited p f args depth (work + 1)) (more_by p depth args work (slice_get p.functions f.0));
}
