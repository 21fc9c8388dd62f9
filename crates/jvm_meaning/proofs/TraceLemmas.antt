-- The states of a run, its end and its traces.
use Rattle.std.proofs.Common.{◌≡◌, ℕ, zero, suc, ◌+◌, ◌-◌, ◌<◌, ◌≤◌, ◌↔◌, ◌⊎◌, [], ◌∷◌, map, take, slice_get, Some, None, Ok, Err, refl, sym, ap, ◌∙◌, inl, inr, arith}
use Rattle.std.specs.Prelude.{option_map}
use Rattle.std.proofs.lemmas.Bool.{cases_lt, cond_below, cond_above}
use Rattle.std.proofs.lemmas.Option.{slice_get-map}
use Rattle.axe_io.specs.Shapes.{ShapeParts}
use Rattle.class_file.specs.Contents.{Contents}
use Rattle.jvm_meaning.specs.Numbers.{End, State, Step}
use Rattle.jvm_state.specs.declared.value.End.TheVariants.{MoreSteps}
use Rattle.jvm_state.specs.declared.state.Limits.{Limits}
use Rattle.jvm_state.specs.declared.state.Site.{Site}
use Rattle.jvm_meaning.specs.Steps.{site_of}
use Rattle.jvm_meaning.specs.Machine.{step}
use Rattle.jvm_meaning.specs.Runs.{after, run_from}
use Rattle.jvm_meaning.specs.Traces.{next, reach, more, RunsBothWays, place, trace_from, marked_from, next_visit, site_visited, visit, GoAlike, DoAlike, TraceIsWhereRunsAre, MarkedTraceIsWhatRunsDo, MarksAreBeside, SameTraceIsSameWay, SameMarksIsSameDeeds, GoesWith, GoesWithLaws, GoesWithFewer, EndsStay, StepsGoOn, RunEndsWhereItIs, ShorterTraces}

-- one step first, and then the others
pub next_first : (c : Contents) (p : ShapeParts) (l : Limits) (n : ℕ) (first : Step) → reach c p l (suc n) first ≡ reach c p l n (next c p l first)
unfolding reach
next_first c p l zero first = refl
next_first c p l (suc n) first = ap (next c p l) (next_first c p l n first)

pub stays : (c : Contents) (p : ShapeParts) (l : Limits) (n : ℕ) (end : End) → reach c p l n (Err end) ≡ Err end
unfolding reach
stays c p l zero end = refl
stays c p l (suc n) end = ap (next c p l) (stays c p l n end)

pub both_ways : RunsBothWays
unfolding run_from reach
both_ways c p l zero (Ok s) = refl
both_ways c p l zero (Err end) = refl
both_ways c p l (suc n) (Err end) = sym (ap (λ (t : Step). after t more) (stays c p l (suc n) end))
both_ways c p l (suc n) (Ok s) =
    both_ways c p l n (step c p l s) ∙ sym (ap (λ (t : Step). after t more) (next_first c p l n (Ok s)))

-- ---- traces

beside : (c : Contents) (p : ShapeParts) (l : Limits) (n : ℕ) (first : Step) → map site_visited (marked_from n c p l first) ≡ trace_from n c p l first
unfolding marked_from trace_from
beside c p l zero first = refl
beside c p l (suc n) (Err end) = refl
beside c p l (suc n) (Ok s) = ap (λ sites. site_of s.frame ∷ sites) (beside c p l n (step c p l s))

pub marks_beside : MarksAreBeside
marks_beside = beside

visited : (c : Contents) (p : ShapeParts) (l : Limits) (n k : ℕ) (first : Step) → k < n → slice_get (marked_from n c p l first) k ≡ next_visit c p l (reach c p l k first)
unfolding marked_from reach
visited c p l zero k first lt = absurd (omega arith)
visited c p l (suc n) zero (Ok s) lt = refl
visited c p l (suc n) zero (Err end) lt = refl
visited c p l (suc n) (suc k) (Err end) lt = sym (ap (next_visit c p l) (stays c p l (suc k) end))
visited c p l (suc n) (suc k) (Ok s) lt =
    visited c p l n k (step c p l s) (omega arith) ∙ sym (ap (next_visit c p l) (next_first c p l k (Ok s)))

unvisited : (c : Contents) (p : ShapeParts) (l : Limits) (n k : ℕ) (first : Step) → n ≤ k → slice_get (marked_from n c p l first) k ≡ None
unfolding marked_from
unvisited c p l zero k first le = refl
unvisited c p l (suc n) k (Err end) le = refl
unvisited c p l (suc n) zero (Ok s) le = absurd (omega arith)
unvisited c p l (suc n) (suc k) (Ok s) le = unvisited c p l n k (step c p l s) (omega arith)

pub marked_what : MarkedTraceIsWhatRunsDo
marked_what c p l n k first =
    elim (cases_lt k n) [
      | inl lt ↦ visited c p l n k first lt ∙ cond_below k n (next_visit c p l (reach c p l k first)) None lt
      | inr le ↦ cond_above k n (next_visit c p l (reach c p l k first)) None (slice_get (marked_from n c p l first) k) le (unvisited c p l n k first le)
    ]

site_next : (c : Contents) (p : ShapeParts) (l : Limits) (r : Step) → option_map site_visited (next_visit c p l r) ≡ place r
site_next c p l (Ok s) = refl
site_next c p l (Err end) = refl

placed : (c : Contents) (p : ShapeParts) (l : Limits) (n k : ℕ) (first : Step) → slice_get (trace_from n c p l first) k ≡ option_map site_visited (slice_get (marked_from n c p l first) k)
placed c p l n k first = sym (ap (λ sites. slice_get sites k) (beside c p l n first)) ∙ slice_get-map site_visited (marked_from n c p l first) k

sites_within : (c : Contents) (p : ShapeParts) (l : Limits) (n k : ℕ) (first : Step) → k < n → slice_get (trace_from n c p l first) k ≡ place (reach c p l k first)
sites_within c p l n k first lt = placed c p l n k first ∙ ap (option_map site_visited) (visited c p l n k first lt) ∙ site_next c p l (reach c p l k first)

pub trace_where : TraceIsWhereRunsAre
trace_where c p l n k first =
    elim (cases_lt k n) [
      | inl lt ↦ sites_within c p l n k first lt ∙ cond_below k n (place (reach c p l k first)) None lt
      | inr le ↦ cond_above k n (place (reach c p l k first)) None (slice_get (trace_from n c p l first) k) le (placed c p l n k first ∙ ap (option_map site_visited) (unvisited c p l n k first le))
    ]

-- ---- same traces

sites_meet : (c : Contents) (p : ShapeParts) (l : Limits) (n : ℕ) (one other : Step) → GoAlike c p l n one other → trace_from n c p l one ≡ trace_from n c p l other
unfolding trace_from reach
sites_meet c p l zero one other alike = refl
sites_meet c p l (suc n) (Ok s) (Ok t) alike =
    let here : Some (site_of s.frame) ≡ Some (site_of t.frame) = alike zero (omega arith) in
    let behind : GoAlike c p l n (step c p l s) (step c p l t) = λ k lt.
    sym (ap place (next_first c p l k (Ok s))) ∙ alike (suc k) (omega arith) ∙ ap place (next_first c p l k (Ok t)) in
    let rest = sites_meet c p l n (step c p l s) (step c p l t) behind in
    cc
sites_meet c p l (suc n) (Ok s) (Err end) alike = let here : Some (site_of s.frame) ≡ None = alike zero (omega arith) in absurd (cc)
sites_meet c p l (suc n) (Err end) (Ok t) alike = let here : None ≡ Some (site_of t.frame) = alike zero (omega arith) in absurd (cc)
sites_meet c p l (suc n) (Err end) (Err last) alike = refl

pub same_way : SameTraceIsSameWay
same_way c p l n one other =
    (λ same k lt. sym (sites_within c p l n k one lt) ∙ ap (λ sites. slice_get sites k) same ∙ sites_within c p l n k other lt, sites_meet c p l n one other)

visits_meet : (c : Contents) (p : ShapeParts) (l : Limits) (n : ℕ) (one other : Step) → DoAlike c p l n one other → marked_from n c p l one ≡ marked_from n c p l other
unfolding marked_from reach
visits_meet c p l zero one other alike = refl
visits_meet c p l (suc n) (Ok s) (Ok t) alike =
    let here : Some (visit c s (step c p l s)) ≡ Some (visit c t (step c p l t)) = alike zero (omega arith) in
    let behind : DoAlike c p l n (step c p l s) (step c p l t) = λ k lt.
    sym (ap (next_visit c p l) (next_first c p l k (Ok s))) ∙ alike (suc k) (omega arith) ∙ ap (next_visit c p l) (next_first c p l k (Ok t)) in
    let rest = visits_meet c p l n (step c p l s) (step c p l t) behind in
    cc
visits_meet c p l (suc n) (Ok s) (Err end) alike = let here : Some (visit c s (step c p l s)) ≡ None = alike zero (omega arith) in absurd (cc)
visits_meet c p l (suc n) (Err end) (Ok t) alike = let here : None ≡ Some (visit c t (step c p l t)) = alike zero (omega arith) in absurd (cc)
visits_meet c p l (suc n) (Err end) (Err last) alike = refl

pub same_deeds : SameMarksIsSameDeeds
same_deeds c p l n one other =
    (λ same k lt. sym (visited c p l n k one lt) ∙ ap (λ visits. slice_get visits k) same ∙ visited c p l n k other lt, visits_meet c p l n one other)

-- ---- two runs, step by step

one_more : (c : Contents) (p : ShapeParts) (l : Limits) (n i : ℕ) (s : State) → i < n
    → trace_from (n - i) c p l (Ok s) ≡ site_of s.frame ∷ trace_from (n - (i + 1)) c p l (step c p l s)
unfolding trace_from
one_more c p l n i s lt = let e : n - i ≡ suc (n - (i + 1)) = omega arith in rw e refl

none_more : (c : Contents) (p : ShapeParts) (l : Limits) (n : ℕ) (end : End) → trace_from n c p l (Err end) ≡ []
unfolding trace_from
none_more c p l zero end = refl
none_more c p l (suc n) end = refl

-- behind a place that two runs share, their traces are the same or not as before it
pub go_on_alike : (c : Contents) (p : ShapeParts) (l : Limits) (n i : ℕ) (one other : Step) → i < n → place one ≡ place other
    → (trace_from (n - (i + 1)) c p l (next c p l one) ≡ trace_from (n - (i + 1)) c p l (next c p l other)) ↔ (trace_from (n - i) c p l one ≡ trace_from (n - i) c p l other)
go_on_alike c p l n i (Ok s) (Ok t) lt here =
    let one = one_more c p l n i s lt in
    let other = one_more c p l n i t lt in
    let site : site_of s.frame ≡ site_of t.frame = cc in
    (λ same. cc, λ same. cc)
go_on_alike c p l n i (Ok s) (Err end) lt here = absurd (cc)
go_on_alike c p l n i (Err end) (Ok t) lt here = absurd (cc)
go_on_alike c p l n i (Err end) (Err last) lt here =
    (λ same. none_more c p l (n - i) end ∙ sym (none_more c p l (n - i) last), λ same. none_more c p l (n - (i + 1)) end ∙ sym (none_more c p l (n - (i + 1)) last))

pub over_alike : (c : Contents) (p : ShapeParts) (l : Limits) (n : ℕ) (one other : Step) → place one ≡ None → place other ≡ None → trace_from n c p l one ≡ trace_from n c p l other
over_alike c p l n (Err end) (Err last) first second = none_more c p l n end ∙ sym (none_more c p l n last)
over_alike c p l n (Ok s) other first second = absurd (cc)
over_alike c p l n (Err end) (Ok t) first second = absurd (cc)

pub apart : (c : Contents) (p : ShapeParts) (l : Limits) (n i : ℕ) (one other : Step) → i < n → (place one ≡ place other → ⊥) → trace_from (n - i) c p l one ≡ trace_from (n - i) c p l other → ⊥
apart c p l n i (Ok s) (Ok t) lt here same =
    let one = one_more c p l n i s lt in
    let other = one_more c p l n i t lt in
    let site : site_of s.frame ≡ site_of t.frame = cc in
    here (ap (λ (x : Site). Some x) site)
apart c p l n i (Ok s) (Err end) lt here same = let one = one_more c p l n i s lt in let other = none_more c p l (n - i) end in cc
apart c p l n i (Err end) (Ok t) lt here same = let one = none_more c p l (n - i) end in let other = one_more c p l n i t lt in cc
apart c p l n i (Err end) (Err last) lt here same = here refl

pub out_alike : (c : Contents) (p : ShapeParts) (l : Limits) (n i : ℕ) (one other : Step) → n ≤ i → trace_from (n - i) c p l one ≡ trace_from (n - i) c p l other
unfolding trace_from
out_alike c p l n i one other le = let e : n - i ≡ 0 = omega arith in rw e refl

-- ---- states after so many steps

pub goes_on : StepsGoOn
unfolding reach
goes_on c p l zero n first = let e : zero + n ≡ n = omega arith in ap (λ k. reach c p l k first) e
goes_on c p l (suc m) n first =
    let e : suc m + n ≡ suc (m + n) = omega arith in
    ap (λ k. reach c p l k first) e ∙ ap (next c p l) (goes_on c p l m n first)

pub ends_stay : EndsStay
ends_stay c p l m n first e le is =
    let sum : m ≡ (m - n) + n = omega arith in
    ap (λ k. reach c p l k first) sum ∙ goes_on c p l (m - n) n first ∙ ap (reach c p l (m - n)) is ∙ stays c p l (m - n) e

pub ends_there : RunEndsWhereItIs
ends_there c p l n steps first = (
  λ e le is. both_ways c p l steps first ∙ ap (λ (t : Step). after t more) (ends_stay c p l steps n first e le is),
  λ s is. both_ways c p l steps first ∙ ap (λ (t : Step). after t more) is,
)

shorter_trace : (c : Contents) (p : ShapeParts) (l : Limits) (m n : ℕ) (first : Step) → n ≤ m → trace_from n c p l first ≡ take n (trace_from m c p l first)
unfolding trace_from
shorter_trace c p l m zero first le = refl
shorter_trace c p l zero (suc n) first le = absurd (omega arith)
shorter_trace c p l (suc m) (suc n) (Ok s) le = ap (λ sites. site_of s.frame ∷ sites) (shorter_trace c p l m n (step c p l s) (omega arith))
shorter_trace c p l (suc m) (suc n) (Err end) le = refl

shorter_marks : (c : Contents) (p : ShapeParts) (l : Limits) (m n : ℕ) (first : Step) → n ≤ m → marked_from n c p l first ≡ take n (marked_from m c p l first)
unfolding marked_from
shorter_marks c p l m zero first le = refl
shorter_marks c p l zero (suc n) first le = absurd (omega arith)
shorter_marks c p l (suc m) (suc n) (Ok s) le = ap (λ visits. visit c s (step c p l s) ∷ visits) (shorter_marks c p l m n (step c p l s) (omega arith))
shorter_marks c p l (suc m) (suc n) (Err end) le = refl

pub shorter : ShorterTraces
shorter c p l m n first le = (shorter_trace c p l m n first le, shorter_marks c p l m n first le)

-- ---- two runs that go alike so far

same_place : (c : Contents) (p : ShapeParts) (l : Limits) (one other : Step) → next_visit c p l one ≡ next_visit c p l other → place one ≡ place other
same_place c p l one other same = sym (site_next c p l one) ∙ ap (option_map site_visited) same ∙ site_next c p l other

alike_or_last : (n k : ℕ) → k < n + 1 → (k < n) ⊎ (k ≡ n)
alike_or_last n k lt = elim (cases_lt k n) [
  | inl less ↦ inl less
  | inr le ↦ inr (omega arith)
]

pub goes_alike : GoesWithLaws
goes_alike c p l n one other = (
  λ alike. (λ k lt. alike k (omega arith), same_place c p l (reach c p l n one) (reach c p l n other) (alike n (omega arith))),
  λ goes k lt. elim (alike_or_last n k lt) [
    | inl less ↦ same_place c p l (reach c p l k one) (reach c p l k other) (goes.0 k less)
    | inr is ↦ ap (λ j. place (reach c p l j one)) is ∙ goes.1 ∙ sym (ap (λ j. place (reach c p l j other)) is)
  ],
)

less_or_same : (m n : ℕ) → m ≤ n → (m < n) ⊎ (m ≡ n)
less_or_same m n le = elim (cases_lt m n) [
  | inl less ↦ inl less
  | inr more ↦ inr (omega arith)
]

pub goes_fewer : GoesWithFewer
goes_fewer c p l m n one other le goes = (
  λ k lt. goes.0 k (omega arith),
  elim (less_or_same m n le) [
    | inl less ↦ same_place c p l (reach c p l m one) (reach c p l m other) (goes.0 m less)
    | inr is ↦ ap (λ j. place (reach c p l j one)) is ∙ goes.1 ∙ sym (ap (λ j. place (reach c p l j other)) is)
  ],
)
