-- What trying finds is right.
use Rattle.std.proofs.Common.{◌≡◌, ℕ, zero, suc, ◌+◌, ◌^◌, ◌<◌, ◌≤◌, Bool, true, false, List, Option, Some, None, refl, sym, ap, ◌∙◌, subst, inl, inr, arith}
use Rattle.std.specs.Prelude.{◌⊎◌}
use Rattle.std.proofs.lemmas.Bool.{cases_lt}
use Rattle.axe_io.specs.Inputs.{IsInput, bits_of, number_of, input_at, AreCounted}
use Rattle.axe_io.specs.declared.budgets.Budget.{Budget}
use Rattle.axe_io.specs.declared.budgets.Budget.TheVariants.{Steps, Paths, Frames, Elements, Depth, Work, Nodes, Variables, Settle, Lines, Total}
use Rattle.class_file.specs.declared.class.MethodId.{MethodId}
use Rattle.spec_meaning.specs.declared.value.Value.{Value}
use Rattle.spec_meaning.specs.declared.value.SpecEnd.{SpecEnd}
use Rattle.spec_meaning.specs.declared.value.SpecEnd.TheVariants as evaluation
use Rattle.jvm_meaning.specs.Numbers.{Seen}
use Rattle.jvm_state.specs.declared.value.Throw.{Throw}
use Rattle.jvm_meaning.specs.Numbers.{End}
use Rattle.jvm_state.specs.declared.value.End.TheVariants as run
use Rattle.job_meaning.specs.declared.shown.Shown.{Shown}
use Rattle.job_meaning.specs.declared.shown.Shown.TheVariants.{Differs, Refused, Outside, Spends}
use Rattle.job_meaning.specs.Jobs.{Job, Agrees, widths_of, method_end, spec_end, is_same}
use Rattle.job_meaning.specs.Trying.{compared, unless_same, thrown, Passes, IsResult, shown_by, shown_at, tried_from, tried, AgreesBefore, Shows, IsFound, IsShown, ShownIsRight, Settles, IsDecision, TriedIsComplete}

-- ---- the two ends on one input

tested : (b : Bool) → (b ≡ true) ⊎ (b ≡ false)
tested true = inl refl
tested false = inr refl

-- two ends that agree
record Agree (end : End) (spec : SpecEnd) : Type 0 where
  seen : Seen
  value : Value
  returns : end ≡ run.Returned seen
  gives : spec ≡ evaluation.Value value
  same : is_same seen value ≡ true

compared_agree : (seen : Seen) (spec : SpecEnd) → compared (unless_same seen) spec ≡ None → Agree (run.Returned seen) spec
compared_agree seen (evaluation.Value value) h = elim (tested (is_same seen value)) [
  | inl same ↦ record { seen = seen; value = value; returns = refl; gives = refl; same = same }
  | inr differ ↦ absurd (let h' : Some (Differs (run.Returned seen) value) ≡ None = rw differ at h in cc)
]
compared_agree seen (evaluation.Outside at why) h = absurd cc
compared_agree seen evaluation.MoreDepth h = absurd cc
compared_agree seen evaluation.MoreWork h = absurd cc

thrown_shows : (kind : Throw) (method : MethodId) (pc : ℕ) (spec : SpecEnd) → compared (thrown kind method pc) spec ≡ None → ⊥
thrown_shows kind method pc (evaluation.Value value) h = cc
thrown_shows kind method pc (evaluation.Outside at why) h = cc
thrown_shows kind method pc evaluation.MoreDepth h = cc
thrown_shows kind method pc evaluation.MoreWork h = cc

none_shown : (end : End) (spec : SpecEnd) → shown_by end spec ≡ None → Agree end spec
none_shown (run.Returned seen) spec h = compared_agree seen spec h
none_shown (run.Threw kind method pc) spec h = absurd (thrown_shows kind method pc spec h)
none_shown (run.Refused reason method pc) spec h = absurd cc
none_shown run.MoreSteps spec h = absurd cc
none_shown run.MoreFrames spec h = absurd cc
none_shown run.MoreElements spec h = absurd cc

agrees : (job : Job) (input : List ℕ) → shown_at job input ≡ None → Agrees job input
agrees job input h = let a = none_shown (method_end job input) (spec_end job input) h in record { seen = a.seen; value = a.value; returns = a.returns; gives = a.gives; same = a.same }

-- two ends pass a budget
abbrev EndsPass : End → SpecEnd → Budget → Type 0
EndsPass end spec Steps = end ≡ run.MoreSteps
EndsPass end spec Frames = end ≡ run.MoreFrames
EndsPass end spec Elements = end ≡ run.MoreElements
EndsPass end spec Depth = spec ≡ evaluation.MoreDepth
EndsPass end spec Work = spec ≡ evaluation.MoreWork
EndsPass end spec _ = ⊥

-- what two ends show
abbrev EndsShow : End → SpecEnd → Shown → Type 0
EndsShow end spec (Refused reason method pc) = end ≡ run.Refused reason method pc
EndsShow end spec (Outside at reason) = spec ≡ evaluation.Outside at reason
EndsShow end spec (Spends budget) = EndsPass end spec budget
EndsShow end spec (Differs method value) = IsResult method × (end ≡ method) × (spec ≡ evaluation.Value value) × ((seen : Seen) → end ≡ run.Returned seen → is_same seen value ≡ false)

moved : (end : End) (spec : SpecEnd) (a b : Shown) → Some a ≡ Some b → EndsShow end spec a → EndsShow end spec b
moved end spec a b h shows = let e : a ≡ b = cc in subst (EndsShow end spec) e shows

seen_is : (a b : Seen) → run.Returned a ≡ run.Returned b → a ≡ b
seen_is a b h = cc

returned_shows : (seen : Seen) (spec : SpecEnd) (shown : Shown) → compared (unless_same seen) spec ≡ Some shown → EndsShow (run.Returned seen) spec shown
returned_shows seen (evaluation.Value value) shown h = elim (tested (is_same seen value)) [
  | inl same ↦ absurd (let h' : None ≡ Some shown = rw same at h in cc)
  | inr differ ↦ moved (run.Returned seen) (evaluation.Value value) _ shown (rw differ at h) (tt, refl, refl, λ other is. let e : seen ≡ other = seen_is seen other is in rw (← e) differ)
]
returned_shows seen (evaluation.Outside at why) shown h = moved (run.Returned seen) (evaluation.Outside at why) _ shown h refl
returned_shows seen evaluation.MoreDepth shown h = moved (run.Returned seen) evaluation.MoreDepth _ shown h refl
returned_shows seen evaluation.MoreWork shown h = moved (run.Returned seen) evaluation.MoreWork _ shown h refl

throw_shows : (kind : Throw) (method : MethodId) (pc : ℕ) (spec : SpecEnd) (shown : Shown) → compared (thrown kind method pc) spec ≡ Some shown → EndsShow (run.Threw kind method pc) spec shown
throw_shows kind method pc (evaluation.Value value) shown h = moved (run.Threw kind method pc) (evaluation.Value value) _ shown h (tt, refl, refl, λ seen is. absurd cc)
throw_shows kind method pc (evaluation.Outside at why) shown h = moved (run.Threw kind method pc) (evaluation.Outside at why) _ shown h refl
throw_shows kind method pc evaluation.MoreDepth shown h = moved (run.Threw kind method pc) evaluation.MoreDepth _ shown h refl
throw_shows kind method pc evaluation.MoreWork shown h = moved (run.Threw kind method pc) evaluation.MoreWork _ shown h refl

ends_show : (end : End) (spec : SpecEnd) (shown : Shown) → shown_by end spec ≡ Some shown → EndsShow end spec shown
ends_show (run.Returned seen) spec shown h = returned_shows seen spec shown h
ends_show (run.Threw kind method pc) spec shown h = throw_shows kind method pc spec shown h
ends_show (run.Refused reason method pc) spec shown h = moved (run.Refused reason method pc) spec _ shown h refl
ends_show run.MoreSteps spec shown h = moved run.MoreSteps spec _ shown h refl
ends_show run.MoreFrames spec shown h = moved run.MoreFrames spec _ shown h refl
ends_show run.MoreElements spec shown h = moved run.MoreElements spec _ shown h refl

value_is : (a b : Value) → evaluation.Value a ≡ evaluation.Value b → a ≡ b
value_is a b h = cc

passed : (job : Job) (input : List ℕ) (budget : Budget) → EndsPass (method_end job input) (spec_end job input) budget → Passes job input budget
passed job input Steps h = h
passed job input Paths h = absurd h
passed job input Frames h = h
passed job input Elements h = h
passed job input Depth h = h
passed job input Work h = h
passed job input Nodes h = absurd h
passed job input Variables h = absurd h
passed job input Settle h = absurd h
passed job input Lines h = absurd h
passed job input Total h = absurd h

input_shows : (job : Job) (input : List ℕ) (shown : Shown) → EndsShow (method_end job input) (spec_end job input) shown → Shows job input shown
input_shows job input (Refused reason method pc) h = h
input_shows job input (Outside at reason) h = h
input_shows job input (Spends budget) h = passed job input budget h
input_shows job input (Differs end value) h = (
  h.0,
  h.1,
  h.2,
  λ a.
      let same : a.value ≡ value = value_is a.value value (sym a.gives ∙ h.2) in
      let differ : is_same a.seen value ≡ false = h.3 a.seen a.returns in
      let both : true ≡ false = sym a.same ∙ ap (is_same a.seen) same ∙ differ in
      cc,
)

shown_shows : (job : Job) (input : List ℕ) (shown : Shown) → shown_at job input ≡ Some shown → Shows job input shown
shown_shows job input shown h = input_shows job input shown (ends_show (method_end job input) (spec_end job input) shown h)

shown_by_cases : (job : Job) (input : List ℕ) (o : Option Shown) → shown_at job input ≡ o → IsShown job input o
shown_by_cases job input None h = agrees job input h
shown_by_cases job input (Some shown) h = shown_shows job input shown h

pub shown_right : ShownIsRight
shown_right job input = shown_by_cases job input (shown_at job input) refl

-- ---- all inputs

option_cases : {A : Type 0} (o : Option A) → (o ≡ None) ⊎ ((x : A) × (o ≡ Some x))
option_cases None = inl refl
option_cases (Some x) = inr (x, refl)

abbrev input_of : Job → ℕ → List ℕ
input_of job n = input_at (widths_of job) n

-- the inputs from one number up to another show nothing
abbrev AreSilent : Job → ℕ → ℕ → Type 0
AreSilent job n end = (k : ℕ) → n ≤ k → k < end → shown_at job (input_of job k) ≡ None

-- the first of them that shows something, and what trying finds then
record IsLoud (job : Job) (n end : ℕ) (first : Option (List ℕ × Shown)) : Type 0 where
  place : ℕ
  shown : Shown
  from : n ≤ place
  to : place < end
  silent : AreSilent job n place
  loud : shown_at job (input_of job place) ≡ Some shown
  is : first ≡ Some (input_of job place, shown)

tried_cases : (job : Job) (left n end : ℕ) → n + left ≡ end → (AreSilent job n end × (tried_from job left n ≡ None)) ⊎ IsLoud job n end (tried_from job left n)
tried_cases job zero n end is = inl (λ k ge lt. absurd (omega arith), refl)
tried_cases job (suc left) n end is = elim (option_cases (shown_at job (input_of job n))) [
  | inr p ↦ inr (record { place = n; shown = p.0; from = omega arith; to = omega arith; silent = λ k ge lt. absurd (omega arith); loud = p.1; is = rw p.1 refl })
  | inl none ↦ elim (tried_cases job left (n + 1) end (omega arith)) [
    | inl p ↦ inl (λ k ge lt. elim (cases_lt n k) [ inl after ↦ p.0 k (omega arith) lt | inr same ↦ let e : k ≡ n = omega arith in rw e none ], rw none p.1)
    | inr l ↦ inr (record { place = l.place; shown = l.shown; from = omega (arith, l.from); to = l.to; silent = λ k ge lt. elim (cases_lt n k) [ inl after ↦ l.silent k (omega arith) lt | inr same ↦ let e : k ≡ n = omega arith in rw e none ]; loud = l.loud; is = rw none l.is })
  ]
]

-- an input before a number shows what that number's input shows
silent_agrees : (job : Job) (end : ℕ) (input : List ℕ) → AreSilent job 0 end → AreCounted → IsInput (widths_of job) input → number_of (widths_of job) input < end → Agrees job input
silent_agrees job end input silent counted is lt = agrees job input (ap (shown_at job) (sym (counted.place (widths_of job) input is)) ∙ silent (number_of (widths_of job) input) (omega arith) lt)

before : (job : Job) (counted : AreCounted) (k : ℕ) → k < 2 ^ bits_of (widths_of job) → AreSilent job 0 k → AgreesBefore job (input_of job k)
before job counted k lt silent earlier is less = silent_agrees job k earlier silent counted is (let less' : number_of (widths_of job) earlier < k = (rw (counted.number (widths_of job) k lt) at less) in less')

loud_is_right : (job : Job) (counted : AreCounted) (first : Option (List ℕ × Shown)) → IsLoud job 0 (2 ^ bits_of (widths_of job)) first → IsFound job first
loud_is_right job counted first l = subst (IsFound job) (sym l.is) (record {
  is_input = counted.is_input (widths_of job) l.place l.to;
  shows = shown_shows job (input_of job l.place) l.shown l.loud;
  first = before job counted l.place l.to l.silent;
})

pub right : (job : Job) → AreCounted → IsFound job (tried job)
unfolding tried
right job counted = elim (tried_cases job (2 ^ bits_of (widths_of job)) 0 (2 ^ bits_of (widths_of job)) (omega arith)) [
  | inl p ↦ subst (IsFound job) (sym p.1) (λ input is. silent_agrees job (2 ^ bits_of (widths_of job)) input p.0 counted is (counted.below (widths_of job) input is))
  | inr l ↦ loud_is_right job counted (tried_from job (2 ^ bits_of (widths_of job)) 0) l
]

-- ---- where each input has a result and a value

moved_result : (a b : End) → a ≡ b → IsResult a → IsResult b
moved_result a b is r = subst IsResult is r

passes_none : (job : Job) (input : List ℕ) (budget : Budget) → Settles job input → Passes job input budget → ⊥
passes_none job input Steps s is = moved_result _ _ is s.result
passes_none job input Frames s is = moved_result _ _ is s.result
passes_none job input Elements s is = moved_result _ _ is s.result
passes_none job input Depth s is = let e : evaluation.Value s.value ≡ evaluation.MoreDepth = sym s.gives ∙ is in cc
passes_none job input Work s is = let e : evaluation.Value s.value ≡ evaluation.MoreWork = sym s.gives ∙ is in cc
passes_none job input Paths s is = is
passes_none job input Nodes s is = is
passes_none job input Variables s is = is
passes_none job input Settle s is = is
passes_none job input Lines s is = is
passes_none job input Total s is = is

first_decides : (job : Job) (input : List ℕ) (shown : Shown) → Settles job input → Shows job input shown → IsDecision (Some (input, shown))
first_decides job input (Differs end value) s is = tt
first_decides job input (Refused reason method pc) s is = moved_result _ _ is s.result
first_decides job input (Outside at reason) s is = let e : evaluation.Value s.value ≡ evaluation.Outside at reason = sym s.gives ∙ is in cc
first_decides job input (Spends budget) s is = passes_none job input budget s is

complete_by : (job : Job) (o : Option (List ℕ × Shown)) → ((input : List ℕ) → IsInput (widths_of job) input → Settles job input) → IsFound job o → IsDecision o
complete_by job None all found = tt
complete_by job (Some (input, shown)) all found = first_decides job input shown (all input found.is_input) found.shows

pub complete : AreCounted → TriedIsComplete
complete counted job all = complete_by job (tried job) all (right job counted)
