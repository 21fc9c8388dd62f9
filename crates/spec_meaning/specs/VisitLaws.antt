-- What is true of the visits of every evaluation.
use Rattle.std.specs.Prelude.{◌≡◌, ℕ, ◌+◌, ◌-◌, ◌≤◌, ◌<◌, ◌⊎◌, true, false, List, [], ◌∷◌, length, slice_get, Some, Result, Ok, Err}
use Rattle.spec_form.specs.declared.form.Form.{Form, out-Form}
use Rattle.spec_form.specs.declared.form.FormKind.{FormKind}
use Rattle.spec_form.specs.declared.form.FormKind.TheOpen.{FormKind-F}
use Rattle.spec_form.specs.declared.form.FormKind.TheOpen as kind
use Rattle.spec_form.specs.declared.program.Program.{Program}
use Rattle.spec_form.specs.declared.program.FunId.{FunId}
use Rattle.spec_meaning.specs.declared.value.Value.{Value}
use Rattle.spec_meaning.specs.declared.value.Why.{Why}
use Rattle.spec_meaning.specs.declared.value.Why.TheVariants.{NotANumber}
use Rattle.spec_meaning.specs.declared.stop.Stop.{Stop}
use Rattle.spec_meaning.specs.declared.stop.Stop.TheVariants.{Outside, MoreDepth, MoreWork}
use Rattle.spec_meaning.specs.Evaluations.{eval_form, eval_kind, eval_body, call_value, is_too_deep, kind_of}
use Rattle.spec_meaning.specs.Visits.{Address, Visit, form_at, Visits, IsVisited, IsCounted, value_at, arguments_at}

-- ---- one form

-- a form stops where it may not be open, or where no visit is left; else it is evaluated by its kind with one visit
-- less, and its parts may have one form less open
pub record EvaluatesByKind : Type 0 where
  pub deep : (p : Program) (depth : ℕ) (variables : List Value) (form : Form) (left : ℕ) → is_too_deep depth (kind_of form) ≡ true → eval_form p depth variables form left ≡ Err MoreDepth
  pub spent : (p : Program) (depth : ℕ) (variables : List Value) (form : Form) (left : ℕ) → is_too_deep depth (kind_of form) ≡ false → left ≡ 0 → eval_form p depth variables form left ≡ Err MoreWork
  pub entered : (p : Program) (depth : ℕ) (variables : List Value) (form : Form) (left : ℕ) → is_too_deep depth (kind_of form) ≡ false → (left ≡ 0 → ⊥) → eval_form p depth variables form left ≡ eval_kind p (eval_form p (depth - 1)) variables (out-Form form).at (kind_of form) (left - 1)

-- the evaluation of a function's body, with the visits that are left
abbrev pub evaluated : Program → FunId → List Value → ℕ → ℕ → Result (Value × ℕ) Stop
evaluated p f args depth work = eval_body (eval_form p depth) 0 (slice_get p.functions f.0) args work

-- ---- work

-- with so many visits more the same comes out, and they are left over; a want of work alone may end
abbrev pub IsWith : {A : Type 0} → ℕ → Result (A × ℕ) Stop → Result (A × ℕ) Stop → Type 0
IsWith more (Ok x) wider = wider ≡ Ok (x.0, x.1 + more)
IsWith more (Err (Outside at why)) wider = wider ≡ Err (Outside at why)
IsWith more (Err MoreDepth) wider = wider ≡ Err MoreDepth
IsWith more (Err MoreWork) wider = Unit {0}

abbrev pub MoreWorkIsLeftOver : Type 0
MoreWorkIsLeftOver = (p : Program) (depth : ℕ) (variables : List Value) (form : Form) (left more : ℕ) → IsWith more (eval_form p depth variables form left) (eval_form p depth variables form (left + more))

-- ---- addresses

-- an address is among some
abbrev pub IsAmong : List Address → Address → Type 0
IsAmong [] address = ⊥
IsAmong (first ∷ others) address = (first ≡ address) ⊎ IsAmong others address

-- no address stands there twice
abbrev pub AreDifferent : List Address → Type 0
AreDifferent [] = Unit {0}
AreDifferent (first ∷ others) = (IsAmong others first → ⊥) × AreDifferent others

-- so many visits are used of those that there are: all others are left
abbrev pub UsesUp : ℕ → ℕ → Result (Value × ℕ) Stop → Type 0
UsesUp count work (Ok x) = count + x.1 ≡ work
UsesUp count work (Err (Outside at why)) = count ≤ work
UsesUp count work (Err MoreDepth) = count ≤ work
UsesUp count work (Err MoreWork) = count ≡ work

-- the addresses that an evaluation visits, each of them once
pub record AreVisited (p : Program) (f : FunId) (args : List Value) (depth work : ℕ) (addresses : List Address) : Type 0 where
  pub each : (address : Address) → IsAmong addresses address → IsVisited p f args depth work address
  pub all : (address : Address) → IsVisited p f args depth work address → IsAmong addresses address
  pub once : AreDifferent addresses
  pub used : UsesUp (length addresses) work (evaluated p f args depth work)

-- each visit is to an address of its own, and uses up one of the visits that there are
abbrev pub VisitsAreUsed : Type 0
VisitsAreUsed = (p : Program) (f : FunId) (args : List Value) (depth work : ℕ) → (addresses : List Address) × AreVisited p f args depth work addresses

-- the one address that is counted and not visited
pub record IsNext (p : Program) (f : FunId) (args : List Value) (depth work : ℕ) (next : Address) : Type 0 where
  pub counted : IsCounted p f args depth work next
  pub unvisited : IsVisited p f args depth work next → ⊥
  pub only : (address : Address) → IsCounted p f args depth work address → IsVisited p f args depth work address ⊎ (address ≡ next)

abbrev pub CountsBeside : Program → FunId → List Value → ℕ → ℕ → Result (Value × ℕ) Stop → Type 0
CountsBeside p f args depth work (Err MoreWork) = (next : Address) × IsNext p f args depth work next
CountsBeside p f args depth work _ = (address : Address) → IsCounted p f args depth work address → IsVisited p f args depth work address

-- visited addresses are counted, and one more where work runs out, but none where it doesn't
pub record VisitedIsCounted : Type 0 where
  pub visited : (p : Program) (f : FunId) (args : List Value) (depth work : ℕ) (address : Address) → IsVisited p f args depth work address → IsCounted p f args depth work address
  pub beside : (p : Program) (f : FunId) (args : List Value) (depth work : ℕ) → CountsBeside p f args depth work (evaluated p f args depth work)

-- the form at a visited address is the same on every input
abbrev pub FormIsTheAddress : Type 0
FormIsTheAddress = (p : Program) (f : FunId) (args : List Value) (depth work : ℕ) (address : Address) (v : Visit) → Visits p f args depth work address v → form_at p f address ≡ Some v.form

-- ---- stops

-- why a form has no value though its parts have theirs: the table says so of a call of the language at their values; of
-- another form, that its parts aren't those of its kind, which no text spells
abbrev pub HasNoValue : Program → Visit → Why → FormKind-F FormKind Form → Type 0
HasNoValue p v why (kind.Builtin b parts) = (values : List Value) × (left : ℕ) × (arguments_at p v parts ≡ Ok (values, left)) × (call_value b values ≡ Err why)
HasNoValue p v why _ = why ≡ NotANumber

-- an evaluation ends at a visited form with this offset, which has no value for this cause
pub record StopsAt (p : Program) (f : FunId) (args : List Value) (depth work : ℕ) (at : ℕ) (why : Why) : Type 0 where
  pub address : Address
  pub visit : Visit
  pub visits : Visits p f args depth work address visit
  pub offset : (out-Form visit.form).at ≡ at
  pub stops : value_at p visit ≡ Err (Outside at why)
  pub cause : HasNoValue p visit why (kind_of visit.form)

pub record StopAtAVisit : Type 0 where
  pub outside : (p : Program) (f : FunId) (args : List Value) (depth work : ℕ) (at : ℕ) (why : Why) → f.0 < length p.functions → evaluated p f args depth work ≡ Err (Outside at why) → StopsAt p f args depth work at why
  pub whole : (p : Program) (f : FunId) (args : List Value) (depth work : ℕ) (address : Address) (v : Visit) (stop : Stop) → Visits p f args depth work address v → value_at p v ≡ Err stop → evaluated p f args depth work ≡ Err stop
