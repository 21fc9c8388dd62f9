-- Computations that use up visits.
use Rattle.std.specs.Prelude.{ℕ, zero, suc, Result, Ok, Err}
use Rattle.spec_meaning.specs.declared.value.Value.{Value}
use Rattle.spec_meaning.specs.declared.value.Why.{Why}
use Rattle.spec_meaning.specs.declared.value.Why.TheVariants.{NotANumber}
use Rattle.spec_meaning.specs.declared.stop.Stop.{Stop}
use Rattle.spec_meaning.specs.declared.stop.Stop.TheVariants.{Outside, MoreWork}

-- from the visits that are left: what is computed with those that are left then, or why it stops
abbrev pub Work : Type 0 → Type 0
Work A = ℕ → Result (A × ℕ) Stop

abbrev pub continued : {A B : Type 0} → Result (A × ℕ) Stop → (A → Work B) → Result (B × ℕ) Stop
continued (Ok x) next = next x.0 x.1
continued (Err stop) next = Err stop

infixl 10 ◌>>=◌
abbrev pub ◌>>=◌ : {A B : Type 0} → Work A → (A → Work B) → Work B
work >>= next = λ left. continued (work left) next

abbrev pub gives : {A : Type 0} → A → Work A
gives x = λ left. Ok (x, left)

abbrev pub stops : {A : Type 0} → Stop → Work A
stops stop = λ left. Err stop

-- a visit, and then this
abbrev pub visit : {A : Type 0} → Work A → Work A
visit work zero = Err MoreWork
visit work (suc left) = work left

-- the value of a call of the language, made by the form at this offset
abbrev pub valued : ℕ → Result Value Why → Work Value
valued at (Ok value) = gives value
valued at (Err why) = stops (Outside at why)

-- a form whose parts aren't those of its kind, which no text spells
abbrev pub malformed : ℕ → Work Value
malformed at = stops (Outside at NotANumber)
