-- What a call answers, against what is computed.
use Rattle.std.specs.Prelude.{◌≡◌, Result, Ok, Err}
use Rattle.spec_meaning.specs.declared.fault.Fault.{Fault}
use Rattle.spec_meaning.specs.declared.fault.Fault.TheVariants.{Cause, Memory}

-- the cause is the one that is computed, unless memory ran out
abbrev pub Fails : {E Y : Type 0} → Fault E → Result Y E → Type 0
Fails Memory computed = Unit {0}
Fails (Cause e) computed = computed ≡ Err e

-- what a call answered, seen by view, is what is computed, unless memory ran out
abbrev pub Gives : {E X Y : Type 0} → (X → Y) → Result X (Fault E) → Result Y E → Type 0
Gives view (Ok x) computed = computed ≡ Ok (view x)
Gives view (Err fault) computed = Fails fault computed
