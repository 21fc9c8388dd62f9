-- What a call answers, against what a reader gives. One fault of the type says that memory ran out, which
-- no reader gives: it is named first.
use Rattle.std.specs.Prelude.{◌≡◌, ◌⊎◌, Result, Ok, Err}

-- memory ran out, or the reader gives this fault
abbrev pub FailsAs : {E Y : Type 0} → E → E → Result Y E → Type 0
FailsAs memory e read = (e ≡ memory) ⊎ (read ≡ Err e)

-- the answer, seen by a view, is what the reader gives, unless memory ran out
abbrev pub GivesAs : {E X Y : Type 0} → E → (X → Y) → Result X E → Result Y E → Type 0
GivesAs memory view (Ok x) read = read ≡ Ok (view x)
GivesAs memory view (Err e) read = FailsAs memory e read
