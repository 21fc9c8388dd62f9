-- A fault stays the fault of all that is read behind it.
use Rattle.std.proofs.Common.{refl, inl, inr}
use Rattle.reading.specs.Readers.{Read, Reader, continue_with}
use Rattle.reading.specs.Answers.{FailsAs}

pub FailsAs-continue_with : {E A B : Type 0} (memory e : E) (read : Read E A) (next : A → Reader E B) → FailsAs memory e read → FailsAs memory e (continue_with read next)
FailsAs-continue_with memory e read next (inl h) = inl h
FailsAs-continue_with memory e read next (inr h) = inr (rw h refl)
