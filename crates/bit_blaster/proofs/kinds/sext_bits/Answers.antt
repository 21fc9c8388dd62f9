use Rattle.std.proofs.Common.{false}
use Rattle.std.proofs.lemmas.Result.{IfOk-weaker}
use Rattle.cnf_clauses.specs.Literal.{Literal}
use Rattle.bit_blaster.proofs.KindLemmas.{sext_node}
use Rattle.bit_blaster.proofs.kinds.sext_bits.Goals as goal

pub returns : goal.returns
returns c = let d : Literal = record { var = 0; negated = false } in IfOk-weaker c.extended.result _ _ (λ r e. sext_node _ _ _ _ d _ c.requires.fits (rw c.one-xs.ensures.is at c.one-xs.ensures.width) (rw c.one-xs.ensures.is at c.one-xs.ensures.low) (rw c.one-xs.ensures.is at c.one-xs.ensures.inside) (rw c.one-xs.ensures.is at e)) c.extended.ensures
