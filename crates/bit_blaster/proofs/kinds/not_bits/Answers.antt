use Rattle.std.proofs.Common.{◌∙◌}
use Rattle.std.proofs.Common.{ap, map}
use Rattle.cnf_clauses.specs.Literal.{opposite}
use Rattle.std.proofs.lemmas.Result.{IfOk-weaker}
use Rattle.bit_blaster.proofs.KindLemmas.{not_node}
use Rattle.bit_blaster.proofs.kinds.not_bits.Goals as goal

pub returns : goal.returns
returns c = IfOk-weaker c.inverted.result _ _ (λ r e. not_node _ _ _ _ (rw c.one-xs.ensures.is at c.one-xs.ensures.width) (rw c.one-xs.ensures.is at c.one-xs.ensures.low) (rw c.one-xs.ensures.is at c.one-xs.ensures.high) (rw c.one-xs.ensures.is at c.one-xs.ensures.inside) (e ∙ ap (map opposite) c.one-xs.ensures.is)) c.inverted.ensures
