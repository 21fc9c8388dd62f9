use Rattle.std.proofs.Common.{ℕ, List, Option, Some, None}
use Rattle.std.specs.Prelude.{IfSome}
use Rattle.dag.specs.declared.node.Node.{Node}
use Rattle.word_check.specs.Sums.{AreBitParts}
use Rattle.word_check.specs.declared.sums.BitParts.{BitParts}
use Rattle.word_check.specs.declared.sums.Term.{Term}
use Rattle.word_check.proofs.overlaps.bit_parts_of.Goals as goal

at_width : (nodes : List Node) (t : Term) (w : ℕ) (o : Option BitParts) → IfSome o (λ p. (v : ℕ) → AreBitParts nodes v t p) → IfSome o (AreBitParts nodes w t)
at_width nodes t w None h = h
at_width nodes t w (Some p) h = h w

pub returns-in-And : goal.returns-in-And
returns-in-And c = at_width c.args.nodes.now c.args.term c.args.width c.both.result c.both.ensures
