use Rattle.std.proofs.Common.{drop}
use Rattle.bit_blaster.specs.NodeBits.{IsBlastedTo}
use Rattle.bit_blaster.proofs.circuits.blast_affordable.Given as goal

abbrev pub invariant-loop-node : goal.invariant-loop-node
invariant-loop-node l = IsBlastedTo l.formula l.rows l.nodes (drop l.node-index l.nodes)
