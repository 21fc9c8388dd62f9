use Rattle.std.proofs.Common.{◌≡◌, ◌++◌, drop, map, pos}
use Rattle.spec_meaning.proofs.arguments.numbers.Given as goal

abbrev pub invariant-loop-leaf : goal.invariant-loop-leaf
invariant-loop-leaf l = l.numbers ++ map pos (drop l.leaf-index l.leaves) ≡ map pos l.leaves
