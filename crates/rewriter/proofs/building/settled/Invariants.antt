use Rattle.rewriter.specs.Building.{IsLike}
use Rattle.rewriter.proofs.building.settled.Given as goal

abbrev pub invariant-loop : goal.invariant-loop
invariant-loop l = IsLike l.dag l.fn.node l.next
