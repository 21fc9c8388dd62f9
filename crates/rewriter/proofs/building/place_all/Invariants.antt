use Rattle.std.proofs.Common.{take, drop}
use Rattle.rewriter.specs.Building.{IsPlaced, IsCounted}
use Rattle.rewriter.proofs.building.place_all.Given as goal

abbrev pub invariant-loop-i : goal.invariant-loop-i
invariant-loop-i l = record {
  placed : IsPlaced l.initial.dag l.dag (take l.i l.ids) (drop l.i l.nodes) l.nodes;
  counted : IsCounted l.initial.charge l.charge l.initial.dag l.dag;
}
