use Rattle.std.proofs.Common.{◌≡◌, ◌+◌}
use Rattle.bit_blaster.specs.NodeBits.{fresh_from}
use Rattle.bit_blaster.proofs.kinds.fresh_bits.Given as goal

abbrev pub invariant-loop-i : goal.invariant-loop-i
invariant-loop-i l = record {
  variables : l.f.variables ≡ l.initial.f.variables + l.i;
  clauses : l.f.clauses ≡ l.initial.f.clauses;
  made : l.out.items ≡ fresh_from l.initial.f.variables l.i;
}
