use Rattle.std.proofs.Common.{◌≡◌, ◌≤◌, drop}
use Rattle.spec_reader.specs.Numbers.{value_from}
use Rattle.spec_reader.proofs.Digits.{greatest, capped}
use Rattle.spec_reader.proofs.number.value_from.Given as goal

abbrev pub invariant-loop-byte : goal.invariant-loop-byte
invariant-loop-byte l = record {
  so_far : capped (value_from l.base l.value (drop l.byte-index l.digits)) ≡ capped (value_from l.base 0 l.digits);
  within : l.value ≤ greatest;
}
