use Rattle.std.proofs.Common.{◌≡◌, ◌≤◌, drop}
use Rattle.axe_words.specs.Numbers.{decimal_after, decimal}
use Rattle.axe_words.proofs.numbers.number_in.Given as goal

abbrev pub invariant-loop-byte : goal.invariant-loop-byte
invariant-loop-byte l = record {
  so_far : decimal l.text ≡ decimal_after l.value (drop l.byte-index l.text);
  small : l.value ≤ l.greatest;
}
