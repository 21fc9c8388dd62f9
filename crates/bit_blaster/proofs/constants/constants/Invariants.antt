use Rattle.std.proofs.Common.{◌≡◌, ◌+◌, ◌*◌, ◌^◌, ◌<◌, ℕ, Bool, true, length}
use Rattle.cnf_clauses.specs.Clause.{IsOver}
use Rattle.bit_blaster.specs.Spelling.{spelled}
use Rattle.bit_blaster.proofs.constants.constants.Given as goal

abbrev pub invariant-loop-i : goal.invariant-loop-i
invariant-loop-i l = record {
  size : length l.out.items ≡ l.i;
  inside : (n : ℕ) → 0 < n → IsOver n l.out.items;
  total : (v : ℕ → Bool) → v 0 ≡ true → spelled v l.out.items + 2 ^ l.i * l.rest ≡ l.value;
}
