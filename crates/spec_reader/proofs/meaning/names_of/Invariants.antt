use Rattle.std.proofs.Common.{◌≡◌, ◌≤◌, ℕ, List, drop}
use Rattle.spec_reader.specs.Forms.{or_meaning, meaning_in, meaning_of, entries_from, entries}
use Rattle.spec_reader.proofs.meaning.names_of.Given as goal

abbrev pub invariant-loop-number : goal.invariant-loop-number
invariant-loop-number l = record {
  so_far : (name : List ℕ) → or_meaning (meaning_in l.names name) (meaning_of (entries_from (drop l.number l.definitions) l.number l.functions l.constants) name) ≡ meaning_of (entries l.definitions) name;
  functions : l.functions ≤ l.number;
  constants : l.constants ≤ l.number;
}
