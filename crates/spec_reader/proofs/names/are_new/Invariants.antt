use Rattle.std.proofs.Common.{◌≡◌, drop}
use Rattle.spec_reader.specs.Names.{is_seen, are_fresh, are_distinct}
use Rattle.spec_reader.proofs.names.are_new.Given as goal

abbrev pub invariant-loop-name : goal.invariant-loop-name
invariant-loop-name l = are_fresh (is_seen l.seen) (drop l.name-index l.names) ≡ are_distinct l.names
