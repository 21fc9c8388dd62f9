use Rattle.std.proofs.Common.{◌≡◌, ◌++◌, map, take, drop}
use Rattle.merge_table.specs.Table.{renamed}
use Rattle.merge_table.proofs.table.rename.Given as goal

abbrev pub invariant-loop-i : goal.invariant-loop-i
invariant-loop-i l = l.retained.items ≡ map (renamed l.keep l.gone) (take l.i l.initial.retained.items) ++ drop l.i l.initial.retained.items
