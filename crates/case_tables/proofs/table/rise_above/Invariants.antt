use Rattle.std.proofs.Common.{◌≡◌, drop, map}
use Rattle.case_tables.specs.Tables.{rise_above}
use Rattle.case_tables.proofs.table.rise_above.Given as goal

-- the keys that are left rise exactly where all of them do
abbrev pub invariant-loop-row : goal.invariant-loop-row
invariant-loop-row g l =
    rise_above l.last (map g.R.Row.key_of (drop l.row-index l.rows)) ≡ rise_above l.first (map g.R.Row.key_of l.rows)
