use Rattle.std.proofs.Common.{◌≡◌, ◌==◌, true, length, map, find}
use Rattle.case_tables.specs.Tables.{rise}
use Rattle.case_tables.proofs.table.find_in.Given as goal

-- the rows that are left rise, and have the row of the key exactly where all rows do
abbrev pub invariant-loop-before : goal.invariant-loop-before
invariant-loop-before g l = record {
  rise : rise (map g.R.Row.key_of l.rows) ≡ true;
  same : find (λ r. g.R.Row.key_of r == l.key) l.rows ≡ find (λ r. g.R.Row.key_of r == l.key) l.all;
}

abbrev pub decreases-loop-before : goal.decreases-loop-before
decreases-loop-before g l = length l.rows
