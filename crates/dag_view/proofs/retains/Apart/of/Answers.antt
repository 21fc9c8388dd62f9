use Rattle.std.proofs.Common.{refl, sym}
use Rattle.std.specs.List.{range_with_len}
use Rattle.merge_table.specs.KeepsValues.{KeepsValues}
use Rattle.merge_table.proofs.Tables.{range_keeps}
use Rattle.dag_view.proofs.retains.Apart.of.Goals as goal

pub returns-clause-table : goal.returns-clause-table
returns-clause-table c =
    let keeps : KeepsValues c.args.dag.now (range_with_len 0 c.len.result) = range_keeps c.args.dag.now c.len.result (sym c.len.ensures) in
    record { size = keeps.size; flat = keeps.flat; widths = keeps.widths }

pub returns-clause-keeps : goal.returns-clause-keeps
returns-clause-keeps c = range_keeps c.args.dag.now c.len.result (sym c.len.ensures)
