use Rattle.std.proofs.Common.{sym, ◌∙◌}
use Rattle.case_tables.proofs.Searches.{half_rises, half_finds, middle_found}
use Rattle.case_tables.proofs.table.find_in.Goals as goal

pub returns-then-here-key : goal.returns-then-here-key
returns-then-here-key g c =
    middle_found g.R.Row.key_of c.args.key c.loop-before.rows.now c.in-Some.before.now c.in-Some.after.now c.in-Some.row.now c.loop-before.invariant.rise c.in-Some.ensures (sym c.key-here.ensures ∙ c.if-here-key.true)
    ∙ c.loop-before.invariant.same

pub loop-before-preserved : goal.loop-before-preserved
loop-before-preserved g c = record {
  rise = half_rises g.R.Row.key_of _ c.loop-before.rows.now c.in-Some.before.now c.in-Some.after.now c.half-rows.result.now c.in-Some.row.now c.loop-before.invariant.rise c.in-Some.ensures c.half-rows.ensures;
  same =
      half_finds g.R.Row.key_of c.args.key c.loop-before.rows.now c.in-Some.before.now c.in-Some.after.now c.half-rows.result.now c.in-Some.row.now c.loop-before.invariant.rise c.in-Some.ensures
      (λ is. c.if-here-key.false (c.key-here.ensures ∙ is)) (rw (← c.key-here.ensures) c.half-rows.ensures)
      ∙ c.loop-before.invariant.same;
}
