use Rattle.std.proofs.Common.{◌≡◌, arith}
use Rattle.bit_blaster.proofs.Definitions.{all_over_from}
use Rattle.bit_blaster.proofs.Blasting.{fresh_more}
use Rattle.bit_blaster.proofs.kinds.fresh_bits.Goals as goal

pub loop-i-preserved : goal.loop-i-preserved
loop-i-preserved c = record {
  variables = rw c.fresh.ensures.formula (omega (arith, c.loop-i.invariant.variables));
  clauses = rw c.fresh.ensures.formula c.loop-i.invariant.clauses;
  made = rw (c.in_ok-push.ensures.items, c.loop-i.invariant.made, c.fresh.ensures.literal, c.loop-i.invariant.variables) (fresh_more c.args.f.now.variables c.loop-i.i);
}

pub returns : goal.returns
returns c = record {
  variables = let e : c.loop-i.i ≡ c.args.width = omega arith in rw (← e) c.loop-i.invariant.variables;
  clauses = c.loop-i.invariant.clauses;
  made = let e : c.loop-i.i ≡ c.args.width = omega arith in rw (← e) c.loop-i.invariant.made;
  over = all_over_from _ _ c.variables-variables.ensures.is_formula.over;
}
