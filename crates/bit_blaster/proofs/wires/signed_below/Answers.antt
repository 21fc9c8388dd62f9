use Rattle.std.proofs.Common.{arith, ◌<◌, ◌-◌, length}
use Rattle.bit_blaster.proofs.Growing.{over_after}
use Rattle.bit_blaster.proofs.ProductLemmas.{over_read}
use Rattle.bit_blaster.proofs.WireLemmas.{signed_test}
use Rattle.bit_blaster.proofs.wires.signed_below.Goals as goal

pub differ-requires-clause-a_in : goal.differ-requires-clause-a_in
differ-requires-clause-a_in c = let lt : length c.args.xs.now - 1 < length c.args.xs.now = omega arith in over_read _ _ _ _ _ lt (over_after _ _ _ _ c.in_ok-lower.ensures.grows c.requires.xs_in) c.index-xs-xs.is

pub differ-requires-clause-b_in : goal.differ-requires-clause-b_in
differ-requires-clause-b_in c = let lt : length c.args.ys.now - 1 < length c.args.ys.now = omega arith in over_read _ _ _ _ _ lt (over_after _ _ _ _ c.in_ok-lower.ensures.grows c.requires.ys_in) c.index-ys-ys.is

pub choose-requires-clause-a_in : goal.choose-requires-clause-a_in
choose-requires-clause-a_in c = let lt : length c.args.xs.now - 1 < length c.args.xs.now = omega arith in over_read _ _ _ _ _ lt (over_after _ _ _ _ c.in_ok-apart.ensures.grows (over_after _ _ _ _ c.in_ok-lower.ensures.grows c.requires.xs_in)) c.index-xs-xs.is

pub returns : goal.returns
returns c = signed_test _ _ _ _ c.args.xs.now c.args.ys.now _ _ _ _ _ _ _ c.requires.low c.requires.same c.index-xs-xs.is c.index-ys-ys.is c.in_ok-lower.ensures c.in_ok-apart.ensures c.in_ok-out.ensures
