use Rattle.std.proofs.Common.{◌≡◌, ◌+◌, ◌-◌, ◌^◌, ◌<◌, length, arith, subst, ℕ}
use Rattle.std.specs.Prelude.{min}
use Rattle.rewriter.proofs.Counting.{counted_new}
use Rattle.rewriter.proofs.building.place.Goals as goal

pub returns-then-len-before-clause-counted : goal.returns-then-len-before-clause-counted
returns-then-len-before-clause-counted c =
    let grew : length c.args.dag.now.nodes < length c.add.new.self.nodes = omega (arith, c.len-before.ensures, c.len.ensures, c.if-len-before.true) in
    let units = subst (λ (k : ℕ). c.saturating_add-charge-then-len-before.result ≡ min (c.args.charge.now.units + k) (2 ^ 64 - 1)) c.charge_of-units.ensures c.saturating_add-charge-then-len-before.ensures in
    counted_new c.args.charge.now _ c.args.dag.now c.add.new.self c.args.node c.in_ok-id.id.0 c.known.ensures.graph c.requires c.in_ok-id.ensures.place grew c.saturating_add-charge.ensures units
