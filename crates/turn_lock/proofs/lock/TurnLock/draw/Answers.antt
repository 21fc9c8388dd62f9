-- A seat with no ticket may draw one.
use Rattle.std.proofs.Common.{arith, ap, sym, ◌∙◌}
use Rattle.turn_lock.proofs.Steps.{draws}
use Rattle.turn_lock.proofs.lock.TurnLock.draw.Goals as goal

pub fetch_add-requires : goal.fetch_add-requires
fetch_add-requires g c = let idle = c.requires.idle in
    (c.requires.lock ∙ sym (ap (λ l. l.table) c.self.view_is), omega (arith, c.self.invariant.0), draws g.T.Kept.opening g.T.Kept.entries _ _ _ _ _ (idle.0.1, idle.0.2, idle.1))
