-- The seat has all numbers, so the value is at home, and what the rule says of it holds of the value that is taken.
use Rattle.std.proofs.Common.{◌∙◌, ap, sym, List, length}
use Rattle.turn_lock.proofs.Steps.{Ended, closes}
use Rattle.turn_lock.proofs.Calls.{closed_some, closed_value, closed_at}
use Rattle.turn_lock.proofs.lock.TurnLock.close.Goals as goal

pub unwrap-value-requires : goal.unwrap-value-requires
unwrap-value-requires g c = let outside = c.pass.invariant.0 in let counts = c.pass.invariant.1 in
    closed_some _ _ _ (closes g.T.Kept.opening g.T.Kept.entries _ _ _ _ _ _ c.close_with-closed.ensures.values.2 (outside.1, outside.2, counts.0) (ap (λ z. length z.rows) c.pass.view_is ∙ c.requires.all ∙ sym (ap (λ l. l.seats) c.self.view_is))) c.take.ensures.value

pub returns : goal.returns
returns g c = let outside = c.pass.invariant.0 in let counts = c.pass.invariant.1 in let view = c.pass.inside.seat.me.0 in let seats = c.self.inside.table.shared.key.seats in
    closed_at g.T.Kept.opening g.T.Kept.entries _ view _ _ _ seats c.pass.view_is c.requires.lock (ap (λ l. l.seats) c.self.view_is)
    (closed_value _ _ _ (λ x. (history : List _) × Ended g.T.Kept.opening g.T.Kept.entries seats view x history)
    (closes g.T.Kept.opening g.T.Kept.entries _ _ _ _ _ _ c.close_with-closed.ensures.values.2 (outside.1, outside.2, counts.0) (ap (λ z. length z.rows) c.pass.view_is ∙ c.requires.all ∙ sym (ap (λ l. l.seats) c.self.view_is))) c.take.ensures.value c.unwrap-value.ensures)
