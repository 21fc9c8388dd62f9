-- The look that found the ticket served left the slot with the seat, so it has a value, which shows what the view knows.
use Rattle.std.proofs.Common.{◌∙◌, ap, sym, ◌∷◌, Some}
use Rattle.atomic_table.specs.Table.{rest}
use Rattle.turn_lock.proofs.Calls.{shown_at, fits_at}
use Rattle.turn_lock.proofs.lock.TurnLock.enter.Goals as goal

pub exchange-requires : goal.exchange-requires
exchange-requires g c = let m = c.wait_turn.ensures.takes in let e = ap (λ z. z.1) m.1 in (
  c.wait_turn.ensures.lock ∙ c.draw-ticket.ensures.lock ∙ ap (λ z. z.lock.table) c.pass.view_is ∙ ap (λ z. z.table) c.requires ∙ sym (ap (λ l. l.table) c.self.view_is),
  (Some m.0, e ∙ ap (λ l. (0, Some m.0) ∷ rest l) (sym e)),
)

pub returns-clause-history : goal.returns-clause-history
returns-clause-history g c = fits_at g.T.Kept.opening g.T.Kept.entries _ c.pass.inside.seat.me.0 _ _ _ c.pass.view_is
    (shown_at g.T.Kept.opening g.T.Kept.entries c.pass.inside.seat.me _ _ c.exchange.new.seat.me _ _ _ _ _ c.draw-ticket.ensures.drawn.1 c.wait_turn.ensures.takes c.exchange.ensures.2 c.unwrap-value.ensures c.exchange.ensures.3)
