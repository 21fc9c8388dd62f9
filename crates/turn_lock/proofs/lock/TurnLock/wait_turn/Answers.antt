-- A look that finds another ticket served leaves the seat as it was.
use Rattle.std.proofs.Common.{arith, ◌∙◌, ap, sym, subst, ◌%◌, ◌^◌}
use Rattle.turn_lock.specs.Rule.{TakesOut, ticket_of}
use Rattle.turn_lock.proofs.Steps.{looks}
use Rattle.turn_lock.proofs.lock.TurnLock.wait_turn.Goals as goal

pub load-found-requires : goal.load-found-requires
load-found-requires g c = let d = c.requires.drawn in let is = c.loop.invariant.1 in (
  c.loop.invariant.0 ∙ c.requires.lock ∙ sym (ap (λ l. l.table) c.self.view_is),
  omega (arith, c.self.invariant.0),
  looks g.T.Kept.opening g.T.Kept.entries _ _ _ _ _ _ (ap (λ m. m.0.ticket) is ∙ d.1) (ap (λ m. m.0.front) is ∙ d.2) (ap (λ m. m.1) is ∙ d.3),
)

pub returns-then-found-ticket-clause-takes : goal.returns-then-found-ticket-clause-takes
returns-then-found-ticket-clause-takes g c =
    subst (λ m. TakesOut g.T.Kept.opening g.T.Kept.entries m c.load-found.new.seat.me) c.loop.invariant.1 (c.load-found.ensures.2.0 (c.if-found-ticket.true ∙ c.requires.drawn.0 ∙ ap (λ m. ticket_of m.0 % 2 ^ 64) (sym c.loop.invariant.1)))
