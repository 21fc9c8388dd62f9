-- Both seats are idle, so one may take the other's numbers.
use Rattle.std.proofs.Common.{arith, ◌∙◌, ap, sym, subst, length-append}
use Rattle.turn_lock.specs.Rule.{IsIdle}
use Rattle.turn_lock.proofs.Steps.{notes, joins}
use Rattle.turn_lock.proofs.Calls.{join_at}
use Rattle.turn_lock.proofs.lock.TurnLock.join_pass.Goals as goal

pub join_seat-requires : goal.join_seat-requires
join_seat-requires g c = let a = c.a.invariant in let b = c.b.invariant in let self = sym (ap (λ l. l.table) c.self.view_is) in (
  ap (λ z. z.lock.table) c.a.view_is ∙ ap (λ z. z.table) c.requires.lock.0 ∙ self,
  ap (λ z. z.lock.table) c.b.view_is ∙ ap (λ z. z.table) c.requires.lock.1 ∙ self,
  b.0.0,
  omega (arith, c.self.invariant.0),
  joins g.T.Kept.opening g.T.Kept.entries _ _ _ _ _ _ (a.0.1, a.0.2, a.1.0) (b.0.1, b.0.2, b.1.0),
)

pub compare_exchange-requires : goal.compare_exchange-requires
compare_exchange-requires g c = let a = c.a.invariant in (
  c.join_seat.ensures.0 ∙ ap (λ z. z.lock.table) c.a.view_is ∙ ap (λ z. z.table) c.requires.lock.0 ∙ sym (ap (λ l. l.table) c.self.view_is),
  omega (arith, c.self.invariant.0),
  notes g.T.Kept.opening g.T.Kept.entries _ _ _ _ _ 0 (subst (λ m. IsIdle m.0) (sym c.join_seat.ensures.2) (a.0.1, a.0.2, omega (arith, length-append c.a.inside.seat.me.0.rows c.b.inside.seat.me.0.rows, a.1.0))),
)

pub invariant_of-result : goal.invariant_of-result
invariant_of-result g c = let a = c.a.inside in let b = c.b.inside in
    let joined = join_at a.seat.me b.seat.me c.join_seat.new.seat.me c.compare_exchange.new.seat.me 0 a.least a.count b.least b.count c.join_seat.ensures.2 c.compare_exchange.ensures.2.0 c.a.invariant.0 c.a.invariant.1 c.b.invariant.1 in
    (joined.0, (joined.1.0, c.min-least.ensures ∙ joined.1.1, joined.1.2))
