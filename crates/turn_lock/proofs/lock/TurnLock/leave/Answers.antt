-- The slot has the value given, so the next ticket may be served, and the view has what was added.
use Rattle.std.proofs.Common.{arith, ◌∙◌, ap, sym, subst, ◌∷◌, [], Some}
use Rattle.atomic_table.specs.Table.{rest}
use Rattle.turn_lock.specs.Rule.{Counts}
use Rattle.turn_lock.proofs.Calls.{passes_at, passed_at, counts_grown, goes_at, left_at}
use Rattle.turn_lock.proofs.lock.TurnLock.leave.Goals as goal

pub fetch_add-requires : goal.fetch_add-requires
fetch_add-requires g c = let held = c.held.inside in let goes = c.requires.goes_on in (
  c.exchange.ensures.0 ∙ ap (λ z. z.lock.table) c.held.view_is ∙ ap (λ z. z.table) c.requires.lock ∙ sym (ap (λ l. l.table) c.self.view_is),
  omega (arith, c.self.invariant.0),
  passes_at g.T.Kept.opening g.T.Kept.entries _ _ _ _ _ held.seat.me.0 c.args.value goes.0 (c.exchange.ensures.3 ∙ ap (λ l. (held.seat.me.0, (0, Some c.args.value) ∷ rest l)) c.held.invariant.0.0) c.held.invariant.0.1
      (goes_at g.T.Kept.opening g.T.Kept.entries _ held.seat.me.0 c.args.held c.args.self.now c.args.value goes.0 c.held.view_is c.requires.lock goes.1 goes.2),
)

pub invariant_of-result : goal.invariant_of-result
invariant_of-result g c = let held = c.held.inside in
    let e = passed_at g.T.Kept.opening g.T.Kept.entries c.exchange.new.seat.me c.fetch_add.new.seat.me held.seat.me.0 c.args.value (c.exchange.ensures.3 ∙ ap (λ l. (held.seat.me.0, (0, Some c.args.value) ∷ rest l)) c.held.invariant.0.0) c.fetch_add.ensures.2 in (
      (ap (λ m. m.1) e, ap (λ m. m.0.ticket) e, ap (λ m. m.0.front) e),
      subst (λ m. Counts m held.least held.count) (sym e) (counts_grown held.seat.me.0 held.seat.me.1 [] _ held.least held.count c.held.invariant.1),
    )

pub returns-clause-left : goal.returns-clause-left
returns-clause-left g c added st = let held = c.held.inside in
    left_at g.T.Kept.opening g.T.Kept.entries held.seat.table_id _ c.fetch_add.new.seat.me held.seat.me.0 c.args.held c.args.self.now c.args.value added c.held.view_is c.requires.lock (c.fetch_add.ensures.0 ∙ c.exchange.ensures.0)
    (passed_at g.T.Kept.opening g.T.Kept.entries c.exchange.new.seat.me c.fetch_add.new.seat.me held.seat.me.0 c.args.value (c.exchange.ensures.3 ∙ ap (λ l. (held.seat.me.0, (0, Some c.args.value) ∷ rest l)) c.held.invariant.0.0) c.fetch_add.ensures.2) st
