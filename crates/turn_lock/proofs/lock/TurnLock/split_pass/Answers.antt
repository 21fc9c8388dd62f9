-- The cut is noted, and the split gives the numbers after it to the new seat.
use Rattle.std.proofs.Common.{rules, arith, ◌∙◌, ap, sym, subst, ◌<◌, ◌^◌, ◌-◌}
use Rattle.turn_lock.specs.Entries.{ConsecutiveFrom}
use Rattle.turn_lock.specs.Rule.{IsIdle}
use Rattle.turn_lock.proofs.RowLemmas.{at_place}
use Rattle.turn_lock.proofs.Steps.{notes, splits_from}
use Rattle.turn_lock.proofs.Calls.{split_numbers, split_at}
use Rattle.turn_lock.proofs.lock.TurnLock.split_pass.Goals as goal

pub compare_exchange-requires : goal.compare_exchange-requires
compare_exchange-requires g c = let outside = c.pass.invariant.0 in let counts = c.pass.invariant.1 in (
  ap (λ z. z.lock.table) c.pass.view_is ∙ ap (λ z. z.table) c.requires.lock ∙ sym (ap (λ l. l.table) c.self.view_is),
  omega (arith, c.self.invariant.0),
  notes g.T.Kept.opening g.T.Kept.entries _ _ _ _ _ _ (outside.1, outside.2, counts.0),
)

pub split_seat-other-requires : goal.split_seat-other-requires
split_seat-other-requires g c = let p = c.pass.inside in let outside = c.pass.invariant.0 in let counts = c.pass.invariant.1 in
    let numbers = split_numbers _ _ _ _ _ (ap (λ z. z.rows) c.pass.view_is) counts.1 counts.2 c.requires.numbers in let noted = c.compare_exchange.ensures.2.0 in (
      c.compare_exchange.ensures.0 ∙ ap (λ z. z.lock.table) c.pass.view_is ∙ ap (λ z. z.table) c.requires.lock ∙ sym (ap (λ l. l.table) c.self.view_is),
      omega (arith, c.self.invariant.0),
      splits_from g.T.Kept.opening g.T.Kept.entries _ _ _ _ p.least (subst (λ m. IsIdle m.0) (sym noted) (outside.1, outside.2, counts.0)) (subst (λ m. ConsecutiveFrom p.least m.0.rows) (sym noted) numbers.0),
    )

pub overflow_add-first : goal.overflow_add-first
overflow_add-first g c = let p = c.pass.inside in let counts = c.pass.invariant.1 in
    let numbers = split_numbers _ _ _ _ _ (ap (λ z. z.rows) c.pass.view_is) counts.1 counts.2 c.requires.numbers in
    let h = at_place p.least (p.count - c.args.seats) p.seat.me.0.rows (λ n. n < 2 ^ 32) numbers.0 (omega (arith, counts.2, numbers.1, numbers.2)) c.compare_exchange.ensures.2.2 in search (rules, h)

pub invariant_of-lower : goal.invariant_of-lower
invariant_of-lower g c = let p = c.pass.inside in let counts = c.pass.invariant.1 in
    let numbers = split_numbers _ _ _ _ _ (ap (λ z. z.rows) c.pass.view_is) counts.1 counts.2 c.requires.numbers in
    let both = split_at p.seat.me c.compare_exchange.new.seat.me c.split_seat-other.new.seat.me c.split_seat-other.result.me c.args.seats p.least p.count c.compare_exchange.ensures.2.0 c.split_seat-other.ensures.2 c.split_seat-other.ensures.4 c.pass.invariant.0 counts numbers.0 numbers.1 numbers.2 in
    both.0

pub invariant_of-upper : goal.invariant_of-upper
invariant_of-upper g c = let p = c.pass.inside in let counts = c.pass.invariant.1 in
    let numbers = split_numbers _ _ _ _ _ (ap (λ z. z.rows) c.pass.view_is) counts.1 counts.2 c.requires.numbers in
    let both = split_at p.seat.me c.compare_exchange.new.seat.me c.split_seat-other.new.seat.me c.split_seat-other.result.me c.args.seats p.least p.count c.compare_exchange.ensures.2.0 c.split_seat-other.ensures.2 c.split_seat-other.ensures.4 c.pass.invariant.0 counts numbers.0 numbers.1 numbers.2 in
    both.1
