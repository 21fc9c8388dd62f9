-- The table begins under the rule, and the first seat has all numbers.
use Rattle.std.proofs.Common.{arith, ◌∙◌, ap, sym, subst, ◌∷◌, [], ◌++◌, Some}
use Rattle.turn_lock.specs.Rule.{Counts}
use Rattle.turn_lock.specs.Entries.{empty_rows}
use Rattle.turn_lock.proofs.RowLemmas.{length-empty_rows, ConsecutiveFrom-empty_rows, least_of-consecutive}
use Rattle.turn_lock.proofs.Calls.{starts_at}
use Rattle.turn_lock.proofs.lock.TurnLock.new.Goals as goal

pub new-requires : goal.new-requires
new-requires g c = starts_at g.T.Kept.opening g.T.Kept.entries _ c.args.value _ _ c.of.ensures (c.push_reserved.ensures.items ∙ ap (λ l. l ++ Some c.args.value ∷ []) c.in-Ok.ensures.items) c.ranges.seats.fits

pub invariant_of-pass : goal.invariant_of-pass
invariant_of-pass g c = let e = c.in-Ok-new.ensures.ok.4 in let n = c.args.seats in let E = g.row.T-Entry.Denot in (
  (ap (λ m. m.1) e, ap (λ m. m.0.ticket) e, ap (λ m. m.0.front) e),
  subst (λ m. Counts m 0 n) (sym e) (let l = length-empty_rows E 0 n in (omega (arith, l, c.requires), sym (least_of-consecutive 0 (empty_rows 0 n) (omega (arith, l, c.requires)) (ConsecutiveFrom-empty_rows E 0 n)), sym l)),
)
