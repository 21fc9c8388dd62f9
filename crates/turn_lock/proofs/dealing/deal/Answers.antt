-- Each split leaves the numbers below the last, and gives the last.
use Rattle.std.proofs.Common.{◌≡◌, ◌∙◌, ap, sym, subst, ◌∷◌, [], ◌++◌, ◌+◌, ◌-◌, arith, length, length-append}
use Rattle.turn_lock.specs.Entries.{empty_rows}
use Rattle.turn_lock.specs.Seen.{AreDealt}
use Rattle.turn_lock.proofs.DealLemmas.{dealt_more, first_left, last_given, may_split}
use Rattle.turn_lock.proofs.dealing.deal.Goals as goal

pub split_pass-rest-requires-clause-numbers : goal.split_pass-rest-requires-clause-numbers
split_pass-rest-requires-clause-numbers g c = may_split (c.args.workers - c.loop-worker.worker + 1) c.loop-worker.first.rows c.loop-worker.invariant.rows (let t = c.loop-worker-test.true in omega (arith, t))

pub loop-worker-preserved : goal.loop-worker-preserved
loop-worker-preserved g c =
    let inv = c.loop-worker.invariant in let t = c.loop-worker-test.true in let n = c.args.workers - c.loop-worker.worker + 1 in let s = c.split_pass-rest.ensures in let items = c.push_reserved.ensures.items in record {
      lock = ap (λ p. p.lock) s.lower ∙ inv.lock;
      rows = first_left n c.loop-worker.first.rows c.split_pass-rest.result.0.rows inv.rows (ap (λ p. p.rows) s.lower) (omega (arith, t)) ∙ ap (empty_rows 0) (omega (arith, t));
      count = ap length items ∙ length-append c.loop-worker.passes.items (c.split_pass-rest.result.1 ∷ []) ∙ (omega (arith, inv.count));
      each = subst (AreDealt c.args.pass.lock c.args.workers) (sym items)
          (dealt_more c.args.pass.lock c.args.workers c.loop-worker.passes.items c.split_pass-rest.result.1 inv.each (ap (λ p. p.lock) s.upper ∙ inv.lock)
          (last_given n c.loop-worker.first.rows c.split_pass-rest.result.1.rows inv.rows (ap (λ p. p.rows) s.upper) (omega (arith, t)) ∙ ap (λ j. empty_rows j 1) (omega (arith, t, inv.count))));
      room = omega (arith, inv.room, c.push_reserved.ensures.capacity);
    }
