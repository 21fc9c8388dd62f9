-- The last pass has the number at which the others' end.
use Rattle.std.proofs.Common.{◌≡◌, ◌∙◌, ap, sym, subst, ◌∷◌, [], ◌++◌, ◌+◌, ◌-◌, arith, length, length-append}
use Rattle.turn_lock.specs.Entries.{ConsecutiveFrom}
use Rattle.turn_lock.specs.Seen.{AreNumbered, name_of}
use Rattle.turn_lock.proofs.DealLemmas.{joined_rise, last_numbered}
use Rattle.turn_lock.proofs.dealing.gather.Goals as goal

pub join_pass-all-requires : goal.join_pass-all-requires
join_pass-all-requires g c =
    let inv = c.loop-pass.invariant in
    let last = last_numbered c.args.first.lock (length c.args.passes.items) c.pop.new.self.items c.in-Some.pass (subst (AreNumbered c.args.first.lock (length c.args.passes.items)) c.in-Some.ensures.items inv.each) in
    record { lock = (inv.lock ∙ c.requires.lock, last.1.0 ∙ c.requires.lock) }

pub loop-pass-preserved : goal.loop-pass-preserved
loop-pass-preserved g c =
    let inv = c.loop-pass.invariant in
    let last = last_numbered c.args.first.lock (length c.args.passes.items) c.pop.new.self.items c.in-Some.pass (subst (AreNumbered c.args.first.lock (length c.args.passes.items)) c.in-Some.ensures.items inv.each) in
    let count : length c.loop-pass.passes.items ≡ length c.pop.new.self.items + 1 = ap length c.in-Some.ensures.items ∙ length-append c.pop.new.self.items (c.in-Some.pass ∷ []) in
    let rows = ap (λ p. p.rows) c.join_pass-all.ensures in record {
      lock = ap (λ p. p.lock) c.join_pass-all.ensures ∙ inv.lock;
      wide = ap (λ r. length r + length c.pop.new.self.items) rows ∙ omega (arith, length-append c.loop-pass.all.rows c.in-Some.pass.rows, last.1.1, count, inv.wide);
      numbers = subst (ConsecutiveFrom 0) (sym rows) (joined_rise 0 (length c.args.passes.items - length c.pop.new.self.items) c.loop-pass.all.rows c.in-Some.pass.rows inv.numbers (omega (arith, count, inv.wide)) last.1.2);
      each = last.0;
    }
