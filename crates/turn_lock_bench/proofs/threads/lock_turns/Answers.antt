-- The passes that come back have the numbers that were dealt.
use Rattle.std.proofs.Common.{◌≡◌, ◌∙◌, ap, length, subst, sym}
use Rattle.turn_lock.specs.Entries.{numbers_of}
use Rattle.turn_lock.specs.Seen.{AreNumbered}
use Rattle.turn_lock.proofs.DealLemmas.{dealt_lock, numbered_like}
use Rattle.turn_lock_bench.proofs.threads.lock_turns.Goals as goal

pub map_vec-requires-after_bounds : goal.map_vec-requires-after_bounds
map_vec-requires-after_bounds g c κs within = λ i x lt at.
    dealt_lock c.in-Ok.pass.lock c.args.threads c.in-Ok-deal.passes.items i x c.in-Ok-deal.ensures.each.1 lt at ∙ ap (λ p. p.lock) c.in-Ok.ensures.pass

pub gather-all-requires-clause-each : goal.gather-all-requires-clause-each
gather-all-requires-clause-each g c =
    let name = c.in-Ok.pass.lock in
    let dealt = c.in-Ok-deal.passes.items in
    let back = c.in_ok-passes.passes.items in
    let as_many : length back ≡ length dealt = sym c.in_ok-passes.passes.ok.0 ∙ (c.in_ok-passes.ensures.len ∙ c.in-Ok-deal.passes.ok.0) in
    let numbered : AreNumbered name c.args.threads back = numbered_like name c.args.threads c.in-Ok-deal.zero dealt back c.in-Ok-deal.ensures.each.1 as_many (λ i lt.
    let job = (c.in_ok-passes.ensures.each i c.in-Ok-deal.zero lt).1 in
    let was = sym (job.job_is c.in-Ok-deal.zero) in
    (job.call.met.0 ∙ ap (λ p. p.lock) was, job.call.met.1 ∙ ap (λ p. numbers_of p.rows) was)) in
    subst (λ n. AreNumbered c.in-Ok-deal.zero.lock n back) (sym (as_many ∙ c.in-Ok-deal.ensures.each.0))
    (subst (λ l. AreNumbered l c.args.threads back) (sym c.in-Ok-deal.ensures.first.0) numbered)
