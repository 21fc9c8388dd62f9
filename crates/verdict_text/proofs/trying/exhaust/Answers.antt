use Rattle.std.proofs.Common.{◌≡◌, Some, None, refl}
use Rattle.job_meaning.specs.Meant.{meant}
use Rattle.job_meaning.specs.Trying.{shown_at}
use Rattle.verdict_text.proofs.TryingLemmas.{shows, shows_nothing, shows_last, first_is}
use Rattle.verdict_text.proofs.trying.exhaust.Goals as goal

pub loop-input-init : goal.loop-input-init
loop-input-init c = record {
  is_input = c.in_ok-input.ensures.fits;
  so_far = first_is (meant c.args.job.now) c.in_ok-input.input c.in_ok-input.ensures.first;
}

pub returns-in-Some : goal.returns-in-Some
returns-in-Some c =
    let job = meant c.args.job.now in
    let shown : shown_at job c.loop-input.input ≡ Some c.in-Some.shown = cc (c.in_ok-shown.ensures, c.in-Some.is) in
    let found = shows job c.loop-input.input c.in-Some.shown c.inputs_are_counted.ensures c.loop-input.invariant.is_input shown c.loop-input.invariant.so_far in
    rw (← found) c.verdict_on.ensures

pub returns-then-not-next : goal.returns-then-not-next
returns-then-not-next c =
    let job = meant c.args.job.now in
    let shown : shown_at job c.loop-input.input ≡ None = cc (c.in_ok-shown.ensures, c.in_default.is) in
    let last = (rw c.if-not-next.true at c.next.ensures.last) in
    let found = shows_last job c.loop-input.input c.inputs_are_counted.ensures c.loop-input.invariant.is_input shown c.loop-input.invariant.so_far last.0 in
    rw (← found, c.bits.ensures) refl

pub loop-input-preserved : goal.loop-input-preserved
loop-input-preserved c =
    let job = meant c.args.job.now in
    let shown : shown_at job c.loop-input.input ≡ None = cc (c.in_ok-shown.ensures, c.in_default.is) in
    let next = (rw c.if-not-next.false at c.next.ensures.next) in
    record { is_input = c.next.ensures.fits; so_far = shows_nothing job c.loop-input.input _ c.inputs_are_counted.ensures c.loop-input.invariant.is_input shown c.loop-input.invariant.so_far next }
