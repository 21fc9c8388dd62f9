use Rattle.std.proofs.Common.{◌≡◌, length, refl, arith}
use Rattle.std.proofs.lemmas.Result.{err_from_is_err_and}
use Rattle.spec_reader.specs.Forms.{meaning_in, resolve}
use Rattle.spec_reader.proofs.Scopes.{goes_on, kept_behind, body_fails}
use Rattle.spec_reader.proofs.resolve.+resolve.Goals as goal

pub star_parts-loop-at-preserved : goal.star_parts-loop-at-preserved
star_parts-loop-at-preserved t c = record {
  so_far = rw (c.in_ok-bind_at.ensures, c.in_ok-form.ensures.kept, c.in_ok-push.ensures.ok) (goes_on c.args.bound.now c.args.values.now c.loop-at.at c.index-values-at.result (resolve c.args.body.now) (meaning_in c.args.names.now) c.loop-at.scope c.loop-at.out c.in_ok-form.form _ c.loop-at-test.true c.index-values-at.is c.in_ok-form.ensures.form c.loop-at.invariant.so_far);
  kept = rw (c.in_ok-bind_at.ensures, c.in_ok-form.ensures.kept) (kept_behind c.len-depth.result c.loop-at.scope c.args.scope.now _ c.loop-at.invariant.depth c.loop-at.invariant.kept);
  depth = c.loop-at.invariant.depth;
}

pub star_parts-returns-in_err-body-clause-forms : goal.star_parts-returns-in_err-body-clause-forms
star_parts-returns-in_err-body-clause-forms t c =
    let p = err_from_is_err_and c.from_residual-in_err-body.result c.from_residual-in_err-body.ensures.1 in
    let all_read : c.loop-at.at ≡ length c.args.values.now = omega (arith, c.loop-at-test.false, c.loop-at.auto.at-end) in
    rw (p.1, p.2) (body_fails c.args.bound.now c.args.values.now c.loop-at.at (resolve c.args.body.now) (meaning_in c.args.names.now) c.loop-at.scope _ c.loop-at.out c.in_err-body.field-0.0 _ c.loop-at-test.false (rw (c.in_ok-bind_all.ensures, c.from.ensures, all_read) refl) c.in_err-body.ensures.form c.loop-at.invariant.so_far)
