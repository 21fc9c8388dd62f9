use Rattle.std.proofs.Common.{◌≡◌, ◌∙◌, arith, length, nat_eq, ◌%◌}
use Rattle.std.proofs.lemmas.List.{length_push}
use Rattle.bit_blaster.proofs.Growing.{over_push, constant_value}
use Rattle.bit_blaster.proofs.WireLemmas.{constant_more, constant_all, half_of}
use Rattle.bit_blaster.proofs.constants.constants.Goals as goal

pub loop-i-preserved : goal.loop-i-preserved
loop-i-preserved c = record {
  size = rw c.in_ok-push.ensures.items (length_push c.loop-i.out.items c.constant.result ∙ omega arith);
  inside = λ n h. rw c.in_ok-push.ensures.items (over_push n n c.loop-i.out.items c.constant.result (omega arith) (c.loop-i.invariant.inside n h) (rw c.constant.ensures h));
  total = λ v h. rw c.in_ok-push.ensures.items (constant_more v c.loop-i.out.items c.constant.result (nat_eq (c.loop-i.rest % 2) 1) c.loop-i.i c.loop-i.rest _ c.args.value c.loop-i.invariant.size
      (rw c.constant.ensures (constant_value v _ h)) (half_of c.loop-i.rest) (c.loop-i.invariant.total v h));
}

pub returns : goal.returns
returns c =
    let e : c.loop-i.i ≡ c.args.width = omega arith in
    let size : length c.loop-i.out.items ≡ c.args.width = c.loop-i.invariant.size ∙ e in
    record { size = size; inside = c.loop-i.invariant.inside; means = λ v h. constant_all v c.loop-i.out.items c.args.width c.loop-i.rest c.args.value size (rw e at (c.loop-i.invariant.total v h)) }
