use Rattle.std.proofs.Common.{◌∙◌, arith, [], ◌∷◌, length-append}
use Rattle.std.proofs.lemmas.Option.{slice_get-get_or, slice_get_within}
use Rattle.dag_view.proofs.Lists.{among_at, widths_at}
use Rattle.dag_view.proofs.place.widths_of.Goals as goal

pub width-requires : goal.width-requires
width-requires c = c.requires _ (among_at c.args.ids.now c.loop-id.id-index _ (slice_get-get_or c.args.ids.now c.loop-id.id-index 0 c.loop-id-test.true))

pub loop-id-preserved : goal.loop-id-preserved
loop-id-preserved c = rw c.in_ok-push.ensures.items (record {
  size = length-append c.loop-id.widths.items (c.width.result ∷ []) ∙ omega (arith, c.loop-id.invariant.size);
  each = widths_at c.args.dag.now.widths c.args.ids.now c.loop-id.widths.items c.loop-id.id-index c.width.result c.loop-id.invariant.size c.loop-id.invariant.each c.width.ensures.is;
})

pub returns : goal.returns
returns c = record {
  size = omega (arith, c.loop-id.invariant.size, c.loop-id-test.false, c.loop-id.auto.id-index-end);
  each = λ k id at. c.loop-id.invariant.each k id (omega (arith, c.loop-id-test.false, slice_get_within c.args.ids.now k id at)) at;
}
