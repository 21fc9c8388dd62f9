use Rattle.std.proofs.Common.{◌∙◌, arith}
use Rattle.test_vectors.proofs.InputLemmas.{drawn_more, drawn_all}
use Rattle.test_vectors.proofs.drawing.draw_more.Goals as goal

pub loop-preserved : goal.loop-preserved
loop-preserved c = drawn_more c.args.widths.now c.args.count c.loop.counter c.loop.generator c.draw_one.new.generator c.loop.inputs.items c.push.new.self.items _ c.of.result
    (omega (arith, c.loop-test.true)) c.loop.invariant (c.of.ensures ∙ c.in_ok-draw_one.ensures.leaves) c.in_ok-draw_one.ensures.after c.in_ok-push.ensures.items

pub returns : goal.returns
returns c = drawn_all c.args.widths.now c.args.count c.loop.counter c.loop.generator c.loop.inputs.items _ (omega (arith, c.loop-test.false)) c.loop.invariant
