use Rattle.std.proofs.Common.{◌∙◌, inl, arith, length-drop, ℕ}
use Rattle.std.proofs.lemmas.List.{length-take}
use Rattle.axe_io.proofs.Appending.{Appends-more}
use Rattle.axe_io.proofs.sink.write_all.Goals as goal

pub loop-written-preserved : goal.loop-written-preserved
loop-written-preserved g c = record {
  within = omega (arith, c.in-Ok.ensures.within, length-drop {A = ℕ}, length-take {A = ℕ});
  grows = Appends-more _ _ _ c.args.bytes.now c.loop-written.written c.in-Ok.n c.loop-written.invariant.grows c.in-Ok.ensures.grows;
  counts = c.in-Ok.ensures.taken (inl (omega arith)) ∙ c.loop-written.invariant.counts;
  refusals = c.in-Ok.ensures.refused ∙ c.loop-written.invariant.refusals;
}
