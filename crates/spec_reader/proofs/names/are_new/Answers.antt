use Rattle.std.proofs.Common.{List, ℕ, ◌||◌, ap, ◌∙◌}
use Rattle.std.specs.Str.{bytes_eq}
use Rattle.spec_reader.specs.Names.{is_seen}
use Rattle.spec_reader.proofs.Freshness.{goes_on}
use Rattle.spec_reader.proofs.names.are_new.Goals as goal

pub loop-name-preserved : goal.loop-name-preserved
loop-name-preserved c =
    goes_on (is_seen c.loop-name.seen) (is_seen c.add.new.self) c.args.names.now c.loop-name.name-index c.name-item.result _ c.loop-name-test.true c.name-item.is
    (cc (c.if-contains.false, c.contains.ensures, c.as_slice.ensures))
    (λ other. c.in_ok-add.ensures other ∙ ap (λ (name : List ℕ). bytes_eq name other || is_seen c.loop-name.seen other) c.as_slice-in-loop-name.ensures)
    c.loop-name.invariant
