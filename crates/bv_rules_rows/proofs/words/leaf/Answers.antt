use Rattle.std.proofs.Common.{◌≡◌, ◌∙◌, sym, rules, tests, bytes_eq}
use Rattle.std.proofs.lemmas.Iterator.{YieldsList-from_slice}
use Rattle.std.proofs.lemmas.Iterator.Search.{position_from_yields_List}
use Rattle.axe_io.specs.Shapes.{leaf_widths}
use Rattle.bv_rules_rows.proofs.LeafNames.{place_of, no_name, no_width}
use Rattle.bv_rules_rows.proofs.words.leaf.Goals as goal

pub returns-in_err-index : goal.returns-in_err-index
returns-in_err-index c =
    let found : c.position.result ≡ place_of c.args.word.now = position_from_yields_List (λ name. bytes_eq name.now c.args.word.now) _ _ c.position.result c.position.ensures.ran (YieldsList-from_slice _ c.iter.ensures.rest) (λ x b q k. search (rules, tests)) in
    rw c.from_residual.ensures (no_name c.args.word.now (leaf_widths c.args.shape.now.params) (sym found ∙ c.in_err-index.was))

pub returns-in_err-width : goal.returns-in_err-width
returns-in_err-width c =
    let found : c.position.result ≡ place_of c.args.word.now = position_from_yields_List (λ name. bytes_eq name.now c.args.word.now) _ _ c.position.result c.position.ensures.ran (YieldsList-from_slice _ c.iter.ensures.rest) (λ x b q k. search (rules, tests)) in
    rw c.from_residual-in_err-width.ensures (no_width c.args.word.now (leaf_widths c.args.shape.now.params) _ (sym found ∙ c.in_ok-index.was) (sym c.width_at.ensures ∙ c.in_err-width.was))
