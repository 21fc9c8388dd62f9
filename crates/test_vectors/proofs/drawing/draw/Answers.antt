use Rattle.std.proofs.Common.{◌≡◌, ◌∙◌, ℕ, List, All, sym, subst, arith, rules}
use Rattle.axe_io.specs.Shapes.{leaf_widths}
use Rattle.axe_io.specs.Inputs.{IsInput}
use Rattle.test_vectors.specs.TestInputs.{test_inputs}
use Rattle.test_vectors.proofs.InputLemmas.{IsWidth, are_widths, inputs_fit, at_least_two}
use Rattle.test_vectors.proofs.drawing.draw.Goals as goal

pub greatest_of-requires : goal.greatest_of-requires
greatest_of-requires c = subst (All IsWidth) (sym (c.deref.ensures.value ∙ c.in_ok-widths.ensures.widths)) (are_widths c.params.result.now)

pub draw_more-requires : goal.draw_more-requires
draw_more-requires c = subst (All IsWidth) (sym (c.deref-2.ensures.value ∙ c.in_ok-widths.ensures.widths)) (are_widths c.params.result.now)

pub returns-clause-fit : goal.returns-clause-fit
returns-clause-fit c =
    let ws : List ℕ = leaf_widths c.args.shape.now.params in
    let two = at_least_two c.args.seed c.args.n ws (omega (arith, c.requires.some, c.if-n-eq1.false)) in
    let is : c.draw_more.new.inputs.items ≡ test_inputs c.args.seed c.args.n ws = search rules in
    subst (All (IsInput ws)) (sym is) (inputs_fit c.args.seed c.args.n ws)
