use Rattle.std.proofs.Common.{◌≡◌, ℕ, ◌<◌, ◌∙◌, length, subst}
use Rattle.axe_io.specs.Shapes.{leaf_widths}
use Rattle.dag.specs.declared.node.Children.{Children}
use Rattle.dag.specs.declared.value.Word.{Word}
use Rattle.dag.specs.Node.{child_at, word_at}
use Rattle.dag.proofs.Words.{words_value}
use Rattle.dag.proofs.value.node_value.Goals as goal

pub returns : goal.returns
returns c =
    let P : ℕ → Word → Children → Type 0 = λ i x k. (child_at k.ids i).0 < length c.args.values.now → x ≡ word_at c.args.widths.now c.args.values.now (child_at k.ids i).0 in
    let x = subst (P 0 c.word_of-x.result) c.children.ensures c.word_of-x.ensures.is in
    let y = subst (P 1 c.word_of-y.result) c.children.ensures c.word_of-y.ensures.is in
    let z = subst (P 2 c.word_of-z.result) c.children.ensures c.word_of-z.ensures.is in
    c.kind_value.ensures ∙ words_value (leaf_widths c.args.shape.now.params) c.args.input.now c.args.widths.now c.args.values.now c.args.node c.word_of-x.result c.word_of-y.result c.word_of-z.result x y z c.requires.fits
