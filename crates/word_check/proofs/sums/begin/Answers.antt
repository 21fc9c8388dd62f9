use Rattle.std.proofs.Common.{refl, ap, ℕ, ◌%◌, ◌^◌, ◌+◌, ◌*◌, ◌∙◌}
use Rattle.std.specs.Prelude.{slice_index}
use Rattle.word_check.specs.Sums.{total}
use Rattle.word_check.proofs.Modular.{add_two}
use Rattle.word_check.proofs.sums.begin.Goals as goal

pub returns : goal.returns
returns c = λ on nodes vs.
    add_two (2 ^ c.args.width) _ _ _ _ _ (c.if-not-add.ensures.adds refl nodes vs)
    (c.add-2.ensures.adds on nodes vs ∙ ap (λ (n : ℕ). (total nodes c.add.new.sum vs + n * slice_index vs c.args.second) % 2 ^ c.args.width) c.mask.ensures)
