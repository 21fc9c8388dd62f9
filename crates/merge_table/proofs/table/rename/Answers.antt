use Rattle.std.proofs.Common.{◌≡◌, ◌∙◌, ◌+◌, ◌++◌, ap, arith, sym, map, take, drop, List, ℕ}
use Rattle.std.proofs.lemmas.List.{take-append-drop, map-append}
use Rattle.std.proofs.lemmas.List.Edits.{map_over_more}
use Rattle.merge_table.specs.Table.{renamed}
use Rattle.merge_table.proofs.table.rename.Goals as goal

pub loop-i-init : goal.loop-i-init
loop-i-init c = sym (ap (λ (xs : List ℕ). xs ++ drop c.args.gone c.args.retained.now.items) c.requires.early ∙ take-append-drop c.args.gone c.args.retained.now.items)

pub loop-i-preserved : goal.loop-i-preserved
loop-i-preserved c = rw c.renamed.ensures (map_over_more (renamed c.args.keep c.args.gone) c.args.retained.now.items _ c.loop-i.i _ (omega arith) c.loop-i.invariant c.index.ensures)

pub returns : goal.returns
returns c =
    let f : ℕ → ℕ = renamed c.args.keep c.args.gone in
    let e : c.loop-i.i ≡ c.args.last + 1 = omega arith in
    c.loop-i.invariant ∙ rw e (ap (λ (xs : List ℕ). map f (take (c.args.last + 1) c.args.retained.now.items) ++ xs) (sym c.requires.late)
    ∙ sym (map-append f (take (c.args.last + 1) c.args.retained.now.items) (drop (c.args.last + 1) c.args.retained.now.items)) ∙ ap (map f) (take-append-drop (c.args.last + 1) c.args.retained.now.items))
