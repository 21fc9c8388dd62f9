use Rattle.std.proofs.Common.{◌≡◌, ◌∙◌, ◌<◌, ◌≤◌, arith, List, ℕ, length, sym, subst, rules, Fits, w32}
use Rattle.std.specs.Prelude.{slice_get, Some}
use Rattle.std.proofs.lemmas.Option.{slice_get_within}
use Rattle.std.proofs.lemmas.Grind.{get_or_default_zero}
use Rattle.merge_table.specs.Table.{IsFlat}
use Rattle.merge_table.proofs.Tables.{early_same, late_same, replaced_flat, replaced_counted, replaced_keeps, replaced_classes, counts_within}
use Rattle.merge_table.proofs.table.MergeTable.replace.Goals as goal

pub rename-requires-clause-early : goal.rename-requires-clause-early
rename-requires-clause-early c = early_same _ _ _ c.self.invariant.0

pub rename-requires-clause-late : goal.rename-requires-clause-late
rename-requires-clause-late c =
    let t : List ℕ = c.self.inside.retained.items in
    let gone-is : slice_get t c.args.gone ≡ Some c.args.gone = subst (λ (u : List ℕ). slice_get u c.args.gone ≡ Some c.args.gone) (sym c.self.view_is) c.requires.gone in
    let lt : c.args.gone < length c.self.inside.lasts.items = omega (arith, slice_get_within t _ _ gone-is, c.self.invariant.1.ends) in
    rw (c.index-last.ensures ∙ get_or_default_zero _ _ _ lt) (late_same t c.self.inside.counts.items c.self.inside.lasts.items c.args.keep c.args.gone c.self.invariant.1)

pub index-requires-2 : goal.index-requires-2
index-requires-2 c =
    let t : List ℕ = c.self.inside.retained.items in
    let gone-is : slice_get t c.args.gone ≡ Some c.args.gone = subst (λ (u : List ℕ). slice_get u c.args.gone ≡ Some c.args.gone) (sym c.self.view_is) c.requires.gone in
    let lt : c.args.gone < length c.self.inside.counts.items = omega (arith, slice_get_within t _ _ gone-is, c.self.invariant.1.sizes) in
    search rules

pub overflow_add-index_mut : goal.overflow_add-index_mut
overflow_add-index_mut c =
    let t : List ℕ = c.self.inside.retained.items in
    let keep-is : slice_get t c.args.keep ≡ Some c.args.keep = subst (λ (u : List ℕ). slice_get u c.args.keep ≡ Some c.args.keep) (sym c.self.view_is) c.requires.keep in
    let gone-is : slice_get t c.args.gone ≡ Some c.args.gone = subst (λ (u : List ℕ). slice_get u c.args.gone ≡ Some c.args.gone) (sym c.self.view_is) c.requires.gone in
    let keep-in : c.args.keep < length c.self.inside.counts.items = omega (arith, slice_get_within t _ _ keep-is, c.self.invariant.1.sizes) in
    let gone-in : c.args.gone < length c.self.inside.counts.items = omega (arith, slice_get_within t _ _ gone-is, c.self.invariant.1.sizes) in
    let x = c.index_mut-2.ensures.value ∙ get_or_default_zero _ _ _ keep-in ∙ c.self.invariant.1.counted c.args.keep (slice_get_within t _ _ keep-is) in
    let y = c.index-2.ensures ∙ get_or_default_zero _ _ _ gone-in ∙ c.self.invariant.1.counted c.args.gone (slice_get_within t _ _ gone-is) in
    rw (x, y) (fit (counts_within c.args.keep c.args.gone t c.requires.order) c.self.invariant.1.few)
  where
    fit : {a n : ℕ} → a ≤ n → n < 4294967296 → Fits w32 a
    fit h k = omega (arith, h, k)

pub invariant_of-self : goal.invariant_of-self
invariant_of-self c =
    let t : List ℕ = c.self.inside.retained.items in
    let keep-is : slice_get t c.args.keep ≡ Some c.args.keep = subst (λ (u : List ℕ). slice_get u c.args.keep ≡ Some c.args.keep) (sym c.self.view_is) c.requires.keep in
    let gone-is : slice_get t c.args.gone ≡ Some c.args.gone = subst (λ (u : List ℕ). slice_get u c.args.gone ≡ Some c.args.gone) (sym c.self.view_is) c.requires.gone in
    let keep-in : c.args.keep < length c.self.inside.counts.items = omega (arith, slice_get_within t _ _ keep-is, c.self.invariant.1.sizes) in
    let gone-in : c.args.gone < length c.self.inside.counts.items = omega (arith, slice_get_within t _ _ gone-is, c.self.invariant.1.sizes) in
    let keep-end : c.args.keep < length c.self.inside.lasts.items = omega (arith, slice_get_within t _ _ keep-is, c.self.invariant.1.ends) in
    let gone-end : c.args.gone < length c.self.inside.lasts.items = omega (arith, slice_get_within t _ _ gone-is, c.self.invariant.1.ends) in
    rw (c.rename.ensures, c.index_mut-2.ensures.value ∙ get_or_default_zero _ _ _ keep-in, c.index-2.ensures ∙ get_or_default_zero _ _ _ gone-in, c.max.ensures, c.index.ensures ∙ get_or_default_zero _ _ _ keep-end, c.index-last.ensures ∙ get_or_default_zero _ _ _ gone-end)
    (replaced_flat t _ _ c.self.invariant.0 keep-is gone-is c.requires.order, replaced_counted t _ _ _ _ c.self.invariant.0 c.self.invariant.1 keep-is gone-is c.requires.order)

pub returns-clause-keeps : goal.returns-clause-keeps
returns-clause-keeps c = λ g h equal wide. rw (c.rename.ensures, c.self.view_is) (replaced_keeps g c.args.self.now _ _ h equal wide c.requires.keep c.requires.gone c.requires.order)

pub returns-clause-falls : goal.returns-clause-falls
returns-clause-falls c =
    let flat : IsFlat c.args.self.now = subst (λ (u : List ℕ). IsFlat u) c.self.view_is c.self.invariant.0 in
    rw (c.rename.ensures, c.self.view_is) (replaced_classes c.args.self.now _ _ flat c.requires.gone c.requires.order)
