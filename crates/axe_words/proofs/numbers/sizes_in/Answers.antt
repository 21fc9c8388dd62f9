-- Each text between commas is a size, and the first bad one is the answer.
use Rattle.std.proofs.Common.{rules, arith, ◌≡◌, ◌∙◌, ap, sym, ◌+◌, ◌++◌, ◌∷◌, [], Ok}
use Rattle.std.specs.Prelude.{◌==◌}
use Rattle.std.specs.List.{slice_split}
use Rattle.axe_words.specs.Numbers.{size_in, sizes_from}
use Rattle.axe_words.proofs.NumberLemmas.{with_sizes, with_sizes-push, with_sizes-ok, with_sizes-err, parts_some, parts_none, good_size, bad_size, last_size, last_bad}
use Rattle.axe_words.proofs.numbers.sizes_in.Goals as goal

pub returns-in_default-size_in-clause-err : goal.returns-in_default-size_in-clause-err
returns-in_default-size_in-clause-err c = let parts = parts_some c.loop-first.rest.now c.split_once.result c.in-Some.first c.in-Some.others c.split_once.ensures.cases c.in-Some.is in let at = c.loop-first.at in
    let size = ap (size_in c.loop-first.before) (sym c.as_bytes.ensures.value) ∙ sym c.size_in.ensures.value ∙ c.in_default-size_in.is in
    c.loop-first.invariant.1 ∙ ap (with_sizes c.loop-first.sizes.items) (bad_size at c.loop-first.before c.loop-first.rest.now c.in-Some.first.now c.in-Some.others.now parts.0 size) ∙ with_sizes-err c.loop-first.sizes.items at

pub loop-first-preserved : goal.loop-first-preserved
loop-first-preserved c = let parts = parts_some c.loop-first.rest.now c.split_once.result c.in-Some.first c.in-Some.others c.split_once.ensures.cases c.in-Some.is in let at = c.loop-first.at in let inv = c.loop-first.invariant in
    let size = ap (size_in c.loop-first.before) (sym c.as_bytes.ensures.value) ∙ sym c.size_in.ensures.value ∙ c.in-Some-size_in.is in let n = c.in-Some-size_in.size in
    let items : c.push.new.self.items ≡ c.loop-first.sizes.items ++ n ∷ [] = search rules in (
      search rules,
      inv.1 ∙ ap (with_sizes c.loop-first.sizes.items) (good_size at c.loop-first.before c.loop-first.rest.now c.in-Some.first.now c.in-Some.others.now parts.0 n size)
          ∙ sym (with_sizes-push c.loop-first.sizes.items n _) ∙ ap (λ ns. with_sizes ns (sizes_from (at + 1) (c.loop-first.before + n) (slice_split (λ b. b == 44) c.in-Some.others.now))) (sym items),
      c.in-Some-size_in.ensures.range.1,
      (let lt = parts.1 in let le = inv.3 in omega arith),
    )

pub returns-in_default-size_in-2-clause-err : goal.returns-in_default-size_in-2-clause-err
returns-in_default-size_in-2-clause-err c = let at = c.loop-first.at in let whole = parts_none c.loop-first.rest.now c.split_once.result c.split_once.ensures.cases c.in_default.is in
    let size = ap (size_in c.loop-first.before) (sym c.as_bytes-2.ensures.value) ∙ sym c.size_in-2.ensures.value ∙ c.in_default-size_in-2.is in
    c.loop-first.invariant.1 ∙ ap (with_sizes c.loop-first.sizes.items) (last_bad at c.loop-first.before c.loop-first.rest.now whole size) ∙ with_sizes-err c.loop-first.sizes.items at

pub returns-clause-ok : goal.returns-clause-ok
returns-clause-ok c = let at = c.loop-first.at in let whole = parts_none c.loop-first.rest.now c.split_once.result c.split_once.ensures.cases c.in_default.is in
    let size = ap (size_in c.loop-first.before) (sym c.as_bytes-2.ensures.value) ∙ sym c.size_in-2.ensures.value ∙ c.in-Some-size_in-2.is in let n = c.in-Some-size_in-2.size in
    let items : c.push-2.new.self.items ≡ c.loop-first.sizes.items ++ n ∷ [] = search rules in
    c.loop-first.invariant.1 ∙ ap (with_sizes c.loop-first.sizes.items) (last_size at c.loop-first.before c.loop-first.rest.now whole n size) ∙ with_sizes-ok c.loop-first.sizes.items n ∙ ap (λ ns. Ok ns) (sym items)
