use Rattle.std.proofs.Common.{◌≡◌, ℕ, refl, [], ◌∷◌, rules}
use Rattle.std.specs.Prelude.{pos}
use Rattle.spec_form.specs.declared.form.Form.{Form, the_lemmas as form_lemmas}
use Rattle.spec_form.specs.declared.form.FormKind.{FormKind, the_lemmas}
use Rattle.spec_form.specs.declared.form.FormKind.TheOpen.{FormKind-F}
use Rattle.spec_form.specs.declared.form.FormKind.TheOpen as kind
use Rattle.spec_meaning.specs.declared.value.Value.TheVariants.{Number}
use Rattle.spec_reader.specs.Forms.{form}
use Rattle.spec_meaning.specs.Evaluations.{eval_form, call_value, kind_of}
use Rattle.spec_meaning_rows.specs.Countdown.{RecursionIsVisited, visit_of}
use Rattle.spec_meaning_rows.proofs.visits.a_recursion_is_visited.Goals as goal

opened : (at : ℕ) (k : FormKind-F FormKind Form) → kind_of (form at k) ≡ k
opened at k = search (rules, the_lemmas, form_lemmas)

recursion : RecursionIsVisited
unfolding eval_form call_value
recursion = record {
  outermost = refl;
  once = simp opened refl;
  twice = simp opened refl;
  last_one = simp opened refl;
  value = simp opened refl;
  not_taken = simp opened refl;
  not_called = simp opened refl;
  no_child = simp opened refl;
  too_deep = simp opened refl;
  spent = simp opened refl;
  next = (visit_of (form 26 (kind.Variable 1)) (Number (pos 0) ∷ Number (pos 10) ∷ []) 4 1, simp opened refl);
  form_there = simp opened refl;
}

pub returns : goal.returns
returns c = recursion
