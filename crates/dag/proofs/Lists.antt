-- Reads of a list with one element more.
use Rattle.std.proofs.Common.{◌≡◌, ℕ, ◌<◌, List, [], ◌∷◌, ◌++◌, length, get_or, sym, ◌∙◌, ap, arith, Some, ◌⊎◌, inl, inr, length-append}
use Rattle.std.specs.Prelude.{slice_get}
use Rattle.std.proofs.lemmas.Bool.{cases_lt}
use Rattle.std.proofs.lemmas.List.{get_or_append_left}
use Rattle.std.proofs.Math.Seq.{get_or-append_seam}
use Rattle.std.proofs.lemmas.Option.{slice_get-get_or, slice_get_within, get_or_from_slice_get}

pub snoc_cases : {X : Type 0} (xs : List X) (y : X) (i : ℕ) (x : X) → slice_get (xs ++ y ∷ []) i ≡ Some x → ((i < length xs) × (slice_get xs i ≡ Some x)) ⊎ ((i ≡ length xs) × (y ≡ x))
snoc_cases xs y i x h =
    let read : get_or (xs ++ y ∷ []) i x ≡ x = get_or_from_slice_get (xs ++ y ∷ []) i x x h in
    let within : i < length (xs ++ y ∷ []) = slice_get_within (xs ++ y ∷ []) i x h in
    elim (cases_lt i (length xs)) [
      | inl lt ↦ inl (lt, slice_get-get_or xs i x lt ∙ ap Some (sym (get_or_append_left xs (y ∷ []) x i lt) ∙ read))
      | inr ge ↦
          let e : i ≡ length xs = omega (arith, within, length-append xs (y ∷ [])) in
          inr (e, sym (get_or-append_seam xs y [] x) ∙ ap (λ (k : ℕ). get_or (xs ++ y ∷ []) k x) (sym e) ∙ read)
    ]
