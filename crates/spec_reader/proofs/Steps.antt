-- Steps of a loop that uses a list up, of which one may fail.
use Rattle.std.proofs.Common.{◌≡◌, List, length, [], ◌∷◌, Result, Ok, refl, sym, subst, ◌∙◌, arith}
use Rattle.spec_form.specs.declared.error.SpecError.{SpecError}
use Rattle.spec_reader.specs.Reading.{◌>>=◌, Fails, steps}
use Rattle.spec_reader.proofs.Faults.{Fails-bind}

pub goes_on : {S X : Type 0} (step : S → X → Result S SpecError) (s next : S) (xs rest : List X) (x : X) (all : Result S SpecError) → xs ≡ x ∷ rest → step s x ≡ Ok next → steps step s xs ≡ all → steps step next rest ≡ all
unfolding steps
goes_on step s next xs rest x all is h so_far = sym (rw (is, h) refl) ∙ so_far

pub fails : {S X T : Type 0} (step : S → X → Result S SpecError) (s : S) (xs rest : List X) (x : X) (all : Result S SpecError) (f : S → Result T SpecError) (e : SpecError) → xs ≡ x ∷ rest → Fails e (step s x) → steps step s xs ≡ all → Fails e (all >>= f)
unfolding steps
fails {S} {X} step s xs rest x all f e is h so_far =
    let first : steps step s xs ≡ (step s x >>= λ next. steps step next rest) = rw is refl in
    Fails-bind e all f (subst (λ (r : Result S SpecError). Fails e r) (sym first ∙ so_far) (Fails-bind e (step s x) (λ next. steps step next rest) h))

pub ends : {S X : Type 0} (step : S → X → Result S SpecError) (s : S) (xs : List X) (all : Result S SpecError) → xs ≡ [] → steps step s xs ≡ all → all ≡ Ok s
unfolding steps
ends step s xs all is so_far = sym so_far ∙ rw is refl

pub is_empty : {X : Type 0} (xs : List X) → length xs ≡ 0 → xs ≡ []
is_empty [] none = refl
is_empty (x ∷ xs) none = absurd (omega (arith, none))
