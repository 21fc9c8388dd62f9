-- The first of the open lists.
use Rattle.std.proofs.Common.{◌≡◌, ℕ, List, [], ◌∷◌, ◌++◌, reverse, Some, Err, refl, ap, ◌∙◌}
use Rattle.std.specs.Prelude.{slice_get}
use Rattle.std.proofs.lemmas.List.{reverse-append}
use Rattle.spec_form.specs.declared.error.SpecError.TheVariants.{Unclosed}
use Rattle.spec_reader.specs.declared.datum.Datum.{Datum}
use Rattle.spec_reader.specs.declared.nesting.Level.{Level}
use Rattle.spec_reader.specs.Nesting.{outermost, finish_levels}

outermost-last : (at : ℕ) (levels : List Level) (l : Level) → outermost at (levels ++ l ∷ []) ≡ l.at
outermost-last at [] l = refl
outermost-last at (m ∷ levels) l = outermost-last m.at levels l

unclosed_last : (levels : List Level) (l : Level) (parts : List Datum) → finish_levels (levels ++ l ∷ []) parts ≡ Err (Unclosed l.at)
unclosed_last [] l parts = refl
unclosed_last (m ∷ levels) l parts = ap (λ (at : ℕ). Err (Unclosed at)) (outermost-last m.at levels l)

pub unclosed : (levels : List Level) (l : Level) (parts : List Datum) → Some l ≡ slice_get levels 0 → finish_levels (reverse levels) parts ≡ Err (Unclosed l.at)
unclosed [] l parts is = absurd cc
unclosed (m ∷ rest) l parts is =
    let same : l ≡ m = cc in
    ap (λ (ls : List Level). finish_levels ls parts) (reverse-append (m ∷ []) rest) ∙ unclosed_last (reverse rest) m parts ∙ rw same refl
