-- Names that were seen.
use Rattle.std.proofs.Common.{◌≡◌, ℕ, ◌+◌, ◌<◌, ◌≤◌, Bool, true, false, cond, ◌||◌, List, [], ◌∷◌, length, get_or, drop, refl, sym, ap, ◌∙◌, add-one, drop-cons, arith}
use Rattle.std.specs.Str.{bytes_eq}
use Rattle.spec_reader.specs.Names.{are_fresh, are_distinct}

pub added : (is seen : Bool) → cond is true seen ≡ (is || seen)
added true seen = refl
added false seen = refl

pub goes_on : (before after : List ℕ → Bool) (names : List (List ℕ)) (i : ℕ) (name : List ℕ) (all : Bool) → i < length names → name ≡ get_or names i name → before name ≡ false
    → ((other : List ℕ) → after other ≡ (bytes_eq name other || before other)) → are_fresh before (drop i names) ≡ all → are_fresh after (drop (i + 1) names) ≡ all
goes_on before after names i name all lt is fresh same so_far =
    let split : drop i names ≡ name ∷ drop (i + 1) names = rw (add-one, drop-cons names i name, ← is) refl in
    let seen : after ≡ (λ other. bytes_eq name other || before other) = λ j other. same other j in
    ap (λ (s : List ℕ → Bool). are_fresh s (drop (i + 1) names)) seen ∙ sym (rw (split, fresh) refl) ∙ so_far

-- one name stands there once
pub one_is_distinct : (names : List (List ℕ)) → 1 ≤ length names → length names < 2 → true ≡ are_distinct names
one_is_distinct [] low high = absurd (omega (arith, low))
one_is_distinct (x ∷ []) low high = refl
one_is_distinct (x ∷ (y ∷ more)) low high = absurd (omega (arith, high))
