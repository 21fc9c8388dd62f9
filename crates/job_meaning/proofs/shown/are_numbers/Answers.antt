use Rattle.std.proofs.Common.{◌≡◌, ◌≢◌, ℕ, ℤ, pos, Bool, true, false, List, [], ◌∷◌, length, refl, sym, arith}
use Rattle.std.specs.Prelude.{◌&&◌}
use Rattle.std.specs.Ordering.{int_eq}
use Rattle.job_meaning.specs.Jobs.{are_numbers}
use Rattle.job_meaning.proofs.shown.are_numbers.Goals as goal

and_false : (b : Bool) → (b && false) ≡ false
and_false true = refl
and_false false = refl

-- lists of different lengths aren't the same numbers
others : (ns : List ℕ) (zs : List ℤ) → length ns ≢ length zs → are_numbers ns zs ≡ false
others [] [] differ = absurd (differ refl)
others [] (z ∷ zs) differ = refl
others (n ∷ ns) [] differ = refl
others (n ∷ ns) (z ∷ zs) differ = rw (others ns zs (λ e. differ (omega (arith, e)))) (and_false (int_eq z (pos n)))

pub returns-then-words-numbers : goal.returns-then-words-numbers
returns-then-words-numbers c = sym (others c.args.words.now c.args.numbers.now c.if-words-numbers.true)
