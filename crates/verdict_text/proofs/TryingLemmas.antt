-- Trying one input after another.
use Rattle.std.proofs.Common.{◌≡◌, ℕ, suc, ◌+◌, ◌-◌, ◌^◌, List, Option, Some, None, refl, sym, ◌∙◌, arith}
use Rattle.axe_io.specs.Inputs.{IsInput, bits_of, number_of, AreCounted}
use Rattle.job_meaning.specs.declared.shown.Shown.{Shown}
use Rattle.job_meaning.specs.Jobs.{Job, widths_of}
use Rattle.job_meaning.specs.Trying.{found, shown_at, tried_from, tried}

-- what trying finds from an input on
abbrev pub from_input : Job → List ℕ → Option (List ℕ × Shown)
from_input job xs = tried_from job (2 ^ bits_of (widths_of job) - number_of (widths_of job) xs) (number_of (widths_of job) xs)

-- what an input shows, and else what those after it show
one : (job : Job) (xs : List ℕ) → AreCounted → IsInput (widths_of job) xs → from_input job xs ≡ found xs (shown_at job xs) (tried_from job (2 ^ bits_of (widths_of job) - (number_of (widths_of job) xs + 1)) (number_of (widths_of job) xs + 1))
one job xs counted is =
    let ws = widths_of job in
    let n = number_of ws xs in
    let e : 2 ^ bits_of ws - n ≡ suc (2 ^ bits_of ws - (n + 1)) = omega (arith, counted.below ws xs is) in
    rw (e, counted.place ws xs is) refl

pub shows : (job : Job) (xs : List ℕ) (shown : Shown) → AreCounted → IsInput (widths_of job) xs → shown_at job xs ≡ Some shown → from_input job xs ≡ tried job → Some (xs, shown) ≡ tried job
shows job xs shown counted is h so_far = sym (one job xs counted is ∙ rw h refl) ∙ so_far

pub shows_nothing : (job : Job) (xs ys : List ℕ) → AreCounted → IsInput (widths_of job) xs → shown_at job xs ≡ None → from_input job xs ≡ tried job → number_of (widths_of job) ys ≡ number_of (widths_of job) xs + 1 → from_input job ys ≡ tried job
shows_nothing job xs ys counted is h so_far next = rw next (sym (one job xs counted is ∙ rw h refl) ∙ so_far)

pub shows_last : (job : Job) (xs : List ℕ) → AreCounted → IsInput (widths_of job) xs → shown_at job xs ≡ None → from_input job xs ≡ tried job → number_of (widths_of job) xs + 1 ≡ 2 ^ bits_of (widths_of job) → None ≡ tried job
shows_last job xs counted is h so_far last =
    let e : 2 ^ bits_of (widths_of job) - (number_of (widths_of job) xs + 1) ≡ 0 = omega (arith, last) in
    sym (one job xs counted is ∙ rw (h, e) refl) ∙ so_far

pub first_is : (job : Job) (xs : List ℕ) → number_of (widths_of job) xs ≡ 0 → from_input job xs ≡ tried job
unfolding tried
first_is job xs is = let e : 2 ^ bits_of (widths_of job) - 0 ≡ 2 ^ bits_of (widths_of job) = omega arith in rw (is, e) refl
