-- The verdict by trying is right.
use Rattle.std.proofs.Common.{◌≡◌, ℕ, true, false, List, Option, Some, None, refl, sym, ◌∙◌, subst}
use Rattle.std.specs.Prelude.{nat_le}
use Rattle.axe_io.specs.Inputs.{bits_of}
use Rattle.axe_io.specs.declared.budgets.Budgets.{Budgets}
use Rattle.job_meaning.specs.Jobs.{Job as Pair, widths_of}
use Rattle.job_meaning.specs.Trying.{IsFirst, IsFound, tried}
use Rattle.job_meaning.specs.declared.shown.Shown.{Shown}
use Rattle.job_meaning.specs.declared.shown.Shown.TheVariants as shown
use Rattle.verdict_text.specs.Verdicts.{verdict_on, verdict_of}
use Rattle.verdict_text.specs.declared.verdict.Verdict.{Verdict}
use Rattle.verdict_text.specs.declared.verdict.Verdict.TheVariants.{UnknownCases}
use Rattle.decide.specs.Answers.{IsRight, IsVerdict}

-- what the first input shows on which they don't agree
first_is_right : (b : Budgets) (pair : Pair) (input : List ℕ) (what : Shown) → IsFirst pair input what → IsRight b pair (verdict_on b input what)
first_is_right b pair input (shown.Differs method spec) first = (first.is_input, first.shows)
first_is_right b pair input (shown.Refused reason method pc) first = (first.is_input, first.shows)
first_is_right b pair input (shown.Outside at reason) first = (first.is_input, first.shows)
first_is_right b pair input (shown.Spends budget) first = (refl, (input, refl, first.is_input, first.shows))

found_is_right : (b : Budgets) (pair : Pair) (found : Option (List ℕ × Shown)) → IsFound pair found → IsRight b pair (verdict_of b (bits_of (widths_of pair)) found)
found_is_right b pair None all = (refl, all)
found_is_right b pair (Some first) is = first_is_right b pair first.0 first.1 is

pub few_are_right : (b : Budgets) (pair : Pair) (verdict : Verdict) → nat_le (bits_of (widths_of pair)) b.cases ≡ true → IsFound pair (tried pair) → verdict ≡ verdict_of b (bits_of (widths_of pair)) (tried pair) → IsVerdict b pair verdict
few_are_right b pair verdict few right is = record {
  few = λ _. is;
  many = λ many. absurd (let bad : true ≡ false = sym few ∙ many in cc);
  right = subst (IsRight b pair) (sym is) (found_is_right b pair (tried pair) right);
}

pub more_are_right : (b : Budgets) (pair : Pair) → nat_le (bits_of (widths_of pair)) b.cases ≡ false → IsVerdict b pair (UnknownCases b.cases)
more_are_right b pair more = record {
  few = λ few. absurd (let bad : true ≡ false = sym few ∙ more in cc);
  many = λ _. refl;
  right = (refl, more);
}
