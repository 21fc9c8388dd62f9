-- The sizes of a job whose numbers are in their ranges have a sum of at most 16,384.
use Rattle.std.proofs.Common.{◌≡◌, ℕ, ◌+◌, List, [], ◌∷◌, refl, sym, ap, ◌∙◌, arith}
use Rattle.std.specs.Prelude.{sum}
use Rattle.std.proofs.lemmas.List.Sums.{sum_by-cons}
use Rattle.axe_words.specs.Meaning.{HasRanges}
use Rattle.axe_words.specs.declared.job.Job.{Job}
use Rattle.axe_words.specs.declared.job.Job.TheVariants.{Prove}
use Rattle.jvm_run.specs.Descriptors.{total}
use Rattle.job_parts.specs.Parts.{asked_of, HasFewSizes}

total_is_sum : (ns : List ℕ) → total ns ≡ sum ns
total_is_sum [] = refl
total_is_sum (n ∷ ns) = ap (λ (k : ℕ). n + k) (total_is_sum ns) ∙ sym (sum_by-cons (λ x. x) n ns)

pub few_sizes : (job : Job) → HasRanges job → HasFewSizes (asked_of job)
few_sizes (Prove class method spec function desc sizes out budgets) h = omega (arith, h.1, total_is_sum sizes.items)
