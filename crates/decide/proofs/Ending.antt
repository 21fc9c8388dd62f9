-- How answers to jobs are answers to words, and how a run ends with or without one.
use Rattle.std.proofs.Common.{◌≡◌, ℕ, List, Option, Some, None, Result, Ok, Err, refl, sym, ap, subst, inr}
use Rattle.std.specs.Prelude.{[], MatchResult}
use Rattle.std.proofs.lemmas.List.{append-nil}
use Rattle.axe_io.specs.Ends.{Told, Appends}
use Rattle.axe_words.specs.declared.job.Job.{Job}
use Rattle.axe_words.specs.Meaning.{IsJob}
use Rattle.job_parts.specs.Parts.{Asked, asked_of}
use Rattle.decide.specs.declared.answer.Answer as code
use Rattle.decide.specs.declared.answer.NoAnswer.{NoAnswer}
use Rattle.decide.specs.declared.answer.NoAnswer.TheVariants.{ReadFault, Memory}
use Rattle.decide.specs.Answers.{Answers, FailsRead, HasCause, HasJobCause, IsJobAnswer}
use Rattle.decide.specs.Runs.{EndsWithout, answer, status_without}

-- the answer of the job that words mean is right for the words
pub right_for : (words : List (List ℕ)) (holds : List ℕ → Told) (before now : ℕ) (job : Job) (w : Asked) (r : Result code.Answer NoAnswer) → IsJob words job → w ≡ asked_of job
    → MatchResult r (λ a. IsJobAnswer w holds (answer a) × (now ≡ before)) (HasJobCause w holds before now)
    → MatchResult r (λ a. Answers words holds (answer a) × (now ≡ before)) (HasCause words holds before now)
right_for words holds before now job w (Ok a) is same h = (inr (record { job = job; means = is; answers = subst (λ (v : Asked). IsJobAnswer v holds (answer a)) same h.0 }), h.1)
right_for words holds before now job w (Err ReadFault) is same h = record { job = job; means = is; fails = subst (λ (v : Asked). FailsRead v holds before now) same h }
right_for words holds before now job w (Err Memory) is same h = h.1

-- nothing more was written
pub nothing_appended : (old : Option (List ℕ)) → Appends old old []
nothing_appended None = refl
nothing_appended (Some bytes) = ap (λ (xs : List ℕ). Some xs) (sym (append-nil bytes))

-- a run that reached no answer
pub stopped : (words : List (List ℕ)) (holds : List ℕ → Told) (a b : ℕ) (old : Option (List ℕ)) (c : ℕ) (why : NoAnswer) → HasCause words holds a b why → EndsWithout words holds a b old old c c (status_without why)
stopped words holds a b old c why cause = record { why = why; is = refl; cause = cause; wrote = (nothing_appended old, refl) }
