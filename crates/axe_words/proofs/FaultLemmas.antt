-- From the values that clap gives to the words.
use Rattle.std.proofs.Common.{◌≡◌, ◌≢◌, ◌⊎◌, List, [], Option, Result, Ok, Err, IfErr, true, sym, subst, refl, inl, inr}
use Rattle.clap.specs.Words.{IsAmong}
use Rattle.clap.specs.declared.error.kind.ErrorKind.{ErrorKind}
use Rattle.clap.specs.declared.error.kind.ErrorKind.TheVariants.{OutOfMemory}
use Rattle.axe_words.specs.Options.{Text}
use Rattle.axe_words.specs.Command.{given_by, faults, is_taken}
use Rattle.axe_words.specs.Meaning.{IsValueFault, IsProveFault}
use Rattle.axe_words.specs.declared.job.Job.{Job}
use Rattle.axe_words.specs.declared.job.WordsError.{WordsError}
use Rattle.axe_words.specs.declared.job.WordsError.TheVariants.{Unknown, Refused, BadNumber, BadSizes, BadOut, Memory}

fault_of_words : (words : List Text) (e : WordsError) → faults words ≡ [] → IsValueFault (given_by words) e → IsProveFault words e
fault_of_words words (Unknown word) fits h = h
fault_of_words words (Refused kind) fits h = absurd h
fault_of_words words (BadNumber option) fits h = (fits, h)
fault_of_words words (BadSizes at) fits h = (fits, h)
fault_of_words words BadOut fits h = (fits, h)
fault_of_words words Memory fits h = tt

-- a fault of the values is one of the words that clap takes
pub value_fault : (words : List Text) (given : Text → Option Text) (r : Result Job WordsError) → given ≡ given_by words → faults words ≡ [] → IfErr r (IsValueFault given) → IfErr r (IsProveFault words)
value_fault words given (Ok job) is fits h = tt
value_fault words given (Err e) is fits h = fault_of_words words e fits (subst (λ (g : Text → Option Text). IsValueFault g e) is h)

is_memory : (k : ErrorKind) → (k ≡ OutOfMemory) ⊎ (k ≢ OutOfMemory)
is_memory OutOfMemory = inl refl
is_memory k = inr (λ e. cc)

-- a refusal of clap is for want of memory, or the words aren't of the command's form
pub refusal_fault : (words : List Text) (kind : ErrorKind) (e : WordsError) → (kind ≡ OutOfMemory → e ≡ Memory) → (kind ≢ OutOfMemory → e ≡ Refused kind)
    → (kind ≡ OutOfMemory) ⊎ IsAmong kind (faults words) → (is_taken words ≡ true → kind ≡ OutOfMemory) → IsProveFault words e
refusal_fault words kind e memory other has only = elim (is_memory kind) [
  | inl m ↦ subst (IsProveFault words) (sym (memory m)) tt
  | inr o ↦ subst (IsProveFault words) (sym (other o)) (elim has [ inl m ↦ absurd (o m) | inr among ↦ among ], λ t. o (only t))
]
