-- What the words of a job mean.
use Rattle.std.specs.Prelude.{◌≡◌, ◌≢◌, ℕ, ◌≤◌, sum, List, [], ◌∷◌, Option, Some, None, Ok, Err, IsOk, true, codes, option_map}
use Rattle.std.specs.String.{string_bytes}
use Rattle.clap.specs.Words.{IsAmong}
use Rattle.axe_io.specs.Ranges.{AreBudgets}
use Rattle.axe_io.specs.declared.budgets.Budgets.{Budgets}
use Rattle.axe_io.specs.declared.parameters.OutPlace.{OutPlace}
use Rattle.axe_words.specs.Options.{Text, number_options, numbers_of, HaveNumbers, first_bad, sizes_of, out_of}
use Rattle.axe_words.specs.Command.{given_by, faults, is_taken}
use Rattle.axe_words.specs.declared.job.Command.TheVariants as command
use Rattle.axe_words.specs.declared.job.Job.{Job}
use Rattle.axe_words.specs.declared.job.Job.TheVariants.{Prove}
use Rattle.axe_words.specs.declared.job.WordsError.{WordsError}
use Rattle.axe_words.specs.declared.job.WordsError.TheVariants.{Unknown, Refused, BadNumber, BadSizes, BadOut, Memory}

-- the job's parts are the values that its words give, or the defaults
pub record IsGiven (given : Text → Option Text) (class method spec function : Text) (desc : Option Text) (sizes : List ℕ) (out : OutPlace) (budgets : Budgets) : Type 0 where
  pub class_is : given (codes "class") ≡ Some class
  pub method_is : given (codes "method") ≡ Some method
  pub spec_is : given (codes "spec") ≡ Some spec
  pub function_is : given (codes "function") ≡ Some function
  pub desc_is : given (codes "desc") ≡ desc
  pub sizes_are : sizes_of given ≡ Ok sizes
  pub out_is : out_of given ≡ Some out
  pub numbers : HaveNumbers given (number_options command.Prove) (numbers_of budgets)

-- what a job is made of, where `given` says which value its words give to a name
abbrev pub IsJobOf : (Text → Option Text) → Job → Type 0
IsJobOf given (Prove class method spec function desc sizes out budgets) =
    IsGiven given (string_bytes class) (string_bytes method) (string_bytes spec) (string_bytes function) (option_map string_bytes desc) sizes.items out budgets

-- why values that clap took make no job: the first option in the table's order that is bad, and else the first bad size, and else the place
abbrev pub IsValueFault : (Text → Option Text) → WordsError → Type 0
IsValueFault given (Unknown word) = ⊥
IsValueFault given (Refused kind) = ⊥
IsValueFault given (BadNumber option) = first_bad given (number_options command.Prove) ≡ Some option
IsValueFault given (BadSizes at) = (first_bad given (number_options command.Prove) ≡ None) × (sizes_of given ≡ Err at)
IsValueFault given BadOut = (first_bad given (number_options command.Prove) ≡ None) × IsOk (sizes_of given) × (out_of given ≡ None)
IsValueFault given Memory = Unit {0}

-- why the words after `prove` make no job
abbrev pub IsProveFault : List Text → WordsError → Type 0
IsProveFault rest (Unknown word) = ⊥
IsProveFault rest (Refused kind) = IsAmong kind (faults rest) × (is_taken rest ≢ true)
IsProveFault rest Memory = Unit {0}
IsProveFault rest e = (faults rest ≡ []) × IsValueFault (given_by rest) e

-- the words are `prove` and then words that clap takes and that give this job
abbrev pub IsJob : List Text → Job → Type 0
IsJob words job = (rest : List Text) × (words ≡ codes "prove" ∷ rest) × (faults rest ≡ []) × IsJobOf (given_by rest) job

-- the first word, empty where there is none
abbrev pub first_word : List Text → Text
first_word [] = []
first_word (word ∷ rest) = word

-- why the words make no job
abbrev pub IsWordsFault : List Text → WordsError → Type 0
IsWordsFault words (Unknown word) = (string_bytes word ≡ first_word words) × (first_word words ≢ codes "prove")
IsWordsFault words Memory = Unit {0}
IsWordsFault words e = (rest : List Text) × (words ≡ codes "prove" ∷ rest) × IsProveFault rest e

-- each number of a job is in its range, and its sizes have a sum of at most 16,384
abbrev pub HasRanges : Job → Type 0
HasRanges (Prove class method spec function desc sizes out budgets) = AreBudgets budgets × (sum sizes.items ≤ 16384)
