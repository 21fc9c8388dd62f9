-- The options of each command, each with its default and its range. `given` says which value the words give to a name.
use Rattle.std.specs.Prelude.{◌≡◌, ℕ, List, [], ◌∷◌, Option, Some, None, Result, Ok, Err, if◌then◌else◌, codes, option_map}
use Rattle.std.specs.Option.{option_map_or}
use Rattle.std.specs.Str.{bytes_eq}
use Rattle.axe_io.specs.declared.budgets.Budgets.{Budgets}
use Rattle.axe_io.specs.declared.parameters.OutPlace.{OutPlace}
use Rattle.axe_io.specs.declared.parameters.OutPlace.TheVariants.{Returned, Param}
use Rattle.axe_words.specs.Numbers.{number_in, sizes_in}
use Rattle.axe_words.specs.declared.numbers.SizesFault.{SizesFault}
use Rattle.axe_words.specs.declared.numbers.SizesFault.TheVariants.{Bad, Memory}
use Rattle.axe_words.specs.declared.job.WordsError.{WordsError}
use Rattle.axe_words.specs.declared.job.WordsError.TheVariants.{BadNumber}
use Rattle.axe_words.specs.declared.job.Command.{Command}
use Rattle.axe_words.specs.declared.job.Command.TheVariants.{Prove}
use Rattle.axe_words.specs.declared.job.NumberWord.{NumberWord}
use Rattle.axe_words.specs.declared.job.NumberWord.TheVariants.{Steps, Paths, Frames, Elements, Depth, Work, Nodes, Lines, Total, Cases, Vectors, Workers, Seed}

abbrev pub Text : Type 0
Text = List ℕ

-- an option that takes a number
pub record NumberOption : Type 0 where
  pub option : NumberWord
  pub name : Text
  pub default : ℕ
  pub least : ℕ
  pub greatest : ℕ

abbrev pub number_option : NumberWord → Text → ℕ → ℕ → ℕ → NumberOption
number_option option name default least greatest = record { option = option; name = name; default = default; least = least; greatest = greatest }

-- the options of a command that take a number, in the order in which they are read: name, default, least and greatest
abbrev pub number_options : Command → List NumberOption
number_options Prove =
    number_option Steps (codes "steps") 200000 1 2000000
    ∷ number_option Paths (codes "paths") 64 1 1024
    ∷ number_option Frames (codes "frames") 64 1 256
    ∷ number_option Elements (codes "elements") 65536 1 262144
    ∷ number_option Depth (codes "depth") 2000 1 2000
    ∷ number_option Work (codes "work") 500000 1 5000000
    ∷ number_option Nodes (codes "nodes") 500000 1 2000000
    ∷ number_option Lines (codes "lines") 10000 1 1000000
    ∷ number_option Total (codes "total") 1000000 1 100000000
    ∷ number_option Cases (codes "cases") 12 0 20
    ∷ number_option Vectors (codes "vectors") 64 1 256
    ∷ number_option Workers (codes "workers") 4 1 16
    ∷ number_option Seed (codes "seed") 1 0 18446744073709551615
    ∷ []

-- the number of an option: that of its value, where the value is a number in range, or the default, where it has no value
abbrev pub number_of : (Text → Option Text) → NumberOption → Option ℕ
number_of given o = option_map_or (λ text. number_in o.least o.greatest text) (given o.name) (Some o.default)

-- the numbers of the options, as a job has them
abbrev pub numbers_of : Budgets → List ℕ
numbers_of b = b.steps ∷ b.paths ∷ b.frames ∷ b.elements ∷ b.depth ∷ b.work ∷ b.nodes ∷ b.lines ∷ b.total ∷ b.cases ∷ b.vectors ∷ b.workers ∷ b.seed ∷ []

-- each option has the number at its place
abbrev pub HaveNumbers : (Text → Option Text) → List NumberOption → List ℕ → Type 0
HaveNumbers given [] [] = Unit {0}
HaveNumbers given (o ∷ os) (n ∷ ns) = (number_of given o ≡ Some n) × HaveNumbers given os ns
HaveNumbers given [] (n ∷ ns) = ⊥
HaveNumbers given (o ∷ os) [] = ⊥

abbrev pub bad_on : Option ℕ → NumberWord → Option NumberWord → Option NumberWord
bad_on (Some n) option rest = rest
bad_on None option rest = Some option

-- the first option whose value is no number in its range
abbrev pub first_bad : (Text → Option Text) → List NumberOption → Option NumberWord
first_bad given [] = None
first_bad given (o ∷ os) = bad_on (number_of given o) o.option (first_bad given os)

-- the sizes of the array parameters, none without the option, or the place of the first bad one
abbrev pub sizes_of : (Text → Option Text) → Result (List ℕ) ℕ
sizes_of given = option_map_or sizes_in (given (codes "sizes")) (Ok [])

-- where the result is observed: `return`, or the number of an array parameter up to 65,535
abbrev pub out_in : Text → Option OutPlace
out_in text = if bytes_eq text (codes "return") then Some Returned else option_map Param (number_in 0 65535 text)

-- the same of the words, where no option means `return`
abbrev pub out_of : (Text → Option Text) → Option OutPlace
out_of given = option_map_or out_in (given (codes "out")) (Some Returned)

-- the first option whose value is no number in its range is the answer
abbrev pub IsFirstBad : (Text → Option Text) → WordsError → Type 0
IsFirstBad given (BadNumber option) = first_bad given (number_options Prove) ≡ Some option
IsFirstBad given e = ⊥

-- why the sizes aren't had
abbrev pub IsSizesFaultOf : (Text → Option Text) → SizesFault → Type 0
IsSizesFaultOf given (Bad at) = sizes_of given ≡ Err at
IsSizesFaultOf given Memory = Unit {0}
