-- The command that reads the words after `prove`, and what clap makes of them.
use Rattle.std.specs.Prelude.{◌≡◌, Bool, true, false, List, [], ◌∷◌, ◌++◌, map, codes, is_some, Option, Some}
use Rattle.std.specs.List.{All, fold}
use Rattle.clap.specs.Words.{App, Rule, args_of, groups_of, first_of, matches_of, new_app, new_rule, with_rule, takes, fault_of, AddsArg, IsPlainArg, Kinds}
use Rattle.clap.specs.Built.{TakesValue}
use Rattle.clap.specs.Simple.{on_top}
use Rattle.clap.specs.declared.builder.action.ArgAction.TheVariants.{Set}
use Rattle.clap.specs.declared.builder.arg.Arg.{Arg}
use Rattle.clap.specs.declared.builder.command.Command.{Command}
use Rattle.clap.specs.declared.builder.command.Command.TheViews.{out-Command}
use Rattle.axe_words.specs.Options.{Text}

-- a word that has to be there, known by its place
abbrev pub required_rule : Text → Rule
required_rule name = record (new_rule name) { action = Some Set; required = true }

-- an option `--NAME` with a value
abbrev pub option_rule : Text → Rule
option_rule name = record (new_rule name) { long = Some name; action = Some Set }

-- no program's name before the words, and no flags for help or the version
abbrev pub bare_app : App
bare_app = on_top (λ s. record s { no_binary_name = true; disable_help_flag = true; disable_version_flag = true }) (new_app (codes "axe"))

-- the words that have to be there, in their order
abbrev pub word_names : List Text
word_names = codes "class" ∷ codes "method" ∷ codes "spec" ∷ codes "function" ∷ []

-- the options
abbrev pub option_names : List Text
option_names = codes "desc" ∷ codes "sizes" ∷ codes "out" ∷ codes "steps" ∷ codes "paths" ∷ codes "frames" ∷ codes "elements" ∷ codes "depth" ∷ codes "work" ∷ codes "nodes" ∷ codes "lines" ∷ codes "total" ∷ codes "cases" ∷ codes "vectors" ∷ codes "workers" ∷ codes "seed" ∷ []

-- the arguments in their order; those that are marked have to be there
abbrev pub prove_arguments : List (Bool × Text)
prove_arguments = map (λ name. (true, name)) word_names ++ map (λ name. (false, name)) option_names

abbrev pub rule_of_argument : Bool × Text → Rule
rule_of_argument (true, name) = required_rule name
rule_of_argument (false, name) = option_rule name

-- the command of `prove`
abbrev pub prove_app : App
prove_app = fold (λ app argument. with_rule app (rule_of_argument argument)) bare_app prove_arguments

-- the value that clap gives to a name, of the words after `prove`
abbrev pub given_by : List Text → Text → Option Text
given_by words name = first_of name (matches_of prove_app words)

-- the kinds of refusal that clap may give of the words; none where it takes them
abbrev pub faults : List Text → Kinds
faults words = fault_of prove_app words

-- clap's own test of a simple command and its words
abbrev pub is_taken : List Text → Bool
is_taken words = takes prove_app words

-- each word that has to be there is
abbrev pub HasWords : (Text → Option Text) → Type 0
HasWords given = All (λ name. is_some (given name) ≡ true) word_names

-- one more argument of this name
pub record AddsNamed (required : Bool) (name : Text) (old new : Command) : Type 0 where
  pub arg : Arg
  pub adds : AddsArg old arg new
  pub named : arg.id.now ≡ name
  pub plain : IsPlainArg arg
  pub local : arg.global ≡ false
  pub value : required ≡ true → TakesValue arg

-- a command with no argument or group
pub record IsBare (c : Command) : Type 0 where
  pub args : args_of c ≡ []
  pub groups : groups_of c ≡ []
  pub globals : (out-Command c).has_globals ≡ false
  pub negates : (out-Command c).subcommand_negates_reqs ≡ false

-- arguments of these names are added in turn
abbrev pub AddsAll : List (Bool × Text) → Command → Command → Type 0
AddsAll [] old new = old ≡ new
AddsAll (argument ∷ rest) old new = (next : Command) × AddsNamed argument.0 argument.1 old next × AddsAll rest next new

-- the arguments of `prove`, and no others
abbrev pub HasArguments : Command → Type 0
HasArguments c = (start : Command) × IsBare start × AddsAll prove_arguments start c
