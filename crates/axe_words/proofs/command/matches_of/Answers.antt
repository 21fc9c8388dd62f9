-- The command is simple, so clap says what its matches and its refusals are.
use Rattle.std.proofs.Common.{◌≡◌, ◌∙◌, true, List, Result, Ok, Err, [], ap, subst, refl, IfOk, IfErr, map}
use Rattle.std.proofs.lemmas.Result.{IfOk-weaker}
use Rattle.std.specs.String.{string_bytes}
use Rattle.clap.proofs.OnLiterals.{clap_on_literals}
use Rattle.clap.proofs.WalkLemmas.{first_value-rows}
use Rattle.clap.specs.Words.{App, HasMatchesOf, first_of, matches_of, first_value, found_of, is_simple, takes, fault_of, kind_of, FailsBy, HasKind, Kinds}
use Rattle.clap.specs.Faults.{is_simple_and_free}
use Rattle.clap.specs.declared.error.Error.{Error}
use Rattle.clap.specs.declared.error.kind.ErrorKind.TheVariants.{OutOfMemory}
use Rattle.clap.specs.declared.parser.matches.ArgMatches.{ArgMatches}
use Rattle.axe_words.specs.Options.{Text}
use Rattle.axe_words.specs.Command.{prove_app, given_by, faults, HasWords}
use Rattle.axe_words.proofs.ArgumentLemmas.{has_words}
use Rattle.axe_words.proofs.command.matches_of.Goals as goal

simple_and_free : is_simple_and_free prove_app ≡ true
unfolding clap_on_literals
simple_and_free = refl

simple : is_simple prove_app ≡ true
unfolding clap_on_literals
simple = refl

-- the values that clap gives to names are those of its definition
given : (a : App) (words : List Text) (r : Result ArgMatches Error) → a ≡ prove_app → IfOk r (HasMatchesOf a words) → IfOk r (λ m. first_value (found_of m) ≡ given_by words)
given a words r is h = IfOk-weaker r _ _ (λ m p. λ i name. (first_value-rows (found_of m) name ∙ ap (first_of name) ((p (ap is_simple is ∙ simple)).0 ∙ ap (λ b. matches_of b words) is)) i) h

-- the parse fails by the kinds of its definition
fails : (a : App) (words : List Text) (r : Result ArgMatches Error) → a ≡ prove_app → (is_simple_and_free a ≡ true → FailsBy (fault_of a words) r) → FailsBy (faults words) r
fails a words r is h = subst (λ (b : App). FailsBy (fault_of b words) r) is (h (ap is_simple_and_free is ∙ simple_and_free))

-- what that says of an `Ok`, and of an `Err`
taken : (r : Result ArgMatches Error) (kinds : Kinds) → FailsBy kinds r → IfOk r (λ _. kinds ≡ [])
taken (Ok m) kinds h = h
taken (Err e) kinds h = tt

refused : (r : Result ArgMatches Error) (kinds : Kinds) → FailsBy kinds r → IfErr r (HasKind kinds)
refused (Ok m) kinds h = tt
refused (Err e) kinds h = h

-- the words that have to be there are given
words_given : (r : Result ArgMatches Error) (words : List Text) → IfOk r (λ m. HasWords (first_value (found_of m))) → IfOk r (λ m. first_value (found_of m) ≡ given_by words) → IfOk r (λ _. HasWords (given_by words))
words_given (Ok m) words has is = subst HasWords is has
words_given (Err e) words has is = tt

pub returns-clause-given : goal.returns-clause-given
returns-clause-given c = given _ _ _ c.in_ok-command.ensures.app c.try_get_matches_from.ensures.matches

pub returns-clause-fits : goal.returns-clause-fits
returns-clause-fits c = taken c.try_get_matches_from.result (faults (map string_bytes c.args.words.now)) (fails _ _ _ c.in_ok-command.ensures.app c.try_get_matches_from.ensures.kinds)

pub returns-clause-present : goal.returns-clause-present
returns-clause-present c = words_given c.try_get_matches_from.result (map string_bytes c.args.words.now) (IfOk-weaker c.try_get_matches_from.result _ _ (λ m. has_words c.in_ok-command.command m c.in_ok-command.ensures.arguments) c.try_get_matches_from.ensures.parsed)
    (given _ _ _ c.in_ok-command.ensures.app c.try_get_matches_from.ensures.matches)

pub returns-clause-kind : goal.returns-clause-kind
returns-clause-kind c = refused c.try_get_matches_from.result (faults (map string_bytes c.args.words.now)) (fails _ _ _ c.in_ok-command.ensures.app c.try_get_matches_from.ensures.kinds)

pub returns-clause-refused : goal.returns-clause-refused
returns-clause-refused c = subst (λ (a : App). IfErr c.try_get_matches_from.result (λ e. takes a (map string_bytes c.args.words.now) ≡ true → kind_of e ≡ OutOfMemory)) c.in_ok-command.ensures.app c.try_get_matches_from.ensures.passes
