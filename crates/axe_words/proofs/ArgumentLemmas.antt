-- A command that is built argument by argument, and what a parse of it gives.
use Rattle.std.proofs.Common.{◌≡◌, ℕ, zero, suc, ◌<◌, ◌&&◌, Bool, true, false, not, List, [], ◌∷◌, length, map, codes, is_some, get_or, sym, refl, ap, ◌∙◌, subst, inl, inr, arith, rules}
use lib.ListN.{length-map}
use Rattle.std.specs.List.{All, list_any, list_all}
use Rattle.std.specs.Str.{bytes_eq}
use Rattle.std.proofs.lemmas.List.{get_or-map}
use Rattle.std.proofs.lemmas.List.Elements.{All-nil, All-cons}
use Rattle.std.proofs.lemmas.List.Folds.{list_any_at}
use Rattle.std.proofs.lemmas.Slice.Eq.{bytes_eq-Decides}
use Rattle.clap.specs.Words.{AddsArg, AddsInTurn, IsParsedFrom, IsPlainArg, first_value, found_of}
use Rattle.clap.specs.Built.{FitsChain, HasDistinctIds, TakesValue}
use Rattle.clap.specs.declared.builder.arg.Arg.{Arg}
use Rattle.clap.specs.declared.builder.command.Command.{Command}
use Rattle.clap.specs.declared.parser.matches.ArgMatches.{ArgMatches}
use Rattle.clap.proofs.CallerLemmas.{required_in_chain}
use Rattle.axe_words.specs.Options.{Text}
use Rattle.axe_words.specs.Command.{AddsAll, IsBare, HasArguments, HasWords, prove_arguments}

-- no name is another's
abbrev are_distinct : List Text → Bool
are_distinct [] = true
are_distinct (n ∷ ns) = not (list_any (bytes_eq n) ns) && are_distinct ns

both_true : (b c : Bool) → b && c ≡ true → (b ≡ true) × (c ≡ true)
both_true true c h = (refl, h)
both_true false c h = absurd (let bad : false ≡ true = h in cc)

not_among : (n : Text) (ns : List Text) (k : ℕ) (d : Text) → not (list_any (bytes_eq n) ns) ≡ true → k < length ns → n ≡ get_or ns k d → ⊥
not_among n ns k d none lt same =
    let hit : list_any (bytes_eq n) ns ≡ true = list_any_at (bytes_eq n) ns k d lt (search (rules, bytes_eq-Decides n (get_or ns k d), same)) in
    let bad : false ≡ true = ap not (sym hit) ∙ none in cc

-- so equal names stand at one place
one_place : (ns : List Text) → are_distinct ns ≡ true → (j k : ℕ) (d e : Text) → j < length ns → k < length ns → get_or ns j e ≡ get_or ns k d → j ≡ k
one_place [] h j k d e lj lk same = absurd (omega arith)
one_place (n ∷ ns) h zero zero d e lj lk same = refl
one_place (n ∷ ns) h zero (suc k) d e lj lk same = absurd (not_among n ns k d (both_true (not (list_any (bytes_eq n) ns)) (are_distinct ns) h).0 (omega arith) same)
one_place (n ∷ ns) h (suc j) zero d e lj lk same = absurd (not_among n ns j e (both_true (not (list_any (bytes_eq n) ns)) (are_distinct ns) h).0 (omega arith) (sym same))
one_place (n ∷ ns) h (suc j) (suc k) d e lj lk same = ap suc (one_place ns (both_true (not (list_any (bytes_eq n) ns)) (are_distinct ns) h).1 j k d e (omega arith) (omega arith) same)

-- a name that is not empty, and none of the flags that clap adds
abbrev is_own : Text → Bool
is_own name = not (bytes_eq name []) && (not (bytes_eq name (codes "help")) && not (bytes_eq name (codes "version")))

fits_chain : (a : Arg) (name : Text) → IsPlainArg a → a.global ≡ false → a.id.now ≡ name → is_own name ≡ true → FitsChain a
fits_chain a name plain local named own = (
  plain,
  local,
  (λ e. other [] e refl),
  λ auto. elim auto [
    | inl h ↦ other (codes "help") h refl
    | inr h ↦ other (codes "version") h refl
  ],
)
  where
    other : (text : Text) → a.id.now ≡ text → is_own text ≡ false → ⊥
    other text e foreign = let bad : false ≡ true = sym foreign ∙ ap is_own (sym e ∙ named) ∙ own in cc

-- the arguments that were added
abbrev args : (table : List (Bool × Text)) (old new : Command) → AddsAll table old new → List Arg
args [] old new h = []
args (p ∷ ps) old new h = h.1.arg ∷ args ps h.0 new h.2

-- they were added in turn
in_turn : (table : List (Bool × Text)) (old new : Command) (h : AddsAll table old new) → AddsInTurn AddsArg old (args table old new h) new
in_turn [] old new h = h
in_turn (p ∷ ps) old new h = (h.0, h.1.adds, in_turn ps h.0 new h.2)

-- their names are those of the table
names_are : (table : List (Bool × Text)) (old new : Command) (h : AddsAll table old new) → map (λ (a : Arg). a.id.now) (args table old new h) ≡ map (λ (p : Bool × Text). p.1) table
names_are [] old new h = refl
names_are (p ∷ ps) old new h = λ i. h.1.named i ∷ names_are ps h.0 new h.2 i

all_fit : (table : List (Bool × Text)) (old new : Command) (h : AddsAll table old new) → list_all (λ (p : Bool × Text). is_own p.1) table ≡ true → All FitsChain (args table old new h)
all_fit [] old new h own = All-nil FitsChain
all_fit (p ∷ ps) old new h own = let both = both_true (is_own p.1) (list_all (λ (q : Bool × Text). is_own q.1) ps) own in
    All-cons FitsChain h.1.arg (args ps h.0 new h.2) (fits_chain h.1.arg p.1 h.1.plain h.1.local h.1.named both.0) (all_fit ps h.0 new h.2 both.1)

-- those that are marked take a value and have to be there
takes_value : (table : List (Bool × Text)) (old new : Command) (h : AddsAll table old new) (k : ℕ) (d : Arg) → get_or (map (λ (p : Bool × Text). p.0) table) k false ≡ true → TakesValue (get_or (args table old new h) k d)
takes_value [] old new h k d marked = absurd (let bad : false ≡ true = marked in cc)
takes_value (p ∷ ps) old new h zero d marked = h.1.value marked
takes_value (p ∷ ps) old new h (suc k) d marked = takes_value ps h.0 new h.2 k d marked

length_is : (table : List (Bool × Text)) (old new : Command) (h : AddsAll table old new) → length (args table old new h) ≡ length table
length_is [] old new h = refl
length_is (p ∷ ps) old new h = ap suc (length_is ps h.0 new h.2)

distinct_ids : (xs : List Arg) (ns : List Text) → map (λ (a : Arg). a.id.now) xs ≡ ns → are_distinct ns ≡ true → HasDistinctIds xs
distinct_ids xs ns names distinct j k d e lj lk same =
    let f : Arg → Text = λ a. a.id.now in
    let len : length ns ≡ length xs = ap (λ (l : List Text). length l) (sym names) ∙ length-map xs f in
    one_place ns distinct j k [] [] (omega arith) (omega arith)
    (ap (λ l. get_or l j []) (sym names) ∙ get_or-map f xs j e [] lj ∙ (bytes_eq-Decides (f (get_or xs j e)) (f (get_or xs k d))).0 same ∙ sym (get_or-map f xs k d [] lk) ∙ ap (λ l. get_or l k []) names)

-- an argument that has to be there has a value after a parse
present : (table : List (Bool × Text)) (start c : Command) (m : ArgMatches) → IsBare start → AddsAll table start c → IsParsedFrom c m
    → list_all (λ (p : Bool × Text). is_own p.1) table ≡ true → are_distinct (map (λ (p : Bool × Text). p.1) table) ≡ true
    → (k : ℕ) (d : Arg) → k < length table → get_or (map (λ (p : Bool × Text). p.0) table) k false ≡ true
    → is_some (first_value (found_of m) (get_or (map (λ (p : Bool × Text). p.1) table) k [])) ≡ true
present table start c m bare h parsed own distinct k d lt marked =
    let xs = args table start c h in let f : Arg → Text = λ a. a.id.now in let names = names_are table start c h in
    let len = length_is table start c h in let here : k < length xs = omega arith in
    subst (λ (n : Text). is_some (first_value (found_of m) n) ≡ true) (sym (get_or-map f xs k d [] here) ∙ ap (λ l. get_or l k []) names)
    (required_in_chain start c xs k d m (in_turn table start c h) bare.args bare.groups bare.globals bare.negates (all_fit table start c h own) (distinct_ids xs (map (λ (p : Bool × Text). p.1) table) names distinct) here (takes_value table start c h k d marked) parsed)

-- each word that has to be there is, after a parse of the command
pub has_words : (c : Command) (m : ArgMatches) → HasArguments c → IsParsedFrom c m → HasWords (first_value (found_of m))
has_words c m h parsed =
    let d = h.2.1.arg in let P : Text → Type 0 = λ name. is_some (first_value (found_of m) name) ≡ true in
    let at : (k : ℕ) → k < length prove_arguments → get_or (map (λ (p : Bool × Text). p.0) prove_arguments) k false ≡ true → P (get_or (map (λ (p : Bool × Text). p.1) prove_arguments) k []) =
    λ k lt marked. present prove_arguments h.0 c m h.1 h.2 parsed refl refl k d lt marked in
    All-cons P (codes "class") (codes "method" ∷ codes "spec" ∷ codes "function" ∷ []) (at 0 (omega arith) refl) (All-cons P (codes "method") (codes "spec" ∷ codes "function" ∷ []) (at 1 (omega arith) refl) (All-cons P (codes "spec") (codes "function" ∷ []) (at 2 (omega arith) refl) (All-cons P (codes "function") [] (at 3 (omega arith) refl) (All-nil P))))
