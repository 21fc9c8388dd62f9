-- The numbers and sizes of a job are in their ranges.
use Rattle.std.proofs.Common.{◌≡◌, ℕ, ◌+◌, ◌≤◌, ◌&&◌, Bool, true, false, List, [], ◌∷◌, Option, Some, None, Result, Ok, Err, refl, subst, arith}
use Rattle.std.specs.Prelude.{◌==◌, nat_le, if◌then◌else◌, option_and_then, codes, sum, IfOk}
use Rattle.std.specs.List.{slice_split}
use Rattle.std.specs.Option.{option_map_or}
use Rattle.std.proofs.lemmas.Bool.Decides.{nat_tests}
use Rattle.std.proofs.lemmas.List.Sums.{sum_by-cons}
use Rattle.axe_io.specs.Ranges.{IsFrom, AreBudgets}
use Rattle.axe_io.specs.declared.budgets.Budgets.{Budgets}
use Rattle.axe_words.specs.Numbers.{decimal, in_range, number_in, size_in, sizes_on, sizes_from, sizes_in, with_size}
use Rattle.axe_words.specs.Options.{Text, NumberOption, number_option, number_of, number_options, numbers_of, HaveNumbers, sizes_of}
use Rattle.axe_words.specs.Meaning.{IsJobOf, HasRanges}
use Rattle.axe_words.specs.declared.job.Command.TheVariants as command
use Rattle.axe_words.specs.declared.job.Job.{Job}
use Rattle.axe_words.specs.declared.job.Job.TheVariants.{Prove}
use Rattle.axe_words.specs.declared.job.WordsError.{WordsError}
use Rattle.axe_words.specs.declared.job.NumberWord.{NumberWord}
use Rattle.axe_words.specs.declared.job.NumberWord.TheVariants.{Steps, Paths, Frames, Elements, Depth, Work, Nodes, Lines, Total, Cases, Vectors, Workers}

some_same : (m n : ℕ) → Some m ≡ Some n → m ≡ n
some_same m n e = cc

-- ---- numbers

kept : (least greatest m n : ℕ) (b c : Bool) → nat_le least m ≡ b → nat_le m greatest ≡ c → (if b && c then Some m else None) ≡ Some n → IsFrom least greatest n
kept least greatest m n true true p q e = let same : m ≡ n = some_same m n e in (grind (arith, nat_tests), grind (arith, nat_tests))
kept least greatest m n true false p q e = absurd cc
kept least greatest m n false c p q e = absurd cc

in_range_is : (least greatest n : ℕ) (o : Option ℕ) → option_and_then (in_range least greatest) o ≡ Some n → IsFrom least greatest n
in_range_is least greatest n None e = absurd cc
in_range_is least greatest n (Some m) e = kept least greatest m n (nat_le least m) (nat_le m greatest) refl refl e

-- a number that an option has is in its range, where its default is
number_is : (given : Text → Option Text) (o : NumberOption) (n : ℕ) → IsFrom o.least o.greatest o.default → number_of given o ≡ Some n → IsFrom o.least o.greatest n
number_is given o n default e = by_option (given o.name) e
  where
    by_option : (t : Option Text) → option_map_or (λ text. number_in o.least o.greatest text) t (Some o.default) ≡ Some n → IsFrom o.least o.greatest n
    by_option None e = subst (IsFrom o.least o.greatest) (some_same o.default n e) default
    by_option (Some text) e = in_range_is o.least o.greatest n (decimal text) e

-- the same of an option that is written out
named : (given : Text → Option Text) (word : NumberWord) (name : Text) (default least greatest n : ℕ) → IsFrom least greatest default → number_of given (number_option word name default least greatest) ≡ Some n → IsFrom least greatest n
named given word name default least greatest n from e = number_is given (number_option word name default least greatest) n from e

budgets_are : (given : Text → Option Text) (b : Budgets) → HaveNumbers given (number_options command.Prove) (numbers_of b) → AreBudgets b
budgets_are given b h = record {
  steps = named given Steps (codes "steps") 200000 1 2000000 b.steps (omega arith, omega arith) h.0;
  paths = named given Paths (codes "paths") 64 1 1024 b.paths (omega arith, omega arith) h.1.0;
  frames = named given Frames (codes "frames") 64 1 256 b.frames (omega arith, omega arith) h.1.1.0;
  elements = named given Elements (codes "elements") 65536 1 262144 b.elements (omega arith, omega arith) h.1.1.1.0;
  depth = named given Depth (codes "depth") 2000 1 2000 b.depth (omega arith, omega arith) h.1.1.1.1.0;
  work = named given Work (codes "work") 500000 1 5000000 b.work (omega arith, omega arith) h.1.1.1.1.1.0;
  nodes = named given Nodes (codes "nodes") 500000 1 2000000 b.nodes (omega arith, omega arith) h.1.1.1.1.1.1.0;
  lines = named given Lines (codes "lines") 10000 1 1000000 b.lines (omega arith, omega arith) h.1.1.1.1.1.1.1.0;
  total = named given Total (codes "total") 1000000 1 100000000 b.total (omega arith, omega arith) h.1.1.1.1.1.1.1.1.0;
  cases = named given Cases (codes "cases") 12 0 20 b.cases (omega arith, omega arith) h.1.1.1.1.1.1.1.1.1.0;
  vectors = named given Vectors (codes "vectors") 64 1 256 b.vectors (omega arith, omega arith) h.1.1.1.1.1.1.1.1.1.1.0;
  workers = named given Workers (codes "workers") 4 1 16 b.workers (omega arith, omega arith) h.1.1.1.1.1.1.1.1.1.1.1.0;
}

-- ---- sizes

ok_same : (ms ns : List ℕ) (r : Result (List ℕ) ℕ) → r ≡ Ok ms → r ≡ Ok ns → ms ≡ ns
ok_same ms ns r p q = cc

size_within : (before m n : ℕ) (b : Bool) → nat_le (before + m) 16384 ≡ b → (if b then Some m else None) ≡ Some n → before + n ≤ 16384
size_within before m n true t e = let same : m ≡ n = some_same m n e in grind (arith, nat_tests)
size_within before m n false t e = cc

size_few : (before n : ℕ) (o : Option ℕ) → option_and_then (λ n. if nat_le (before + n) 16384 then Some n else None) o ≡ Some n → before + n ≤ 16384
size_few before n (Some m) e = size_within before m n (nat_le (before + m) 16384) refl e
size_few before n None e = cc

sum_more : (n : ℕ) (ns : List ℕ) → sum (n ∷ ns) ≡ n + sum ns
sum_more n ns = sum_by-cons (λ x. x) n ns

-- the sizes behind the first one
rest_few : (n before : ℕ) (r : Result (List ℕ) ℕ) (sizes : List ℕ) → ((ns : List ℕ) → r ≡ Ok ns → before + n + sum ns ≤ 16384) → with_size n r ≡ Ok sizes → before + sum sizes ≤ 16384
rest_few n before (Err place) sizes later e = cc
rest_few n before (Ok ns) sizes later e = subst (λ (ms : List ℕ). before + sum ms ≤ 16384) (ok_same (n ∷ ns) sizes (with_size n (Ok ns)) refl e) (rw (sum_more n ns) (omega (arith, later ns refl)))

first_few : (at before : ℕ) (o : Option ℕ) (rest : ℕ → Result (List ℕ) ℕ) (sizes : List ℕ) → ((n : ℕ) → o ≡ Some n → (ns : List ℕ) → rest n ≡ Ok ns → before + n + sum ns ≤ 16384) → sizes_on at o rest ≡ Ok sizes → before + sum sizes ≤ 16384
first_few at before None rest sizes later e = cc
first_few at before (Some n) rest sizes later e = rest_few n before (rest n) sizes (later n refl) e

few_from : (texts : List (List ℕ)) (at before : ℕ) (sizes : List ℕ) → before ≤ 16384 → sizes_from at before texts ≡ Ok sizes → before + sum sizes ≤ 16384
few_from [] at before sizes h e = subst (λ (ns : List ℕ). before + sum ns ≤ 16384) (ok_same [] sizes (sizes_from at before []) refl e) (omega arith)
few_from (text ∷ texts) at before sizes h e =
    first_few at before (size_in before text) (λ n. sizes_from (at + 1) (before + n) texts) sizes
    (λ n is ns. few_from texts (at + 1) (before + n) ns (size_few before n (number_in 0 4096 text) is)) e

few_of : (given : Text → Option Text) (sizes : List ℕ) → sizes_of given ≡ Ok sizes → sum sizes ≤ 16384
few_of given sizes e = by_option (given (codes "sizes")) e
  where
    by_option : (o : Option Text) → option_map_or sizes_in o (Ok []) ≡ Ok sizes → sum sizes ≤ 16384
    by_option None e = subst (λ (ns : List ℕ). sum ns ≤ 16384) (ok_same [] sizes (option_map_or sizes_in None (Ok [])) refl e) (omega arith)
    by_option (Some text) e = let few : 0 + sum sizes ≤ 16384 = few_from (slice_split (λ b. b == 44) text) 0 0 sizes (omega arith) e in omega (arith, few)

-- ---- jobs

of_job : (given : Text → Option Text) (job : Job) → IsJobOf given job → HasRanges job
of_job given (Prove class method spec function desc sizes out budgets) h = (budgets_are given budgets h.numbers, few_of given sizes.items h.sizes_are)

pub ranges : (given : Text → Option Text) (r : Result Job WordsError) → IfOk r (IsJobOf given) → IfOk r HasRanges
ranges given (Ok job) h = of_job given job h
ranges given (Err e) h = h
