-- What is asked of arguments, from left to right: the first that fails decides.
use Rattle.std.specs.Prelude.{ℕ, ℤ, pos, negsuc, ◌^◌, Bool, true, false, ◌&&◌, nat_le, nat_lt, if◌then◌else◌, List, [], ◌∷◌, ◌++◌, length, ◌==◌, slice_index_or, Result, Ok, Err}
use Rattle.std.specs.Ordering.{int_eq}
use Rattle.std.specs.Cmp.Lexicographic.{pointwise}
use Rattle.bv_words.specs.Words.{chop_wide}
use Rattle.spec_meaning.specs.declared.value.Value.{Value}
use Rattle.spec_meaning.specs.declared.value.Value.TheVariants.{Number, T, List as Numbers}
use Rattle.spec_meaning.specs.declared.value.Why.{Why}
use Rattle.spec_meaning.specs.declared.value.Why.TheVariants.{NotANumber, NotAList, BadWidth, BadPlace, BadLength, TooWide}

infixl 10 ◌>>=◌
abbrev pub ◌>>=◌ : {A B : Type 0} → Result A Why → (A → Result B Why) → Result B Why
(Ok x) >>= f = f x
(Err why) >>= f = Err why

-- nothing where a test holds
abbrev pub check : Bool → Why → Result (Unit {0}) Why
check true why = Ok tt
check false why = Err why

-- a number
abbrev pub number : Value → Result ℤ Why
number (Number z) = Ok z
number T = Err NotANumber
number (Numbers zs) = Err NotANumber

-- a list of numbers
abbrev pub list : Value → Result (List ℤ) Why
list (Numbers zs) = Ok zs
list (Number z) = Err NotAList
list T = Err NotAList

-- only the empty list is false in a test
abbrev pub is_nil : Value → Bool
is_nil (Numbers []) = true
is_nil (Numbers (z ∷ zs)) = false
is_nil (Number z) = false
is_nil T = false

-- a truth value: t or nil
abbrev pub truth : Bool → Value
truth true = T
truth false = Numbers []

-- a word as a value
abbrev pub word : ℕ → Value
word n = Number (pos n)

-- a width or a length from 1 to the greatest one
abbrev pub from_1_to : ℕ → ℤ → Result ℕ Why
from_1_to most (pos n) = if nat_le 1 n && nat_le n most then Ok n else Err BadWidth
from_1_to most (negsuc n) = Err BadWidth

-- a width from 1 to 64
abbrev pub width : Value → Result ℕ Why
width v = number v >>= from_1_to 64

-- a place from 0 on, below the end
abbrev pub below : ℕ → ℤ → Result ℕ Why
below end (pos n) = if nat_lt n end then Ok n else Err BadPlace
below end (negsuc n) = Err BadPlace

-- the lowest bits of a number
abbrev pub chopped : ℕ → Value → Result ℕ Why
chopped w v = number v >>= λ z. Ok (chop_wide w z)

-- a number of 128 bits in two's complement
abbrev pub fits : ℤ → Bool
fits (pos n) = nat_lt n (2 ^ 127)
fits (negsuc n) = nat_lt n (2 ^ 127)

abbrev pub narrow : ℤ → Result Value Why
narrow z = if fits z then Ok (Number z) else Err TooWide

-- ---- lists

-- numbers from left to right, after these
abbrev pub numbers_after : List ℤ → List Value → Result (List ℤ) Why
numbers_after zs [] = Ok zs
numbers_after zs (v ∷ vs) = number v >>= λ z. numbers_after (zs ++ z ∷ []) vs

-- lists from left to right, joined after this one
abbrev pub joined_after : List ℤ → List Value → Result (List ℤ) Why
joined_after zs [] = Ok zs
joined_after zs (v ∷ vs) = list v >>= λ more. joined_after (zs ++ more) vs

-- the number of elements of an array
abbrev pub array_length : Value → Result ℕ Why
array_length v = number v >>= from_1_to 65536

-- an array of so many elements
abbrev pub array : ℕ → Value → Result (List ℤ) Why
array len v = list v >>= λ zs. check (length zs == len) BadLength >>= λ _. Ok zs

-- an element
abbrev pub item : List ℤ → ℤ → Result Value Why
item zs i = below (length zs) i >>= λ i. Ok (Number (slice_index_or zs i (pos 0)))

abbrev pub is_pair : Value → Bool
is_pair (Numbers (z ∷ zs)) = true
is_pair (Numbers []) = false
is_pair (Number z) = false
is_pair T = false

-- ---- equality

abbrev pub same : Value → Value → Bool
same (Number x) (Number y) = int_eq x y
same T T = true
same (Numbers xs) (Numbers ys) = pointwise int_eq xs ys
same a b = false
