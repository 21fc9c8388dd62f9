-- Readers of a format: what stands at the front of the bytes, and the bytes behind it, or the first
-- fault. Each takes any type of faults. A bind of two readers reads the first and then, on what it left,
-- the second, so a `do` block is read aloud from the top, as a format's own table is.
use Rattle.std.specs.Prelude.{ℕ, zero, suc, ◌-◌, ◌==◌, nat_lt, if◌then◌else◌, Bool, true, false, List, [], ◌∷◌, ◌++◌, length, take, drop, Option, Some, None, Result, Ok, Err}

-- what was read and the bytes behind it, or a fault
abbrev pub Read : Type 0 → Type 0 → Type 0
Read E A = Result (A × List ℕ) E

abbrev pub Reader : Type 0 → Type 0 → Type 0
Reader E A = List ℕ → Read E A

abbrev pub continue_with : {E A B : Type 0} → Read E A → (A → Reader E B) → Read E B
continue_with (Ok x) next = next x.0 x.1
continue_with (Err e) next = Err e

-- one reader, and then another on what it left
unfoldable pub bind : {E A B : Type 0} → Reader E A → (A → Reader E B) → Reader E B
bind first next = λ bytes. continue_with (first bytes) next

infixl 10 ◌>>=◌
abbrev pub ◌>>=◌ : {E A B : Type 0} → Reader E A → (A → Reader E B) → Reader E B
first >>= next = bind first next

-- a value that takes no bytes
unfoldable pub done : {E A : Type 0} → A → Reader E A
done x = λ bytes. Ok (x, bytes)

-- a fault
unfoldable pub fail : {E A : Type 0} → E → Reader E A
fail e = λ bytes. Err e

abbrev pub check : {E : Type 0} → Bool → E → Result (Unit {0}) E
check true e = Ok tt
check false e = Err e

abbrev pub and_rest : {E A : Type 0} → Result A E → List ℕ → Read E A
and_rest (Ok x) rest = Ok (x, rest)
and_rest (Err e) rest = Err e

-- a test that has to hold here
unfoldable pub requires_that : {E : Type 0} → Bool → E → Reader E (Unit {0})
requires_that holds e = λ bytes. and_rest (check holds e) bytes

abbrev pub some_or : {E A : Type 0} → Option A → E → Result A E
some_or (Some x) e = Ok x
some_or None e = Err e

-- a value that has to be there
unfoldable pub found : {E A : Type 0} → Option A → E → Reader E A
found value e = λ bytes. and_rest (some_or value e) bytes

-- a reader that is told its offset in a whole text of this length
unfoldable pub located : {E A : Type 0} → ℕ → (ℕ → Reader E A) → Reader E A
located end reader = λ bytes. reader (end - length bytes) bytes

-- the next byte
unfoldable pub byte : {E : Type 0} → E → Reader E ℕ
byte e [] = Err e
byte e (first ∷ rest) = Ok (first, rest)

-- so many bytes
unfoldable pub bytes : {E : Type 0} → ℕ → E → Reader E (List ℕ)
bytes count e = λ all. if nat_lt (length all) count then Err e else Ok (take count all, drop count all)

abbrev pub is_exactly : {E A : Type 0} → ℕ → E → ℕ → Read E A → Read E A
is_exactly count e before (Ok x) = if before - length x.1 == count then Ok x else Err e
is_exactly count e before (Err f) = Err f

-- what takes exactly so many bytes
unfoldable pub exactly : {E A : Type 0} → ℕ → E → Reader E A → Reader E A
exactly count e reader = λ bytes. is_exactly count e (length bytes) (reader bytes)

abbrev pub passed : {E A : Type 0} → Result (Unit {0}) E → Read E A → Read E A
passed (Ok x) read = read
passed (Err e) read = Err e

-- what is then checked, against the bytes from which it was read
unfoldable pub checked : {E A : Type 0} → Reader E A → (A → List ℕ → Result (Unit {0}) E) → Reader E A
checked reader answer = λ bytes. continue_with (reader bytes) (λ x rest. passed (answer x bytes) (Ok (x, rest)))

-- So many turns, one after another, each on what the turn before it gave. A turn is told how many are
-- still to come.
unfoldable pub turns : {E S : Type 0} → (ℕ → S → Reader E S) → ℕ → S → Reader E S
turns turn zero state = done state
turns turn (suc left) state = turn left state >>= λ next. turns turn left next

-- one more at the end of a list
abbrev pub one_more : {E A : Type 0} → Reader E A → ℕ → List A → Reader E (List A)
one_more reader left items = reader >>= λ item. done (items ++ item ∷ [])

-- a list of so many
abbrev pub times : {E A : Type 0} → ℕ → Reader E A → Reader E (List A)
times count reader = turns (one_more reader) count []

abbrev pub is_whole : {E A : Type 0} → (ℕ → E) → Read E A → Result A E
is_whole trailing (Ok x) = if length x.1 == 0 then Ok x.0 else Err (trailing (length x.1))
is_whole trailing (Err e) = Err e

-- a whole text, with nothing behind it; the fault is told how many bytes are
unfoldable pub whole : {E A : Type 0} → (ℕ → E) → Reader E A → List ℕ → Result A E
whole trailing reader text = is_whole trailing (reader text)
