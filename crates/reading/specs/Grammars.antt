-- Grammars of a format: which texts spell a value. They have the words of the readers, without faults
-- and without offsets, so that a grammar is the reader's `do` block again.
use Rattle.std.specs.Prelude.{◌≡◌, ℕ, zero, suc, Bool, true, false, List, [], ◌∷◌, ◌++◌, length, Option, Some}

abbrev pub Grammar : Type 0 → Type 1
Grammar A = A → List ℕ → Type 0

-- a text of the first, and then one of what follows it
pub record Joined {A B : Type 0} (G : Grammar A) (H : A → Grammar B) (z : B) (text : List ℕ) : Type 0 where
  pub value : A
  pub first : List ℕ
  pub second : List ℕ
  pub parts : text ≡ first ++ second
  pub first_is : G value first
  pub second_is : H value z second

infixl 10 ◌>>=◌
abbrev pub ◌>>=◌ : {A B : Type 0} → Grammar A → (A → Grammar B) → Grammar B
G >>= H = Joined G H

-- the empty text spells this value
abbrev pub done : {A : Type 0} → A → Grammar A
done x z text = (z ≡ x) × (text ≡ [])

-- no text
abbrev pub nothing : {A : Type 0} → Grammar A
nothing z text = ⊥

-- the empty text, where a test holds
abbrev pub test : Bool → Grammar (Unit {0})
test holds z text = (holds ≡ true) × (text ≡ [])

-- the empty text, where the value is there
abbrev pub found : {A : Type 0} → Option A → Grammar A
found value z text = (value ≡ Some z) × (text ≡ [])

-- one byte
abbrev pub byte : Grammar ℕ
byte value text = text ≡ value ∷ []

-- so many bytes
abbrev pub bytes : ℕ → Grammar (List ℕ)
bytes count value text = (length text ≡ count) × (value ≡ text)

-- a text of exactly so many bytes
abbrev pub exactly : {A : Type 0} → ℕ → Grammar A → Grammar A
exactly count G z text = (length text ≡ count) × G z text

-- a value with a property
abbrev pub such_that : {A : Type 0} → Grammar A → (A → Bool) → Grammar A
such_that G holds z text = (holds z ≡ true) × G z text

-- one of two, by a test
abbrev pub either : {A : Type 0} → Bool → Grammar A → Grammar A → Grammar A
either true G H = G
either false G H = H

-- so many turns, each on what the turn before it gave
abbrev pub turns : {S : Type 0} → (ℕ → S → Grammar S) → ℕ → S → Grammar S
turns G zero state = done state
turns G (suc left) state = G left state >>= λ next. turns G left next

-- one more at the end of a list
abbrev pub one_more : {A : Type 0} → Grammar A → ℕ → List A → Grammar (List A)
one_more G left items = G >>= λ item. done (items ++ item ∷ [])

-- a list of so many
abbrev pub times : {A : Type 0} → ℕ → Grammar A → Grammar (List A)
times count G = turns (one_more G) count []
