-- That a reader is the reader of a grammar.
use Rattle.std.specs.Prelude.{◌≡◌, ◌<◌, ℕ, List, ◌++◌, length, Ok, Err}
use Rattle.reading.specs.Readers.{Reader}
use Rattle.reading.specs.Grammars.{Grammar}

-- a text of the grammar stands at the front
pub record Takes {A : Type 0} (G : Grammar A) (value : A) (all rest : List ℕ) : Type 0 where
  pub text : List ℕ
  pub parts : all ≡ text ++ rest
  pub is : G value text

-- the reader takes the texts of the grammar, and no others; on a text that is cut short it gives one fault
pub record Reads {E A : Type 0} (cut : E) (reader : Reader E A) (G : Grammar A) : Type 0 where
  pub sound : (all : List ℕ) (value : A) (rest : List ℕ) → reader all ≡ Ok (value, rest) → Takes G value all rest
  pub complete : (value : A) (text rest : List ℕ) → G value text → reader (text ++ rest) ≡ Ok (value, rest)
  pub short : (value : A) (text front back : List ℕ) → G value text → text ≡ front ++ back → 0 < length back → reader front ≡ Err cut
