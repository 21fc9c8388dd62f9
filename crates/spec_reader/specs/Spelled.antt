-- What texts spell tokens: a relation on whole texts, beside the function that reads them.
use Rattle.std.specs.Prelude.{◌≡◌, ◌↔◌, ℕ, ◌+◌, Bool, true, false, not, ◌||◌, ◌==◌, List, [], ◌∷◌, ◌++◌, length, Option, Some, None, Ok}
use Rattle.spec_reader.specs.declared.token.Token.{Token}
use Rattle.spec_reader.specs.declared.token.Token.TheVariants as token
use Rattle.spec_reader.specs.declared.token.Located.{Located}
use Rattle.spec_reader.specs.declared.datum.Datum.{Datum}
use Rattle.spec_reader.specs.Numbers.{is_hash}
use Rattle.spec_reader.specs.Tokens.{is_white, is_symbol, string_length, comment_length, token_of, one, tokens_of}
use Rattle.spec_reader.specs.Nesting.{nested, tokens_of_all}

-- A piece of a text: white space; a comment that begins with `;`, and one that begins with `#|`; a parenthesis or an
-- apostrophe; a string; a number or a symbol. Lists are what stands behind the first character, of a comment with `#|`
-- behind the first two; a word is whole.
pub data Piece : Type 0 where
  Blank : ℕ → Piece
  Line : List ℕ → Piece
  Block : List ℕ → Piece
  Opening : Piece
  Closing : Piece
  Quote : Piece
  Quoted : List ℕ → Piece
  Plain : List ℕ → Piece

-- how a piece is written
abbrev pub bytes_of : Piece → List ℕ
bytes_of (Blank b) = b ∷ []
bytes_of (Line cs) = 59 ∷ cs
bytes_of (Block cs) = 35 ∷ 124 ∷ cs
bytes_of Opening = 40 ∷ []
bytes_of Closing = 41 ∷ []
bytes_of Quote = 39 ∷ []
bytes_of (Quoted cs) = 34 ∷ cs
bytes_of (Plain w) = w

abbrev pub if_some : ℕ → Option Token → List Located
if_some at (Some t) = one at t
if_some at None = []

-- the token that a piece at an offset is, none for white space and comments
abbrev pub token_at : ℕ → Piece → List Located
token_at at (Blank b) = []
token_at at (Line cs) = []
token_at at (Block cs) = []
token_at at Opening = one at token.Open
token_at at Closing = one at token.Close
token_at at Quote = one at token.Apostrophe
token_at at (Quoted cs) = one at token.Text
token_at at (Plain w) = if_some at (token_of w)

-- none of some bytes has a property
abbrev pub NoneHas : (ℕ → Bool) → List ℕ → Type 0
NoneHas has [] = Unit {0}
NoneHas has (b ∷ bs) = (has b ≡ false) × NoneHas has bs

-- nothing follows, or a byte with a property
abbrev pub Follows : (ℕ → Bool) → List ℕ → Type 0
Follows has [] = Unit {0}
Follows has (b ∷ bs) = has b ≡ true

abbrev pub is_line_feed : ℕ → Bool
is_line_feed b = b == 10

abbrev pub is_no_symbol : ℕ → Bool
is_no_symbol b = not (is_symbol b)

-- a word begins with a symbol's character or with `#`, goes on with symbols' characters, and is a number or a symbol
pub record IsWord (first : ℕ) (others : List ℕ) : Type 0 where
  pub begins : (is_symbol first || is_hash first) ≡ true
  pub goes_on : NoneHas is_no_symbol others
  pub token : Token
  pub is : token_of (first ∷ others) ≡ Some token

abbrev pub IsPlain : List ℕ → Type 0
IsPlain [] = ⊥
IsPlain (first ∷ others) = IsWord first others

-- a piece where this follows: a line's comment goes up to a line feed or to the end, `#|` up to its first `|#`, a string
-- up to its first quote that no backslash takes, and a word as far as symbols' characters go
abbrev pub IsPiece : Piece → List ℕ → Type 0
IsPiece (Blank b) rest = is_white b ≡ true
IsPiece (Line cs) rest = NoneHas is_line_feed cs × Follows is_line_feed rest
IsPiece (Block cs) rest = comment_length false cs ≡ Some (length cs)
IsPiece Opening rest = Unit {0}
IsPiece Closing rest = Unit {0}
IsPiece Quote rest = Unit {0}
IsPiece (Quoted cs) rest = string_length false cs ≡ Some (length cs)
IsPiece (Plain w) rest = IsPlain w × Follows is_no_symbol rest

-- a text from an offset on is these pieces, one behind the other, and these are their tokens
abbrev pub Spells : ℕ → List Piece → List ℕ → List Located → Type 0
Spells at [] bytes ts = (bytes ≡ []) × (ts ≡ [])
Spells at (p ∷ ps) bytes ts = (rest : List ℕ) × (later : List Located) × (bytes ≡ bytes_of p ++ rest) × (ts ≡ token_at at p ++ later) × IsPiece p rest × Spells (at + length (bytes_of p)) ps rest later

-- a whole text spells these tokens
abbrev pub SpellsTokens : List ℕ → List Located → Type 0
SpellsTokens bytes ts = (ps : List Piece) × Spells 0 ps bytes ts

-- the tokens that are read are those that the text spells
abbrev pub TokensAreSpelled : Type 0
TokensAreSpelled = (bytes : List ℕ) (ts : List Located) → (tokens_of bytes ≡ Ok ts) ↔ SpellsTokens bytes ts

-- the tokens that are nested are those of the data
abbrev pub NestedIsSpelled : Type 0
NestedIsSpelled = (ts : List Located) (ds : List Datum) → nested ts ≡ Ok ds → ts ≡ tokens_of_all ds
