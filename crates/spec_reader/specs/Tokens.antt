-- The tokens of a text.
use Rattle.std.specs.Prelude.{ℕ, zero, suc, ◌+◌, Bool, false, not, ◌&&◌, ◌||◌, ◌==◌, nat_le, if◌then◌else◌, List, [], ◌∷◌, ◌++◌, take, map, codes, Option, Some, None, option_map, Result, Ok, Err}
use Rattle.std.specs.List.{list_any}
use Rattle.std.specs.Str.{bytes_eq}
use Rattle.std.specs.Char.{is_ascii_digit}
use Rattle.spec_form.specs.declared.error.SpecError.{SpecError}
use Rattle.spec_form.specs.declared.error.SpecError.TheVariants.{BadToken, Unclosed}
use Rattle.spec_reader.specs.declared.token.Token.{Token}
use Rattle.spec_reader.specs.declared.token.Token.TheVariants.{Open, Close, Apostrophe, Text, Number, Word}
use Rattle.spec_reader.specs.declared.token.Located.{Located}
use Rattle.spec_reader.specs.Reading.{◌>>=◌}
use Rattle.spec_reader.specs.Numbers.{lower, is_hash, begins_like_number, number_of}

-- space, tab, line feed, carriage return
abbrev pub is_white : ℕ → Bool
is_white b = b == 32 || b == 9 || b == 10 || b == 13

-- letters, digits and the signs of symbols
abbrev pub is_symbol : ℕ → Bool
is_symbol b = (nat_le 97 b && nat_le b 122) || (nat_le 65 b && nat_le b 90) || is_ascii_digit b || list_any (λ s. s == b) (codes "+-*/<>=!?$%&_^~@.:")

-- ---- how far what begins at a place goes

-- how many bytes stand before the first with a property, or before the end
abbrev pub until : (ℕ → Bool) → List ℕ → ℕ
until holds [] = 0
until holds (b ∷ bs) = if holds b then 0 else until holds bs + 1

-- up to a line feed
abbrev pub line_length : List ℕ → ℕ
line_length bytes = until (λ b. b == 10) bytes

-- as long as the characters of symbols do
abbrev pub symbol_length : List ℕ → ℕ
symbol_length bytes = until (λ b. not (is_symbol b)) bytes

-- The text of a string with its closing quote, none where that is missing. A backslash takes the next byte.
abbrev pub string_length : Bool → List ℕ → Option ℕ
string_length taken [] = None
string_length taken (b ∷ bs) = if not taken && b == 34 then Some 1 else option_map (λ n. n + 1) (string_length (not taken && b == 92) bs)

-- The text of a comment with the first `|#`, none where that is missing; it is told whether a bar stands before.
abbrev pub comment_length : Bool → List ℕ → Option ℕ
comment_length bar [] = None
comment_length bar (b ∷ bs) = if bar && b == 35 then Some 1 else option_map (λ n. n + 1) (comment_length (b == 124) bs)

-- ---- tokens

-- What begins at a byte: how many bytes more belong to it, and its token, if it is one.
pub record Lexeme : Type 0 where
  pub more : ℕ
  pub tokens : List Located

abbrev pub one : ℕ → Token → List Located
one at token = record { at = at; token = token } ∷ []

-- bytes that are no token
abbrev pub passes : ℕ → Result Lexeme SpecError
passes more = Ok (record { more = more; tokens = [] })

abbrev pub gives : ℕ → Token → ℕ → Result Lexeme SpecError
gives at token more = Ok (record { more = more; tokens = one at token })

-- `1+` and `1-` are symbols
abbrev pub is_step : List ℕ → Bool
is_step word = bytes_eq word (codes "1+") || bytes_eq word (codes "1-")

-- a word is a number where it begins like one, and else a symbol
abbrev pub token_of : List ℕ → Option Token
token_of word = if begins_like_number word && not (is_step word) then option_map Number (number_of word) else Some (Word (map lower word))

abbrev pub word_lexeme : ℕ → ℕ → Option Token → Result Lexeme SpecError
word_lexeme at more None = Err (BadToken at)
word_lexeme at more (Some token) = gives at token more

abbrev pub string_lexeme : ℕ → Option ℕ → Result Lexeme SpecError
string_lexeme at None = Err (Unclosed at)
string_lexeme at (Some more) = gives at Text more

abbrev pub comment_lexeme : ℕ → Option ℕ → Result Lexeme SpecError
comment_lexeme at None = Err (Unclosed at)
comment_lexeme at (Some more) = passes (more + 1)

abbrev pub word_in : ℕ → ℕ → List ℕ → Result Lexeme SpecError
word_in at more bytes = word_lexeme at more (token_of (take (more + 1) bytes))

-- behind a `#`: a comment, or the rest of a number
abbrev pub hash_lexeme : ℕ → ℕ → List ℕ → Result Lexeme SpecError
hash_lexeme at hash [] = Err (BadToken at)
hash_lexeme at hash (b ∷ bs) = if b == 124 then comment_lexeme at (comment_length false bs) else word_in at (symbol_length (b ∷ bs)) (hash ∷ (b ∷ bs))

abbrev pub symbol_lexeme : ℕ → ℕ → List ℕ → Result Lexeme SpecError
symbol_lexeme at b bs = if is_symbol b then word_in at (symbol_length bs) (b ∷ bs) else Err (BadToken at)

-- what begins at the first of some bytes
abbrev pub lexeme : ℕ → List ℕ → Result Lexeme SpecError
lexeme at [] = passes 0
lexeme at (b ∷ bs) =
    if is_white b then passes 0
    else if b == 40 then gives at Open 0
    else if b == 41 then gives at Close 0
    else if b == 39 then gives at Apostrophe 0
    else if b == 59 then passes (line_length bs)
    else if b == 34 then string_lexeme at (string_length false bs)
    else if is_hash b then hash_lexeme at b bs
    else symbol_lexeme at b bs

-- a byte that belongs to what began before it is passed over
abbrev pub here : ℕ → ℕ → List ℕ → Result Lexeme SpecError
here zero at bytes = lexeme at bytes
here (suc left) at bytes = passes left

-- tokens, and then those that are read behind them
abbrev pub after : List Located → Result (List Located) SpecError → Result (List Located) SpecError
after tokens read = read >>= λ more. Ok (tokens ++ more)

abbrev pub adds : List Located → Result Lexeme SpecError → Result Lexeme SpecError
adds tokens read = read >>= λ l. Ok (record { more = l.more; tokens = tokens ++ l.tokens })

-- the tokens of the bytes from an offset on, of which so many belong to what began before them
unfoldable pub tokens_from : ℕ → ℕ → List ℕ → Result (List Located) SpecError
tokens_from passed at [] = Ok []
tokens_from passed at (b ∷ bs) = here passed at (b ∷ bs) >>= λ l. after l.tokens (tokens_from l.more (at + 1) bs)

-- the tokens of the bytes, or the first of them that is none
abbrev pub tokens_of : List ℕ → Result (List Located) SpecError
tokens_of bytes = tokens_from 0 0 bytes
