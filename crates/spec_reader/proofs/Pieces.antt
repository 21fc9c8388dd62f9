-- The tokens of a text are those that it spells.
use Rattle.std.proofs.Common.{◌≡◌, ℕ, zero, suc, ◌+◌, ◌≤◌, Bool, true, false, cond, List, [], ◌∷◌, ◌++◌, length, take, Option, Some, None, refl, sym, ap, ◌∙◌, subst, inl, inr, arith, rules}
use Rattle.std.specs.Prelude.{◌⊎◌, Result, Ok, Err, not, ◌&&◌, ◌||◌, ◌==◌, option_map}
use Rattle.spec_form.specs.declared.error.SpecError.{SpecError}
use Rattle.spec_form.specs.declared.error.SpecError.TheVariants.{BadToken}
use Rattle.spec_reader.specs.declared.token.Token.{Token}
use Rattle.spec_reader.specs.declared.token.Token.TheVariants as token
use Rattle.spec_reader.specs.declared.token.Located.{Located}
use Rattle.spec_reader.specs.Reading.{◌>>=◌}
use Rattle.spec_reader.specs.Numbers.{is_hash}
use Rattle.spec_reader.specs.Tokens.{is_white, is_symbol, until, line_length, symbol_length, string_length, comment_length, token_of, Lexeme, one, word_lexeme, string_lexeme, comment_lexeme, word_in, hash_lexeme, symbol_lexeme, lexeme, after, tokens_from}
use Rattle.spec_reader.specs.Spelled.{Piece, Blank, Line, Block, Opening, Closing, Quote, Quoted, Plain, bytes_of, if_some, token_at, NoneHas, Follows, is_line_feed, is_no_symbol, IsWord, IsPiece, Spells, TokensAreSpelled}

tested : (b : Bool) → (b ≡ true) ⊎ (b ≡ false)
tested true = inl refl
tested false = inr refl

-- ---- how far pieces go

-- bytes up to the first with a property
until_by : (has : ℕ → Bool) (b : ℕ) (bs : List ℕ) (test : Bool) → has b ≡ test → ((front : List ℕ) × (back : List ℕ) × (bs ≡ front ++ back) × (until has bs ≡ length front) × NoneHas has front × Follows has back) → (front : List ℕ) × (back : List ℕ) × (b ∷ bs ≡ front ++ back) × (cond test 0 (until has bs + 1) ≡ length front) × NoneHas has front × Follows has back
until_by has b bs true is rest = ([], b ∷ bs, refl, refl, tt, is)
until_by has b bs false is rest = (b ∷ rest.0, rest.1, ap (λ zs. b ∷ zs) rest.2, omega (arith, rest.3), (is, rest.4), rest.5)

until_parts : (has : ℕ → Bool) (bs : List ℕ) → (front : List ℕ) × (back : List ℕ) × (bs ≡ front ++ back) × (until has bs ≡ length front) × NoneHas has front × Follows has back
until_parts has [] = ([], [], refl, refl, tt, tt)
until_parts has (b ∷ bs) = until_by has b bs (has b) refl (until_parts has bs)

until_joined : (has : ℕ → Bool) (front back : List ℕ) → NoneHas has front → Follows has back → until has (front ++ back) ≡ length front
until_joined has [] [] none follows = refl
until_joined has [] (b ∷ bs) none follows = rw follows refl
until_joined has (b ∷ front) back none follows = rw none.0 (omega (arith, until_joined has front back none.1 follows))

more_by : (o : Option ℕ) (n : ℕ) → option_map (λ n. n + 1) o ≡ Some n → (m : ℕ) × (o ≡ Some m) × (n ≡ m + 1)
more_by None n e = absurd cc
more_by (Some m) n e = (m, refl, let same : m + 1 ≡ n = cc in sym same)

some_is : (m n : ℕ) → Some m ≡ Some n → m ≡ n
some_is m n e = cc

-- a comment's text goes up to its end whatever follows
comment_on : (here : Bool) (one two : Option ℕ) (n : ℕ) → ((m : ℕ) → one ≡ Some m → two ≡ Some m) → cond here (Some 1) (option_map (λ n. n + 1) one) ≡ Some n → cond here (Some 1) (option_map (λ n. n + 1) two) ≡ Some n
comment_on true one two n rest e = e
comment_on false one two n rest e = let m : (m : ℕ) × (one ≡ Some m) × (n ≡ m + 1) = more_by one n e in ap (option_map (λ n. n + 1)) (rest m.0 m.1) ∙ ap (λ z. Some z) (sym m.2)

comment_joined : (bar : Bool) (cs rest : List ℕ) (n : ℕ) → comment_length bar cs ≡ Some n → comment_length bar (cs ++ rest) ≡ Some n
comment_joined bar [] rest n e = absurd cc
comment_joined bar (c ∷ cs) rest n e = comment_on (bar && c == 35) (comment_length (c == 124) cs) (comment_length (c == 124) (cs ++ rest)) n (comment_joined (c == 124) cs rest) e

string_joined : (taken : Bool) (cs rest : List ℕ) (n : ℕ) → string_length taken cs ≡ Some n → string_length taken (cs ++ rest) ≡ Some n
string_joined taken [] rest n e = absurd cc
string_joined taken (c ∷ cs) rest n e = comment_on (not taken && c == 34) (string_length (not taken && c == 92) cs) (string_length (not taken && c == 92) (cs ++ rest)) n (string_joined (not taken && c == 92) cs rest) e

-- what a comment or a string takes, and what follows
abbrev Cut : (List ℕ → Option ℕ) → List ℕ → ℕ → Type 0
Cut measure bs n = (front : List ℕ) × (back : List ℕ) × (bs ≡ front ++ back) × (length front ≡ n) × (measure front ≡ Some n)

cut_on : (here : Bool) (c : ℕ) (bs : List ℕ) (measure : List ℕ → Option ℕ) (n : ℕ) → ((m : ℕ) → measure bs ≡ Some m → Cut measure bs m) → cond here (Some 1) (option_map (λ n. n + 1) (measure bs)) ≡ Some n → (front : List ℕ) × (back : List ℕ) × (c ∷ bs ≡ (c ∷ front) ++ back) × (length (c ∷ front) ≡ n) × (cond here (Some 1) (option_map (λ n. n + 1) (measure front)) ≡ Some n)
cut_on true c bs measure n rest e = ([], bs, refl, some_is 1 n e, e)
cut_on false c bs measure n rest e =
    let m : (m : ℕ) × (measure bs ≡ Some m) × (n ≡ m + 1) = more_by (measure bs) n e in
    let r : Cut measure bs m.0 = rest m.0 m.1 in
    (r.0, r.1, ap (λ zs. c ∷ zs) r.2, omega (arith, r.3, m.2), ap (option_map (λ n. n + 1)) r.4 ∙ ap (λ z. Some z) (sym m.2))

comment_cut : (bar : Bool) (bs : List ℕ) (n : ℕ) → comment_length bar bs ≡ Some n → Cut (comment_length bar) bs n
comment_cut bar [] n e = absurd cc
comment_cut bar (c ∷ bs) n e =
    let r : (front : List ℕ) × (back : List ℕ) × (c ∷ bs ≡ (c ∷ front) ++ back) × (length (c ∷ front) ≡ n) × (cond (bar && c == 35) (Some 1) (option_map (λ n. n + 1) (comment_length (c == 124) front)) ≡ Some n) = cut_on (bar && c == 35) c bs (comment_length (c == 124)) n (comment_cut (c == 124) bs) e in
    (c ∷ r.0, r.1, r.2, r.3, r.4)

string_cut : (taken : Bool) (bs : List ℕ) (n : ℕ) → string_length taken bs ≡ Some n → Cut (string_length taken) bs n
string_cut taken [] n e = absurd cc
string_cut taken (c ∷ bs) n e =
    let r : (front : List ℕ) × (back : List ℕ) × (c ∷ bs ≡ (c ∷ front) ++ back) × (length (c ∷ front) ≡ n) × (cond (not taken && c == 34) (Some 1) (option_map (λ n. n + 1) (string_length (not taken && c == 92) front)) ≡ Some n) = cut_on (not taken && c == 34) c bs (string_length (not taken && c == 92)) n (string_cut (not taken && c == 92) bs) e in
    (c ∷ r.0, r.1, r.2, r.3, r.4)

-- ---- a piece is read as it is spelled

abbrev more_of : Piece → ℕ
more_of (Blank b) = 0
more_of (Line cs) = length cs
more_of (Block cs) = length cs + 1
more_of Opening = 0
more_of Closing = 0
more_of Quote = 0
more_of (Quoted cs) = length cs
more_of (Plain []) = 0
more_of (Plain (c ∷ cs)) = length cs

abbrev Reads : ℕ → Piece → List ℕ → Type 0
Reads at p rest = lexeme at (bytes_of p ++ rest) ≡ Ok (record { more = more_of p; tokens = token_at at p })

eq_is : (a b : ℕ) → (a == b) ≡ true → a ≡ b
eq_is a b e = search rules

apart_by : (c k : ℕ) (b : Bool) → (c == k) ≡ b → is_symbol k ≡ false → is_symbol c ≡ true → b ≡ false
apart_by c k false e is_none is_one = refl
apart_by c k true e is_none is_one = absurd (let both : true ≡ false = sym is_one ∙ ap is_symbol (eq_is c k e) ∙ is_none in cc)

apart : (c k : ℕ) → is_symbol k ≡ false → is_symbol c ≡ true → (c == k) ≡ false
apart c k is_none is_one = apart_by c k (c == k) refl is_none is_one

take_front : (cs rest : List ℕ) → take (length cs) (cs ++ rest) ≡ cs
take_front [] rest = refl
take_front (c ∷ cs) rest = ap (λ zs. c ∷ zs) (take_front cs rest)

word_read : (at c : ℕ) (cs rest : List ℕ) (t : Token) → token_of (c ∷ cs) ≡ Some t → NoneHas is_no_symbol cs → Follows is_no_symbol rest → word_in at (symbol_length (cs ++ rest)) (c ∷ (cs ++ rest)) ≡ Ok (record { more = length cs; tokens = if_some at (token_of (c ∷ cs)) })
word_read at c cs rest t is goes follows =
    let long : symbol_length (cs ++ rest) ≡ length cs = until_joined is_no_symbol cs rest goes follows in
    let next : length cs + 1 ≡ suc (length cs) = omega arith in
    rw (long, next, take_front cs rest, is) refl

symbol_head : (at c : ℕ) (bs : List ℕ) → is_symbol c ≡ true → lexeme at (c ∷ bs) ≡ word_in at (symbol_length bs) (c ∷ bs)
symbol_head at c bs is_one = rw (apart c 32 refl is_one, apart c 9 refl is_one, apart c 10 refl is_one, apart c 13 refl is_one, apart c 40 refl is_one, apart c 41 refl is_one, apart c 39 refl is_one, apart c 59 refl is_one, apart c 34 refl is_one, apart c 35 refl is_one, is_one) refl

symbol_read : (at c : ℕ) (cs rest : List ℕ) (t : Token) → is_symbol c ≡ true → token_of (c ∷ cs) ≡ Some t → NoneHas is_no_symbol cs → Follows is_no_symbol rest → lexeme at (c ∷ (cs ++ rest)) ≡ Ok (record { more = length cs; tokens = if_some at (token_of (c ∷ cs)) })
symbol_read at c cs rest t is_one is goes follows = symbol_head at c (cs ++ rest) is_one ∙ word_read at c cs rest t is goes follows

not_true : (b : Bool) → not b ≡ false → b ≡ true
not_true true e = refl
not_true false e = absurd cc

hash_read : (at : ℕ) (cs rest : List ℕ) (t : Token) → token_of (35 ∷ cs) ≡ Some t → NoneHas is_no_symbol cs → Follows is_no_symbol rest → lexeme at (35 ∷ (cs ++ rest)) ≡ Ok (record { more = length cs; tokens = if_some at (token_of (35 ∷ cs)) })
hash_read at [] rest t is goes follows = absurd cc
hash_read at (c ∷ cs) rest t is goes follows = rw (apart c 124 refl (not_true (is_symbol c) goes.0)) (word_read at 35 (c ∷ cs) rest t is goes follows)

or_first : (a b : Bool) → b ≡ false → (a || b) ≡ true → a ≡ true
or_first true b is_none e = refl
or_first false b is_none e = absurd (let both : false ≡ true = sym is_none ∙ e in cc)

plain_by : (at c : ℕ) (cs rest : List ℕ) (w : IsWord c cs) (b : Bool) → is_hash c ≡ b → Follows is_no_symbol rest → lexeme at (c ∷ (cs ++ rest)) ≡ Ok (record { more = length cs; tokens = if_some at (token_of (c ∷ cs)) })
plain_by at c cs rest w true e follows =
    let same : c ≡ 35 = eq_is c 35 e in
    let is : token_of (35 ∷ cs) ≡ Some w.token = ap (λ z. token_of (z ∷ cs)) (sym same) ∙ w.is in
    subst (λ (z : ℕ). lexeme at (z ∷ (cs ++ rest)) ≡ Ok (record { more = length cs; tokens = if_some at (token_of (z ∷ cs)) })) (sym same) (hash_read at cs rest w.token is w.goes_on follows)
plain_by at c cs rest w false e follows = symbol_read at c cs rest w.token (or_first (is_symbol c) (is_hash c) e w.begins) w.is w.goes_on follows

piece_reads : (at : ℕ) (p : Piece) (rest : List ℕ) → IsPiece p rest → Reads at p rest
piece_reads at (Blank b) rest is = rw is refl
piece_reads at (Line cs) rest is = rw (until_joined is_line_feed cs rest is.0 is.1) refl
piece_reads at (Block cs) rest is = rw (comment_joined false cs rest (length cs) is) refl
piece_reads at Opening rest is = refl
piece_reads at Closing rest is = refl
piece_reads at Quote rest is = refl
piece_reads at (Quoted cs) rest is = rw (string_joined false cs rest (length cs) is) refl
piece_reads at (Plain []) rest is = absurd is.0
piece_reads at (Plain (c ∷ cs)) rest is = plain_by at c cs rest is.0 (is_hash c) refl is.1

-- ---- what is passed over

after_nothing : (r : Result (List Located) SpecError) → after [] r ≡ r
after_nothing (Ok ts) = refl
after_nothing (Err e) = refl

passed_over : (at : ℕ) (cs rest : List ℕ) → tokens_from (length cs) at (cs ++ rest) ≡ tokens_from 0 (at + length cs) rest
unfolding tokens_from
passed_over at [] rest = let e : at + 0 ≡ at = omega arith in rw e refl
passed_over at (c ∷ cs) rest =
    let e : at + 1 + length cs ≡ at + suc (length cs) = omega arith in
    after_nothing (tokens_from (length cs) (at + 1) (cs ++ rest)) ∙ passed_over (at + 1) cs rest ∙ ap (λ z. tokens_from 0 z rest) e

-- behind the first byte of a piece
one_read : (at b : ℕ) (cs rest : List ℕ) (ts : List Located) → lexeme at (b ∷ (cs ++ rest)) ≡ Ok (record { more = length cs; tokens = ts }) → tokens_from 0 at (b ∷ (cs ++ rest)) ≡ after ts (tokens_from 0 (at + suc (length cs)) rest)
unfolding tokens_from
one_read at b cs rest ts e =
    let next : at + 1 + length cs ≡ at + suc (length cs) = omega arith in
    rw e (ap (after ts) (passed_over (at + 1) cs rest ∙ ap (λ z. tokens_from 0 z rest) next))

piece_tokens : (at : ℕ) (p : Piece) (rest : List ℕ) → IsPiece p rest → tokens_from 0 at (bytes_of p ++ rest) ≡ after (token_at at p) (tokens_from 0 (at + length (bytes_of p)) rest)
piece_tokens at (Blank b) rest is = one_read at b [] rest [] (piece_reads at (Blank b) rest is)
piece_tokens at (Line cs) rest is = one_read at 59 cs rest [] (piece_reads at (Line cs) rest is)
piece_tokens at (Block cs) rest is = one_read at 35 (124 ∷ cs) rest [] (piece_reads at (Block cs) rest is ∙ ap (λ n. Ok (record { more = n; tokens = [] })) (let e : length cs + 1 ≡ suc (length cs) = omega arith in e))
piece_tokens at Opening rest is = one_read at 40 [] rest (one at token.Open) refl
piece_tokens at Closing rest is = one_read at 41 [] rest (one at token.Close) refl
piece_tokens at Quote rest is = one_read at 39 [] rest (one at token.Apostrophe) refl
piece_tokens at (Quoted cs) rest is = one_read at 34 cs rest (one at token.Text) (piece_reads at (Quoted cs) rest is)
piece_tokens at (Plain []) rest is = absurd is.0
piece_tokens at (Plain (c ∷ cs)) rest is = one_read at c cs rest (if_some at (token_of (c ∷ cs))) (piece_reads at (Plain (c ∷ cs)) rest is)

none_read : (at : ℕ) → tokens_from 0 at [] ≡ Ok []
unfolding tokens_from
none_read at = refl

spelled_reads : (at : ℕ) (ps : List Piece) (bytes : List ℕ) (ts : List Located) → Spells at ps bytes ts → tokens_from 0 at bytes ≡ Ok ts
spelled_reads at [] bytes ts s = rw (s.0, s.1) (none_read at)
spelled_reads at (p ∷ ps) bytes ts s = rw (s.2, s.3) (piece_tokens at p s.0 s.4 ∙ ap (after (token_at at p)) (spelled_reads (at + length (bytes_of p)) ps s.0 s.1 s.5))

-- ---- what is read is a piece

record Read (at : ℕ) (bytes : List ℕ) (l : Lexeme) : Type 0 where
  piece : Piece
  rest : List ℕ
  bytes_are : bytes ≡ bytes_of piece ++ rest
  is : IsPiece piece rest
  tokens : l.tokens ≡ token_at at piece

abbrev read_as : Lexeme → Result Lexeme SpecError
read_as l = Ok l

abbrev with_tokens : ℕ → List Located → Lexeme
with_tokens more ts = record { more = more; tokens = ts }

lexeme_is : (a b : Lexeme) → read_as a ≡ Ok b → a ≡ b
lexeme_is a b e = cc

tokens_is : (more : ℕ) (ts : List Located) (l : Lexeme) → read_as (with_tokens more ts) ≡ Ok l → l.tokens ≡ ts
tokens_is more ts l e = let same : with_tokens more ts ≡ l = lexeme_is (with_tokens more ts) l e in sym (ap (λ (z : Lexeme). z.tokens) same)

word_taken : (n c : ℕ) (cs rest : List ℕ) → n ≡ length cs → take (n + 1) (c ∷ (cs ++ rest)) ≡ c ∷ cs
word_taken n c cs rest e = let next : length cs + 1 ≡ suc (length cs) = omega arith in rw (e, next, take_front cs rest) refl

-- a word
word_on : (at c : ℕ) (cs rest : List ℕ) (o : Option Token) (l : Lexeme) → (is_symbol c || is_hash c) ≡ true → NoneHas is_no_symbol cs → Follows is_no_symbol rest → token_of (c ∷ cs) ≡ o → word_lexeme at (length cs) o ≡ Ok l → Read at (c ∷ (cs ++ rest)) l
word_on at c cs rest None l begins goes follows is e = absurd cc
word_on at c cs rest (Some t) l begins goes follows is e = record {
  piece = Plain (c ∷ cs);
  rest = rest;
  bytes_are = refl;
  is = (record { begins = begins; goes_on = goes; token = t; is = is }, follows);
  tokens = tokens_is (length cs) (one at t) l e ∙ ap (if_some at) (sym is);
}

word_of : (at c : ℕ) (bs : List ℕ) (l : Lexeme) → (is_symbol c || is_hash c) ≡ true → word_in at (symbol_length bs) (c ∷ bs) ≡ Ok l → Read at (c ∷ bs) l
word_of at c bs l begins e =
    let p : (front : List ℕ) × (back : List ℕ) × (bs ≡ front ++ back) × (until is_no_symbol bs ≡ length front) × NoneHas is_no_symbol front × Follows is_no_symbol back = until_parts is_no_symbol bs in
    let taken : take (symbol_length bs + 1) (c ∷ bs) ≡ c ∷ p.0 = ap (λ zs. take (symbol_length bs + 1) (c ∷ zs)) p.2 ∙ word_taken (symbol_length bs) c p.0 p.1 p.3 in
    let e' : word_lexeme at (length p.0) (token_of (c ∷ p.0)) ≡ Ok l = sym (ap (λ n. word_lexeme at n (token_of (c ∷ p.0))) p.3) ∙ sym (ap (λ zs. word_lexeme at (symbol_length bs) (token_of zs)) taken) ∙ e in
    subst (λ (zs : List ℕ). Read at (c ∷ zs) l) (sym p.2) (word_on at c p.0 p.1 (token_of (c ∷ p.0)) l begins p.4 p.5 refl e')

symbol_of : (at b : ℕ) (bs : List ℕ) (l : Lexeme) (test : Bool) → is_symbol b ≡ test → cond test (word_in at (symbol_length bs) (b ∷ bs)) (Err (BadToken at)) ≡ Ok l → Read at (b ∷ bs) l
symbol_of at b bs l true is e = word_of at b bs l (rw is refl) e
symbol_of at b bs l false is e = absurd cc

comment_of : (at : ℕ) (bs : List ℕ) (l : Lexeme) (o : Option ℕ) → comment_length false bs ≡ o → comment_lexeme at o ≡ Ok l → Read at (35 ∷ 124 ∷ bs) l
comment_of at bs l None is e = absurd cc
comment_of at bs l (Some n) is e =
    let c : Cut (comment_length false) bs n = comment_cut false bs n is in
    record { piece = Block c.0; rest = c.1; bytes_are = ap (λ zs. 35 ∷ 124 ∷ zs) c.2; is = c.4 ∙ ap (λ z. Some z) (sym c.3); tokens = tokens_is (n + 1) [] l e }

string_of : (at : ℕ) (bs : List ℕ) (l : Lexeme) (o : Option ℕ) → string_length false bs ≡ o → string_lexeme at o ≡ Ok l → Read at (34 ∷ bs) l
string_of at bs l None is e = absurd cc
string_of at bs l (Some n) is e =
    let c : Cut (string_length false) bs n = string_cut false bs n is in
    record { piece = Quoted c.0; rest = c.1; bytes_are = ap (λ zs. 34 ∷ zs) c.2; is = c.4 ∙ ap (λ z. Some z) (sym c.3); tokens = tokens_is n (one at token.Text) l e }

bar_of : (at b : ℕ) (bs : List ℕ) (l : Lexeme) (test : Bool) → (b == 124) ≡ test → cond test (comment_lexeme at (comment_length false bs)) (word_in at (symbol_length (b ∷ bs)) (35 ∷ b ∷ bs)) ≡ Ok l → Read at (35 ∷ b ∷ bs) l
bar_of at b bs l true is e = subst (λ (z : ℕ). Read at (35 ∷ z ∷ bs) l) (sym (eq_is b 124 is)) (comment_of at bs l (comment_length false bs) refl e)
bar_of at b bs l false is e = word_of at 35 (b ∷ bs) l refl e

hash_of : (at : ℕ) (bs : List ℕ) (l : Lexeme) → hash_lexeme at 35 bs ≡ Ok l → Read at (35 ∷ bs) l
hash_of at [] l e = absurd cc
hash_of at (b ∷ bs) l e = bar_of at b bs l (b == 124) refl e

line_of : (at : ℕ) (bs : List ℕ) (l : Lexeme) → read_as (with_tokens (line_length bs) []) ≡ Ok l → Read at (59 ∷ bs) l
line_of at bs l e =
    let p : (front : List ℕ) × (back : List ℕ) × (bs ≡ front ++ back) × (until is_line_feed bs ≡ length front) × NoneHas is_line_feed front × Follows is_line_feed back = until_parts is_line_feed bs in
    record { piece = Line p.0; rest = p.1; bytes_are = ap (λ zs. 59 ∷ zs) p.2; is = (p.4, p.5); tokens = tokens_is (line_length bs) [] l e }

-- the tests of the first byte, in their order
abbrev by_hash : ℕ → ℕ → List ℕ → Bool → Result Lexeme SpecError
by_hash at b bs test = cond test (hash_lexeme at b bs) (symbol_lexeme at b bs)

abbrev by_quote : ℕ → ℕ → List ℕ → Bool → Result Lexeme SpecError
by_quote at b bs test = cond test (string_lexeme at (string_length false bs)) (by_hash at b bs (is_hash b))

abbrev by_semicolon : ℕ → ℕ → List ℕ → Bool → Result Lexeme SpecError
by_semicolon at b bs test = cond test (Ok (record { more = line_length bs; tokens = [] })) (by_quote at b bs (b == 34))

abbrev by_mark : ℕ → ℕ → List ℕ → Bool → Result Lexeme SpecError
by_mark at b bs test = cond test (Ok (record { more = 0; tokens = one at token.Apostrophe })) (by_semicolon at b bs (b == 59))

abbrev by_close : ℕ → ℕ → List ℕ → Bool → Result Lexeme SpecError
by_close at b bs test = cond test (Ok (record { more = 0; tokens = one at token.Close })) (by_mark at b bs (b == 39))

abbrev by_open : ℕ → ℕ → List ℕ → Bool → Result Lexeme SpecError
by_open at b bs test = cond test (Ok (record { more = 0; tokens = one at token.Open })) (by_close at b bs (b == 41))

hash_test : (at b : ℕ) (bs : List ℕ) (l : Lexeme) (test : Bool) → is_hash b ≡ test → by_hash at b bs test ≡ Ok l → Read at (b ∷ bs) l
hash_test at b bs l true is e =
    let same : b ≡ 35 = eq_is b 35 is in
    subst (λ (z : ℕ). Read at (z ∷ bs) l) (sym same) (hash_of at bs l (ap (λ z. hash_lexeme at z bs) (sym same) ∙ e))
hash_test at b bs l false is e = symbol_of at b bs l (is_symbol b) refl e

quote_test : (at b : ℕ) (bs : List ℕ) (l : Lexeme) (test : Bool) → (b == 34) ≡ test → by_quote at b bs test ≡ Ok l → Read at (b ∷ bs) l
quote_test at b bs l true is e = subst (λ (z : ℕ). Read at (z ∷ bs) l) (sym (eq_is b 34 is)) (string_of at bs l (string_length false bs) refl e)
quote_test at b bs l false is e = hash_test at b bs l (is_hash b) refl e

semicolon_test : (at b : ℕ) (bs : List ℕ) (l : Lexeme) (test : Bool) → (b == 59) ≡ test → by_semicolon at b bs test ≡ Ok l → Read at (b ∷ bs) l
semicolon_test at b bs l true is e = subst (λ (z : ℕ). Read at (z ∷ bs) l) (sym (eq_is b 59 is)) (line_of at bs l e)
semicolon_test at b bs l false is e = quote_test at b bs l (b == 34) refl e

mark_test : (at b : ℕ) (bs : List ℕ) (l : Lexeme) (test : Bool) → (b == 39) ≡ test → by_mark at b bs test ≡ Ok l → Read at (b ∷ bs) l
mark_test at b bs l true is e = subst (λ (z : ℕ). Read at (z ∷ bs) l) (sym (eq_is b 39 is)) (record { piece = Quote; rest = bs; bytes_are = refl; is = tt; tokens = tokens_is 0 (one at token.Apostrophe) l e })
mark_test at b bs l false is e = semicolon_test at b bs l (b == 59) refl e

close_test : (at b : ℕ) (bs : List ℕ) (l : Lexeme) (test : Bool) → (b == 41) ≡ test → by_close at b bs test ≡ Ok l → Read at (b ∷ bs) l
close_test at b bs l true is e = subst (λ (z : ℕ). Read at (z ∷ bs) l) (sym (eq_is b 41 is)) (record { piece = Closing; rest = bs; bytes_are = refl; is = tt; tokens = tokens_is 0 (one at token.Close) l e })
close_test at b bs l false is e = mark_test at b bs l (b == 39) refl e

open_test : (at b : ℕ) (bs : List ℕ) (l : Lexeme) (test : Bool) → (b == 40) ≡ test → by_open at b bs test ≡ Ok l → Read at (b ∷ bs) l
open_test at b bs l true is e = subst (λ (z : ℕ). Read at (z ∷ bs) l) (sym (eq_is b 40 is)) (record { piece = Opening; rest = bs; bytes_are = refl; is = tt; tokens = tokens_is 0 (one at token.Open) l e })
open_test at b bs l false is e = close_test at b bs l (b == 41) refl e

white_test : (at b : ℕ) (bs : List ℕ) (l : Lexeme) (test : Bool) → is_white b ≡ test → cond test (Ok (record { more = 0; tokens = [] })) (by_open at b bs (b == 40)) ≡ Ok l → Read at (b ∷ bs) l
white_test at b bs l true is e = record { piece = Blank b; rest = bs; bytes_are = refl; is = is; tokens = tokens_is 0 [] l e }
white_test at b bs l false is e = open_test at b bs l (b == 40) refl e

read_piece : (at b : ℕ) (bs : List ℕ) (l : Lexeme) → lexeme at (b ∷ bs) ≡ Ok l → Read at (b ∷ bs) l
read_piece at b bs l e = white_test at b bs l (is_white b) refl e

-- ---- whole texts

abbrev read_all : List Located → Result (List Located) SpecError
read_all ts = Ok ts

list_is : (xs ys : List Located) → read_all xs ≡ Ok ys → xs ≡ ys
list_is xs ys e = cc

after_is : (front : List Located) (r : Result (List Located) SpecError) (ts : List Located) → after front r ≡ Ok ts → (later : List Located) × (r ≡ Ok later) × (ts ≡ front ++ later)
after_is front (Ok later) ts e = (later, refl, let same : front ++ later ≡ ts = list_is (front ++ later) ts e in sym same)
after_is front (Err x) ts e = absurd cc

lexeme_of : (at b : ℕ) (bs : List ℕ) (ts : List Located) (r : Result Lexeme SpecError) → lexeme at (b ∷ bs) ≡ r → tokens_from 0 at (b ∷ bs) ≡ Ok ts → (l : Lexeme) × (lexeme at (b ∷ bs) ≡ Ok l)
unfolding tokens_from
lexeme_of at b bs ts (Ok l) is e = (l, is)
lexeme_of at b bs ts (Err x) is e = absurd (let bad : Err x ≡ Ok ts = ap (λ (r : Result Lexeme SpecError). r >>= λ l. after l.tokens (tokens_from l.more (at + 1) bs)) (sym is) ∙ e in cc)

piece_length : (p : Piece) (rest : List ℕ) → IsPiece p rest → 1 ≤ length (bytes_of p)
piece_length (Blank b) rest is = omega arith
piece_length (Line cs) rest is = omega arith
piece_length (Block cs) rest is = omega arith
piece_length Opening rest is = omega arith
piece_length Closing rest is = omega arith
piece_length Quote rest is = omega arith
piece_length (Quoted cs) rest is = omega arith
piece_length (Plain []) rest is = absurd is.0
piece_length (Plain (c ∷ cs)) rest is = omega arith

joined_length : (xs ys : List ℕ) → length (xs ++ ys) ≡ length xs + length ys
joined_length [] ys = omega arith
joined_length (x ∷ xs) ys = omega (arith, joined_length xs ys)

reads_spelled : (n at : ℕ) (bytes : List ℕ) (ts : List Located) → length bytes ≤ n → tokens_from 0 at bytes ≡ Ok ts → (ps : List Piece) × Spells at ps bytes ts
reads_spelled n at [] ts within e = ([], (refl, let same : [] ≡ ts = list_is [] ts (sym (none_read at) ∙ e) in sym same))
reads_spelled zero at (b ∷ bs) ts within e = absurd (omega (arith, within))
reads_spelled (suc n) at (b ∷ bs) ts within e =
    let l : (l : Lexeme) × (lexeme at (b ∷ bs) ≡ Ok l) = lexeme_of at b bs ts (lexeme at (b ∷ bs)) refl e in
    let r : Read at (b ∷ bs) l.0 = read_piece at b bs l.0 l.1 in
    let all : after (token_at at r.piece) (tokens_from 0 (at + length (bytes_of r.piece)) r.rest) ≡ Ok ts = sym (piece_tokens at r.piece r.rest r.is) ∙ ap (tokens_from 0 at) (sym r.bytes_are) ∙ e in
    let later : (later : List Located) × (tokens_from 0 (at + length (bytes_of r.piece)) r.rest ≡ Ok later) × (ts ≡ token_at at r.piece ++ later) = after_is (token_at at r.piece) _ ts all in
    let shorter : length r.rest ≤ n = omega (arith, within, joined_length (bytes_of r.piece) r.rest, ap length r.bytes_are, piece_length r.piece r.rest r.is) in
    let s : (ps : List Piece) × Spells (at + length (bytes_of r.piece)) ps r.rest later.0 = reads_spelled n (at + length (bytes_of r.piece)) r.rest later.0 shorter later.1 in
    (r.piece ∷ s.0, (r.rest, later.0, r.bytes_are, later.2, r.is, s.1))

pub spelled : TokensAreSpelled
spelled bytes ts = (λ e. reads_spelled (length bytes) 0 bytes ts (omega arith) e, λ s. spelled_reads 0 s.0 bytes ts s.1)
