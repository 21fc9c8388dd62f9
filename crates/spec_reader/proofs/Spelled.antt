-- The tokens that were nested are those that the data spell.
use Rattle.std.proofs.Common.{◌≡◌, ℕ, Bool, true, false, cond, eqb, List, [], ◌∷◌, ◌++◌, length, Option, Some, None, Result, Ok, Err, refl, sym, ap, ◌∙◌, subst, append_assoc}
use Rattle.std.proofs.lemmas.List.{append-nil, map-append}
use Rattle.spec_form.specs.declared.error.SpecError.{SpecError}
use Rattle.spec_form.specs.declared.error.SpecError.TheVariants.{TooDeep}
use Rattle.spec_reader.specs.declared.token.Token.{Token}
use Rattle.spec_reader.specs.declared.token.Token.TheVariants as token
use Rattle.spec_reader.specs.declared.token.Located.{Located}
use Rattle.spec_reader.specs.declared.datum.Datum.{Datum}
use Rattle.spec_reader.specs.declared.datum.Datum.TheOpen as layer
use Rattle.spec_reader.specs.declared.datum.Datum.TheFolds.{fold-roll-Datum}
use Rattle.spec_reader.specs.declared.nesting.Marks.{Marks}
use Rattle.spec_reader.specs.declared.nesting.Level.{Level}
use Rattle.spec_reader.specs.Reading.{◌>>=◌, steps}
use Rattle.spec_reader.specs.Tokens.{one}
use Rattle.spec_reader.specs.Nesting.{State, start, with_part, with_mark, marked, quoted, ended, close_levels, read_token, step, finish_levels, nested, mark_tokens, tokens_step, tokens_of, tokens_of_all, word, number, text, quote, list}

list_tokens : (at end : ℕ) (parts : List Datum) → tokens_of (list at end parts) ≡ one at token.Open ++ (tokens_of_all parts ++ one end token.Close)
list_tokens at end parts = fold-roll-Datum (List Located) tokens_step (layer.List at end parts)

quote_tokens : (marks : Marks) (parts : List Datum) → tokens_of (quote marks parts) ≡ mark_tokens (marks.at ∷ marks.more) ++ tokens_of_all parts
quote_tokens marks parts = fold-roll-Datum (List Located) tokens_step (layer.Quote marks.at marks.more parts)

tokens_of_all-push : (ds : List Datum) (d : Datum) → tokens_of_all (ds ++ d ∷ []) ≡ tokens_of_all ds ++ tokens_of d
tokens_of_all-push [] d = append-nil (tokens_of d)
tokens_of_all-push (e ∷ ds) d = ap (λ (ts : List Located). tokens_of e ++ ts) (tokens_of_all-push ds d) ∙ sym (append_assoc (tokens_of e) (tokens_of_all ds) (tokens_of d))

bind_ok : {A B : Type 0} (r : Result A SpecError) (f : A → Result B SpecError) (y : B) → (r >>= f) ≡ Ok y → (x : A) × (r ≡ Ok x) × (f x ≡ Ok y)
bind_ok (Ok x) f y e = (x, refl, e)
bind_ok (Err d) f y e = absurd cc

-- the tokens of apostrophes that wait
abbrev waiting : Option Marks → List Located
waiting None = []
waiting (Some marks) = mark_tokens (marks.at ∷ marks.more)

quoted_tokens : (marks : Option Marks) (d : Datum) → tokens_of (quoted marks d) ≡ waiting marks ++ tokens_of d
quoted_tokens None d = refl
quoted_tokens (Some marks) d = quote_tokens marks (d ∷ []) ∙ ap (λ (ts : List Located). waiting (Some marks) ++ ts) (append-nil (tokens_of d))

ended_tokens : (marks : Option Marks) (parts : List Datum) → tokens_of_all (ended marks parts) ≡ tokens_of_all parts ++ waiting marks
ended_tokens None parts = sym (append-nil (tokens_of_all parts))
ended_tokens (Some marks) parts = tokens_of_all-push parts (quote marks []) ∙ ap (λ (ts : List Located). tokens_of_all parts ++ ts) (quote_tokens marks [] ∙ append-nil (waiting (Some marks)))

marked_tokens : (at : ℕ) (marks : Option Marks) → waiting (Some (marked at marks)) ≡ waiting marks ++ one at token.Apostrophe
marked_tokens at None = refl
marked_tokens at (Some marks) = map-append (λ (m : ℕ). record { at = m; token = token.Apostrophe }) (marks.at ∷ marks.more) (at ∷ [])

-- the tokens that were read for the open lists, the innermost first
abbrev level_tokens : List Level → List Located
level_tokens [] = []
level_tokens (level ∷ levels) = level_tokens levels ++ (tokens_of_all level.before ++ (waiting level.marks ++ one level.at token.Open))

abbrev read_so_far : State → List Located
read_so_far s = level_tokens s.levels ++ (tokens_of_all s.parts ++ waiting s.marks)

part_read : (s : State) (d : Datum) → read_so_far (with_part s d) ≡ read_so_far s ++ tokens_of d
part_read s d = rw (tokens_of_all-push s.parts (quoted s.marks d), quoted_tokens s.marks d) (simp (append_assoc, append-nil))

close_read_list : (at : ℕ) (level : Level) (levels : List Level) (marks : Option Marks) (parts : List Datum)
    → read_so_far (with_part (record { levels = levels; parts = level.before; marks = level.marks }) (list level.at at (ended marks parts))) ≡ read_so_far (record { levels = level ∷ levels; parts = parts; marks = marks }) ++ one at token.Close
close_read_list at level levels marks parts =
    part_read (record { levels = levels; parts = level.before; marks = level.marks }) (list level.at at (ended marks parts))
    ∙ rw (list_tokens level.at at (ended marks parts), ended_tokens marks parts) (simp append_assoc)

close_read : (at : ℕ) (levels : List Level) (marks : Option Marks) (parts : List Datum) (next : State) → close_levels at levels (ended marks parts) ≡ Ok next → read_so_far next ≡ read_so_far (record { levels = levels; parts = parts; marks = marks }) ++ one at token.Close
close_read at [] marks parts next h = absurd cc
close_read at (level ∷ levels) marks parts next h =
    let made : State = with_part (record { levels = levels; parts = level.before; marks = level.marks }) (list level.at at (ended marks parts)) in
    let is : made ≡ next = cc in
    subst (λ (x : State). read_so_far x ≡ read_so_far (record { levels = level ∷ levels; parts = parts; marks = marks }) ++ one at token.Close) is (close_read_list at level levels marks parts)

guard : {A : Type 0} (b : Bool) (e : SpecError) (x y : A) → cond b (Err e) (Ok x) ≡ Ok y → x ≡ y
guard true e x y h = absurd cc
guard false e x y h = cc

-- a datum of one token
leaf_read : (at : ℕ) (t : Token) (d : Datum) (s next : State) → tokens_of d ≡ one at t → with_part s d ≡ next → read_so_far next ≡ read_so_far s ++ one at t
leaf_read at t d s next spelled is = subst (λ (x : State). read_so_far x ≡ read_so_far s ++ one at t) is (part_read s d ∙ ap (λ (ts : List Located). read_so_far s ++ ts) spelled)

-- each token that is read is one more that the data spell
token_read : (at : ℕ) (t : Token) (s next : State) → read_token at t s ≡ Ok next → read_so_far next ≡ read_so_far s ++ one at t
token_read at token.Open s next h =
    let inner : State = record { levels = record { at = at; before = s.parts; marks = s.marks } ∷ s.levels; parts = []; marks = None } in
    let is : inner ≡ next = guard (eqb (length s.levels) 500) (TooDeep at) inner next h in
    subst (λ (x : State). read_so_far x ≡ read_so_far s ++ one at token.Open) is (append-nil (level_tokens inner.levels) ∙ simp append_assoc)
token_read at token.Close s next h = close_read at s.levels s.marks s.parts next h
token_read at token.Apostrophe s next h =
    let is : with_mark s at ≡ next = cc in
    subst (λ (x : State). read_so_far x ≡ read_so_far s ++ one at token.Apostrophe) is (rw (marked_tokens at s.marks) (simp append_assoc))
token_read at token.Text s next h = leaf_read at token.Text (text at) s next (fold-roll-Datum (List Located) tokens_step (layer.Text at)) cc
token_read at (token.Number n) s next h = leaf_read at (token.Number n) (number at n) s next (fold-roll-Datum (List Located) tokens_step (layer.Number at n)) cc
token_read at (token.Word w) s next h = leaf_read at (token.Word w) (word at w) s next (fold-roll-Datum (List Located) tokens_step (layer.Word at w)) cc

all_read : (s next : State) (ts : List Located) → steps step s ts ≡ Ok next → read_so_far next ≡ read_so_far s ++ ts
unfolding steps
all_read s next [] h = let is : s ≡ next = cc in rw (← is) (sym (append-nil (read_so_far s)))
all_read s next (t ∷ ts) h =
    let a = bind_ok (step s t) (λ mid. steps step mid ts) next h in
    all_read a.0 next ts a.2 ∙ ap (λ (l : List Located). l ++ ts) (token_read t.at t.token s a.0 a.1) ∙ append_assoc (read_so_far s) (one t.at t.token) ts

finish_read : (levels : List Level) (parts : List Datum) (marks : Option Marks) (ds : List Datum) → finish_levels levels (ended marks parts) ≡ Ok ds → read_so_far (record { levels = levels; parts = parts; marks = marks }) ≡ tokens_of_all ds
finish_read [] parts marks ds h =
    let is : ended marks parts ≡ ds = cc in
    sym (ended_tokens marks parts) ∙ ap tokens_of_all is
finish_read (level ∷ levels) parts marks ds h = absurd cc

-- the tokens that were nested are those that the data spell
pub nested_spells : (ts : List Located) (ds : List Datum) → nested ts ≡ Ok ds → ts ≡ tokens_of_all ds
nested_spells ts ds h =
    let a = bind_ok (steps step start ts) (λ s. finish_levels s.levels (ended s.marks s.parts)) ds h in
    sym (all_read start a.0 ts a.1) ∙ finish_read a.0.levels a.0.parts a.0.marks ds a.2
