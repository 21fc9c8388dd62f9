-- Tokens that were read before, and what is read from a byte on.
use Rattle.std.proofs.Common.{◌≡◌, ℕ, ◌+◌, ◌<◌, ◌≤◌, List, ◌∷◌, ◌++◌, length, get_or, drop, Result, Ok, Err, refl, sym, ap, ◌∙◌, subst, append_assoc, add-one, drop-cons}
use Rattle.std.proofs.Math.ListN.{drop_of_length-le}
use Rattle.std.proofs.lemmas.List.{append-nil}
use Rattle.spec_form.specs.declared.error.SpecError.{SpecError}
use Rattle.spec_reader.specs.declared.token.Located.{Located}
use Rattle.spec_reader.specs.Reading.{◌>>=◌, Fails}
use Rattle.spec_reader.specs.Tokens.{Lexeme, here, adds, after, tokens_from}
use Rattle.spec_reader.proofs.Faults.{Fails-bind}

-- what is read from a byte on
abbrev from : Result Lexeme SpecError → (Lexeme → Result (List Located) SpecError) → Result (List Located) SpecError
from read rest = read >>= λ l. after l.tokens (rest l)

joined : (front : List Located) (read : Result Lexeme SpecError) (l : Lexeme) → adds front read ≡ Ok l → (m : Lexeme) × (read ≡ Ok m) × (l ≡ record { more = m.more; tokens = front ++ m.tokens })
joined front (Ok m) l h = (m, refl, cc)
joined front (Err e) l h = absurd cc

after_after : (front tokens : List Located) (rest : Result (List Located) SpecError) → after front (after tokens rest) ≡ after (front ++ tokens) rest
after_after front tokens (Ok more) = ap (λ (ts : List Located). Ok ts) (sym (append_assoc front tokens more))
after_after front tokens (Err e) = refl

one_byte : (passed at : ℕ) (bytes : List ℕ) → at < length bytes → tokens_from passed at (drop at bytes) ≡ from (here passed at (drop at bytes)) (λ l. tokens_from l.more (at + 1) (drop (at + 1) bytes))
unfolding tokens_from
one_byte passed at bytes lt =
    let first : ℕ = get_or bytes at 0 in
    let split : drop at bytes ≡ first ∷ drop (at + 1) bytes = rw (add-one, drop-cons bytes at 0) refl in
    rw split refl

pub goes_on : (passed at : ℕ) (bytes behind : List ℕ) (front : List Located) (l : Lexeme) (all : Result (List Located) SpecError) → at < length bytes → behind ≡ drop at bytes → adds front (here passed at behind) ≡ Ok l → after front (tokens_from passed at (drop at bytes)) ≡ all → after l.tokens (tokens_from l.more (at + 1) (drop (at + 1) bytes)) ≡ all
goes_on passed at bytes behind front l all lt is h so_far =
    let rest : Lexeme → Result (List Located) SpecError = λ m. tokens_from m.more (at + 1) (drop (at + 1) bytes) in
    let j = joined front (here passed at (drop at bytes)) l (ap (λ (bs : List ℕ). adds front (here passed at bs)) (sym is) ∙ h) in
    let here_is : from (here passed at (drop at bytes)) rest ≡ after j.0.tokens (rest j.0) = ap (λ (r : Result Lexeme SpecError). from r rest) j.1 in
    ap (λ (m : Lexeme). after m.tokens (rest m)) j.2 ∙ sym (after_after front j.0.tokens (rest j.0)) ∙ ap (after front) (sym here_is ∙ sym (one_byte passed at bytes lt)) ∙ so_far

Fails-adds : (front : List Located) (read : Result Lexeme SpecError) (rest : Lexeme → Result (List Located) SpecError) (e : SpecError) → Fails e (adds front read) → Fails e (after front (from read rest))
Fails-adds front (Ok l) rest e h = subst (λ (r : Result (List Located) SpecError). Fails e r) (sym (after_after front l.tokens (rest l))) (Fails-bind e (adds front (Ok l)) (λ m. after m.tokens (rest l)) h)
Fails-adds front (Err f) rest e h = Fails-bind e (adds front (Err f)) (λ m. after m.tokens (rest m)) h

pub fails : (passed at : ℕ) (bytes behind : List ℕ) (front : List Located) (e : SpecError) (all : Result (List Located) SpecError) → at < length bytes → behind ≡ drop at bytes → Fails e (adds front (here passed at behind)) → after front (tokens_from passed at (drop at bytes)) ≡ all → Fails e all
fails passed at bytes behind front e all lt is h so_far =
    subst (λ (r : Result (List Located) SpecError). Fails e r) (ap (after front) (sym (one_byte passed at bytes lt)) ∙ so_far)
    (Fails-adds front (here passed at (drop at bytes)) (λ l. tokens_from l.more (at + 1) (drop (at + 1) bytes)) e (subst (λ (bs : List ℕ). Fails e (adds front (here passed at bs))) is h))

pub ends : (passed at : ℕ) (bytes : List ℕ) (front : List Located) (all : Result (List Located) SpecError) → length bytes ≤ at → after front (tokens_from passed at (drop at bytes)) ≡ all → all ≡ Ok front
unfolding tokens_from
ends passed at bytes front all le so_far = sym so_far ∙ rw (drop_of_length-le bytes le) (ap (λ (ts : List Located). Ok ts) (append-nil front))
