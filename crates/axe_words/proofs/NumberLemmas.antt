-- Numbers read digit by digit, and sizes read text by text.
use Rattle.std.proofs.Common.{◌≡◌, ℕ, ◌+◌, ◌-◌, ◌*◌, ◌<◌, ◌&&◌, ◌++◌, List, [], ◌∷◌, Option, Some, None, Result, Ok, Err, Bool, true, false, length, drop, cond, get_or, eqb, sym, refl, ap, ◌∙◌, subst, arith, length-drop}
use Rattle.std.specs.Prelude.{option_and_then, nat_le, MatchOption}
use Rattle.std.specs.Borrow.{Bor}
use Rattle.std.specs.Char.{is_ascii_digit}
use Rattle.std.specs.List.{slice_split, position_or_len}
use Rattle.std.proofs.lemmas.List.{drop_more}
use Rattle.std.proofs.lemmas.List.Splits.{slice_split_none, slice_split_first}
use Rattle.std.proofs.lemmas.List.Sums.{fails_before_first}
use Rattle.std.proofs.lemmas.Str.Pattern.{IsSplitOnceResult, split_once_first}
use Rattle.std.proofs.lemmas.Bool.{lt-leb}
use Rattle.axe_words.specs.Numbers.{decimal_after, in_range, size_in, with_size, sizes_on, sizes_from}

-- a digit is read
pub decimal_next : (n : ℕ) (text : List ℕ) (i : ℕ) → i < length text → is_ascii_digit (get_or text i 0) ≡ true → decimal_after n (drop i text) ≡ decimal_after (10 * n + (get_or text i 0 - 48)) (drop (i + 1) text)
decimal_next n text i lt digit = let c : ℕ = get_or text i 0 in
    ap (decimal_after n) (drop_more text i 0 lt) ∙ ap (λ b. cond b (decimal_after (10 * n + (c - 48)) (drop (i + 1) text)) None) digit

-- what is too great stays so
pub too_great : (least greatest n : ℕ) (cs : List ℕ) → greatest < n → option_and_then (in_range least greatest) (decimal_after n cs) ≡ None
too_great least greatest n [] lt = go (nat_le least n)
  where
    go : (b : Bool) → cond (b && nat_le n greatest) (Some n) None ≡ None
    go false = refl
    go true = ap (λ (b : Bool). cond b (Some n) None) (lt-leb n greatest lt)
too_great least greatest n (c ∷ cs) lt = go (is_ascii_digit c) (too_great least greatest (10 * n + (c - 48)) cs (omega arith))
  where
    go : (b : Bool) → option_and_then (in_range least greatest) (decimal_after (10 * n + (c - 48)) cs) ≡ None → option_and_then (in_range least greatest) (cond b (decimal_after (10 * n + (c - 48)) cs) None) ≡ None
    go false rest = refl
    go true rest = rest

-- the texts between commas
abbrev comma : ℕ → Bool
comma b = eqb b 44

-- these sizes before the others
abbrev pub with_sizes : List ℕ → Result (List ℕ) ℕ → Result (List ℕ) ℕ
with_sizes [] r = r
with_sizes (n ∷ ns) r = with_size n (with_sizes ns r)

-- one size more
pub with_sizes-push : (ns : List ℕ) (n : ℕ) (r : Result (List ℕ) ℕ) → with_sizes (ns ++ n ∷ []) r ≡ with_sizes ns (with_size n r)
with_sizes-push [] n r = refl
with_sizes-push (m ∷ ns) n r = ap (with_size m) (with_sizes-push ns n r)

-- sizes before the last are all sizes
pub with_sizes-ok : (ns : List ℕ) (n : ℕ) → with_sizes ns (Ok (n ∷ [])) ≡ Ok (ns ++ n ∷ [])
with_sizes-ok [] n = refl
with_sizes-ok (m ∷ ns) n = ap (with_size m) (with_sizes-ok ns n)

-- a bad size stays bad
pub with_sizes-err : (ns : List ℕ) (at : ℕ) → with_sizes ns (Err at) ≡ Err at
with_sizes-err [] at = refl
with_sizes-err (m ∷ ns) at = ap (with_size m) (with_sizes-err ns at)

-- what a split at the first comma says of the texts between commas
pub parts_of : (text : List ℕ) (r : Option (Bor (List ℕ) × Bor (List ℕ))) → IsSplitOnceResult 44 text r
    → MatchOption r (slice_split comma text ≡ text ∷ []) (λ x. (slice_split comma text ≡ x.0.now ∷ slice_split comma x.1.now) × (length x.1.now < length text))
parts_of text None h = let e = split_once_first 44 text None h (omega arith) in
    slice_split_none comma text (λ k d lt. fails_before_first comma text k d (subst (λ (n : ℕ). k < n) (sym e) lt))
parts_of text (Some x) h = let e = split_once_first 44 text (Some x) h (omega arith) in (
  slice_split_first comma text 0 e.0 ∙ (λ i. sym e.1 i ∷ slice_split comma (sym e.2 i)),
  (let l = length-drop (position_or_len comma text + 1) text in let m : length x.1.now ≡ length (drop (position_or_len comma text + 1) text) = ap (λ (ys : List ℕ). length ys) e.2 in let lt = e.0 in omega arith),
)

-- the same of each outcome
pub parts_some : (text : List ℕ) (r : Option (Bor (List ℕ) × Bor (List ℕ))) (first others : Bor (List ℕ)) → IsSplitOnceResult 44 text r → r ≡ Some (first, others)
    → (slice_split comma text ≡ first.now ∷ slice_split comma others.now) × (length others.now < length text)
parts_some text r first others h is = subst (λ (o : Option (Bor (List ℕ) × Bor (List ℕ))). MatchOption o (slice_split comma text ≡ text ∷ []) (λ x. (slice_split comma text ≡ x.0.now ∷ slice_split comma x.1.now) × (length x.1.now < length text))) is (parts_of text r h)

pub parts_none : (text : List ℕ) (r : Option (Bor (List ℕ) × Bor (List ℕ))) → IsSplitOnceResult 44 text r → r ≡ None → slice_split comma text ≡ text ∷ []
parts_none text r h is = subst (λ (o : Option (Bor (List ℕ) × Bor (List ℕ))). MatchOption o (slice_split comma text ≡ text ∷ []) (λ x. (slice_split comma text ≡ x.0.now ∷ slice_split comma x.1.now) × (length x.1.now < length text))) is (parts_of text r h)

module _ (at before : ℕ) (rest first others : List ℕ) (split : slice_split comma rest ≡ first ∷ slice_split comma others) where
  -- a good size before others
  pub good_size : (n : ℕ) → size_in before first ≡ Some n → sizes_from at before (slice_split comma rest) ≡ with_size n (sizes_from (at + 1) (before + n) (slice_split comma others))
  good_size n is = ap (sizes_from at before) split ∙ ap (λ o. sizes_on at o (λ m. sizes_from (at + 1) (before + m) (slice_split comma others))) is

  -- a bad size
  pub bad_size : size_in before first ≡ None → sizes_from at before (slice_split comma rest) ≡ Err at
  bad_size is = ap (sizes_from at before) split ∙ ap (λ o. sizes_on at o (λ m. sizes_from (at + 1) (before + m) (slice_split comma others))) is

module _ (at before : ℕ) (rest : List ℕ) (split : slice_split comma rest ≡ rest ∷ []) where
  -- the last size, a good one
  pub last_size : (n : ℕ) → size_in before rest ≡ Some n → sizes_from at before (slice_split comma rest) ≡ Ok (n ∷ [])
  last_size n is = ap (sizes_from at before) split ∙ ap (λ o. sizes_on at o (λ m. Ok [])) is

  -- the last size, a bad one
  pub last_bad : size_in before rest ≡ None → sizes_from at before (slice_split comma rest) ≡ Err at
  last_bad is = ap (sizes_from at before) split ∙ ap (λ o. sizes_on at o (λ m. Ok [])) is
