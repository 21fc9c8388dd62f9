-- What a split by one leaves and gives of numbers from 0 on whose lists are empty.
use Rattle.std.proofs.Common.{◌≡◌, ℕ, zero, suc, ◌+◌, ◌-◌, ◌<◌, List, [], ◌∷◌, ◌++◌, length, take, drop, sym, ap, ◌∙◌, subst, arith}
use Rattle.std.specs.Prelude.{slice_index_or}
use Rattle.turn_lock.specs.Entries.{Rows, ConsecutiveFrom, empty_rows, least_of, numbers_of}
use Rattle.turn_lock.specs.Seen.{AreDealt, AreNumbered, LockName, SeenPass}
use Rattle.turn_lock.proofs.RowLemmas.{ConsecutiveFrom-same, length-same, length-empty_rows, ConsecutiveFrom-empty_rows, least_of-consecutive, take-empty_rows, drop-empty_rows}

module _ {E : Type 0} where
  -- the first pass has the numbers below the last
  pub first_left : (n : ℕ) (rows rest : Rows E) → rows ≡ empty_rows 0 n → rest ≡ take (length rows - 1) rows → 1 < n → rest ≡ empty_rows 0 (n - 1)
  first_left n rows rest e r lt = r ∙ ap (λ (l : Rows E). take (length l - 1) l) e
      ∙ (let m : ℕ = n - 1 in let s : n ≡ suc m = omega arith in ap (λ (j : ℕ). take (length (empty_rows {E = E} 0 j) - 1) (empty_rows {E = E} 0 j)) s
      ∙ ap (λ (j : ℕ). take j (empty_rows {E = E} 0 (suc m))) (let l = length-empty_rows E 0 (suc m) in let g : length (empty_rows {E = E} 0 (suc m)) - 1 ≡ m = omega arith in g) ∙ take-empty_rows 0 m)

  -- the second pass has the last number
  pub last_given : (n : ℕ) (rows one : Rows E) → rows ≡ empty_rows 0 n → one ≡ drop (length rows - 1) rows → 1 < n → one ≡ empty_rows (n - 1) 1
  last_given n rows one e r lt = let m : ℕ = n - 1 in let s : n ≡ suc m = omega arith in
      r ∙ ap (λ (l : Rows E). drop (length l - 1) l) e ∙ ap (λ (j : ℕ). drop (length (empty_rows {E = E} 0 j) - 1) (empty_rows {E = E} 0 j)) s
      ∙ ap (λ (j : ℕ). drop j (empty_rows {E = E} 0 (suc m))) (let l = length-empty_rows E 0 (suc m) in let g : length (empty_rows {E = E} 0 (suc m)) - 1 ≡ m = omega arith in g) ∙ drop-empty_rows 0 m
      ∙ ap (λ (j : ℕ). empty_rows {E = E} j 1) (let g : 0 + m ≡ n - 1 = omega arith in g)

  -- such numbers may be split by one
  pub may_split : (n : ℕ) (rows : Rows E) → rows ≡ empty_rows 0 n → 1 < n → ConsecutiveFrom (least_of rows) rows × (0 < 1) × (1 < length rows)
  may_split n rows e lt = subst (λ (l : Rows E). ConsecutiveFrom (least_of l) l × (0 < 1) × (1 < length l)) (sym e)
      (let f = ConsecutiveFrom-empty_rows E 0 n in let l = length-empty_rows E 0 n in (subst (λ (j : ℕ). ConsecutiveFrom j (empty_rows {E = E} 0 n)) (sym (least_of-consecutive 0 (empty_rows 0 n) (omega arith) f)) f, omega arith, omega arith))

module _ {O E : Type 0} where
  -- one pass more was dealt
  pub dealt_more : (lock : LockName O E) (n : ℕ) (ps : List (SeenPass O E)) (p : SeenPass O E) → AreDealt lock n ps → p.lock ≡ lock → p.rows ≡ empty_rows (n - length ps) 1 → AreDealt lock n (ps ++ p ∷ [])
  dealt_more lock n [] p dealt same rows = (same, rows ∙ ap (λ (j : ℕ). empty_rows {E = E} j 1) (let g : n - 0 ≡ n = omega arith in g), tt)
  dealt_more lock n (q ∷ qs) p dealt same rows = (
    dealt.0,
    dealt.1,
    dealt_more lock (n - 1) qs p dealt.2 same (rows ∙ ap (λ (j : ℕ). empty_rows {E = E} j 1) (let g : n - suc (length qs) ≡ n - 1 - length qs = omega arith in g)),
  )

  -- dealt passes are of their lock
  pub dealt_lock : (lock : LockName O E) (n : ℕ) (ps : List (SeenPass O E)) (i : ℕ) (p : SeenPass O E) → AreDealt lock n ps → i < length ps → p ≡ slice_index_or ps i p → p.lock ≡ lock
  dealt_lock lock n [] i p dealt lt at = absurd (omega (arith, lt))
  dealt_lock lock n (q ∷ qs) zero p dealt lt at = ap (λ (o : SeenPass O E). o.lock) at ∙ dealt.0
  dealt_lock lock n (q ∷ qs) (suc i) p dealt lt at = dealt_lock lock (n - 1) qs i p dealt.2 (omega (arith, lt)) at

  -- the last of numbered passes, and those before it
  pub last_numbered : (lock : LockName O E) (n : ℕ) (ps : List (SeenPass O E)) (p : SeenPass O E) → AreNumbered lock n (ps ++ p ∷ []) → AreNumbered lock n ps × ((p.lock ≡ lock) × (length p.rows ≡ 1) × ConsecutiveFrom (n - length ps) p.rows)
  last_numbered lock n [] p are = (tt, (are.0, are.1, subst (λ (j : ℕ). ConsecutiveFrom j p.rows) (let g : n ≡ n - 0 = omega arith in g) are.2))
  last_numbered lock n (q ∷ qs) p are =
      let rest = last_numbered lock (n - 1) qs p are.3 in
      ((are.0, are.1, are.2, rest.0), (rest.1.0, rest.1.1, subst (λ (j : ℕ). ConsecutiveFrom j p.rows) (let g : n - 1 - length qs ≡ n - suc (length qs) = omega arith in g) rest.1.2))

module _ {E : Type 0} where
  -- numbers that go on where others end
  pub joined_rise : (k m : ℕ) (xs ys : Rows E) → ConsecutiveFrom k xs → m ≡ k + length xs → ConsecutiveFrom m ys → ConsecutiveFrom k (xs ++ ys)
  joined_rise k m [] ys a e b = subst (λ (j : ℕ). ConsecutiveFrom j ys) (let g : m ≡ k = omega (arith, e) in g) b
  joined_rise k m (x ∷ xs) ys a e b = (a.0, joined_rise (suc k) m xs ys a.1 (omega (arith, e)) b)

module _ {O E : Type 0} where
  -- passes with the numbers of dealt ones, whatever entries they have
  pub numbered_like : (lock : LockName O E) (n : ℕ) (d : SeenPass O E) (js rs : List (SeenPass O E)) → AreDealt lock n js → length rs ≡ length js
      → ((i : ℕ) → i < length js → ((slice_index_or rs i d).lock ≡ (slice_index_or js i d).lock) × (numbers_of (slice_index_or rs i d).rows ≡ numbers_of (slice_index_or js i d).rows)) → AreNumbered lock n rs
  numbered_like lock n d [] [] dealt e each = tt
  numbered_like lock n d [] (r ∷ rs) dealt e each = absurd (omega (arith, e))
  numbered_like lock n d (j ∷ js) [] dealt e each = absurd (omega (arith, e))
  numbered_like lock n d (j ∷ js) (r ∷ rs) dealt e each =
      let here = each 0 (omega arith) in
      let one : ConsecutiveFrom n j.rows = subst (λ (l : Rows E). ConsecutiveFrom n l) (sym dealt.1) (ConsecutiveFrom-empty_rows E n 1) in (
        here.0 ∙ dealt.0,
        length-same r.rows j.rows here.1 ∙ ap (λ (l : Rows E). length l) dealt.1,
        ConsecutiveFrom-same n r.rows j.rows here.1 one,
        numbered_like lock (n - 1) d js rs dealt.2 (omega (arith, e)) (λ i lt. each (suc i) (omega (arith, lt))),
      )
