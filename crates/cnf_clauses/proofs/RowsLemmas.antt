-- What is read of rows, and what a push leaves.
use Rattle.std.proofs.Common.{◌≡◌, ℕ, ◌+◌, ◌-◌, ◌<◌, ◌≤◌, List, [], ◌∷◌, ◌++◌, length, take, drop, get_or, refl, sym, ◌∙◌, ap, arith, ⊎_elim, ◌^◌, zero, suc}
use Rattle.std.proofs.lemmas.List.{get_or_append_left, get_or_push, drop-append-le, take-append-le, length-drop, drop_at, length_push, length-append, get_or-take, length-take, length-take-le, take-append-drop, take_more, take_all}
use Rattle.std.proofs.Math.Seq.{take-append_seam}
use Rattle.std.proofs.lemmas.List.FromFn.{length-map-range_with_len, get_or-map-range_with_len, fill_by_all}
use Rattle.std.proofs.lemmas.Bool.{cases_lt}
use Rattle.cnf_clauses.specs.Rows.{row_start, row_at, rows_of, AreRows}

pub length-rows_of : {T : Type 0} (xs : List T) (es : List ℕ) → length (rows_of xs es) ≡ length es
unfolding rows_of
length-rows_of xs es = length-map-range_with_len (row_at xs es) 0 (length es)

pub get_or-rows_of : {T : Type 0} (xs : List T) (es : List ℕ) (k : ℕ) → k < length es → get_or (rows_of xs es) k [] ≡ row_at xs es k
unfolding rows_of
get_or-rows_of xs es k h = get_or-map-range_with_len (row_at xs es) 0 (length es) k k [] h (omega arith)

start_same : (es : List ℕ) (n k : ℕ) → k ≤ length es → row_start (es ++ n ∷ []) k ≡ row_start es k
start_same es n k h = get_or_append_left (0 ∷ es) (n ∷ []) 0 k (omega arith)

pub AreRows-push : {T : Type 0} (xs c : List T) (es : List ℕ) (n : ℕ) → AreRows xs es → n ≡ length xs + length c → n < 2 ^ 32 → AreRows (xs ++ c) (es ++ n ∷ [])
AreRows-push xs c es n r e small = record {
  few = omega (arith, length-append xs c);
  rising = λ k h. ⊎_elim (λ lt. rw (start_same es n k (omega arith), get_or_append_left es (n ∷ []) 0 k lt) (r.rising k lt))
      (λ ge. rw (start_same es n k (omega (arith, length_push es n))) (let k-is : k ≡ length es = omega (arith, length_push es n) in rw (k-is, get_or_push es n 0 (length es) refl, r.last) (omega arith))) (cases_lt k (length es));
  inside = λ k h. ⊎_elim (λ lt. rw (get_or_append_left es (n ∷ []) 0 k lt) (omega (arith, r.inside k lt, length-append xs c)))
      (λ (ge : length es ≤ k). let k-is : k ≡ length es = omega (arith, length_push es n) in rw (k-is, get_or_push es n 0 (length es) refl) (omega (arith, length-append xs c))) (cases_lt k (length es));
  last = rw (length_push es n) (get_or_push (0 ∷ es) n 0 (length es + 1) (omega arith) ∙ (e ∙ sym (length-append xs c)));
}

row_same : {T : Type 0} (xs c : List T) (es : List ℕ) (n k : ℕ) → AreRows xs es → k < length es → row_at (xs ++ c) (es ++ n ∷ []) k ≡ row_at xs es k
unfolding row_at
row_same xs c es n k r h =
    let low : get_or (0 ∷ es) k 0 ≤ get_or es k 0 = r.rising k h in
    let high : get_or es k 0 ≤ length xs = r.inside k h in
    let room : get_or es k 0 - get_or (0 ∷ es) k 0 ≤ length (drop (get_or (0 ∷ es) k 0) xs) = omega (arith, length-drop (get_or (0 ∷ es) k 0) xs) in
    rw (start_same es n k (omega arith), get_or_append_left es (n ∷ []) 0 k h, drop-append-le (get_or (0 ∷ es) k 0) xs c (omega arith), take-append-le (get_or es k 0 - get_or (0 ∷ es) k 0) (drop (get_or (0 ∷ es) k 0) xs) c room) refl

row_last : {T : Type 0} (xs c : List T) (es : List ℕ) (n : ℕ) → AreRows xs es → n ≡ length xs + length c → row_at (xs ++ c) (es ++ n ∷ []) (length es) ≡ c
unfolding row_at
row_last xs c es n r e =
    rw (start_same es n (length es) (omega arith), r.last, get_or_push es n 0 (length es) refl, drop_at xs c (length xs) refl) (take_all (n - length xs) c (omega arith))

pub rows_of-push : {T : Type 0} (xs c : List T) (es : List ℕ) (n : ℕ) → AreRows xs es → n ≡ length xs + length c → rows_of (xs ++ c) (es ++ n ∷ []) ≡ rows_of xs es ++ c ∷ []
unfolding rows_of
rows_of-push xs c es n r e =
    sym (fill_by_all (row_at (xs ++ c) (es ++ n ∷ [])) (rows_of xs es ++ c ∷ []) (length (es ++ n ∷ [])) [] (length_push (rows_of xs es) c ∙ (ap (λ m. m + 1) (length-rows_of xs es) ∙ sym (length_push es n)))
    (λ k h. ⊎_elim (λ lt. get_or_append_left (rows_of xs es) (c ∷ []) [] k (omega (arith, length-rows_of xs es)) ∙ (get_or-rows_of xs es k lt ∙ sym (row_same xs c es n k r lt)))
    (λ (ge : length es ≤ k). let k-is : k ≡ length es = omega (arith, length_push es n) in get_or_push (rows_of xs es) c [] k (length-rows_of xs es ∙ sym k-is) ∙ (sym (row_last xs c es n r e) ∙ ap (row_at (xs ++ c) (es ++ n ∷ [])) (sym k-is))) (cases_lt k (length es))))

-- without the last row
start_before : (es : List ℕ) (n k : ℕ) → k ≤ n → row_start (take n es) k ≡ row_start es k
start_before es n zero h = refl
start_before es n (suc k) h = get_or-take n es k 0 (omega arith)

starts_rise : {T : Type 0} (xs : List T) (es : List ℕ) (k : ℕ) (n : ℕ) → AreRows xs es → k ≤ n → n ≤ length es → row_start es k ≤ row_start es n
starts_rise xs es k zero r h low = let same : k ≡ 0 = omega arith in rw same (omega arith)
starts_rise xs es k (suc n) r h low =
    ⊎_elim (λ lt. let before : row_start es k ≤ row_start es n = starts_rise xs es k n r (omega arith) (omega arith) in omega (arith, before, r.rising n (omega arith)))
    (λ (ge : suc n ≤ k). let same : k ≡ suc n = omega arith in rw same (omega arith)) (cases_lt k (suc n))

pub AreRows-pop : {T : Type 0} (xs : List T) (es : List ℕ) (n : ℕ) → AreRows xs es → n + 1 ≡ length es → AreRows (take (row_start es n) xs) (take n es)
AreRows-pop xs es n r e =
    let s : ℕ = row_start es n in
    let s-in : s ≤ length xs = omega (arith, r.rising n (omega arith), r.inside n (omega arith)) in
    record {
      rising = λ k h. let low : k < n = omega (arith, length-take n es) in rw (start_before es n k (omega arith), get_or-take n es k 0 low) (r.rising k (omega arith));
      inside = λ k h. let low : k < n = omega (arith, length-take n es) in
          rw (get_or-take n es k 0 low, length-take-le s xs s-in) (starts_rise xs es (suc k) n r (omega arith) (omega arith));
      last = rw (length-take-le n es (omega arith), length-take-le s xs s-in) (start_before es n n (omega arith));
      few = omega (arith, length-take s xs, r.few);
    }

pub rows_of-pop : {T : Type 0} (xs : List T) (es : List ℕ) (n : ℕ) → AreRows xs es → n + 1 ≡ length es → rows_of (take (row_start es n) xs) (take n es) ≡ take n (rows_of xs es)
rows_of-pop {T} xs es n r e =
    let s : ℕ = row_start es n in
    let end : ℕ = get_or es n 0 in
    let front : List ℕ = take n es in
    let ends-are : es ≡ front ++ end ∷ [] = sym (take_all (n + 1) es (omega arith)) ∙ take_more es n 0 (omega arith) in
    let items-are : xs ≡ take s xs ++ drop s xs = sym (take-append-drop s xs) in
    let end-is : end ≡ length xs = sym (ap (λ (k : ℕ). row_start es k) (let next : suc n ≡ length es = omega arith in sym next)) ∙ r.last in
    let sum : end ≡ length (take s xs) + length (drop s xs) = omega (arith, end-is, ap length items-are, length-append (take s xs) (drop s xs)) in
    let whole : rows_of xs es ≡ rows_of (take s xs) front ++ drop s xs ∷ [] =
    ap (λ (zs : List T). rows_of zs es) items-are ∙ (ap (rows_of (take s xs ++ drop s xs)) ends-are ∙ rows_of-push (take s xs) (drop s xs) front end (AreRows-pop xs es n r e) sum) in
    let count : length (rows_of (take s xs) front) ≡ n = length-rows_of (take s xs) front ∙ length-take-le n es (omega arith) in
    sym (ap (take n) whole ∙ (ap (λ (k : ℕ). take k (rows_of (take s xs) front ++ drop s xs ∷ [])) (sym count) ∙ take-append_seam (rows_of (take s xs) front) (drop s xs ∷ [])))
