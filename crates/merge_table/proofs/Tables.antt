-- Tables after a replacement, and what is kept beside them.
use Rattle.std.proofs.Common.{◌≡◌, ℕ, zero, suc, ◌+◌, ◌<◌, ◌≤◌, ◌^◌, Bool, true, false, nat_eq, List, [], ◌∷◌, ◌++◌, length, map, take, drop, set, refl, sym, ◌∙◌, ap, subst, arith, Option, Some, None, ◌⊎◌, ◌≢◌, inl, inr, replicate}
use Rattle.std.specs.Prelude.{slice_get, slice_index, option_map, max}
use Rattle.std.specs.List.{range_with_len}
use Rattle.std.proofs.lemmas.List.FromFn.{length-range_with_len, get_or-range_with_len}
use Rattle.std.proofs.lemmas.Option.{slice_get-map, slice_get-get_or, slice_get_within, get_or_from_slice_get}
use Rattle.std.proofs.lemmas.Bool.Decides.{nat_tests}
use Rattle.std.proofs.lemmas.Bool.{cases_lt, eqb-true, eqb-false, ne_eqb}
use Rattle.std.proofs.lemmas.List.{length-replicate, get_or-replicate, length-set}
use Rattle.dag.specs.Graph.{Graph}
use Rattle.merge_table.specs.Table.{IsFlat, IsCounted, renamed, replaced, count, classes, classes_from}
use Rattle.merge_table.specs.KeepsValues.{AlwaysEqual, KeepsValues}

some_same : (x y : ℕ) → Some x ≡ Some y → x ≡ y
some_same x y e = cc

zero_plus : (k : ℕ) → 0 + k ≡ k
zero_plus k = omega arith

-- the table of nodes that are each retained by themselves
range_at : (n k r : ℕ) → slice_get (range_with_len 0 n) k ≡ Some r → (k < n) × (r ≡ k)
range_at n k r h =
    let lt : k < length (range_with_len 0 n) = slice_get_within (range_with_len 0 n) k r h in
    let le : k < n = omega (arith, lt, length-range_with_len 0 n) in
    (le, sym (get_or_from_slice_get (range_with_len 0 n) k r 0 h) ∙ get_or-range_with_len 0 n k 0 le ∙ zero_plus k)

pub at_range : (n k : ℕ) → k < n → slice_get (range_with_len 0 n) k ≡ Some k
at_range n k lt = slice_get-get_or (range_with_len 0 n) k 0 (omega (arith, lt, length-range_with_len 0 n)) ∙ ap Some (get_or-range_with_len 0 n k 0 lt ∙ zero_plus k)

pub flat_range : (n : ℕ) → IsFlat (range_with_len 0 n)
flat_range n = record {
  before = λ k r h. let p = range_at n k r h in omega (arith, p.1);
  itself = λ k r h. let p = range_at n k r h in at_range n r (omega (arith, p.0, p.1));
}

pub range_keeps : (g : Graph) (n : ℕ) → length g.nodes ≡ n → KeepsValues g (range_with_len 0 n)
range_keeps g n e = record {
  size = length-range_with_len 0 n ∙ sym e;
  flat = flat_range n;
  widths = λ k r h. ap (slice_get g.widths) (range_at n k r h).1;
  values = λ k r h input values are. ap (slice_index values) (range_at n k r h).1;
}

pub range_more : (a n : ℕ) → range_with_len a n ++ (a + n) ∷ [] ≡ range_with_len a (n + 1)
range_more a zero = ap (λ (k : ℕ). k ∷ []) (omega arith)
range_more a (suc n) =
    let one : suc n + 1 ≡ suc (n + 1) = omega arith in
    let e : a + suc n ≡ a + 1 + n = omega arith in
    rw (one, e) (ap (λ (ks : List ℕ). a ∷ ks) (range_more (a + 1) n))

pub range_next : (n : ℕ) → range_with_len 0 n ++ n ∷ [] ≡ range_with_len 0 (n + 1)
range_next n = ap (λ (k : ℕ). range_with_len 0 n ++ k ∷ []) (sym (zero_plus n)) ∙ range_more 0 n

count_late : (a n k : ℕ) → k < a → count k (range_with_len a n) ≡ 0
count_late a zero k lt = refl
count_late a (suc n) k lt = let e : nat_eq a k ≡ false = grind (arith, nat_tests) in rw (e, count_late (a + 1) n k (omega arith)) refl

count_range : (a n k : ℕ) → a ≤ k → k < a + n → count k (range_with_len a n) ≡ 1
count_range a zero k le lt = absurd (omega arith)
count_range a (suc n) k le lt = elim (cases_lt a k) [
  | inl less ↦ (let e : nat_eq a k ≡ false = grind (arith, nat_tests) in rw e (omega (arith, count_range (a + 1) n k (omega arith) (omega arith))))
  | inr ge ↦ (let e : nat_eq a k ≡ true = grind (arith, nat_tests) in rw (e, count_late (a + 1) n k (omega arith)) refl)
]

-- each node of a table of nodes that are retained by themselves is counted once
pub counted_range : (n : ℕ) (counts : List ℕ) → n < 2 ^ 32 → counts ≡ replicate n 1 → IsCounted (range_with_len 0 n) counts (range_with_len 0 n)
counted_range n counts few e = record {
  few = omega (arith, few, length-range_with_len 0 n);
  sizes = ap length e ∙ length-replicate n 1 ∙ sym (length-range_with_len 0 n);
  ends = refl;
  counted = λ k h. let lt : k < n = omega (arith, h, length-range_with_len 0 n) in ap (λ (xs : List ℕ). slice_index xs k) e ∙ get_or-replicate n k 1 0 lt ∙ sym (count_range 0 n k (omega arith) (omega (arith, lt)));
  bounded = λ k r h. let p = range_at n k r h in omega (arith, get_or-range_with_len 0 n r 0 (omega (arith, p.0, p.1)), p.1);
  inside = λ k m h. let p = range_at n k m h in omega (arith, p.0, p.1, length-range_with_len 0 n);
}

renamed_cases : (keep gone r : ℕ) → ((r ≡ gone) × (renamed keep gone r ≡ keep)) ⊎ ((r ≢ gone) × (renamed keep gone r ≡ r))
renamed_cases keep gone r = on (nat_eq r gone) refl
  where
    on : (b : Bool) → b ≡ nat_eq r gone → ((r ≡ gone) × (renamed keep gone r ≡ keep)) ⊎ ((r ≢ gone) × (renamed keep gone r ≡ r))
    on true e = inl (eqb-true r gone (sym e), rw (← e) refl)
    on false e = inr (eqb-false r gone (sym e), rw (← e) refl)

mapped_at : (f : ℕ → ℕ) (xs : List ℕ) (k r : ℕ) → slice_get (map f xs) k ≡ Some r → (x : ℕ) × (slice_get xs k ≡ Some x) × (r ≡ f x)
mapped_at f xs k r h = on (slice_get xs k) refl (sym (slice_get-map f xs k) ∙ h)
  where
    on : (o : Option ℕ) → o ≡ slice_get xs k → option_map f o ≡ Some r → (x : ℕ) × (slice_get xs k ≡ Some x) × (r ≡ f x)
    on (Some x) e h = (x, sym e, sym (some_same (f x) r h))
    on None e h = cc

at_mapped : (f : ℕ → ℕ) (xs : List ℕ) (k x : ℕ) → slice_get xs k ≡ Some x → slice_get (map f xs) k ≡ Some (f x)
at_mapped f xs k x h = slice_get-map f xs k ∙ ap (option_map f) h

pub replaced_flat : (t : List ℕ) (keep gone : ℕ) → IsFlat t → slice_get t keep ≡ Some keep → slice_get t gone ≡ Some gone → keep < gone → IsFlat (replaced keep gone t)
replaced_flat t keep gone flat k-is g-is lt = record {
  before = λ k r h. let p = mapped_at (renamed keep gone) t k r h in elim (renamed_cases keep gone p.0) [
    | inl q ↦ omega (arith, p.2, q.0, q.1, flat.before k p.0 p.1, lt)
    | inr q ↦ omega (arith, p.2, q.1, flat.before k p.0 p.1)
  ];
  itself = λ k r h. let p = mapped_at (renamed keep gone) t k r h in elim (renamed_cases keep gone p.0) [
    | inl q ↦ (let e : r ≡ keep = p.2 ∙ q.1 in rw e (at_mapped (renamed keep gone) t keep keep k-is ∙ ap Some (still keep gone lt)))
    | inr q ↦ (let e : r ≡ p.0 = p.2 ∙ q.1 in rw e (at_mapped (renamed keep gone) t p.0 p.0 (flat.itself k p.0 p.1) ∙ ap Some q.1))
  ];
}
  where
    still : (keep gone : ℕ) → keep < gone → renamed keep gone keep ≡ keep
    still keep gone lt = let e : nat_eq keep gone ≡ false = grind (arith, nat_tests) in rw e refl

mapped_size : (f : ℕ → ℕ) (xs : List ℕ) → length (map f xs) ≡ length xs
mapped_size f [] = refl
mapped_size f (x ∷ xs) = omega (arith, mapped_size f xs)

map_same : (f : ℕ → ℕ) (xs : List ℕ) → ((k r : ℕ) → slice_get xs k ≡ Some r → f r ≡ r) → map f xs ≡ xs
map_same f [] h = refl
map_same f (x ∷ xs) h = let e : f x ≡ x = h 0 x refl in rw (e, map_same f xs (λ k r at. h (suc k) r at)) refl

other_kept : (keep gone r : ℕ) → r ≢ gone → renamed keep gone r ≡ r
other_kept keep gone r ne = rw (ne_eqb r gone ne) refl

taken_at : (n : ℕ) (xs : List ℕ) (k r : ℕ) → slice_get (take n xs) k ≡ Some r → (k < n) × (slice_get xs k ≡ Some r)
taken_at zero xs k r h = cc
taken_at (suc n) [] k r h = cc
taken_at (suc n) (x ∷ xs) zero r h = (omega arith, h)
taken_at (suc n) (x ∷ xs) (suc k) r h = let p = taken_at n xs k r h in (omega (arith, p.0), p.1)

dropped_at : (n : ℕ) (xs : List ℕ) (k r : ℕ) → slice_get (drop n xs) k ≡ Some r → slice_get xs (n + k) ≡ Some r
dropped_at zero xs k r h = let e : 0 + k ≡ k = omega arith in rw e h
dropped_at (suc n) [] k r h = cc
dropped_at (suc n) (x ∷ xs) k r h = let e : suc n + k ≡ suc (n + k) = omega arith in rw e (dropped_at n xs k r h)

-- before its own place no node is retained by `gone`, and none after the last
pub early_same : (t : List ℕ) (keep gone : ℕ) → IsFlat t → map (renamed keep gone) (take gone t) ≡ take gone t
early_same t keep gone flat = map_same _ _ (λ k r h. let p = taken_at gone t k r h in other_kept keep gone r (λ e. absurd (omega (arith, p.0, flat.before k r p.1, e))))

pub late_same : (t counts lasts : List ℕ) (keep gone : ℕ) → IsCounted t counts lasts → map (renamed keep gone) (drop (slice_index lasts gone + 1) t) ≡ drop (slice_index lasts gone + 1) t
late_same t counts lasts keep gone c = map_same _ _ (λ k r h. let p = dropped_at _ t k r h in other_kept keep gone r (λ e. absurd (let b : slice_index lasts gone + 1 + k ≤ slice_index lasts gone = subst (λ (g : ℕ). slice_index lasts gone + 1 + k ≤ slice_index lasts g) e (c.bounded _ r p) in omega (arith, b))))

count_kept : (keep gone : ℕ) (t : List ℕ) → keep < gone → count keep (replaced keep gone t) ≡ count keep t + count gone t
count_kept keep gone [] lt = refl
count_kept keep gone (x ∷ xs) lt = elim (renamed_cases keep gone x) [
  | inl p ↦ (let a : nat_eq x gone ≡ true = grind (arith, nat_tests, p.0) in let b : nat_eq x keep ≡ false = grind (arith, nat_tests, p.0) in let c : nat_eq keep keep ≡ true = grind (arith, nat_tests) in rw (p.1, a, b, c) (omega (arith, count_kept keep gone xs lt)))
  | inr p ↦ (let a : nat_eq x gone ≡ false = ne_eqb x gone p.0 in rw (p.1, a) (omega (arith, count_kept keep gone xs lt)))
]

count_other : (keep gone k : ℕ) (t : List ℕ) → k ≢ keep → k ≢ gone → count k (replaced keep gone t) ≡ count k t
count_other keep gone k [] p q = refl
count_other keep gone k (x ∷ xs) p q = elim (renamed_cases keep gone x) [
  | inl r ↦ (let a : nat_eq keep k ≡ false = ne_eqb keep k (λ e. p (sym e)) in let b : nat_eq x k ≡ false = ne_eqb x k (λ e. q (sym e ∙ r.0)) in rw (r.1, a, b) (omega (arith, count_other keep gone k xs p q)))
  | inr r ↦ rw r.1 (omega (arith, count_other keep gone k xs p q))
]

pub counts_within : (a b : ℕ) (t : List ℕ) → a < b → count a t + count b t ≤ length t
counts_within a b [] lt = omega arith
counts_within a b (x ∷ xs) lt = on (nat_eq x a) (nat_eq x b) refl refl (counts_within a b xs lt)
  where
    on : (p q : Bool) → p ≡ nat_eq x a → q ≡ nat_eq x b → count a xs + count b xs ≤ length xs → count a (x ∷ xs) + count b (x ∷ xs) ≤ length (x ∷ xs)
    on true true e f h = absurd (omega (arith, eqb-true x a (sym e), eqb-true x b (sym f), lt))
    on true false e f h = rw (← e, ← f) (omega (arith, h))
    on false true e f h = rw (← e, ← f) (omega (arith, h))
    on false false e f h = rw (← e, ← f) (omega (arith, h))

get_set : (xs : List ℕ) (i k y : ℕ) → i < length xs → ((k ≡ i) × (slice_index (set xs i y) k ≡ y)) ⊎ ((k ≢ i) × (slice_index (set xs i y) k ≡ slice_index xs k))
get_set [] i k y lt = absurd (omega arith)
get_set (x ∷ xs) zero zero y lt = inl (refl, refl)
get_set (x ∷ xs) zero (suc k) y lt = inr ((λ e. absurd (omega (arith, e))), refl)
get_set (x ∷ xs) (suc i) zero y lt = inr ((λ e. absurd (omega (arith, e))), refl)
get_set (x ∷ xs) (suc i) (suc k) y lt = elim (get_set xs i k y (omega arith)) [
  | inl p ↦ inl (ap suc p.0, p.1)
  | inr p ↦ inr ((λ e. p.0 (omega (arith, e))), p.1)
]

-- a node's retained node still has the same value and width on each input
pub replaced_keeps : (g : Graph) (t : List ℕ) (keep gone : ℕ) → KeepsValues g t → AlwaysEqual g keep gone → slice_get g.widths keep ≡ slice_get g.widths gone → slice_get t keep ≡ Some keep → slice_get t gone ≡ Some gone → keep < gone → KeepsValues g (replaced keep gone t)
replaced_keeps g t keep gone h equal wide k-is g-is lt = record {
  size = mapped_size (renamed keep gone) t ∙ h.size;
  flat = replaced_flat t keep gone h.flat k-is g-is lt;
  widths = λ k r at. let p = mapped_at (renamed keep gone) t k r at in elim (renamed_cases keep gone p.0) [
    | inl q ↦ ap (slice_get g.widths) (p.2 ∙ q.1) ∙ wide ∙ ap (slice_get g.widths) (sym q.0) ∙ h.widths k p.0 p.1
    | inr q ↦ ap (slice_get g.widths) (p.2 ∙ q.1) ∙ h.widths k p.0 p.1
  ];
  values = λ k r at input values are. let p = mapped_at (renamed keep gone) t k r at in elim (renamed_cases keep gone p.0) [
    | inl q ↦ ap (slice_index values) (p.2 ∙ q.1) ∙ equal input values are ∙ ap (slice_index values) (sym q.0) ∙ h.values k p.0 p.1 input values are
    | inr q ↦ ap (slice_index values) (p.2 ∙ q.1) ∙ h.values k p.0 p.1 input values are
  ];
}

-- nothing is retained by `gone` any more
count_gone : (keep gone : ℕ) (t : List ℕ) → keep < gone → count gone (replaced keep gone t) ≡ 0
count_gone keep gone [] lt = refl
count_gone keep gone (x ∷ xs) lt = let e : nat_eq (renamed keep gone x) gone ≡ false = ne_eqb _ _ (other x) in rw (e, count_gone keep gone xs lt) refl
  where
    other : (x : ℕ) → renamed keep gone x ≢ gone
    other x is = elim (renamed_cases keep gone x) [
      | inl p ↦ absurd (omega (arith, lt, is, p.1))
      | inr p ↦ p.0 (sym p.1 ∙ is)
    ]

-- what is kept beside a table after a replacement
pub replaced_counted : (t counts lasts : List ℕ) (keep gone : ℕ) → IsFlat t → IsCounted t counts lasts → slice_get t keep ≡ Some keep → slice_get t gone ≡ Some gone → keep < gone
    → IsCounted (replaced keep gone t) (set (set counts keep (slice_index counts keep + slice_index counts gone)) gone 0) (set lasts keep (max (slice_index lasts keep) (slice_index lasts gone)))
replaced_counted t counts lasts keep gone flat c k-is g-is lt =
    let k-in : keep < length t = slice_get_within t keep keep k-is in
    let g-in : gone < length t = slice_get_within t gone gone g-is in
    let kc : keep < length counts = omega (arith, k-in, c.sizes) in
    let kl : keep < length lasts = omega (arith, k-in, c.ends) in
    let gl : gone < length lasts = omega (arith, g-in, c.ends) in
    record {
      few = omega (arith, mapped_size (renamed keep gone) t, c.few);
      sizes = length-set (set counts keep (slice_index counts keep + slice_index counts gone)) gone 0 ∙ length-set counts keep (slice_index counts keep + slice_index counts gone) ∙ c.sizes ∙ sym (mapped_size (renamed keep gone) t);
      ends = length-set lasts keep (max (slice_index lasts keep) (slice_index lasts gone)) ∙ c.ends ∙ sym (mapped_size (renamed keep gone) t);
      counted = λ k h.
          let k-at : k < length t = omega (arith, h, mapped_size (renamed keep gone) t) in
          let gc : gone < length (set counts keep (slice_index counts keep + slice_index counts gone)) = omega (arith, g-in, c.sizes, length-set counts keep (slice_index counts keep + slice_index counts gone)) in
          elim (get_set (set counts keep (slice_index counts keep + slice_index counts gone)) gone k 0 gc) [
            | inl p ↦ p.1 ∙ sym (count_gone keep gone t lt) ∙ ap (λ (n : ℕ). count n (replaced keep gone t)) (sym p.0)
            | inr p ↦ p.1 ∙ elim (get_set counts keep k (slice_index counts keep + slice_index counts gone) kc) [
              | inl q ↦ q.1 ∙ sums (slice_index counts keep) (slice_index counts gone) _ _ (c.counted keep k-in) (c.counted gone g-in) ∙ sym (count_kept keep gone t lt) ∙ ap (λ (n : ℕ). count n (replaced keep gone t)) (sym q.0)
              | inr q ↦ q.1 ∙ c.counted k k-at ∙ sym (count_other keep gone k t q.0 p.0)
            ]
          ];
      bounded = λ k r h. let q = mapped_at (renamed keep gone) t k r h in elim (renamed_cases keep gone q.0) [
        | inl s ↦ (let e : r ≡ keep = q.2 ∙ s.1 in elim (get_set lasts keep r (max (slice_index lasts keep) (slice_index lasts gone)) kl) [
          | inl p ↦ (let b : k ≤ slice_index lasts q.0 = c.bounded k q.0 q.1 in let b2 : k ≤ slice_index lasts gone = subst (λ (n : ℕ). k ≤ slice_index lasts n) s.0 b in omega (arith, p.1, b2))
          | inr p ↦ absurd (p.0 e)
        ])
        | inr s ↦ (let e : q.0 ≡ r = sym (q.2 ∙ s.1) in let b : k ≤ slice_index lasts r = subst (λ (n : ℕ). k ≤ slice_index lasts n) e (c.bounded k q.0 q.1) in elim (get_set lasts keep r (max (slice_index lasts keep) (slice_index lasts gone)) kl) [
          | inl p ↦ (let b2 : k ≤ slice_index lasts keep = subst (λ (n : ℕ). k ≤ slice_index lasts n) p.0 b in omega (arith, p.1, b2))
          | inr p ↦ omega (arith, p.1, b)
        ])
      ];
      inside = λ k n h.
          let k-in2 : k < length lasts = omega (arith, slice_get_within _ k n h, length-set lasts keep (max (slice_index lasts keep) (slice_index lasts gone))) in
          let n-is : slice_index (set lasts keep (max (slice_index lasts keep) (slice_index lasts gone))) k ≡ n = get_or_from_slice_get _ k n 0 h in
          elim (get_set lasts keep k (max (slice_index lasts keep) (slice_index lasts gone)) kl) [
            | inl p ↦ omega (arith, p.1, n-is, mapped_size (renamed keep gone) t, last_in keep kl, last_in gone gl)
            | inr p ↦ omega (arith, p.1, n-is, mapped_size (renamed keep gone) t, last_in k k-in2)
          ];
    }
  where
    sums : (a b x y : ℕ) → a ≡ x → b ≡ y → a + b ≡ x + y
    sums a b x y p q = omega arith

    last_in : (k : ℕ) → k < length lasts → slice_index lasts k + 1 ≤ length t
    last_in k h = c.inside k (slice_index lasts k) (slice_get-get_or lasts k 0 h)

-- each place of these is retained by no later one
Before : ℕ → List ℕ → Type 0
Before a t = (i r : ℕ) → slice_get t i ≡ Some r → r ≤ a + i

before_rest : (a r : ℕ) (t : List ℕ) → Before a (r ∷ t) → Before (a + 1) t
unfolding Before
before_rest a r t h i s at = omega (arith, h (suc i) s at)

-- whether a place retains itself changes at `gone` alone
other_place : (keep gone k r : ℕ) → keep < gone → k ≢ gone → r ≤ k → nat_eq (renamed keep gone r) k ≡ nat_eq r k
other_place keep gone k r lt ne le = elim (renamed_cases keep gone r) [
  | inl p ↦ (let e : nat_eq keep k ≡ false = ne_eqb keep k (λ f. absurd (omega (arith, lt, le, p.0, f))) in let d : nat_eq r k ≡ false = ne_eqb r k (λ f. ne (sym f ∙ p.0)) in rw p.1 (e ∙ sym d))
  | inr p ↦ rw p.1 refl
]

classes_kept : (keep gone a : ℕ) (t : List ℕ) → keep < gone → gone < a → Before a t → classes_from a (replaced keep gone t) ≡ classes_from a t
unfolding Before
classes_kept keep gone a [] lt past h = refl
classes_kept keep gone a (r ∷ t) lt past h =
    let le : r ≤ a = omega (arith, h 0 r refl) in
    let ne : a ≢ gone = (λ e. absurd (omega (arith, past, e))) in
    rw (other_place keep gone a r lt ne le, classes_kept keep gone (a + 1) t lt (omega arith) (before_rest a r t h)) refl

classes_fall : (keep gone a d : ℕ) (t : List ℕ) → keep < gone → a + d ≡ gone → slice_get t d ≡ Some gone → Before a t → classes_from a (replaced keep gone t) + 1 ≡ classes_from a t
unfolding Before
classes_fall keep gone a d [] lt e at h = cc
classes_fall keep gone a zero (r ∷ t) lt e at h =
    let is : r ≡ gone = some_same r gone at in
    let here : a ≡ gone = omega (arith, e) in
    let new : nat_eq (renamed keep gone r) a ≡ false = (elim (renamed_cases keep gone r) [
      | inl p ↦ rw p.1 (ne_eqb keep a (λ f. absurd (omega (arith, lt, here, f))))
      | inr p ↦ absurd (p.0 is)
    ]) in
    let old : nat_eq r a ≡ true = grind (arith, nat_tests) in
    rw (new, old, classes_kept keep gone (a + 1) t lt (omega (arith, here)) (before_rest a r t h)) (omega arith)
classes_fall keep gone a (suc d) (r ∷ t) lt e at h =
    let le : r ≤ a = omega (arith, h 0 r refl) in
    let ne : a ≢ gone = (λ f. absurd (omega (arith, e, f))) in
    let more : classes_from (a + 1) (replaced keep gone t) + 1 ≡ classes_from (a + 1) t = classes_fall keep gone (a + 1) d t lt (omega (arith, e)) at (before_rest a r t h) in
    rw (other_place keep gone a r lt ne le) (omega (arith, more))

-- a replacement makes one class less
pub replaced_classes : (t : List ℕ) (keep gone : ℕ) → IsFlat t → slice_get t gone ≡ Some gone → keep < gone → classes (replaced keep gone t) + 1 ≡ classes t
unfolding Before
replaced_classes t keep gone flat g-is lt = classes_fall keep gone 0 gone t lt (zero_plus gone) g-is (λ i r at. omega (arith, flat.before i r at))

classes_range : (a n : ℕ) → classes_from a (range_with_len a n) ≡ n
classes_range a zero = refl
classes_range a (suc n) = let e : nat_eq a a ≡ true = grind (arith, nat_tests) in rw (e, classes_range (a + 1) n) (omega arith)

-- as many classes as nodes, where each is retained by itself
pub range_classes : (n : ℕ) → classes (range_with_len 0 n) ≡ n
range_classes n = classes_range 0 n
