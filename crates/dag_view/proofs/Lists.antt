-- Lists of numbers: which numbers are among them, and in which order they stand.
use Rattle.std.proofs.Common.{◌≡◌, ◌⊎◌, ℕ, zero, suc, ◌+◌, ◌-◌, ◌<◌, ◌≤◌, List, [], ◌∷◌, ◌++◌, length, reverse, take, refl, sym, ◌∙◌, ap, subst, arith, Option, Some, inl, inr}
use Rattle.std.specs.Prelude.{◌↔◌, All, slice_get, slice_index}
use Rattle.std.specs.declared.cmp.Ordering.{Ordering}
use Rattle.std.specs.declared.cmp.Ordering.TheVariants.{Less, Equal, Greater}
use Rattle.std.specs.Ordering.{nat_cmp, match_ordering}
use Rattle.std.specs.Cmp.{nat_cmp_is}
use Rattle.std.specs.BTreeSet.{insert_key}
use Rattle.std.proofs.lemmas.Bool.{cases_lt}
use Rattle.std.proofs.lemmas.List.{length-reverse, get_or-reverse, get_or_append_left}
use Rattle.std.proofs.Math.Seq.{get_or-append_seam}
use Rattle.std.proofs.lemmas.Option.{slice_get_within, slice_get-get_or, get_or_from_slice_get}
use Rattle.dag.proofs.Lists.{snoc_cases}
use Rattle.dag_view.specs.Under.{Among, IsRising, IsFalling}

pub among_at : (xs : List ℕ) (k x : ℕ) → slice_get xs k ≡ Some x → Among xs x
unfolding Among
among_at [] k x at = cc
among_at (y ∷ ys) zero x at = inl (let e : y ≡ x = cc in e)
among_at (y ∷ ys) (suc k) x at = inr (among_at ys k x at)

pub at_among : (xs : List ℕ) (x : ℕ) → Among xs x → (k : ℕ) × (slice_get xs k ≡ Some x)
unfolding Among
at_among [] x h = absurd h
at_among (y ∷ ys) x (inl e) = (0, ap (λ (n : ℕ). let o : Option ℕ = Some n in o) e)
at_among (y ∷ ys) x (inr h) = let p = at_among ys x h in (suc p.0, p.1)

pub among_none : (x : ℕ) → Among [] x → ⊥
unfolding Among
among_none x h = h

pub among_front : (xs ys : List ℕ) (x : ℕ) → Among xs x → Among (xs ++ ys) x
unfolding Among
among_front [] ys x h = absurd h
among_front (z ∷ zs) ys x (inl e) = inl e
among_front (z ∷ zs) ys x (inr h) = inr (among_front zs ys x h)

pub among_last : (xs : List ℕ) (x : ℕ) → Among (xs ++ x ∷ []) x
unfolding Among
among_last [] x = inl refl
among_last (z ∷ zs) x = inr (among_last zs x)

pub among_snoc : (xs : List ℕ) (y x : ℕ) → Among (xs ++ y ∷ []) x → Among xs x ⊎ (y ≡ x)
unfolding Among
among_snoc [] y x (inl e) = inr e
among_snoc [] y x (inr h) = absurd h
among_snoc (z ∷ zs) y x (inl e) = inl (inl e)
among_snoc (z ∷ zs) y x (inr h) = elim (among_snoc zs y x h) [
  | inl p ↦ inl (inr p)
  | inr e ↦ inr e
]

nat_equal : (x y : ℕ) → nat_cmp x y ≡ Equal → x ≡ y
nat_equal x y e = elim (cases_lt x y) [
  | inl lt ↦ (let p : Less ≡ Equal = nat_cmp_is x y Less lt ∙ e in cc)
  | inr ge ↦ elim (cases_lt y x) [
    | inl lt ↦ (let p : Greater ≡ Equal = nat_cmp_is x y Greater lt ∙ e in cc)
    | inr le ↦ omega (arith, ge, le)
  ]
]

nat_less : (x y : ℕ) → nat_cmp x y ≡ Less → x < y
nat_less x y e = elim (cases_lt x y) [
  | inl lt ↦ lt
  | inr ge ↦ elim (cases_lt y x) [
    | inl lt ↦ (let p : Greater ≡ Less = nat_cmp_is x y Greater lt ∙ e in cc)
    | inr le ↦ (let q : x ≡ y = omega (arith, ge, le) in let p : Equal ≡ Less = nat_cmp_is x y Equal q ∙ e in cc)
  ]
]

-- what is put among numbers in order
inserted : (ks : List ℕ) (id k : ℕ) → Among (insert_key nat_cmp ks id) k → (k ≡ id) ⊎ Among ks k
unfolding Among
inserted [] id k (inl e) = inl (sym e)
inserted [] id k (inr h) = inr h
inserted (x ∷ xs) id k h = by (nat_cmp id x) (inserted xs id k) h
  where
    by : (o : Ordering) → (Among (insert_key nat_cmp xs id) k → (k ≡ id) ⊎ Among xs k) → Among (match_ordering o (id ∷ x ∷ xs) (x ∷ xs) (x ∷ insert_key nat_cmp xs id)) k → (k ≡ id) ⊎ Among (x ∷ xs) k
    by Less more (inl e) = inl (sym e)
    by Less more (inr p) = inr p
    by Equal more p = inr p
    by Greater more (inl e) = inr (inl e)
    by Greater more (inr p) = elim (more p) [
      | inl e ↦ inl e
      | inr q ↦ inr (inr q)
    ]

insert_kept : (ks : List ℕ) (id k : ℕ) → Among ks k → Among (insert_key nat_cmp ks id) k
unfolding Among
insert_kept [] id k h = absurd h
insert_kept (x ∷ xs) id k h = by (nat_cmp id x) (insert_kept xs id k) h
  where
    by : (o : Ordering) → (Among xs k → Among (insert_key nat_cmp xs id) k) → Among (x ∷ xs) k → Among (match_ordering o (id ∷ x ∷ xs) (x ∷ xs) (x ∷ insert_key nat_cmp xs id)) k
    by Less more p = inr p
    by Equal more p = p
    by Greater more (inl e) = inl e
    by Greater more (inr p) = inr (more p)

insert_there : (ks : List ℕ) (id : ℕ) → Among (insert_key nat_cmp ks id) id
unfolding Among
insert_there [] id = inl refl
insert_there (x ∷ xs) id = by (nat_cmp id x) refl (insert_there xs id)
  where
    by : (o : Ordering) → nat_cmp id x ≡ o → Among (insert_key nat_cmp xs id) id → Among (match_ordering o (id ∷ x ∷ xs) (x ∷ xs) (x ∷ insert_key nat_cmp xs id)) id
    by Less e more = inl refl
    by Equal e more = inl (sym (nat_equal id x e))
    by Greater e more = inr more

pub insert_is : (old new : List ℕ) (id : ℕ) → new ≡ insert_key nat_cmp old id → (k : ℕ) → Among new k ↔ ((k ≡ id) ⊎ Among old k)
insert_is old new id is k = (
  λ m. inserted old id k (subst (λ (xs : List ℕ). Among xs k) is m),
  λ o. subst (λ (xs : List ℕ). Among xs k) (sym is) (elim o [
    | inl e ↦ subst (λ (x : ℕ). Among (insert_key nat_cmp old id) x) (sym e) (insert_there old id)
    | inr h ↦ insert_kept old id k h
  ]),
)

-- the last of numbers in order
pub all_before : (xs : List ℕ) (id : ℕ) → All (λ q. nat_cmp q id ≡ Less) xs → (k : ℕ) → Among xs k → k < id
all_before xs id h k m =
    let p = at_among xs k m in
    let e : slice_index xs p.0 ≡ k = get_or_from_slice_get xs p.0 k 0 p.1 in
    omega (arith, e, nat_less (slice_index xs p.0) id (h p.0 0 (slice_get_within xs p.0 k p.1)))

-- the same numbers the other way round
reversed_at : (xs : List ℕ) (k x : ℕ) → slice_get (reverse xs) k ≡ Some x → slice_get xs (length xs - 1 - k) ≡ Some x
reversed_at xs k x at =
    let lt : k < length xs = omega (arith, slice_get_within (reverse xs) k x at, length-reverse xs) in
    let inside : length xs - 1 - k < length xs = omega (arith, lt) in
    let e : slice_index xs (length xs - 1 - k) ≡ x = sym (get_or-reverse xs k 0 lt) ∙ get_or_from_slice_get (reverse xs) k x 0 at in
    slice_get-get_or xs (length xs - 1 - k) 0 inside ∙ ap (λ (n : ℕ). let o : Option ℕ = Some n in o) e

at_reversed : (xs : List ℕ) (k x : ℕ) → slice_get xs k ≡ Some x → slice_get (reverse xs) (length xs - 1 - k) ≡ Some x
at_reversed xs k x at =
    let lt : k < length xs = slice_get_within xs k x at in
    let flipped : length xs - 1 - k < length xs = omega (arith, lt) in
    let inside : length xs - 1 - k < length (reverse xs) = omega (arith, lt, length-reverse xs) in
    let back : length xs - 1 - (length xs - 1 - k) ≡ k = omega (arith, lt) in
    let e : slice_index (reverse xs) (length xs - 1 - k) ≡ x = get_or-reverse xs (length xs - 1 - k) 0 flipped ∙ ap (slice_index xs) back ∙ get_or_from_slice_get xs k x 0 at in
    slice_get-get_or (reverse xs) (length xs - 1 - k) 0 inside ∙ ap (λ (n : ℕ). let o : Option ℕ = Some n in o) e

pub among_reversed : (xs : List ℕ) (x : ℕ) → Among xs x → Among (reverse xs) x
among_reversed xs x h = let p = at_among xs x h in among_at (reverse xs) _ x (at_reversed xs p.0 x p.1)

pub reversed_among : (xs : List ℕ) (x : ℕ) → Among (reverse xs) x → Among xs x
reversed_among xs x h = let p = at_among (reverse xs) x h in among_at xs _ x (reversed_at xs p.0 x p.1)

pub reversed_rising : (xs : List ℕ) → IsFalling xs → IsRising (reverse xs)
reversed_rising xs falls j k x y lt at later =
    let inside : k < length xs = omega (arith, slice_get_within (reverse xs) k y later, length-reverse xs) in
    falls (length xs - 1 - k) (length xs - 1 - j) y x (omega (arith, lt, inside)) (reversed_at xs k y later) (reversed_at xs j x at)

pub falling_more : (xs : List ℕ) (x bound : ℕ) → IsFalling xs → ((k : ℕ) → Among xs k → bound ≤ k) → x < bound → IsFalling (xs ++ x ∷ [])
falling_more xs x bound falls high lt j k u v less at later = elim (snoc_cases xs x k v later) [
  | inl old ↦ elim (snoc_cases xs x j u at) [
    | inl before ↦ falls j k u v less before.1 old.1
    | inr no_ ↦ absurd (omega (arith, no_.0, old.0, less))
  ]
  | inr new ↦ elim (snoc_cases xs x j u at) [
    | inl before ↦ omega (arith, high u (among_at xs j u before.1), lt, new.1)
    | inr no_ ↦ absurd (omega (arith, no_.0, new.0, less))
  ]
]

-- a rising list has each number at one place, and lower numbers before it
pub rising_order : (ids : List ℕ) (j k x y : ℕ) → IsRising ids → slice_get ids j ≡ Some x → slice_get ids k ≡ Some y → x < y → j < k
rising_order ids j k x y rises at there lt = elim (cases_lt j k) [
  | inl less ↦ less
  | inr ge ↦ elim (cases_lt k j) [
    | inl more ↦ absurd (omega (arith, rises k j y x more there at, lt))
    | inr le ↦
        let e : j ≡ k = omega (arith, ge, le) in
        let same : x ≡ y = some_same x y (sym at ∙ ap (slice_get ids) e ∙ there) in
        absurd (omega (arith, same, lt))
  ]
]
  where
    some_same : (x y : ℕ) → Some x ≡ Some y → x ≡ y
    some_same x y e = cc

pub one_rise : (ids : List ℕ) (j k x : ℕ) → IsRising ids → slice_get ids j ≡ Some x → slice_get ids k ≡ Some x → j ≡ k
one_rise ids j k x rises at there = elim (cases_lt j k) [
  | inl lt ↦ absurd (omega (arith, rises j k x x lt at there))
  | inr ge ↦ elim (cases_lt k j) [
    | inl lt ↦ absurd (omega (arith, rises k j x x lt there at))
    | inr ge2 ↦ omega (arith, ge, ge2)
  ]
]

-- each number of a rising list is at least its place
pub rising_high : (ids : List ℕ) (k x : ℕ) → IsRising ids → slice_get ids k ≡ Some x → k ≤ x
rising_high ids zero x rises at = omega arith
rising_high ids (suc k) x rises at =
    let lt : k < length ids = omega (arith, slice_get_within ids (suc k) x at) in
    let before : slice_get ids k ≡ Some (slice_index ids k) = slice_get-get_or ids k 0 lt in
    omega (arith, rising_high ids k (slice_index ids k) rises before, rises k (suc k) (slice_index ids k) x (omega arith) before at)

pub rising_short : (ids : List ℕ) (n : ℕ) → IsRising ids → ((k : ℕ) → Among ids k → k < n) → length ids ≤ n
rising_short ids n rises below = elim (cases_lt 0 (length ids)) [
  | inl some ↦
      let last : length ids - 1 < length ids = omega (arith, some) in
      let at : slice_get ids (length ids - 1) ≡ Some (slice_index ids (length ids - 1)) = slice_get-get_or ids (length ids - 1) 0 last in
      omega (arith, rising_high ids _ _ rises at, below _ (among_at ids _ _ at), some)
  | inr none ↦ omega (arith, none)
]

pub taken_get : (k j : ℕ) (xs : List ℕ) → j < k → slice_get (take k xs) j ≡ slice_get xs j
taken_get zero j xs lt = absurd (omega (arith, lt))
taken_get (suc k) j [] lt = refl
taken_get (suc k) zero (x ∷ xs) lt = refl
taken_get (suc k) (suc j) (x ∷ xs) lt = taken_get k j xs (omega (arith, lt))

-- one width more
pub widths_at : (all ids ws : List ℕ) (n w : ℕ) → length ws ≡ n → ((k id : ℕ) → k < n → slice_get ids k ≡ Some id → slice_get all id ≡ Some (slice_index ws k)) → slice_get all (slice_index ids n) ≡ Some w → (k id : ℕ) → k < n + 1 → slice_get ids k ≡ Some id → slice_get all id ≡ Some (slice_index (ws ++ w ∷ []) k)
widths_at all ids ws n w size each wide k id lt at = elim (cases_lt k n) [
  | inl less ↦ each k id less at ∙ ap (λ (x : ℕ). let o : Option ℕ = Some x in o) (sym (get_or_append_left ws (w ∷ []) 0 k (omega (arith, less, size))))
  | inr ge ↦
      let e : k ≡ n = omega (arith, lt, ge) in
      let id-is : slice_index ids n ≡ id = ap (slice_index ids) (sym e) ∙ get_or_from_slice_get ids k id 0 at in
      let last : slice_index (ws ++ w ∷ []) k ≡ w = ap (slice_index (ws ++ w ∷ [])) (e ∙ sym size) ∙ get_or-append_seam ws w [] 0 in
      ap (slice_get all) (sym id-is) ∙ wide ∙ ap (λ (x : ℕ). let o : Option ℕ = Some x in o) (sym last)
]
