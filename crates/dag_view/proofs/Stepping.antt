-- Nodes are met level by level.
use Rattle.std.proofs.Common.{◌≡◌, ◌⊎◌, ℕ, zero, suc, ◌+◌, ◌-◌, ◌<◌, ◌≤◌, Bool, true, false, List, [], ◌∷◌, ◌++◌, length, refl, sym, ◌∙◌, ap, subst, arith, Some, inl, inr, nat_eq, ◌||◌}
use Rattle.std.specs.Prelude.{◌↔◌, cond, slice_get, slice_index}
use Rattle.std.specs.List.{list_any}
use Rattle.std.proofs.lemmas.Bool.{cases_lt, eqb-true, eq-eqb}
use Rattle.std.proofs.lemmas.Option.{slice_get_within}
use Rattle.indexmap.specs.IndexSet.{insert_key}
use Rattle.dag.specs.Graph.{Graph, IsGraph}
use Rattle.merge_table.specs.Table.{IsFlat}
use Rattle.dag_view.proofs.Positions.{child_before}
use Rattle.dag.specs.declared.node.Node.{Node}
use Rattle.dag.proofs.Growing.{get_more}
use Rattle.dag_view.specs.View.{ViewParts, IsFree, arity}
use Rattle.dag_view.specs.Under.{Among, IsBelow, RetainsChild, AddsChildren}
use Rattle.dag_view.specs.Steps.{Reaches, IsWithin, AddsLevel, AreReached}
use Rattle.dag_view.proofs.Lists.{among_at, at_among, among_none, among_front, among_last, among_snoc}

node_same : (m n : Node) → Some m ≡ Some n → m ≡ n
node_same m n e = cc

any_among : (ks : List ℕ) (id : ℕ) → list_any (nat_eq id) ks ≡ true → Among ks id
unfolding Among
any_among [] id e = cc
any_among (x ∷ xs) id e = first (nat_eq id x) refl (any_among xs id) e
  where
    first : (b : Bool) → nat_eq id x ≡ b → (list_any (nat_eq id) xs ≡ true → Among xs id) → (b || list_any (nat_eq id) xs) ≡ true → (x ≡ id) ⊎ Among xs id
    first true t more e = inl (sym (eqb-true id x t))
    first false t more e = inr (more e)

among_any : (ks : List ℕ) (id : ℕ) → Among ks id → list_any (nat_eq id) ks ≡ true
unfolding Among
among_any [] id h = absurd h
among_any (x ∷ xs) id (inl e) = let t : nat_eq id x ≡ true = eq-eqb id x (sym e) in ap (λ (b : Bool). b || list_any (nat_eq id) xs) t
among_any (x ∷ xs) id (inr h) = last (nat_eq id x) (among_any xs id h)
  where
    last : (b : Bool) → list_any (nat_eq id) xs ≡ true → (b || list_any (nat_eq id) xs) ≡ true
    last true e = refl
    last false e = e

pub met_is : (old new : List ℕ) (id : ℕ) → new ≡ insert_key nat_eq old id → (k : ℕ) → Among new k ↔ ((k ≡ id) ⊎ Among old k)
met_is old new id is k = by (list_any (nat_eq id) old) refl is
  where
    by : (b : Bool) → list_any (nat_eq id) old ≡ b → new ≡ cond b old (old ++ id ∷ []) → Among new k ↔ ((k ≡ id) ⊎ Among old k)
    by true t e = (
      λ m. inr (subst (λ (xs : List ℕ). Among xs k) e m),
      λ o. subst (λ (xs : List ℕ). Among xs k) (sym e) (elim o [
        | inl q ↦ subst (λ (x : ℕ). Among old x) (sym q) (any_among old id t)
        | inr m ↦ m
      ]),
    )
    by false t e = (
      λ m. elim (among_snoc old id k (subst (λ (xs : List ℕ). Among xs k) e m)) [
        | inl o ↦ inr o
        | inr q ↦ inl (sym q)
      ],
      λ o. subst (λ (xs : List ℕ). Among xs k) (sym e) (elim o [
        | inl q ↦ subst (λ (x : ℕ). Among (old ++ id ∷ []) x) (sym q) (among_last old id)
        | inr m ↦ among_front old (id ∷ []) k m
      ]),
    )

pub met_kept : (old new : List ℕ) (id : ℕ) → new ≡ insert_key nat_eq old id → (k x : ℕ) → slice_get old k ≡ Some x → slice_get new k ≡ Some x
met_kept old new id is k x at = by (list_any (nat_eq id) old) is
  where
    by : (b : Bool) → new ≡ cond b old (old ++ id ∷ []) → slice_get new k ≡ Some x
    by true e = ap (λ (xs : List ℕ). slice_get xs k) e ∙ at
    by false e = ap (λ (xs : List ℕ). slice_get xs k) e ∙ get_more old (id ∷ []) k x at

-- a level's next node
pub level_none : (g : Graph) (table : List ℕ) (from : ℕ) (old : List ℕ) → AddsLevel g table from from old old
level_none g table from old = record { more = λ k x at. at; children = λ k p x low lt at below. absurd (omega (arith, low, lt)); only = λ x m. inl m }

pub level_next : (g : Graph) (table : List ℕ) (from k p : ℕ) (n : Node) (old now new : List ℕ) → AddsLevel g table from k old now → slice_get now k ≡ Some p → k < length old → slice_get g.nodes p ≡ Some n → AddsChildren table n (arity n) now new → ((j x : ℕ) → slice_get now j ≡ Some x → slice_get new j ≡ Some x) → AddsLevel g table from (k + 1) old new
level_next g table from k p n old now new h at lt found adds kept = record {
  more = λ j x there. kept j x (h.more j x there);
  children = λ j q x low less there below. elim (cases_lt j k) [
    | inl before ↦ adds.more x (h.children j q x low before there below)
    | inr here ↦
        let e : j ≡ k = omega (arith, here, less) in
        let same : q ≡ p = number_same q p (sym (h.more j q there) ∙ ap (slice_get now) e ∙ at) in
        let node : below.node ≡ n = node_same below.node n (sym below.at ∙ ap (slice_get g.nodes) same ∙ found) in
        adds.children x (subst (λ (m : Node). RetainsChild table m (arity m) x) node below.retains)
  ];
  only = λ x m. elim (adds.only x m) [
    | inl o ↦ h.only x o
    | inr c ↦ inr (p, old_at, record { node = n; at = found; retains = c })
  ];
}
  where
    number_same : (x y : ℕ) → Some x ≡ Some y → x ≡ y
    number_same x y e = cc

    old_at : Among old p
    old_at = let q = there old k lt in let e : q.0 ≡ p = number_same q.0 p (sym (h.more k q.0 q.1) ∙ at) in subst (λ (y : ℕ). Among old y) e (among_at old k q.0 q.1)
      where
        there : (xs : List ℕ) (k : ℕ) → k < length xs → (x : ℕ) × (slice_get xs k ≡ Some x)
        there [] k lt = absurd (omega (arith, lt))
        there (x ∷ xs) zero lt = (x, refl)
        there (x ∷ xs) (suc k) lt = there xs k (omega (arith, lt))

-- a step more
pub reached_more : (g : Graph) (table : List ℕ) (a b steps from upto : ℕ) (old new : List ℕ) → AreReached g table a b steps old from → upto ≡ length old → from ≤ upto → AddsLevel g table from upto old new → ((p x : ℕ) → IsBelow g table p x → p < length g.nodes → x < length g.nodes) → AreReached g table a b (suc steps) new upto
unfolding Reaches
reached_more g table a b steps from upto old new h all order level early = record {
  inside = λ x m. elim (level.only x m) [
    | inl o ↦ h.inside x o
    | inr c ↦ early c.0 x c.2 (h.inside c.0 c.1)
  ];
  reached = λ x. (
    λ m. elim (level.only x m) [
      | inl o ↦ inl ((h.reached x).0 o)
      | inr c ↦ inr (c.0, (h.reached c.0).0 c.1, c.2)
    ],
    λ r. elim r [
      | inl o ↦ kept x ((h.reached x).1 o)
      | inr c ↦ child c.0 x ((h.reached c.0).1 c.1) c.2
    ],
  );
  closed = λ k p x lt at below. child p x (front k p lt at) below;
}
  where
    kept : (x : ℕ) → Among old x → Among new x
    kept x m = let p = at_among old x m in among_at new p.0 x (level.more p.0 x p.1)

    child : (p x : ℕ) → Among old p → IsBelow g table p x → Among new x
    child p x m below =
        let q = at_among old p m in
        elim (cases_lt q.0 from) [
          | inl lt ↦ kept x (h.closed q.0 p x lt q.1 below)
          | inr ge ↦ level.children q.0 p x ge (omega (arith, slice_get_within old q.0 p q.1, all)) q.1 below
        ]

    number_same : (x y : ℕ) → Some x ≡ Some y → x ≡ y
    number_same x y e = cc

    there : (xs : List ℕ) (k : ℕ) → k < length xs → (x : ℕ) × (slice_get xs k ≡ Some x)
    there [] k lt = absurd (omega (arith, lt))
    there (x ∷ xs) zero lt = (x, refl)
    there (x ∷ xs) (suc k) lt = there xs k (omega (arith, lt))

    front : (k p : ℕ) → k < upto → slice_get new k ≡ Some p → Among old p
    front k p lt at = let q = there old k (omega (arith, lt, all)) in let e : q.0 ≡ p = number_same q.0 p (sym (level.more k q.0 q.1) ∙ at) in subst (λ (y : ℕ). Among old y) e (among_at old k q.0 q.1)

-- before the first step
pub reached_none : (g : Graph) (table : List ℕ) (a b : ℕ) (none one two : List ℕ) → none ≡ [] → ((k : ℕ) → Among one k ↔ ((k ≡ a) ⊎ Among none k)) → ((k : ℕ) → Among two k ↔ ((k ≡ b) ⊎ Among one k)) → a < length g.nodes → b < length g.nodes → AreReached g table a b 0 two 0
unfolding Reaches
reached_none g table a b none one two is first second a-in b-in = record {
  inside = λ k m. elim (cases k m) [
    | inl q ↦ omega (arith, q, a-in)
    | inr q ↦ omega (arith, q, b-in)
  ];
  reached = λ k. (
    λ m. cases k m,
    λ r. elim r [
      | inl q ↦ (second k).1 (inr ((first k).1 (inl q)))
      | inr q ↦ (second k).1 (inl q)
    ],
  );
  closed = λ k p x lt at below. absurd (omega (arith, lt));
}
  where
    cases : (k : ℕ) → Among two k → (k ≡ a) ⊎ (k ≡ b)
    cases k h = elim ((second k).0 h) [
      | inl q ↦ inr q
      | inr h ↦ elim ((first k).0 h) [
        | inl q ↦ inl q
        | inr h ↦ absurd (among_none k (subst (λ (xs : List ℕ). Among xs k) is h))
      ]
    ]

-- where no node is left a further step reaches nothing else
reaches_still : (g : Graph) (table : List ℕ) (a b n d : ℕ) (met : List ℕ) → AreReached g table a b n met (length met) → (x : ℕ) → Among met x ↔ Reaches g table a b (d + n) x
unfolding Reaches
reaches_still g table a b n zero met h x = let e : n ≡ 0 + n = omega arith in subst (λ (j : ℕ). Among met x ↔ Reaches g table a b j x) e (h.reached x)
reaches_still g table a b n (suc d) met h x = let e : suc (d + n) ≡ suc d + n = omega arith in subst (λ (j : ℕ). Among met x ↔ Reaches g table a b j x) e (step (reaches_still g table a b n d met h))
  where
    step : ((y : ℕ) → Among met y ↔ Reaches g table a b (d + n) y) → Among met x ↔ Reaches g table a b (suc (d + n)) x
    step more = (
      λ m. inl ((more x).0 m),
      λ r. elim r [
        | inl o ↦ (more x).1 o
        | inr c ↦ (let m = (more c.0).1 c.1 in let q = at_among met c.0 m in h.closed q.0 c.0 x (slice_get_within met q.0 c.0 q.1) q.1 c.2)
      ],
    )

pub within_still : (g : Graph) (table : List ℕ) (a b n steps from : ℕ) (met : List ℕ) → AreReached g table a b n met from → from ≡ length met → n < steps → (x : ℕ) → Among met x ↔ IsWithin g table a b steps x
within_still g table a b n zero from met h all lt x = absurd (omega (arith, lt))
within_still g table a b n (suc k) from met h all lt x =
    let whole : AreReached g table a b n met (length met) = subst (λ (f : ℕ). AreReached g table a b n met f) all h in
    let e : k - n + n ≡ k = omega (arith, lt) in
    subst (λ (j : ℕ). Among met x ↔ Reaches g table a b j x) e (reaches_still g table a b n (k - n) met whole x)

pub within_all : (g : Graph) (table : List ℕ) (a b n steps from : ℕ) (met : List ℕ) → AreReached g table a b n met from → n + 1 ≡ steps → (x : ℕ) → Among met x ↔ IsWithin g table a b steps x
within_all g table a b n zero from met h e x = absurd (omega (arith, e))
within_all g table a b n (suc k) from met h e x = let f : n ≡ k = omega (arith, e) in subst (λ (j : ℕ). Among met x ↔ Reaches g table a b j x) f (h.reached x)

-- what retains a child stands before its node
pub below_inside : (g : Graph) (table : List ℕ) → IsGraph g → IsFlat table → (p x : ℕ) → IsBelow g table p x → p < length g.nodes → x < length g.nodes
below_inside g table is flat p x c lt = omega (arith, flat.before _ x c.retains.2, child_before g p c.node c.retains.0 is c.at c.retains.1, lt)

pub within_none : (g : Graph) (table : List ℕ) (a b steps : ℕ) (none : List ℕ) → none ≡ [] → steps ≡ 0 → (x : ℕ) → Among none x ↔ IsWithin g table a b steps x
within_none g table a b zero none is e x = (λ m. among_none x (subst (λ (xs : List ℕ). Among xs x) is m), λ w. absurd w)
within_none g table a b (suc n) none is e x = absurd (omega (arith, e))

there_at : (xs : List ℕ) (k : ℕ) → k < length xs → (x : ℕ) × (slice_get xs k ≡ Some x)
there_at [] k lt = absurd (omega (arith, lt))
there_at (x ∷ xs) zero lt = (x, refl)
there_at (x ∷ xs) (suc k) lt = there_at xs k (omega (arith, lt))

-- what was met stays where it is
pub level_long : (g : Graph) (table : List ℕ) (from upto : ℕ) (old new : List ℕ) → AddsLevel g table from upto old new → (k : ℕ) → k < length old → k < length new
level_long g table from upto old new h k lt = let p = there_at old k lt in slice_get_within new k p.0 (h.more k p.0 p.1)

pub level_inside : (g : Graph) (table : List ℕ) (from upto : ℕ) (old new : List ℕ) (k x : ℕ) → AddsLevel g table from upto old new → ((y : ℕ) → Among old y → y < length g.nodes) → k < length old → slice_get new k ≡ Some x → x < length g.nodes
level_inside g table from upto old new k x h inside lt at =
    let p = there_at old k lt in
    let e : p.0 ≡ x = same p.0 x (sym (h.more k p.0 p.1) ∙ at) in
    omega (arith, e, inside p.0 (among_at old k p.0 p.1))
  where
    same : (x y : ℕ) → Some x ≡ Some y → x ≡ y
    same x y e = cc

pub level_size : (g : Graph) (table : List ℕ) (from upto : ℕ) (old new : List ℕ) → AddsLevel g table from upto old new → upto ≡ length old → upto ≤ length new
level_size g table from upto old new h all = elim (cases_lt 0 upto) [
  | inl some ↦ omega (arith, level_long g table from upto old new h (upto - 1) (omega (arith, some, all)), some)
  | inr none ↦ omega (arith, none)
]

pub level_step : (g : Graph) (table : List ℕ) (a b level from upto : ℕ) (old new : List ℕ) → 1 ≤ level → AreReached g table a b (level - 1) old from → upto ≡ length old → from ≤ length old → AddsLevel g table from upto old new → ((p x : ℕ) → IsBelow g table p x → p < length g.nodes → x < length g.nodes) → AreReached g table a b (level + 1 - 1) new upto
level_step g table a b level from upto old new low h all order adds early =
    let e : suc (level - 1) ≡ level + 1 - 1 = omega (arith, low) in
    subst (λ (n : ℕ). AreReached g table a b n new upto) e (reached_more g table a b (level - 1) from upto old new h all (omega (arith, order, all)) adds early)

-- a view by the set of the nodes within some steps
pub cut_at : (g : Graph) (table : List ℕ) (a b steps : ℕ) (keys : List ℕ) (v : ViewParts) → ((k : ℕ) (m : Node) → slice_get v.nodes k ≡ Some m → IsFree v k m ↔ (list_any (nat_eq (slice_index v.ids k)) keys ≡ false)) → ((k : ℕ) → Among keys k ↔ IsWithin g table a b steps k) → (k : ℕ) (m : Node) → slice_get v.nodes k ≡ Some m → IsFree v k m ↔ (IsWithin g table a b steps (slice_index v.ids k) → ⊥)
cut_at g table a b steps keys v by within k m at = (
  λ free w. both _ (among_any keys (slice_index v.ids k) ((within _).1 w)) ((by k m at).0 free),
  λ out. (by k m at).1 (off (list_any (nat_eq (slice_index v.ids k)) keys) refl out),
)
  where
    both : (x : Bool) → x ≡ true → x ≡ false → ⊥
    both true p q = cc
    both false p q = cc

    off : (x : Bool) → list_any (nat_eq (slice_index v.ids k)) keys ≡ x → (IsWithin g table a b steps (slice_index v.ids k) → ⊥) → x ≡ false
    off true e out = absurd (out ((within _).0 (any_among keys (slice_index v.ids k) e)))
    off false e out = refl
