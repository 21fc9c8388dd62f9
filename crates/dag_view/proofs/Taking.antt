-- Nodes are taken from the last one back.
use Rattle.std.proofs.Common.{◌≡◌, ◌⊎◌, ℕ, ◌+◌, ◌<◌, true, List, [], ◌∷◌, ◌++◌, length, reverse, refl, sym, ◌∙◌, ap, subst, arith, Option, Some, inl, inr, Bool, false}
use Rattle.std.specs.Prelude.{◌↔◌, slice_get}
use Rattle.std.proofs.lemmas.Bool.{cases_lt}
use Rattle.dag.specs.Graph.{Graph, IsGraph}
use Rattle.dag.specs.declared.node.Node.{Node}
use Rattle.merge_table.specs.Table.{IsFlat}
use Rattle.dag_view.specs.View.{arity, nth_child}
use Rattle.dag_view.specs.Under.{expands, Among, RetainsChild, IsBelow, AddsChildren, IsMet, AreMet, AreUnder}
use Rattle.dag_view.specs.declared.expanded.Expanded.{Expanded}
use Rattle.dag_view.proofs.Lists.{among_none, among_front, among_last, among_snoc, among_reversed, reversed_among, reversed_rising, falling_more}
use Rattle.dag_view.proofs.Positions.{child_before}

node_same : (m n : Node) → Some m ≡ Some n → m ≡ n
node_same m n e = cc

number_same : (x y : ℕ) → Some x ≡ Some y → x ≡ y
number_same x y e = cc

-- no child's is added yet
pub adds_none : (table : List ℕ) (n : Node) (old : List ℕ) → AddsChildren table n 0 old old
adds_none table n old = record { more = λ k h. h; children = λ k c. absurd (omega (arith, c.1)); only = λ k h. inl h }

-- one child's more
pub adds_next : (table : List ℕ) (n : Node) (i r : ℕ) (old now new : List ℕ) → AddsChildren table n i old now → slice_get table (nth_child n i) ≡ Some r → ((k : ℕ) → Among new k ↔ ((k ≡ r) ⊎ Among now k)) → AddsChildren table n (i + 1) old new
adds_next table n i r old now new h at added = record {
  more = λ k m. (added k).1 (inr (h.more k m));
  children = λ k c. elim (cases_lt c.0 i) [
    | inl before ↦ (added k).1 (inr (h.children k (c.0, before, c.2)))
    | inr here ↦ (let e : c.0 ≡ i = omega (arith, here, c.1) in let f : k ≡ r = number_same k r (sym c.2 ∙ ap (λ (q : ℕ). slice_get table (nth_child n q)) e ∙ at) in (added k).1 (inl f))
  ];
  only = λ k m. elim ((added k).0 m) [
    | inl e ↦ inr (i, omega arith, at ∙ ap (λ (x : ℕ). let o : Option ℕ = Some x in o) (sym e))
    | inr o ↦ elim (h.only k o) [
      | inl there ↦ inl there
      | inr c ↦ inr (c.0, omega (arith, c.1), c.2)
    ]
  ];
}

-- before the first one is taken
pub met_none : (g : Graph) (table : List ℕ) (e : Expanded) (a b : ℕ) (none one two : List ℕ) → none ≡ [] → ((k : ℕ) → Among one k ↔ ((k ≡ a) ⊎ Among none k)) → ((k : ℕ) → Among two k ↔ ((k ≡ b) ⊎ Among one k)) → a < length g.nodes → b < length g.nodes → AreMet g table e a b two [] (length g.nodes)
met_none g table e a b none one two is first second a-in b-in = record {
  low = λ k h. inside k (cases k h);
  high = λ k h. absurd (among_none k h);
  inside = λ k h. elim h [
    | inl w ↦ inside k (cases k w)
    | inr t ↦ absurd (among_none k t)
  ];
  falling = λ j k x y lt at later. cc;
  first = inl ((second a).1 (inr ((first a).1 (inl refl))));
  second = inl ((second b).1 (inl refl));
  closed = λ p k t on below. absurd (among_none p t);
  under = λ k h. elim h [
    | inl w ↦ elim (cases k w) [
      | inl q ↦ inl q
      | inr q ↦ inr (inl q)
    ]
    | inr t ↦ absurd (among_none k t)
  ];
}
  where
    cases : (k : ℕ) → Among two k → (k ≡ a) ⊎ (k ≡ b)
    cases k h = elim ((second k).0 h) [
      | inl q ↦ inr q
      | inr h ↦ elim ((first k).0 h) [
        | inl q ↦ inl q
        | inr h ↦ absurd (among_none k (subst (λ (xs : List ℕ). Among xs k) is h))
      ]
    ]

    inside : (k : ℕ) → (k ≡ a) ⊎ (k ≡ b) → k < length g.nodes
    inside k (inl q) = omega (arith, q, a-in)
    inside k (inr q) = omega (arith, q, b-in)

-- one that waits is taken
moved : (waiting front taken : List ℕ) (id k : ℕ) → waiting ≡ front ++ id ∷ [] → IsMet waiting taken k → IsMet front (taken ++ id ∷ []) k
moved waiting front taken id k is (inl w) = elim (among_snoc front id k (subst (λ (xs : List ℕ). Among xs k) is w)) [
  | inl f ↦ inl f
  | inr q ↦ inr (subst (λ (x : ℕ). Among (taken ++ id ∷ []) x) q (among_last taken id))
]
moved waiting front taken id k is (inr t) = inr (among_front taken (id ∷ []) k t)

back : (waiting front taken : List ℕ) (id k : ℕ) → waiting ≡ front ++ id ∷ [] → IsMet front (taken ++ id ∷ []) k → IsMet waiting taken k
back waiting front taken id k is (inl f) = inl (subst (λ (xs : List ℕ). Among xs k) (sym is) (among_front front (id ∷ []) k f))
back waiting front taken id k is (inr t) = elim (among_snoc taken id k t) [
  | inl o ↦ inr o
  | inr q ↦ inl (subst (λ (xs : List ℕ). Among xs k) (sym is) (subst (λ (x : ℕ). Among (front ++ id ∷ []) x) q (among_last front id)))
]

-- the last one waits
pub last_waits : (waiting front : List ℕ) (id : ℕ) → waiting ≡ front ++ id ∷ [] → Among waiting id
last_waits waiting front id is = subst (λ (xs : List ℕ). Among xs id) (sym is) (among_last front id)

-- one is taken, and what it adds waits: all that retain its children, where it is expanded, and else nothing
record Adds (g : Graph) (table : List ℕ) (e : Expanded) (id : ℕ) (front new : List ℕ) : Type 0 where
  more : (k : ℕ) → Among front k → Among new k
  children : (k : ℕ) → expands e id ≡ true → IsBelow g table id k → Among new k
  only : (k : ℕ) → Among new k → Among front k ⊎ ((expands e id ≡ true) × IsBelow g table id k)

met_more : (g : Graph) (table : List ℕ) (e : Expanded) (a b : ℕ) (waiting front new taken : List ℕ) (bound id : ℕ) → IsGraph g → IsFlat table → AreMet g table e a b waiting taken bound → waiting ≡ front ++ id ∷ [] → ((k : ℕ) → Among front k → k < id) → Adds g table e id front new
    → AreMet g table e a b new (taken ++ id ∷ []) id
met_more g table e a b waiting front new taken bound id is flat h split last adds = record {
  low = λ k w. elim (adds.only k w) [
    | inl f ↦ last k f
    | inr c ↦ under_it k c.1
  ];
  high = λ k t. elim (among_snoc taken id k t) [
    | inl o ↦ omega (arith, h.high k o, id-low)
    | inr q ↦ omega (arith, q)
  ];
  inside = λ k m. elim m [
    | inl w ↦ elim (adds.only k w) [
      | inl f ↦ h.inside k (back waiting front taken id k split (inl f))
      | inr c ↦ omega (arith, under_it k c.1, id-inside)
    ]
    | inr t ↦ h.inside k (back waiting front taken id k split (inr t))
  ];
  falling = falling_more taken id bound h.falling h.high id-low;
  first = onward a (moved waiting front taken id a split h.first);
  second = onward b (moved waiting front taken id b split h.second);
  closed = λ p k t on below. elim (among_snoc taken id p t) [
    | inl o ↦ onward k (moved waiting front taken id k split (h.closed p k o on below))
    | inr q ↦ inl (adds.children k (ap (expands e) q ∙ on) (subst (λ (x : ℕ). IsBelow g table x k) (sym q) below))
  ];
  under = λ k m. elim m [
    | inl w ↦ elim (adds.only k w) [
      | inl f ↦ old_under k (h.under k (back waiting front taken id k split (inl f)))
      | inr c ↦ inr (inr (id, among_last taken id, c.0, c.1))
    ]
    | inr t ↦ old_under k (h.under k (back waiting front taken id k split (inr t)))
  ];
}
  where
    waits : Among waiting id
    waits = subst (λ (xs : List ℕ). Among xs id) (sym split) (among_last front id)

    id-low : id < bound
    id-low = h.low id waits

    id-inside : id < length g.nodes
    id-inside = h.inside id (inl waits)

    under_it : (k : ℕ) → IsBelow g table id k → k < id
    under_it k c = omega (arith, flat.before _ k c.retains.2, child_before g id c.node c.retains.0 is c.at c.retains.1)

    onward : (k : ℕ) → IsMet front (taken ++ id ∷ []) k → IsMet new (taken ++ id ∷ []) k
    onward k (inl f) = inl (adds.more k f)
    onward k (inr t) = inr t

    old_under : (k : ℕ) → (k ≡ a) ⊎ (k ≡ b) ⊎ ((p : ℕ) × Among taken p × (expands e p ≡ true) × IsBelow g table p k) → (k ≡ a) ⊎ (k ≡ b) ⊎ ((p : ℕ) × Among (taken ++ id ∷ []) p × (expands e p ≡ true) × IsBelow g table p k)
    old_under k (inl q) = inl q
    old_under k (inr (inl q)) = inr (inl q)
    old_under k (inr (inr c)) = inr (inr (c.0, among_front taken (id ∷ []) c.0 c.1, c.2, c.3))

pub met_expanded : (g : Graph) (table : List ℕ) (e : Expanded) (a b : ℕ) (waiting front new taken : List ℕ) (bound id : ℕ) (n : Node) → IsGraph g → IsFlat table → AreMet g table e a b waiting taken bound → waiting ≡ front ++ id ∷ [] → ((k : ℕ) → Among front k → k < id)
    → expands e id ≡ true → slice_get g.nodes id ≡ Some n → AddsChildren table n (arity n) front new → AreMet g table e a b new (taken ++ id ∷ []) id
met_expanded g table e a b waiting front new taken bound id n is flat h split last on at adds = met_more g table e a b waiting front new taken bound id is flat h split last (record {
  more = adds.more;
  children = λ k o c. adds.children k (subst (λ (m : Node). RetainsChild table m (arity m) k) (node_same c.node n (sym c.at ∙ at)) c.retains);
  only = λ k w. elim (adds.only k w) [
    | inl f ↦ inl f
    | inr c ↦ inr (on, record { node = n; at = at; retains = c })
  ];
})

pub met_free : (g : Graph) (table : List ℕ) (e : Expanded) (a b : ℕ) (waiting front taken : List ℕ) (bound id : ℕ) → IsGraph g → IsFlat table → AreMet g table e a b waiting taken bound → waiting ≡ front ++ id ∷ [] → ((k : ℕ) → Among front k → k < id) → expands e id ≡ false
    → AreMet g table e a b front (taken ++ id ∷ []) id
met_free g table e a b waiting front taken bound id is flat h split last off = met_more g table e a b waiting front front taken bound id is flat h split last (record {
  more = λ k f. f;
  children = λ k on c. absurd (both (expands e id) on off);
  only = λ k f. inl f;
})
  where
    both : (x : Bool) → x ≡ true → x ≡ false → ⊥
    both true p q = cc
    both false p q = cc

-- all are taken
pub met_all : (g : Graph) (table : List ℕ) (e : Expanded) (a b : ℕ) (waiting taken ids : List ℕ) (bound : ℕ) → AreMet g table e a b waiting taken bound → waiting ≡ [] → ids ≡ reverse taken → AreUnder g table e a b ids
met_all g table e a b waiting taken ids bound h none is = subst (λ (xs : List ℕ). AreUnder g table e a b xs) (sym is) (record {
  rising = reversed_rising taken h.falling;
  inside = λ k m. h.inside k (inr (reversed_among taken k m));
  first = among_reversed taken a (taken_only a h.first);
  second = among_reversed taken b (taken_only b h.second);
  closed = λ p k m on below. among_reversed taken k (taken_only k (h.closed p k (reversed_among taken p m) on below));
  under = λ k m. elim (h.under k (inr (reversed_among taken k m))) [
    | inl q ↦ inl q
    | inr o ↦ elim o [
      | inl q ↦ inr (inl q)
      | inr c ↦ inr (inr (c.0, among_reversed taken c.0 c.1, c.2, c.3))
    ]
  ];
})
  where
    taken_only : (k : ℕ) → IsMet waiting taken k → Among taken k
    taken_only k (inl w) = absurd (among_none k (subst (λ (xs : List ℕ). Among xs k) none w))
    taken_only k (inr t) = t
