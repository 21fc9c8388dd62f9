use Rattle.std.proofs.Common.{◌+◌, true, false, Bool, ◌≡◌, ℕ, List, [], ◌∷◌, ◌++◌, length, get_or, refl, sym, ◌∙◌, ap, arith, rules, Some}
use Rattle.std.proofs.Common.{inl, inr}
use Rattle.std.specs.Prelude.{slice_get}
use Rattle.std.specs.Cmp.{IsEquivalence}
use Rattle.std.proofs.lemmas.Map.Views.{list_any-from_Contains}
use Rattle.std.proofs.lemmas.Bool.Decides.{same_from_decides}
use Rattle.std.specs.Bool.{Decides}
use Rattle.std.specs.List.{Contains, list_any, position, position_or_len}
use Rattle.indexmap.specs.IndexSet.{insert_key}
use Rattle.std.proofs.lemmas.List.Quantifiers.{position-Some}
use Rattle.std.proofs.lemmas.Option.{slice_get-get_or, slice_get_within, get_or_from_slice_get}
use Rattle.dag.specs.declared.node.Node.{Node}
use Rattle.dag.specs.Graph.{Inserts}
use Rattle.std.specs.Prelude.{not, suc}
use Rattle.dag.specs.contracts.node.NodePartialEq.TheImpl.{eq-value}

pub decides : (a b : Node) → Decides (eq-value.it a b) (a ≡ b)
decides a b = search rules

pub found : {X : Type 0} (eq : X → X → Bool) → ((a b : X) → Decides (eq a b) (a ≡ b)) → (x : X) (xs : List X) (i : ℕ) → position (eq x) xs ≡ Some i → slice_get xs i ≡ Some x
found eq same x xs i h = let p = position-Some (eq x) xs i x h in slice_get-get_or xs i x p.0 ∙ ap Some (sym ((same x (get_or xs i x)).0 p.1))

equivalence : {X : Type 0} (eq : X → X → Bool) → ((a b : X) → Decides (eq a b) (a ≡ b)) → IsEquivalence eq
equivalence eq same = record {
  refl = λ x. (same x x).1 refl;
  symm = λ x y. same_from_decides (eq x y) (eq y x) (same x y) ((λ h. sym ((same y x).0 h)), (λ h. (same y x).1 (sym h)));
  congr = λ x y z h. ap (λ w. eq w z) ((same x y).0 h);
}

pub absent : {X : Type 0} (eq : X → X → Bool) → ((a b : X) → Decides (eq a b) (a ≡ b)) → (x : X) (xs : List X) → list_any (eq x) xs ≡ false → Contains xs x → ⊥
absent eq same x xs h c = cc (h, list_any-from_Contains (equivalence eq same) x xs c)

-- where an element passes, the first that does stands at its position
first_place : {X : Type 0} (p : X → Bool) (xs : List X) → list_any p xs ≡ true → (y : X) × (slice_get xs (position_or_len p xs) ≡ Some y) × (p y ≡ true)
first_place p [] h = cc
first_place {X = X} p (x ∷ xs) h = go (p x) refl (first_place p xs)
  where
    go : (b : Bool) → p x ≡ b → (list_any p xs ≡ true → (y : X) × (slice_get xs (position_or_len p xs) ≡ Some y) × (p y ≡ true)) → (y : X) × (slice_get (x ∷ xs) (position_or_len p (x ∷ xs)) ≡ Some y) × (p y ≡ true)
    go true e rest = (x, rw e refl, e)
    go false e rest =
        let later : list_any p xs ≡ true = rw e at h in
        let r = rest later in
        let next : 1 + position_or_len p xs ≡ suc (position_or_len p xs) = omega arith in
        (r.0, rw (e, next) r.1, r.2)

-- and where none does, it is the length
end_place : {X : Type 0} (p : X → Bool) (xs : List X) → list_any p xs ≡ false → position_or_len p xs ≡ length xs
end_place p [] h = refl
end_place p (x ∷ xs) h = go (p x) refl (end_place p xs)
  where
    go : (b : Bool) → p x ≡ b → (list_any p xs ≡ false → position_or_len p xs ≡ length xs) → position_or_len p (x ∷ xs) ≡ length (x ∷ xs)
    go true e rest = let t = rw e at h in cc
    go false e rest =
        let later : list_any p xs ≡ false = rw e at h in
        let r : position_or_len p xs ≡ length xs = rest later in
        rw e (omega arith)

-- what inserting a key makes of a list without repeats and of a list beside it
pub inserts : (eq : Node → Node → Bool) → ((a b : Node) → Decides (eq a b) (a ≡ b)) → (n : Node) (old new : List Node) (before after : List ℕ) (w place : ℕ) (fresh : Bool) → fresh ≡ not (list_any (eq n) old) → new ≡ insert_key eq old n → place ≡ position_or_len (eq n) old → (fresh ≡ true → after ≡ before ++ w ∷ []) → (fresh ≡ false → after ≡ before) → Inserts old new before after n w place
inserts eq same n old new before after w place fresh f k p pushed kept = go (list_any (eq n) old) refl
  where
    go : (b : Bool) → list_any (eq n) old ≡ b → Inserts old new before after n w place
    go true e =
        let r = first_place (eq n) old e in
        let m : n ≡ r.0 = (same n r.0).0 r.2 in
        let whole : insert_key eq old n ≡ old = rw e refl in
        let stale : fresh ≡ false = f ∙ rw e refl in
        inl (record { at = ap (slice_get old) p ∙ r.1 ∙ ap Some (sym m); nodes = k ∙ whole; widths = kept stale })
    go false e =
        let whole : insert_key eq old n ≡ old ++ n ∷ [] = rw e refl in
        let new_one : fresh ≡ true = f ∙ rw e refl in
        inr (record { absent = absent eq same n old e; at = p ∙ end_place (eq n) old e; nodes = k ∙ whole; widths = pushed new_one })

-- a node that stands somewhere is contained
pub contains_at : (ns : List Node) (k : ℕ) (n : Node) → slice_get ns k ≡ Some n → Contains ns n
contains_at ns k n h = (k, slice_get_within ns k n h, get_or_from_slice_get ns k n n h)
