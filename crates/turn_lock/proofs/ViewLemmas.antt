-- The views of all seats, and what stays true of them when one seat's view changes.
use Rattle.std.proofs.Common.{◌≡◌, ◌≢◌, ℕ, ◌<◌, ◌≤◌, ◌-◌, List, [], ◌∷◌, ◌++◌, Option, Some, None, IfSome, length, take, drop, set, sym, refl, ap, ◌∙◌, subst, inl, inr, arith, take-append-drop}
use mathlib.Core.Option.{some, some-injective}
use mathlib.Core.Logic.{dite}
use native.Mathlib.Decide.{ℕ_discrete}
use lib.ListN.{get_elem?}
use Rattle.std.specs.List.{All, sum_by}
use Rattle.atomic_table.proofs.Lists.{set_here, set_else, at_longer}
use Rattle.turn_lock.specs.Entries.{History, HasNumber}
use Rattle.turn_lock.specs.Seen.{Start, HasHistory}
use Rattle.turn_lock.specs.Rule.{number, width, lower, upper, united, spent, NobodyInside, AllOwned}
use Rattle.turn_lock.specs.declared.view.View.{View}
use Rattle.turn_lock.proofs.ListLemmas.{within, at_last, sum_two, some_none, some_same}
use Rattle.turn_lock.proofs.OwnerLemmas.{given, given_other, given_low, given_high}
use Rattle.turn_lock.proofs.RowLemmas.{HasNumber-append_left, HasNumber-append_right, HasNumber-append_cases, HasNumber-positive, HasNumber-all}

-- the number of a ticket
pub number_is : (t : ℕ) (o : Option ℕ) → o ≡ Some t → number o ≡ t
number_is t o e = ap number e

module _ {O E : Type 0} where
  -- where no view was marked after a step of an idle seat, none was before
  pub were_idle : (views : List (View O E)) (id : ℕ) (v w : View O E) → get_elem? views id ≡ some v → v.front ≡ None → NobodyInside (set views id w) → NobodyInside views
  were_idle views id v w at idle free i u here = dite (ℕ_discrete i id)
      (λ e. ap (λ (x : View O E). x.front) (some-injective u v (sym here ∙ ap (get_elem? views) e ∙ at)) ∙ idle)
      (λ other. free i u (set_else views id i w other ∙ here))

  -- the same view for the same seat
  pub same_view : (views : List (View O E)) (i j : ℕ) (v w : View O E) → get_elem? views i ≡ some v → get_elem? views j ≡ some w → i ≡ j → v ≡ w
  same_view views i j v w a b e = some-injective v w (sym a ∙ ap (get_elem? views) e ∙ b)

  -- an owner has the number in its view
  owner_has : (views : List (View O E)) (k i j : ℕ) (u v : View O E) → get_elem? views i ≡ some u → get_elem? views j ≡ some v → i ≡ j → HasNumber k u.rows → HasNumber k v.rows
  owner_has views k i j u v a b e has = subst (λ (w : View O E). HasNumber k w.rows) (same_view views i j u v a b e) has

  -- a step that keeps the numbers of a seat keeps the owners
  pub owned_set : (seats : ℕ) (owner : ℕ → ℕ) (views : List (View O E)) (id : ℕ) (v w : View O E) → get_elem? views id ≡ some v → ((k : ℕ) → HasNumber k v.rows → HasNumber k w.rows)
      → AllOwned seats owner views → AllOwned seats owner (set views id w)
  owned_set seats owner views id v w at keeps owned k lt = let o = owned k lt in dite (ℕ_discrete (owner k) id)
      (λ mine. (w, ap (get_elem? (set views id w)) mine ∙ set_here views id w (within views id v at), keeps k (owner_has views k (owner k) id o.0 v o.1 at mine o.2)))
      (λ other. (o.0, set_else views id (owner k) w other ∙ o.1, o.2))

  -- after a split the upper numbers are the new seat's
  pub owned_split : (seats : ℕ) (owner : ℕ → ℕ) (views : List (View O E)) (id c : ℕ) (v : View O E) → get_elem? views id ≡ some v
      → All (λ (row : ℕ × History E). row.0 < c) (lower v).rows → All (λ (row : ℕ × History E). c ≤ row.0) (upper v).rows
      → AllOwned seats owner views → AllOwned seats (given owner id c (length (set views id (lower v)))) (set views id (lower v) ++ upper v ∷ [])
  owned_split seats owner views id c v at low high owned k lt =
      let first : List (View O E) = set views id (lower v) in let all : List (View O E) = first ++ upper v ∷ [] in let n : ℕ = length first in let m : ℕ = length v.rows - v.cut in
      let o = owned k lt in dite (ℕ_discrete (owner k) id)
      (λ mine.
      let has : HasNumber k v.rows = owner_has views k (owner k) id o.0 v o.1 at mine o.2 in
      elim (HasNumber-append_cases k (take m v.rows) (drop m v.rows) (subst (HasNumber k) (sym (take-append-drop m v.rows)) has)) [
        | inl left ↦ (
          lower v,
          ap (get_elem? all) (given_low owner id c n k (HasNumber-all (λ j. j < c) k (lower v).rows left low) ∙ mine) ∙ at_longer first (upper v ∷ []) id (lower v) (set_here views id (lower v) (within views id v at)),
          left,
        )
        | inr right ↦ (upper v, ap (get_elem? all) (given_high owner id c n k mine (HasNumber-all (λ j. c ≤ j) k (upper v).rows right high)) ∙ at_last first (upper v), right)
      ])
      (λ other. (o.0, ap (get_elem? all) (given_other owner id c n k other) ∙ at_longer first (upper v ∷ []) (owner k) o.0 (set_else views id (owner k) (lower v) other ∙ o.1), o.2))

  -- after a join the numbers of both are the first seat's
  pub owned_join : (seats : ℕ) (owner : ℕ → ℕ) (views : List (View O E)) (id other : ℕ) (v w : View O E) → other ≢ id → get_elem? views id ≡ some v → get_elem? views other ≡ some w
      → AllOwned seats owner views → AllOwned seats (given owner other 0 id) (set (set views id (united v w)) other spent)
  owned_join seats owner views id other v w apart at there owned k lt =
      let both : View O E = united v w in let first : List (View O E) = set views id both in let all : List (View O E) = set first other spent in
      let here : get_elem? all id ≡ some both = set_else first other id spent (λ e. apart (sym e)) ∙ set_here views id both (within views id v at) in
      let o = owned k lt in dite (ℕ_discrete (owner k) other)
      (λ his. (both, ap (get_elem? all) (given_high owner other 0 id k his (omega arith)) ∙ here, HasNumber-append_right k v.rows w.rows (owner_has views k (owner k) other o.0 w o.1 there his o.2)))
      (λ not. dite (ℕ_discrete (owner k) id)
      (λ mine. (both, ap (get_elem? all) (given_other owner other 0 id k not ∙ mine) ∙ here, HasNumber-append_left k v.rows w.rows (owner_has views k (owner k) id o.0 v o.1 at mine o.2)))
      (λ neither. (o.0, ap (get_elem? all) (given_other owner other 0 id k not) ∙ set_else first other (owner k) spent not ∙ set_else views id (owner k) both neither ∙ o.1, o.2)))

  -- a seat with as many numbers as there are seats has all of them
  pub owned_whole : (seats : ℕ) (owner : ℕ → ℕ) (views : List (View O E)) (id : ℕ) (v : View O E) → get_elem? views id ≡ some v → length v.rows ≡ seats → sum_by width views ≤ seats
      → AllOwned seats owner views → (k : ℕ) → k < seats → HasNumber k v.rows
  owned_whole seats owner views id v at all room owned k lt = let o = owned k lt in dite (ℕ_discrete (owner k) id)
      (λ mine. owner_has views k (owner k) id o.0 v o.1 at mine o.2)
      (λ other. let pos = HasNumber-positive k o.0.rows o.2 in let both = sum_two width views id (owner k) v o.0 at o.1 other in absurd (omega arith))

module _ {T O E : Type 0} (op : T → O) (en : T → History E) where
  -- a history over what was put in, said of a start that is there
  pub stands_if : (o : Option (Start O E)) (start : Start O E) (x : T) (f : History E) → o ≡ Some start → HasHistory op en start x f → IfSome o (λ z. HasHistory op en z x f)
  stands_if None start x f e st = tt
  stands_if (Some z) start x f e st = subst (λ (y : Start O E). HasHistory op en y x f) (some_same start z (sym e)) st

  pub stands_from : (o : Option (Start O E)) (start : Start O E) (x : T) (f : History E) → o ≡ Some start → IfSome o (λ z. HasHistory op en z x f) → HasHistory op en start x f
  stands_from None start x f e st = absurd (some_none start None e refl)
  stands_from (Some z) start x f e st = subst (λ (y : Start O E). HasHistory op en y x f) (some_same z start e) st
