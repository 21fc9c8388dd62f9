-- What the steps allow and tell, in the forms in which the calls of a lock ask for it.
use Rattle.std.proofs.Common.{◌≡◌, ℕ, ◌+◌, ◌-◌, ◌%◌, ◌^◌, ◌<◌, List, [], ◌∷◌, ◌++◌, length, take, drop, min, Option, Some, sym, refl, ap, ap₂, ◌∙◌, subst, arith, append_assoc, length-append, length-drop, take-append-drop}
use mathlib.Core.Option.{some, some-injective}
use lib.ListN.{get_elem?}
use Rattle.std.specs.Prelude.{IsSome}
use Rattle.std.specs.List.{All}
use Rattle.atomic_table.specs.Table.{Allows, Me, opening}
use Rattle.atomic_table.specs.Seated.{TableId}
use Rattle.turn_lock.specs.Entries.{History, Rows, ConsecutiveFrom, least_of, HasNumber}
use Rattle.turn_lock.specs.Seen.{Start, LockName, SeenLock, SeenPass, SeenHeld, name_of, after_leave, Fits, HasHistory, IsClosed}
use Rattle.turn_lock.specs.Rule.{front_of, base_of, added_by, passed, lower, upper, united, first_view, TicketRule, Shows, TakesOut, Extends, EndsTurn, Counts, IsOutside}
use Rattle.turn_lock.specs.declared.view.View.{View}
use Rattle.turn_lock.proofs.ListLemmas.{drop_whole, some_same, item_here}
use Rattle.turn_lock.proofs.RowLemmas.{length-grown, least_of-grown, least_of-append, least_of-consecutive, ConsecutiveFrom-drop, ConsecutiveFrom-take, Contains-row}
use Rattle.turn_lock.proofs.ViewLemmas.{stands_if, stands_from}
use Rattle.turn_lock.proofs.Steps.{Ended, starts_well, passes}

module _ {T O E : Type 0} (op : T → O) (en : T → History E) where
  -- the table at the start
  pub starts_at : (v x : T) (seats : ℕ) (xs : List (Option T)) → v ≡ x → xs ≡ Some x ∷ [] → seats < 2 ^ 32 → TicketRule op en (op v, en v) seats (opening (0 ∷ 0 ∷ []) xs (first_view (op v, en v) seats))
  starts_at v x seats xs same is short = subst (λ (l : List (Option T)). TicketRule op en (op v, en v) seats (opening (0 ∷ 0 ∷ []) l (first_view (op v, en v) seats))) (sym is)
      (starts_well op en (op v, en v) seats x (λ i. (op (same i), en (same i))) short)

  -- the step that ends a turn
  pub passes_at : (start : Start O E) (seats slots id : ℕ) (me : Me (Option T) (View O E)) (v : View O E) (x : T) (added : History E) → me ≡ (v, (0, Some x) ∷ []) → v.front ≡ Some (front_of v.front) → Extends op en v x added
      → Allows (TicketRule op en start seats) slots id me 1 (λ n. (n + 1) % 2 ^ 64) (λ n r. EndsTurn op en me r)
  passes_at start seats slots id me v x added is marked goes = subst (λ (m : Me (Option T) (View O E)). Allows (TicketRule op en start seats) slots id m 1 (λ n. (n + 1) % 2 ^ 64) (λ n r. EndsTurn op en m r)) (sym is)
      (passes op en start seats slots id v x (front_of v.front) added marked goes)

  -- the seat after the pass step
  pub passed_at : (me r : Me (Option T) (View O E)) (v : View O E) (x : T) → me ≡ (v, (0, Some x) ∷ []) → EndsTurn op en me r → r ≡ (passed v (added_by v (en x)), [])
  passed_at me r v x is p = p x (λ i. (is i).1) ∙ (λ i. (passed (is i).0 (added_by (is i).0 (en x)), []))

  -- what the seat took out shows what its view knows, and its front is the value's history
  pub shown_at : (a b c d : Me (Option T) (View O E)) (t : Option ℕ) (y : Option T) (z : T) (l k : List (ℕ × Option T)) → b ≡ (record a.0 { ticket = t }, a.1) → (marks : TakesOut op en b c) → c.1 ≡ (0, y) ∷ k → y ≡ Some z → d ≡ (c.0, l)
      → Shows op en a.0 z (front_of d.0.front)
  shown_at a b c d t y z l k is marks here some_z last =
      let same : marks.0 ≡ z = item_here marks.0 z b.1 k (sym (λ i. (marks.1 i).1) ∙ here ∙ (λ i. (0, some_z i) ∷ k)) in
      subst (λ (f : History E). Shows op en a.0 z f) (λ i. front_of (sym last i).0.front)
      (subst (λ (w : T). Shows op en a.0 w (front_of c.0.front)) same
      (subst (λ (m : Me (Option T) (View O E)). Shows op en m.0 marks.0 (front_of c.0.front)) is marks.2))

module _ {E : Type 0} where
  -- what a split asks of a pass, said of the pass's fields
  pub split_numbers : (rows seen : Rows E) (least n k : ℕ) → rows ≡ seen → least ≡ least_of rows → n ≡ length rows → ConsecutiveFrom (least_of seen) seen × (0 < k) × (k < length seen) → ConsecutiveFrom least rows × (0 < k) × (k < n)
  split_numbers rows seen least n k same is count h = (
    subst (λ (j : ℕ). ConsecutiveFrom j rows) (sym is) (subst (λ (rs : Rows E). ConsecutiveFrom (least_of rs) rs) (sym same) h.0),
    h.1,
    subst (λ (j : ℕ). k < j) (ap (λ (rs : Rows E). length rs) (sym same) ∙ sym count) h.2,
  )

module _ {O E S : Type 0} where
  -- a turn keeps how many numbers there are, and the least
  pub counts_grown : (v : View O E) (c d : List (ℕ × S)) (added : History E) (least n : ℕ) → Counts (v, c) least n → Counts (passed v added, d) least n
  counts_grown v c d added least n h = (let p = h.0 in omega (arith, length-grown added v.rows), h.1 ∙ sym (least_of-grown added v.rows), h.2 ∙ sym (length-grown added v.rows))

  -- the two seats after a split
  pub split_at : (a b c d : Me S (View O E)) (k least n : ℕ) → b ≡ (record a.0 { cut = k }, a.1) → c ≡ (lower b.0, b.1) → d ≡ (upper b.0, []) → IsOutside a → Counts a least n → ConsecutiveFrom least a.0.rows → 0 < k → k < n
      → (IsOutside c × Counts c least (n - k)) × (IsOutside d × Counts d (least + (n - k)) k)
  split_at a b c d k least n is left right out counts are pos lt =
      let rows : Rows E = a.0.rows in let m : ℕ = length rows in let i : ℕ = m - k in let full : n ≡ m = counts.2 in
      let both : length (take i rows) + length (drop i rows) ≡ m = sym (length-append (take i rows) (drop i rows)) ∙ ap (λ (l : Rows E). length l) (take-append-drop i rows) in
      let high : length (drop i rows) ≡ k = let e : length (drop i rows) ≡ m - i = length-drop i rows in omega arith in
      let left' : c ≡ (record a.0 { cut = k; rows = take i rows }, a.1) = left ∙ (λ j. (lower (is j).0, (is j).1)) in
      let right' : d ≡ (record a.0 { cut = k; rows = drop i rows }, []) = right ∙ (λ j. (upper (is j).0, [])) in (
        subst (λ (x : Me S (View O E)). IsOutside x × Counts x least (n - k)) (sym left')
            (out, (omega arith, sym (least_of-consecutive least (take i rows) (omega arith) (ConsecutiveFrom-take least i rows are)), omega arith)),
        subst (λ (x : Me S (View O E)). IsOutside x × Counts x (least + (n - k)) k) (sym right')
            ((refl, out.1, out.2), (omega arith, ap (λ (z : ℕ). least + (z - k)) full ∙ sym (least_of-consecutive (least + i) (drop i rows) (omega arith) (ConsecutiveFrom-drop least i rows (omega arith) are)), sym high)),
      )

  -- the seat after a join
  pub join_at : (a b c d : Me S (View O E)) (k l n l' n' : ℕ) → c ≡ (united a.0 b.0, a.1) → d ≡ (record c.0 { cut = k }, c.1) → IsOutside a → Counts a l n → Counts b l' n' → IsOutside d × Counts d (min l l') (n + n')
  join_at a b c d k l n l' n' is last out counts counts' =
      let last' : d ≡ (record (united a.0 b.0) { cut = k }, a.1) = last ∙ (λ j. (record (is j).0 { cut = k }, (is j).1)) in let e = length-append a.0.rows b.0.rows in
      let pos = counts.0 in let x : n ≡ length a.0.rows = counts.2 in let y : n' ≡ length b.0.rows = counts'.2 in
      subst (λ (x : Me S (View O E)). IsOutside x × Counts x (min l l') (n + n')) (sym last')
      (out, (omega (arith, e), ap₂ min counts.1 counts'.1 ∙ sym (least_of-append a.0.rows b.0.rows counts.0 counts'.0), omega (arith, e)))

module _ {T : Type 0} where
  -- the slot of a closed table has the value
  pub closed_some : (xs : List (Option T)) (y : Option T) (P : T → Type 0) → ((x : T) × (get_elem? xs 0 ≡ some (Some x)) × P x) → get_elem? xs 0 ≡ some y → IsSome y
  closed_some xs y P e here = subst IsSome (some-injective (Some e.0) y (sym e.1 ∙ here)) refl

  -- what holds of that value holds of the one that is taken out
  pub closed_value : (xs : List (Option T)) (y : Option T) (z : T) (P : T → Type 0) → ((x : T) × (get_elem? xs 0 ≡ some (Some x)) × P x) → get_elem? xs 0 ≡ some y → y ≡ Some z → P z
  closed_value xs y z P e here is = subst P (some_same e.0 z (some-injective (Some e.0) y (sym e.1 ∙ here) ∙ is)) e.2

-- From the fields to what a lock, a pass and a hold are seen as.
module _ {T O E : Type 0} (op : T → O) (en : T → History E) where
  -- the hold that a seat with this view is seen as
  abbrev hold_of : TableId → View O E → SeenHeld O E
  hold_of n v = record { lock = record { table = n; start = v.start }; rows = v.rows; front = front_of v.front }

  -- the pass that a seat with this view is seen as
  abbrev pass_of : TableId → View O E → SeenPass O E
  pass_of n v = record { lock = record { table = n; start = v.start }; rows = v.rows; seen = v.seen }

  -- what `leave` asks, said of the seat's view
  pub goes_at : (n : TableId) (v : View O E) (h : SeenHeld O E) (l : SeenLock O E) (x : T) (added : History E) → hold_of n v ≡ h → h.lock ≡ name_of l → HasHistory op en l.start x (h.front ++ added) → All (λ (e : ℕ × E). e.0 ≡ least_of h.rows) added → Extends op en v x added
  goes_at n v h l x added is lock st all = (
    stands_if op en v.start l.start x (front_of v.front ++ added) (λ i. ((λ j. (is j).lock.start) ∙ (λ j. (lock j).start)) i) (subst (λ (f : History E). HasHistory op en l.start x (f ++ added)) (sym (ap (λ (z : SeenHeld O E). z.front) is)) st),
    subst (λ (rs : Rows E). All (λ (e : ℕ × E). e.0 ≡ least_of rs) added) (sym (ap (λ (z : SeenHeld O E). z.rows) is)) all,
  )

  -- the pass after a turn
  pub left_at : (n m : TableId) (r : Me (Option T) (View O E)) (v : View O E) (h : SeenHeld O E) (l : SeenLock O E) (x : T) (added : History E) → hold_of n v ≡ h → h.lock ≡ name_of l → m ≡ n → r ≡ (passed v (added_by v (en x)), [])
      → HasHistory op en l.start x (h.front ++ added) → pass_of m r.0 ≡ after_leave h added
  left_at n m r v h l x added is lock name r_is st =
      let s : v.start ≡ Some l.start = ap (λ (z : SeenHeld O E). z.lock.start) is ∙ ap (λ (z : LockName O E). z.start) lock in
      let cut : added_by v (en x) ≡ added = (λ i. drop (length (base_of (s i) ++ (is i).front)) (st.1 i)) ∙ ap (λ (xs : History E). drop (length (l.start.1 ++ h.front)) xs) (sym (append_assoc l.start.1 h.front added)) ∙ drop_whole (l.start.1 ++ h.front) added in
      (λ i. pass_of (name i) (r_is i).0) ∙ (λ i. pass_of n (passed v (cut i))) ∙ (λ i. after_leave (is i) added)

  -- a history that fits the view fits the pass
  pub fits_at : (n : TableId) (v : View O E) (p : SeenPass O E) (x : T) (f : History E) → pass_of n v ≡ p → Shows op en v x f → Fits p f
  fits_at n v p x f is s = subst (λ (z : SeenPass O E). Fits z f) is (s.1, s.2)

  -- what closing tells of the value
  pub closed_at : (n : TableId) (v : View O E) (p : SeenPass O E) (l : SeenLock O E) (x : T) (seats : ℕ) → pass_of n v ≡ p → p.lock ≡ name_of l → seats ≡ l.seats → ((f : History E) × Ended op en seats v x f) → IsClosed op en l p x
  closed_at n v p l x seats is lock same h =
      let fits = fits_at n v p x h.0 is h.1.0 in record {
        history = h.0;
        stands = stands_from op en v.start l.start x h.0 (ap (λ (z : SeenPass O E). z.lock.start) is ∙ ap (λ (z : LockName O E). z.start) lock) h.1.0.0;
        fits = fits;
        whole = λ k lt. Contains-row k h.0 p.rows (subst (λ (z : SeenPass O E). HasNumber k z.rows) is (h.1.1 k (subst (λ (s : ℕ). k < s) (sym same) lt))) fits.1;
        below = subst (λ (k : ℕ). All (λ (e : ℕ × E). e.0 < k) h.0) same h.1.2;
      }
