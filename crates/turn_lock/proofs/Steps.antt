-- Each step keeps the rule, and tells what its seat learns.
use Rattle.std.proofs.Common.{◌≡◌, ◌≢◌, ℕ, zero, suc, ◌+◌, ◌-◌, ◌%◌, ◌^◌, ◌<◌, ◌≤◌, List, [], ◌∷◌, ◌++◌, length, take, drop, set, eqb, Option, Some, None, IfSome, sym, refl, ap, ◌∙◌, subst, inl, inr, arith, append_assoc, append-nil, length-append, length-set, take-append-drop, get_or-set_other, get_or-set_same}
use mathlib.Core.Option.{none, some, some-ne-none}
use mathlib.Core.Logic.{dite}
use native.Mathlib.Decide.{ℕ_discrete}
use lib.ListN.{get_elem?, length-map}
use prog.Atomic.{either}
use Rattle.std.specs.List.{All, sum_by, slice_index}
use Rattle.std.proofs.lemmas.List.Elements.{All-nil, All-cons, All-append, All-map, All-weaker, All-take, All-drop, filter-append}
use Rattle.std.proofs.lemmas.List.Sums.{sum_by_push}
use Rattle.std.proofs.Math.Nat.{mod-add-mod}
use Rattle.atomic_table.specs.Table.{Allows, Me, State, Splits, Joins, Final, Seen, keeps, takes, gives, opening}
use Rattle.atomic_table.proofs.Lists.{set_here, set_else, set_again, at_longer, one_turn, exchanged}
use Rattle.turn_lock.specs.Entries.{Begins, History, Rows, entries_of, ConsecutiveFrom, least_of, HasNumber}
use Rattle.turn_lock.specs.Seen.{Start, HasHistory}
use Rattle.turn_lock.specs.Rule.{front_of, base_of, count, number, tickets, width, passed, lower, upper, united, spent, first_view, IsIdle, NobodyInside, AllOwned, ViewOk, TicketRule, Draws, Shows, Looks, Extends, EndsTurn, Notes}
use Rattle.turn_lock.specs.declared.view.View.{View}
use Rattle.turn_lock.proofs.ListLemmas.{within, at_end, sum_set, sum_le, sum_one, sum_two, each_set, begins_more, begins_itself, drop_whole, some_none, some_same, item_here, All-both}
use Rattle.turn_lock.proofs.OwnerLemmas.{put, put_here, put_else, given, given_other, given_low, given_high}
use Rattle.turn_lock.proofs.RowLemmas.{least_in, others_none, length-empty_rows, All-empty_rows, HasNumber-grown, HasNumber-empty_rows, lower_below, all_from, ConsecutiveFrom-drop}
use Rattle.turn_lock.proofs.ViewLemmas.{number_is, were_idle, same_view, owned_set, owned_split, owned_join, owned_whole, stands_if, stands_from}

-- what closing tells of the view v: the value's history fits it, it has every number, and every entry is of one of these
module _ {T O E : Type 0} (op : T → O) (en : T → History E) where
  abbrev pub Ended : ℕ → View O E → T → History E → Type 0
  Ended seats v x history = Shows op en v x history × ((k : ℕ) → k < seats → HasNumber k v.rows) × All (λ (e : ℕ × E). e.0 < seats) history

module _ {T O E : Type 0} (op : T → O) (en : T → History E) (start : Start O E) (seats : ℕ) where
  abbrev V : Type 0
  V = View O E

  abbrev St : Type 0
  St = State (Option T) V

  abbrev M : Type 0
  M = Me (Option T) V

  abbrev Rule : St → Type 0
  Rule = TicketRule op en start seats

  -- what the rule says of a row
  abbrev RowOk : (ℕ → ℕ) → History E → ℕ → ℕ × History E → Type 0
  RowOk owner history id row = (row.0 < seats) × (owner row.0 ≡ id) × (row.1 ≡ entries_of history row.0)

  -- a ticket is drawn
  pub draws : (slots id : ℕ) (me : M) → IsIdle me.0 → Allows Rule slots id me 0 (λ n. (n + 1) % 2 ^ 64) (Draws op en me)
  draws slots id me idle s h len at small =
      let n : ℕ = slice_index s.words 0 in let t : ℕ = h.drawn in let new : ℕ = (n + 1) % 2 ^ 64 in let w : V = record me.0 { ticket = Some t } in let mine = h.each id me.0 at in
      let wide : length s.words ≡ 2 = h.two_words in (
        w,
        keeps,
        tt,
        record {
          served = h.served;
          drawn = t + 1;
          owner = h.owner;
          taker = put h.taker t id;
          history = h.history;
          two_words = length-set s.words 0 new ∙ h.two_words;
          one_slot = h.one_slot;
          next_is = get_or-set_same s.words 0 new 0 (omega arith) ∙ ap (λ (k : ℕ). (k + 1) % 2 ^ 64) h.next_is ∙ mod-add-mod t (2 ^ 64) 1;
          served_is = get_or-set_other s.words 0 1 new 0 (λ e. omega arith) ∙ h.served_is;
          order = let o = h.order in omega arith;
          few = let few : t ≤ h.served + sum_by tickets s.views = h.few in let no : tickets me.0 ≡ 0 = ap count idle.0 in omega (arith, sum_set tickets s.views id me.0 w at);
          room = let room = h.room in omega (arith, sum_set width s.views id me.0 w at);
          short = h.short;
          owned = owned_set seats h.owner s.views id me.0 w at (λ k has. has) h.owned;
          each = each_set (λ j u. ViewOk start seats h.served (t + 1) h.owner (put h.taker t id) h.history j u) s.views id w
              (record {
                starts = mine.starts;
                seen = mine.seen;
                rows = mine.rows;
                ticket = λ k e. let is : t ≡ k = number_is k (Some t) e in let o = h.order in (omega arith, omega arith, ap (put h.taker t id) (sym is) ∙ put_here h.taker t id, idle.2);
                front = λ f e. absurd (some_none f me.0.front e idle.1);
              })
              (λ j u other here. let ok = h.each j u here in record {
                starts = ok.starts;
                seen = ok.seen;
                rows = ok.rows;
                ticket = λ k e. let a = ok.ticket k e in let lt : k < t = a.1 in (a.0, omega arith, put_else h.taker t id k (λ z. omega arith) ∙ a.2, a.3);
                front = ok.front;
              });
          below = h.below;
          home = λ free. h.home (were_idle s.views id me.0 w at idle.1 free);
        },
        (h.next_is, refl),
      )

  -- tickets out are fewer than a turn of the words
  near : (s : St) (h : Rule s) (t : ℕ) → t < h.drawn → t < h.served + 2 ^ 64
  near s h t lt = let few : h.drawn ≤ h.served + sum_by tickets s.views = h.few in let room : sum_by width s.views ≤ seats = h.room in let short : seats < 2 ^ 32 = h.short in
      let le = sum_le tickets width s.views (λ i v here. paid (h.each i v here) v.ticket refl) in omega arith
    where
      paid : {i : ℕ} {v : V} → ViewOk start seats h.served h.drawn h.owner h.taker h.history i v → (o : Option ℕ) → v.ticket ≡ o → count o ≤ width v
      paid ok None e = omega arith
      paid ok (Some k) e = let pos = (ok.ticket k e).3 in omega arith

  -- the rows fit the history that all know
  shown_rows : (s : St) (h : Rule s) (id : ℕ) (v : V) → get_elem? s.views id ≡ some v → All (λ (row : ℕ × History E). row.1 ≡ entries_of h.history row.0) v.rows
  shown_rows s h id v at = All-weaker (RowOk h.owner h.history id) (λ (row : ℕ × History E). row.1 ≡ entries_of h.history row.0) (λ _ p. p.2) v.rows (h.each id v at).rows

  -- where the ticket is served, nobody is marked, and the value is at home
  free_at : (s : St) (h : Rule s) (id : ℕ) (v : V) → get_elem? s.views id ≡ some v → v.front ≡ None → v.ticket ≡ Some h.served → NobodyInside s.views
  free_at s h id v at idle mine i u here = go u.front refl
    where
      go : (o : Option (History E)) → u.front ≡ o → u.front ≡ None
      go None e = e
      go (Some f) e = let his = (h.each i u here).front f e in
          let same : i ≡ id = sym ((h.each i u here).ticket h.served his.0).2 ∙ ((h.each id v at).ticket h.served mine).2 in
          ap (λ (x : V). x.front) (same_view s.views i id u v here at same) ∙ idle

  -- the word 1 is read, and the seat is marked or nothing changes
  pub looks : (slots id : ℕ) (me : M) (t : ℕ) → me.0.ticket ≡ Some t → me.0.front ≡ None → me.1 ≡ [] → Allows Rule slots id me 1 (λ n. n) (Looks op en me)
  looks slots id me t drawn idle empty s h len at small =
      let n : ℕ = slice_index s.words 1 in let ok = h.each id me.0 at in let wide : length s.words ≡ 2 = h.two_words in let is : number me.0.ticket ≡ t = number_is t me.0.ticket drawn in
      let ws = length-set s.words 1 n ∙ h.two_words in
      let next = get_or-set_other s.words 1 0 n 0 (λ e. omega arith) ∙ h.next_is in
      let served = get_or-set_same s.words 1 n 0 (omega arith) ∙ h.served_is in
      dite (ℕ_discrete n (t % 2 ^ 64))
      (λ hit.
      let tick = ok.ticket t drawn in
      let is_served : h.served ≡ t = one_turn h.served t (2 ^ 64) tick.0 (near s h t tick.1) (sym h.served_is ∙ hit) in
      let mine : me.0.ticket ≡ Some h.served = drawn ∙ ap (λ (k : ℕ). Some k) (sym is_served) in
      let home = h.home (free_at s h id me.0 at idle mine) in
      let w : V = record me.0 { front = Some h.history } in (
        w,
        takes 0 (Some home.0),
        home.1,
        record {
          served = h.served;
          drawn = h.drawn;
          owner = h.owner;
          taker = h.taker;
          history = h.history;
          two_words = ws;
          one_slot = length-set s.homes 0 none ∙ h.one_slot;
          next_is = next;
          served_is = served;
          order = h.order;
          few = let few = h.few in omega (arith, sum_set tickets s.views id me.0 w at);
          room = let room = h.room in omega (arith, sum_set width s.views id me.0 w at);
          short = h.short;
          owned = owned_set seats h.owner s.views id me.0 w at (λ k has. has) h.owned;
          each = each_set (λ j u. ViewOk start seats h.served h.drawn h.owner h.taker h.history j u) s.views id w
              (record {
                starts = ok.starts;
                seen = ok.seen;
                rows = ok.rows;
                ticket = ok.ticket;
                front = λ f e. (mine, sym (some_same h.history f e));
              })
              (λ j u other here. h.each j u here);
          below = h.below;
          home = λ free. absurd (some_none h.history (Some h.history) refl (free id w (set_here s.views id w (within s.views id me.0 at))));
        },
        (
          (λ _. (home.0, refl, (stands_if op en me.0.start start home.0 h.history (ok.starts tick.3) home.2, ok.seen, shown_rows s h id me.0 at))),
          λ miss. absurd (miss (hit ∙ ap (λ (k : ℕ). k % 2 ^ 64) (sym is))),
        ),
      ))
      (λ miss. (
        me.0,
        keeps,
        tt,
        record {
          served = h.served;
          drawn = h.drawn;
          owner = h.owner;
          taker = h.taker;
          history = h.history;
          two_words = ws;
          one_slot = h.one_slot;
          next_is = next;
          served_is = served;
          order = h.order;
          few = subst (λ (vs : List V). h.drawn ≤ h.served + sum_by tickets vs) (sym (set_again s.views id me.0 at)) h.few;
          room = subst (λ (vs : List V). sum_by width vs ≤ seats) (sym (set_again s.views id me.0 at)) h.room;
          short = h.short;
          owned = subst (AllOwned seats h.owner) (sym (set_again s.views id me.0 at)) h.owned;
          each = each_set (λ j u. ViewOk start seats h.served h.drawn h.owner h.taker h.history j u) s.views id me.0 ok (λ j u other here. h.each j u here);
          below = h.below;
          home = λ free. h.home (were_idle s.views id me.0 me.0 at idle free);
        },
        (
          (λ hit. absurd (miss (hit ∙ ap (λ (k : ℕ). k % 2 ^ 64) is))),
          λ _. refl,
        ),
      ))

  -- the value comes home with more entries, and the next ticket is served
  pub passes : (slots id : ℕ) (v : V) (x : T) (f added : History E) → v.front ≡ Some f → Extends op en v x added → Allows Rule slots id (v, (0, Some x) ∷ []) 1 (λ n. (n + 1) % 2 ^ 64) (λ n r. EndsTurn op en (v, (0, Some x) ∷ []) r)
  passes slots id v x f added marked goes s h len at small =
      let n : ℕ = slice_index s.words 1 in let new : ℕ = (n + 1) % 2 ^ 64 in let ok = h.each id v at in let wide : length s.words ≡ 2 = h.two_words in
      let fr = ok.front f marked in let tick = ok.ticket h.served fr.0 in let pos = tick.3 in
      let w : V = passed v added in
      let stands : HasHistory op en start x (h.history ++ added) = subst (λ (l : History E). HasHistory op en start x (l ++ added)) (ap front_of marked ∙ fr.1) (stands_from op en v.start start x (front_of v.front ++ added) (ok.starts pos) goes.0) in
      let least = least_in (λ k. (k < seats) × (h.owner k ≡ id)) v.rows pos (All-weaker (RowOk h.owner h.history id) (λ (row : ℕ × History E). (row.0 < seats) × (h.owner row.0 ≡ id)) (λ _ p. (p.0, p.1)) v.rows ok.rows) in
      let others = λ (k j : ℕ) (ne : j ≢ id) (o : h.owner k ≡ j). others_none k (least_of v.rows) added (λ e. ne (sym o ∙ ap h.owner e ∙ least.1)) goes.1 in
      let deep : length s.homes ≡ 1 = h.one_slot in (
        w,
        gives,
        tt,
        record {
          served = h.served + 1;
          drawn = h.drawn;
          owner = h.owner;
          taker = h.taker;
          history = h.history ++ added;
          two_words = length-set s.words 1 new ∙ h.two_words;
          one_slot = length-set s.homes 0 (some (Some x)) ∙ h.one_slot;
          next_is = get_or-set_other s.words 1 0 new 0 (λ e. omega arith) ∙ h.next_is;
          served_is = get_or-set_same s.words 1 new 0 (omega arith) ∙ ap (λ (k : ℕ). (k + 1) % 2 ^ 64) h.served_is ∙ mod-add-mod h.served (2 ^ 64) 1;
          order = let lt = tick.1 in omega arith;
          few = let few = h.few in let one : tickets v ≡ 1 = ap count fr.0 in omega (arith, sum_set tickets s.views id v w at);
          room = let room = h.room in let same : width w ≡ width v = length-map v.rows (λ (row : ℕ × History E). (row.0, row.1 ++ entries_of added row.0)) in omega (arith, sum_set width s.views id v w at);
          short = h.short;
          owned = owned_set seats h.owner s.views id v w at (λ k. HasNumber-grown k added v.rows) h.owned;
          each = each_set (λ j u. ViewOk start seats (h.served + 1) h.drawn h.owner h.taker (h.history ++ added) j u) s.views id w
              (record {
                starts = λ _. ok.starts pos;
                seen = All-cons (Begins (h.history ++ added)) (front_of v.front ++ added) [] (subst (λ (l : History E). Begins (h.history ++ added) (l ++ added)) (sym (ap front_of marked ∙ fr.1)) (begins_itself (h.history ++ added))) (All-nil (Begins (h.history ++ added)));
                rows = All-map (RowOk h.owner (h.history ++ added) id) (λ (row : ℕ × History E). (row.0, row.1 ++ entries_of added row.0)) v.rows
                    (All-weaker (RowOk h.owner h.history id) (λ (row : ℕ × History E). (row.0 < seats) × (h.owner row.0 ≡ id) × (row.1 ++ entries_of added row.0 ≡ entries_of (h.history ++ added) row.0))
                    (λ row p. (p.0, p.1, ap (λ (l : History E). l ++ entries_of added row.0) p.2 ∙ sym (filter-append (λ (e : ℕ × E). eqb e.0 row.0) h.history added))) v.rows ok.rows);
                ticket = λ k e. absurd (some_none k None e refl);
                front = λ g e. absurd (some_none g None e refl);
              })
              (λ j u other here. let his = h.each j u here in record {
                starts = his.starts;
                seen = All-weaker (Begins h.history) (Begins (h.history ++ added)) (λ p b. begins_more h.history p added b) u.seen his.seen;
                rows = All-weaker (RowOk h.owner h.history j) (RowOk h.owner (h.history ++ added) j)
                    (λ row p. (p.0, p.1, p.2 ∙ sym (append-nil (entries_of h.history row.0)) ∙ ap (λ (l : History E). entries_of h.history row.0 ++ l) (sym (others row.0 j other p.1)) ∙ sym (filter-append (λ (e : ℕ × E). eqb e.0 row.0) h.history added))) u.rows his.rows;
                ticket = λ k e. let a = his.ticket k e in let le : h.served ≤ k = a.0 in let ne : k ≢ h.served = λ z. other (sym a.2 ∙ ap h.taker z ∙ tick.2) in (omega arith, a.1, a.2, a.3);
                front = λ g e. absurd (other (sym (his.ticket h.served (his.front g e).0).2 ∙ tick.2));
              });
          below = All-append (λ (e : ℕ × E). e.0 < seats) h.history added h.below (All-weaker (λ (e : ℕ × E). e.0 ≡ least_of v.rows) (λ (e : ℕ × E). e.0 < seats) (λ e p. subst (λ (k : ℕ). k < seats) (sym p) least.0) added goes.1);
          home = λ _. (x, set_here s.homes 0 (some (Some x)) (omega arith), stands);
        },
        (λ y same. ap (λ (l : History E). (passed v l, [])) (cut_off [] v.start (ok.starts pos) y (item_here x y [] [] same) goes.0)),
      )
    where
      cut_off : (b : History E) (o : Option (Start O E)) → o ≡ Some start → (y : T) → x ≡ y → IfSome o (λ z. HasHistory op en z x (front_of v.front ++ added)) → added ≡ drop (length (base_of o ++ front_of v.front)) (en y)
      cut_off b None e y same st = absurd (some_none start None e refl)
      cut_off b (Some z) e y same st = sym (ap (drop (length (z.1 ++ front_of v.front))) (ap en (sym same) ∙ st.1 ∙ sym (append_assoc z.1 (front_of v.front) added)) ∙ drop_whole (z.1 ++ front_of v.front) added)

  -- the numbers from c on go to a new seat
  pub splits : (id : ℕ) (v : V) (c : ℕ) → IsIdle v → All (λ (row : ℕ × History E). row.0 < c) (lower v).rows → All (λ (row : ℕ × History E). c ≤ row.0) (upper v).rows → Splits Rule id v (lower v) (upper v)
  splits id v c idle low high s h at =
      let ok = h.each id v at in let views : List V = set s.views id (lower v) in let n : ℕ = length views in let owner : ℕ → ℕ = given h.owner id c n in let k : ℕ = length v.rows - v.cut in
      let new_length : length views ≡ length s.views = length-set s.views id (lower v) in let in' = within s.views id v at in
      record {
        served = h.served;
        drawn = h.drawn;
        owner = owner;
        taker = h.taker;
        history = h.history;
        two_words = h.two_words;
        one_slot = h.one_slot;
        next_is = h.next_is;
        served_is = h.served_is;
        order = h.order;
        few = let few = h.few in let no : tickets v ≡ 0 = ap count idle.0 in omega (arith, sum_set tickets s.views id v (lower v) at, sum_by_push tickets views (upper v));
        room = let room = h.room in let a : width (lower v) + width (upper v) ≡ width v = sym (length-append (take k v.rows) (drop k v.rows)) ∙ ap (λ (l : Rows E). length l) (take-append-drop k v.rows) in
            omega (arith, sum_set width s.views id v (lower v) at, sum_by_push width views (upper v));
        short = h.short;
        owned = owned_split seats h.owner s.views id c v at low high h.owned;
        each = λ j u here. elim (at_end views (upper v) u j here) [
          | inl there ↦ each_set (λ i w. ViewOk start seats h.served h.drawn owner h.taker h.history i w) s.views id (lower v)
              (record {
                starts = λ pos. ok.starts idle.2;
                seen = ok.seen;
                rows = All-both (RowOk h.owner h.history id) (λ (row : ℕ × History E). row.0 < c) (RowOk owner h.history id) (λ row p l. (p.0, given_low h.owner id c n row.0 l ∙ p.1, p.2)) (lower v).rows
                    (All-take (RowOk h.owner h.history id) k v.rows ok.rows) low;
                ticket = λ t e. absurd (some_none t v.ticket e idle.0);
                front = λ f e. absurd (some_none f v.front e idle.1);
              })
              (λ i w other old. let his = h.each i w old in record {
                starts = his.starts;
                seen = his.seen;
                rows = All-weaker (RowOk h.owner h.history i) (RowOk owner h.history i) (λ row p. (p.0, given_other h.owner id c n row.0 (λ z. other (sym p.1 ∙ z)) ∙ p.1, p.2)) w.rows his.rows;
                ticket = his.ticket;
                front = his.front;
              }) j u there
          | inr last ↦ subst (λ (z : ℕ × V). ViewOk start seats h.served h.drawn owner h.taker h.history z.0 z.1) (λ i. (sym last.0 i, last.1 i))
              (record {
                starts = λ pos. ok.starts idle.2;
                seen = ok.seen;
                rows = All-both (RowOk h.owner h.history id) (λ (row : ℕ × History E). c ≤ row.0) (RowOk owner h.history n) (λ row p l. (p.0, given_high h.owner id c n row.0 p.1 l, p.2)) (upper v).rows
                    (All-drop (RowOk h.owner h.history id) k v.rows ok.rows) high;
                ticket = λ t e. absurd (some_none t v.ticket e idle.0);
                front = λ f e. absurd (some_none f v.front e idle.1);
              })
        ];
        below = h.below;
        home = λ free. h.home (were_idle s.views id v (lower v) at idle.1 (λ i u here. free i u (at_longer views (upper v ∷ []) i u here)));
      }

  -- the numbers of the seat other go to the seat id
  pub joins : (id : ℕ) (v : V) (other : ℕ) (w : V) → IsIdle v → IsIdle w → Joins Rule id v other w (united v w) spent
  joins id v other w idle idle' s h at apart at' =
      let first : List V = set s.views id (united v w) in let ok = h.each id v at in
      let there : get_elem? s.views other ≡ some w = sym (set_else s.views id other (united v w) apart) ∙ at' in let ok' = h.each other w there in
      let owner : ℕ → ℕ = given h.owner other 0 id in
      record {
        served = h.served;
        drawn = h.drawn;
        owner = owner;
        taker = h.taker;
        history = h.history;
        two_words = h.two_words;
        one_slot = h.one_slot;
        next_is = h.next_is;
        served_is = h.served_is;
        order = h.order;
        few = let few = h.few in let no : tickets v ≡ 0 = ap count idle.0 in let no' : tickets w ≡ 0 = ap count idle'.0 in omega (arith, sum_set tickets s.views id v (united v w) at, sum_set tickets first other w spent at');
        room = let room = h.room in omega (arith, sum_set width s.views id v (united v w) at, sum_set width first other w spent at', length-append v.rows w.rows);
        short = h.short;
        owned = owned_join seats h.owner s.views id other v w apart at there h.owned;
        each = each_set (λ i u. ViewOk start seats h.served h.drawn owner h.taker h.history i u) first other spent
            (record {
              starts = λ pos. absurd (omega arith);
              seen = All-nil (Begins h.history);
              rows = All-nil (RowOk owner h.history other);
              ticket = λ t e. absurd (some_none t None e refl);
              front = λ f e. absurd (some_none f None e refl);
            })
            (λ j u ne here. each_set (λ i x. i ≢ other → ViewOk start seats h.served h.drawn owner h.taker h.history i x) s.views id (united v w)
            (λ _. record {
              starts = λ pos. ok.starts idle.2;
              seen = All-append (Begins h.history) v.seen w.seen ok.seen ok'.seen;
              rows = All-append (RowOk owner h.history id) v.rows w.rows
                  (All-weaker (RowOk h.owner h.history id) (RowOk owner h.history id) (λ row p. (p.0, given_other h.owner other 0 id row.0 (λ z. apart (sym z ∙ p.1)) ∙ p.1, p.2)) v.rows ok.rows)
                  (All-weaker (RowOk h.owner h.history other) (RowOk owner h.history id) (λ row p. (p.0, given_high h.owner other 0 id row.0 p.1 (omega arith), p.2)) w.rows ok'.rows);
              ticket = λ t e. absurd (some_none t v.ticket e idle.0);
              front = λ f e. absurd (some_none f v.front e idle.1);
            })
            (λ i x _ old not. let his = h.each i x old in record {
              starts = his.starts;
              seen = his.seen;
              rows = All-weaker (RowOk h.owner h.history i) (RowOk owner h.history i) (λ row p. (p.0, given_other h.owner other 0 id row.0 (λ z. not (sym p.1 ∙ z)) ∙ p.1, p.2)) x.rows his.rows;
              ticket = his.ticket;
              front = his.front;
            }) j u here ne);
        below = h.below;
        home = λ free. h.home (were_idle s.views id v (united v w) at idle.1 (were_idle first other w spent at' idle'.1 free));
      }

  -- the table at the start
  pub starts_well : (x : T) → start ≡ (op x, en x) → seats < 2 ^ 32 → Rule (opening (0 ∷ 0 ∷ []) (Some x ∷ []) (first_view start seats))
  starts_well x is short = record {
    served = 0;
    drawn = 0;
    owner = λ _. 0;
    taker = λ _. 0;
    history = [];
    two_words = refl;
    one_slot = refl;
    next_is = refl;
    served_is = refl;
    order = omega arith;
    few = omega arith;
    room = omega (arith, length-empty_rows E 0 seats);
    short = short;
    owned = λ k lt. (first_view start seats, refl, HasNumber-empty_rows E k 0 seats (omega arith) (omega arith));
    each = each_set (λ i u. ViewOk start seats 0 0 (λ _. 0) (λ _. 0) [] i u) (first_view start seats ∷ []) 0 (first_view start seats)
        (record {
          starts = λ _. refl;
          seen = All-nil (Begins []);
          rows = All-empty_rows (RowOk (λ _. 0) [] 0) 0 seats (λ j l. (omega arith, refl, refl));
          ticket = λ t e. absurd (some_none t None e refl);
          front = λ f e. absurd (some_none f None e refl);
        })
        (λ j u other here. absurd (beyond j u other here));
    below = All-nil (λ (e : ℕ × E). e.0 < seats);
    home = λ _. (x, refl, (ap (λ z. z.0) (sym is), ap (λ z. z.1) (sym is) ∙ sym (append-nil start.1)));
  }
    where
      beyond : (j : ℕ) (u : V) → j ≢ 0 → get_elem? (first_view start seats ∷ []) j ≡ some u → ⊥
      beyond zero u other here = other refl
      beyond (suc j) u other here = some-ne-none u (sym here)

  -- what a seat with all numbers knows of the last state
  pub ends : (s : St) (h : Rule s) (id : ℕ) (v : V) → get_elem? s.views id ≡ some v → IsIdle v → length v.rows ≡ seats → (x : T) × (get_elem? s.homes 0 ≡ some (some (Some x))) × Ended op en seats v x h.history
  ends s h id v at idle all =
      let home = h.home (λ i u here. go i u here u.front refl) in let ok = h.each id v at in (
        home.0,
        home.1,
        (
          (stands_if op en v.start start home.0 h.history (ok.starts idle.2) home.2, ok.seen, shown_rows s h id v at),
          owned_whole seats h.owner s.views id v at all h.room h.owned,
          h.below,
        ),
      )
    where
      go : (i : ℕ) (u : V) → get_elem? s.views i ≡ some u → (o : Option (History E)) → u.front ≡ o → u.front ≡ None
      go i u here None e = e
      go i u here (Some f) e = dite (ℕ_discrete i id) (λ same. ap (λ (z : V). z.front) (same_view s.views i id u v here at same) ∙ idle.1)
          (λ other. let his = h.each i u here in let pos = (his.ticket h.served (his.front f e).0).3 in let room = h.room in let both = sum_two width s.views id i v u at here other in absurd (omega arith))

  -- a number is noted in an idle view, and nothing else changes
  pub notes : (slots id : ℕ) (me : M) (k : ℕ) → IsIdle me.0 → Allows (Rule) slots id me 0 (λ n. either (eqb n k) k n) (λ n r. Notes me k r)
  notes slots id me k idle s h len at small =
      let n : ℕ = slice_index s.words 0 in let new : ℕ = either (eqb n k) k n in let w : V = record me.0 { cut = k } in let ok = h.each id me.0 at in let wide : length s.words ≡ 2 = h.two_words in
      let same : new ≡ n = exchanged n k k (λ z. z ≡ n) (λ hit. sym hit) (λ _. refl) in let room : sum_by width s.views ≤ seats = h.room in let short : seats < 2 ^ 32 = h.short in (
        w,
        keeps,
        tt,
        record {
          served = h.served;
          drawn = h.drawn;
          owner = h.owner;
          taker = h.taker;
          history = h.history;
          two_words = length-set s.words 0 new ∙ h.two_words;
          one_slot = h.one_slot;
          next_is = get_or-set_same s.words 0 new 0 (omega arith) ∙ same ∙ h.next_is;
          served_is = get_or-set_other s.words 0 1 new 0 (λ e. omega arith) ∙ h.served_is;
          order = h.order;
          few = let few = h.few in omega (arith, sum_set tickets s.views id me.0 w at);
          room = omega (arith, sum_set width s.views id me.0 w at);
          short = h.short;
          owned = owned_set seats h.owner s.views id me.0 w at (λ k has. has) h.owned;
          each = each_set (λ j u. ViewOk start seats h.served h.drawn h.owner h.taker h.history j u) s.views id w
              (record { starts = ok.starts; seen = ok.seen; rows = ok.rows; ticket = ok.ticket; front = ok.front })
              (λ j u other here. h.each j u here);
          below = h.below;
          home = λ free. h.home (were_idle s.views id me.0 w at idle.1 free);
        },
        (
          refl,
          (let one = sum_one width s.views id me.0 at in omega arith),
          All-weaker (RowOk h.owner h.history id) (λ (row : ℕ × History E). row.0 < 2 ^ 32) (λ row p. let l = p.0 in omega arith) me.0.rows ok.rows,
        ),
      )

  pub splits_from : (id : ℕ) (v : V) (first : ℕ) → IsIdle v → ConsecutiveFrom first v.rows → Splits (Rule) id v (lower v) (upper v)
  splits_from id v first idle are = let k : ℕ = length v.rows - v.cut in splits id v (first + k) idle (lower_below first k v.rows are)
      (all_from (first + k) (drop k v.rows) (ConsecutiveFrom-drop first k v.rows (omega arith) are))

  -- the same of the table's last words and slots
  pub closes : (id : ℕ) (v : V) (ws : List ℕ) (xs : List (Option T)) → Final (Seen Rule id v) ws xs → IsIdle v → length v.rows ≡ seats → (x : T) × (get_elem? xs 0 ≡ some (Some x)) × ((history : History E) × Ended op en seats v x history)
  closes id v ws xs f idle all = let end = ends f.0 f.1.0 id v f.1.1 idle all in (end.0, f.4 0 (Some end.0) end.1, (f.1.0.history, end.2))
