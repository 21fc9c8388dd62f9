-- The rule of the lock: what its words, its slot and the views of all seats have in common between any two steps. And what each step tells.
-- Word 0 is the next ticket and word 1 the ticket served, both modulo 2^64. Slot 0 holds the value.
use Rattle.std.specs.Prelude.{◌≡◌, ◌≢◌, ◌<◌, ◌≤◌, ◌+◌, ◌-◌, ◌%◌, ◌^◌, ◌++◌, ℕ, List, [], ◌∷◌, Option, Some, None, IfSome, length, take, drop, sum_by, slice_index, All}
use mathlib.Core.Option.{some}
use lib.ListN.{get_elem?}
use Rattle.atomic_table.specs.Table.{State, Me}
use Rattle.turn_lock.specs.Entries.{Begins, History, entries_of, empty_rows, least_of, HasNumber, grown}
use Rattle.turn_lock.specs.Seen.{Start, HasHistory}
use Rattle.turn_lock.specs.declared.view.View.{View}

-- how many tickets this is
abbrev pub count : Option ℕ → ℕ
count None = 0
count (Some ticket) = 1

-- the ticket, or 0
abbrev pub number : Option ℕ → ℕ
number None = 0
number (Some ticket) = ticket

module _ {E : Type 0} where
  -- the front, or an empty one
  abbrev pub front_of : Option (History E) → History E
  front_of None = []
  front_of (Some front) = front

  -- the entries that were put in, or none
  abbrev pub base_of : {O : Type 0} → Option (Start O E) → History E
  base_of None = []
  base_of (Some start) = start.1

module _ {O E : Type 0} where
  -- how many tickets a view has out
  abbrev pub tickets : View O E → ℕ
  tickets v = count v.ticket

  -- how many numbers a view has
  abbrev pub width : View O E → ℕ
  width v = length v.rows

  -- the ticket that a view has out
  abbrev pub ticket_of : View O E → ℕ
  ticket_of v = number v.ticket

  -- what the entries of a value have after those put in and the front
  abbrev pub added_by : View O E → History E → History E
  added_by v entries = drop (length (base_of v.start ++ front_of v.front)) entries

  -- the view after its turn, in which these entries were added
  abbrev pub passed : View O E → History E → View O E
  passed v added = record v { rows = grown added v.rows; seen = (front_of v.front ++ added) ∷ []; ticket = None; front = None }

  -- the view without its last `cut` rows
  abbrev pub lower : View O E → View O E
  lower v = record v { rows = take (length v.rows - v.cut) v.rows }

  -- the view with its last `cut` rows alone
  abbrev pub upper : View O E → View O E
  upper v = record v { rows = drop (length v.rows - v.cut) v.rows }

  -- the view that has the rows of both, and has seen what both have seen
  abbrev pub united : View O E → View O E → View O E
  united v w = record v { rows = v.rows ++ w.rows; seen = v.seen ++ w.seen }

  -- the view of a seat that was joined to another
  abbrev pub spent : View O E
  spent = record { start = None; rows = []; seen = []; ticket = None; front = None; cut = 0 }

  -- the view of the first seat, which has all numbers
  abbrev pub first_view : Start O E → ℕ → View O E
  first_view start seats = record { start = Some start; rows = empty_rows 0 seats; seen = []; ticket = None; front = None; cut = 0 }

  -- a view with no ticket out
  abbrev pub IsIdle : View O E → Type 0
  IsIdle v = (v.ticket ≡ None) × (v.front ≡ None) × (0 < length v.rows)

  -- nobody is between the look that found its ticket served and the step that serves the next
  abbrev pub NobodyInside : List (View O E) → Type 0
  NobodyInside views = (id : ℕ) (v : View O E) → get_elem? views id ≡ some v → v.front ≡ None

  -- each number below seats is in the view of its owner
  abbrev pub AllOwned : ℕ → (ℕ → ℕ) → List (View O E) → Type 0
  AllOwned seats owner views = (k : ℕ) → k < seats → (v : View O E) × (get_elem? views (owner k) ≡ some v) × HasNumber k v.rows

-- What the rule says of the view of the seat id. A number has one owner and a ticket one taker, so no two seats share either.
pub record ViewOk {O E : Type 0} (start : Start O E) (seats served drawn : ℕ) (owner taker : ℕ → ℕ) (history : History E) (id : ℕ) (v : View O E) : Type 0 where
  pub starts : 0 < length v.rows → v.start ≡ Some start
  pub seen : All (Begins history) v.seen
  pub rows : All (λ row. (row.0 < seats) × (owner row.0 ≡ id) × (row.1 ≡ entries_of history row.0)) v.rows
  pub ticket : (t : ℕ) → v.ticket ≡ Some t → (served ≤ t) × (t < drawn) × (taker t ≡ id) × (0 < length v.rows)
  pub front : (f : History E) → v.front ≡ Some f → (v.ticket ≡ Some served) × (f ≡ history)

module _ {T O E : Type 0} (opening : T → O) (entries : T → History E) where
  -- The rule. Tickets are counted without end, and a word has such a number modulo 2^64. The history is that of the value when it was last at home.
  pub record TicketRule (start : Start O E) (seats : ℕ) (s : State (Option T) (View O E)) : Type 0 where
    pub served : ℕ
    pub drawn : ℕ
    pub owner : ℕ → ℕ
    pub taker : ℕ → ℕ
    pub history : History E
    pub two_words : length s.words ≡ 2
    pub one_slot : length s.homes ≡ 1
    pub next_is : slice_index s.words 0 ≡ drawn % 2 ^ 64
    pub served_is : slice_index s.words 1 ≡ served % 2 ^ 64
    pub order : served ≤ drawn
    pub few : drawn ≤ served + sum_by tickets s.views
    pub room : sum_by width s.views ≤ seats
    pub short : seats < 2 ^ 32
    pub owned : AllOwned seats owner s.views
    pub each : (id : ℕ) (v : View O E) → get_elem? s.views id ≡ some v → ViewOk start seats served drawn owner taker history id v
    pub below : All (λ entry. entry.0 < seats) history
    pub home : NobodyInside s.views → (value : T) × (get_elem? s.homes 0 ≡ some (some (Some value))) × HasHistory opening entries start value history

  -- a draw: the word's old number is the seat's ticket
  abbrev pub Draws : Me (Option T) (View O E) → ℕ → Me (Option T) (View O E) → Type 0
  Draws me found after = (found ≡ ticket_of after.0 % 2 ^ 64) × (after ≡ (record me.0 { ticket = Some (ticket_of after.0) }, me.1))

  -- the value has what was put in and then the history f, which fits what the view knows
  abbrev pub Shows : View O E → T → History E → Type 0
  Shows v value f = IfSome v.start (λ start. HasHistory opening entries start value f) × All (Begins f) v.seen × All (λ row. row.1 ≡ entries_of f row.0) v.rows

  -- the seat takes the value out, and its front is the value's history
  abbrev pub TakesOut : Me (Option T) (View O E) → Me (Option T) (View O E) → Type 0
  TakesOut me after = (value : T) × (after ≡ (record me.0 { front = Some (front_of after.0.front) }, (0, Some value) ∷ me.1)) × Shows me.0 value (front_of after.0.front)

  -- a look: where the seat's ticket is served it takes the value out, and else nothing changes
  abbrev pub Looks : Me (Option T) (View O E) → ℕ → Me (Option T) (View O E) → Type 0
  Looks me found after = (found ≡ ticket_of me.0 % 2 ^ 64 → TakesOut me after) × (found ≢ ticket_of me.0 % 2 ^ 64 → after ≡ me)

  -- the value goes on from the front by entries of the least number alone
  abbrev pub Extends : View O E → T → History E → Type 0
  Extends v value added = IfSome v.start (λ start. HasHistory opening entries start value (front_of v.front ++ added)) × All (λ entry. entry.0 ≡ least_of v.rows) added

  -- the end of a turn: the value comes home, and what was added to it is in the view
  abbrev pub EndsTurn : Me (Option T) (View O E) → Me (Option T) (View O E) → Type 0
  EndsTurn me after = (value : T) → me.1 ≡ (0, Some value) ∷ [] → after ≡ (passed me.0 (added_by me.0 (entries value)), [])

module _ {O E S : Type 0} where
  -- a pass or a hold acts under its least number, and has n numbers
  abbrev pub Counts : Me S (View O E) → ℕ → ℕ → Type 0
  Counts me least n = (0 < length me.0.rows) × (least ≡ least_of me.0.rows) × (n ≡ length me.0.rows)

  -- a seat with no ticket out, which holds nothing
  abbrev pub IsOutside : Me S (View O E) → Type 0
  IsOutside me = (me.1 ≡ []) × (me.0.ticket ≡ None) × (me.0.front ≡ None)

  -- the number k was noted for a split, and the rows are few and their numbers small
  abbrev pub Notes : Me S (View O E) → ℕ → Me S (View O E) → Type 0
  Notes me k after = (after ≡ (record me.0 { cut = k }, me.1)) × (length me.0.rows < 2 ^ 32) × All (λ row. row.0 < 2 ^ 32) me.0.rows
