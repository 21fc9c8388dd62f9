-- What contracts see of a lock, a pass and a hold, and what they say of them.
use Rattle.std.specs.Prelude.{◌≡◌, ◌<◌, ◌-◌, ◌++◌, ℕ, length, List, [], ◌∷◌, Option, Some, All, Contains}
use Rattle.atomic_table.specs.Seated.{TableId}
use Rattle.turn_lock.specs.Entries.{Begins, ConsecutiveFrom, History, Rows, empty_rows, entries_of, grown, least_of}

-- what was put into a lock: the value's opening, and the entries that it had then
abbrev pub Start : Type 0 → Type 0 → Type 0
Start O E = O × History E

-- the name of a lock, which its passes and holds carry, with what was put in
pub record LockName (O E : Type 0) : Type 0 where
  pub table : TableId
  pub start : Option (Start O E)

-- a lock: which one it is, what was put in, and how many seats it has
pub record SeenLock (O E : Type 0) : Type 0 where
  pub table : TableId
  pub start : Start O E
  pub seats : ℕ

-- a pass: the name of its lock, its numbers with their entries, and the histories that it has seen
pub record SeenPass (O E : Type 0) : Type 0 where
  pub lock : LockName O E
  pub rows : Rows E
  pub seen : List (History E)

-- a hold: the name of its lock, its numbers with their entries, and the history of the value as it was taken out
pub record SeenHeld (O E : Type 0) : Type 0 where
  pub lock : LockName O E
  pub rows : Rows E
  pub front : History E

module _ {O E : Type 0} where
  -- the name that the passes of this lock carry
  abbrev pub name_of : SeenLock O E → LockName O E
  name_of lock = record { table = lock.table; start = Some lock.start }

  -- the pass that a hold becomes when these entries were added
  abbrev pub after_leave : SeenHeld O E → History E → SeenPass O E
  after_leave held added = record { lock = held.lock; rows = grown added held.rows; seen = (held.front ++ added) ∷ [] }

  -- the history begins with each history that the pass has seen, and each of the pass's lists is that of its number's entries
  abbrev pub Fits : SeenPass O E → History E → Type 0
  Fits pass history = All (Begins history) pass.seen × All (λ row. row.1 ≡ entries_of history row.0) pass.rows

module _ {O E : Type 0} where
  -- passes of the lock of this name, each with one number and no entries yet: the first has the number n, each next a number less
  abbrev pub AreDealt : LockName O E → ℕ → List (SeenPass O E) → Type 0
  AreDealt lock n [] = Unit {0}
  AreDealt lock n (pass ∷ passes) = (pass.lock ≡ lock) × (pass.rows ≡ empty_rows n 1) × AreDealt lock (n - 1) passes

  -- the same numbers, whatever entries they have
  abbrev pub AreNumbered : LockName O E → ℕ → List (SeenPass O E) → Type 0
  AreNumbered lock n [] = Unit {0}
  AreNumbered lock n (pass ∷ passes) = (pass.lock ≡ lock) × (length pass.rows ≡ 1) × ConsecutiveFrom n pass.rows × AreNumbered lock (n - 1) passes

module _ {T O E : Type 0} (opening : T → O) (entries : T → History E) where
  -- the value has the opening that was put in, the entries that were put in, and after them this history
  abbrev pub HasHistory : Start O E → T → History E → Type 0
  HasHistory start value history = (opening value ≡ start.0) × (entries value ≡ start.1 ++ history)

  -- the value goes on from what the hold took out: entries were added, all under the hold's least number
  abbrev pub GoesOn : Start O E → SeenHeld O E → T → Type 0
  GoesOn start held value = (added : History E) × HasHistory start value (held.front ++ added) × All (λ entry. entry.0 ≡ least_of held.rows) added

  -- the value that closing the lock with this pass gives: its history has each number's entries as the pass has them, and no others
  pub record IsClosed (lock : SeenLock O E) (pass : SeenPass O E) (value : T) : Type 0 where
    pub history : History E
    pub stands : HasHistory lock.start value history
    pub fits : Fits pass history
    pub whole : (k : ℕ) → k < lock.seats → Contains pass.rows (k, entries_of history k)
    pub below : All (λ entry. entry.0 < lock.seats) history
