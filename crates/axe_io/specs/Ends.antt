-- What stores and sinks tell, and what their failures come from.
use Rattle.std.specs.Prelude.{◌≡◌, ◌⊎◌, ℕ, ◌-◌, ◌^◌, ◌<◌, List, [], ◌++◌, length, take, Option, Some, None, Result, Ok, Err, option_map}
use Rattle.axe_io.specs.declared.store.StoreError.{StoreError}
use Rattle.axe_io.specs.declared.store.StoreError.TheVariants.{Failed, TooLong, Memory}
use Rattle.axe_io.specs.declared.sink.WriteEnd.{WriteEnd}
use Rattle.axe_io.specs.declared.sink.WriteEnd.TheVariants as ends

-- what a store tells of a name: None where it tells nothing, Some None where nothing stands there
abbrev pub Told : Type 0
Told = Option (Option (List ℕ))

-- a count of faults rose, or stands at its type's end
abbrev pub Rose : ℕ → ℕ → Type 0
Rose before now = (before < now) ⊎ (before ≡ 2 ^ 64 - 1)

-- what was read is what stands there, where that is told
abbrev pub IsContent : Told → List ℕ → Type 0
IsContent None bytes = Unit {0}
IsContent (Some content) bytes = content ≡ Some bytes

-- what stands there is longer than a limit, where that is told
abbrev pub IsLonger : Told → ℕ → Type 0
IsLonger None limit = Unit {0}
IsLonger (Some None) limit = ⊥
IsLonger (Some (Some bytes)) limit = limit < length bytes

-- when a read gives nothing: told is what the store tells of the name, before and now are its counts of faults. Where
-- nothing stands there it has failed, and only where it has failed may the count rise
abbrev pub HasReadCause : Told → ℕ → ℕ → ℕ → StoreError → Type 0
HasReadCause told limit before now Failed = Rose before now ⊎ (told ≡ Some None)
HasReadCause told limit before now (TooLong named) = (named ≡ limit) × IsLonger told limit × (now ≡ before)
HasReadCause told limit before now Memory = (told ≡ Some None → ⊥) × (now ≡ before)

-- what was written has grown by the text, where that is told
abbrev pub Appends : Option (List ℕ) → Option (List ℕ) → List ℕ → Type 0
Appends old new text = new ≡ option_map (λ bytes. bytes ++ text) old

-- the bytes that a call of write took
abbrev pub taken_of : {E : Type 0} → Result ℕ E → List ℕ → List ℕ
taken_of (Ok n) bytes = take n bytes
taken_of (Err e) bytes = []

-- the first bytes of a text that were written
abbrev pub written_by : {T : Type 0} → Result T WriteEnd → List ℕ → List ℕ
written_by (Ok _) bytes = bytes
written_by (Err (ends.Failed n)) bytes = take n bytes
written_by (Err (ends.TookNothing n)) bytes = take n bytes

-- how many of them there were, at most all
abbrev pub written_count : WriteEnd → ℕ
written_count (ends.Failed n) = n
written_count (ends.TookNothing n) = n

-- when not all of a text was written: before and now are the sink's counts of refused writes
abbrev pub HasWriteCause : ℕ → ℕ → WriteEnd → Type 0
HasWriteCause before now (ends.Failed n) = Rose before now
HasWriteCause before now (ends.TookNothing n) = now ≡ before
