-- Why a stage stops.
use Rattle.std.specs.Prelude.{◌≡◌, ◌⊎◌, ℕ, List, Some, None, Err}
use Rattle.axe_io.specs.Ends.{Told, IsLonger, Rose}
use Rattle.axe_io.specs.declared.store.StoreError.{StoreError}
use Rattle.axe_io.specs.declared.store.StoreError.TheVariants as store
use Rattle.verdict_text.specs.declared.verdict.Refusal.{Refusal}
use Rattle.verdict_text.specs.declared.verdict.Refusal.TheVariants.{ClassLong, SpecLong}
use Rattle.job_parts.specs.declared.given.Named.{Named}
use Rattle.job_parts.specs.declared.given.Named.TheVariants as named
use Rattle.job_parts.specs.declared.parts.Stop.{Stop}
use Rattle.job_parts.specs.declared.parts.Stop.TheVariants.{Refused, ReadFault, Memory}
use Rattle.job_parts.specs.Parts.{Asked}
use Rattle.job_parts.specs.Found.{IsFound, IsMissing}

-- the refusal of a text that is too long
abbrev pub refused_long : Named → Refusal
refused_long named.Class = ClassLong
refused_long named.Spec = SpecLong

-- why a read that failed stops the job
abbrev pub stop_of : StoreError → Named → Stop
stop_of store.Failed which = ReadFault
stop_of (store.TooLong limit) which = Refused (refused_long which)
stop_of store.Memory which = Memory

-- a read answered so; the count of faults rises only at ReadFault
abbrev pub HasGivenCause : Told → Named → ℕ → ℕ → Stop → Type 0
HasGivenCause told which before now (Refused r) = (r ≡ refused_long which) × IsLonger told 1048576 × (now ≡ before)
HasGivenCause told which before now ReadFault = Rose before now ⊎ (told ≡ Some None)
HasGivenCause told which before now Memory = (told ≡ Some None → ⊥) × (now ≡ before)

-- memory ran out, behind the read of the class or in it: something may stand under its name
abbrev pub RanOut : Asked → (List ℕ → Told) → ℕ → ℕ → Type 0
RanOut w holds before now = (holds w.class ≡ Some None → ⊥) × (now ≡ before)

-- the parts of a job weren't found
abbrev pub HasFindCause : Asked → (List ℕ → Told) → ℕ → ℕ → Stop → Type 0
HasFindCause w holds before now (Refused r) = IsFound w holds (Err r) × (now ≡ before)
HasFindCause w holds before now ReadFault = Rose before now ⊎ IsMissing w holds
HasFindCause w holds before now Memory = RanOut w holds before now
