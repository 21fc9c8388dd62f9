-- What stores and sinks in memory are made of.
use Rattle.std.specs.Prelude.{ℕ, ◌+◌, ◌-◌, ◌^◌, min, List}
use Rattle.axe_io.specs.declared.store.MemoryStore.{MemoryStore}
use Rattle.axe_io.specs.declared.store.Stored.{Stored}
use Rattle.axe_io.specs.declared.sink.MemorySink.{MemorySink}

-- a count after one more, at most its type's end
abbrev pub one_more : ℕ → ℕ
one_more n = min (n + 1) (2 ^ 64 - 1)

-- the entries of a store
abbrev pub store_contents : MemoryStore → List Stored
store_contents s = s.contents.items

-- the numbers of the reads that fail, counted from 1
abbrev pub store_failing : MemoryStore → List ℕ
store_failing s = s.failing.items

-- how many reads there were
abbrev pub store_calls : MemoryStore → ℕ
store_calls s = s.calls

-- how many of them failed
abbrev pub store_faults : MemoryStore → ℕ
store_faults s = s.faults

-- the bytes that a sink has taken
abbrev pub sink_bytes : MemorySink → List ℕ
sink_bytes s = s.bytes.items

-- the greatest number of bytes that it takes at a call
abbrev pub sink_piece : MemorySink → ℕ
sink_piece s = s.piece

-- the numbers of the writes that fail, counted from 1
abbrev pub sink_failing : MemorySink → List ℕ
sink_failing s = s.failing.items

-- how many writes there were
abbrev pub sink_calls : MemorySink → ℕ
sink_calls s = s.calls

-- how many of them failed
abbrev pub sink_faults : MemorySink → ℕ
sink_faults s = s.faults

-- how many writes answered that they failed
abbrev pub sink_refusals : MemorySink → ℕ
sink_refusals s = s.refusals
