use Rattle.std.proofs.Common.{◌≡◌, ◌++◌, drop, string_bytes}
use Rattle.verdict_text.specs.Words.{name}
use Rattle.verdict_text.proofs.names.push_name.Given as goal

abbrev pub invariant-loop-byte : goal.invariant-loop-byte
invariant-loop-byte l = string_bytes l.out ++ name (drop l.byte-index l.bytes) ≡ string_bytes l.initial.out ++ name l.bytes
