use Rattle.std.proofs.Common.{◌≡◌, ◌++◌, string_bytes}
use Rattle.cipher_gen.specs.Ciphers.{bindings, in_rounds}
use Rattle.cipher_gen.proofs.Rounds.{rounds_from}
use Rattle.cipher_gen.proofs.specification.all_bindings.Given as goal

abbrev pub invariant-loop-round : goal.invariant-loop-round
invariant-loop-round l = string_bytes l.text ++ rounds_from (bindings l.n) l.n l.round ≡ in_rounds (bindings l.n) l.n
