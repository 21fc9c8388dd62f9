use Rattle.std.proofs.Common.{◌≡◌, ◌++◌}
use Rattle.cipher_gen.specs.Ciphers.{round_code, in_rounds}
use Rattle.cipher_gen.proofs.Rounds.{rounds_from}
use Rattle.cipher_gen.proofs.instructions.push_rounds.Given as goal

abbrev pub invariant-loop-round : goal.invariant-loop-round
invariant-loop-round l = l.out.items ++ rounds_from (round_code l.n) l.n l.round ≡ l.initial.out.items ++ in_rounds (round_code l.n) l.n
