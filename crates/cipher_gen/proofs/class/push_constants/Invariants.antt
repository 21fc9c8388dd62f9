use Rattle.std.proofs.Common.{◌≡◌, ◌++◌}
use Rattle.cipher_gen.specs.Ciphers.{integer, constant, in_rounds}
use Rattle.cipher_gen.proofs.Rounds.{rounds_from}
use Rattle.cipher_gen.proofs.class.push_constants.Given as goal

abbrev pub invariant-loop-round : goal.invariant-loop-round
invariant-loop-round l = l.out.items ++ rounds_from (λ i. integer (constant l.n i)) l.n l.round ≡ l.initial.out.items ++ in_rounds (λ i. integer (constant l.n i)) l.n
