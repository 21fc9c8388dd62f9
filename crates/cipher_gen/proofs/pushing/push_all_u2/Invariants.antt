use Rattle.std.proofs.Common.{◌≡◌, ◌++◌, drop}
use Rattle.std.specs.List.{flat_map}
use Rattle.cipher_gen.specs.Ciphers.{u2}
use Rattle.cipher_gen.proofs.pushing.push_all_u2.Given as goal

abbrev pub invariant-loop-number : goal.invariant-loop-number
invariant-loop-number l = l.out.items ++ flat_map u2 (drop l.number-index l.numbers) ≡ l.initial.out.items ++ flat_map u2 l.numbers
