use Rattle.std.proofs.Common.{◌≡◌, ◌+◌, drop}
use Rattle.spec_reader.specs.Tokens.{symbol_length}
use Rattle.spec_reader.proofs.token.symbol_length.Given as goal

abbrev pub invariant-loop-at : goal.invariant-loop-at
invariant-loop-at l = symbol_length (drop l.at l.bytes) + l.at ≡ symbol_length l.bytes
