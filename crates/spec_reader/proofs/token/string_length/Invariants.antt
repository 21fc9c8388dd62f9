use Rattle.std.proofs.Common.{◌≡◌, ◌+◌, false, drop, option_map}
use Rattle.spec_reader.specs.Tokens.{string_length}
use Rattle.spec_reader.proofs.token.string_length.Given as goal

abbrev pub invariant-loop-at : goal.invariant-loop-at
invariant-loop-at l = option_map (λ n. n + l.at) (string_length l.taken (drop l.at l.bytes)) ≡ string_length false l.bytes
