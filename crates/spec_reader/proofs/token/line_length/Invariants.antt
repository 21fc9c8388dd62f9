use Rattle.std.proofs.Common.{◌≡◌, ◌+◌, drop}
use Rattle.spec_reader.specs.Tokens.{line_length}
use Rattle.spec_reader.proofs.token.line_length.Given as goal

abbrev pub invariant-loop-at : goal.invariant-loop-at
invariant-loop-at l = line_length (drop l.at l.bytes) + l.at ≡ line_length l.bytes
