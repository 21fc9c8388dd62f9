use Rattle.std.proofs.Common.{◌≡◌, ◌+◌, false, drop, option_map}
use Rattle.spec_reader.specs.Tokens.{comment_length}
use Rattle.spec_reader.proofs.token.comment_length.Given as goal

abbrev pub invariant-loop-at : goal.invariant-loop-at
invariant-loop-at l = option_map (λ n. n + l.at) (comment_length l.bar (drop l.at l.bytes)) ≡ comment_length false l.bytes
