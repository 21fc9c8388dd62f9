use Rattle.std.proofs.Common.{◌≡◌, ◌++◌, drop, string_bytes}
use Rattle.verdict_text.specs.Texts.{input_from}
use Rattle.verdict_text.proofs.inputs.lines.Given as goal

abbrev pub invariant-loop-at : goal.invariant-loop-at
invariant-loop-at l = string_bytes l.text ++ input_from l.at (drop l.at l.params) l.left ≡ input_from 0 l.params l.leaves
