use Rattle.std.proofs.Common.{◌≡◌, ◌++◌, ◌∷◌, drop, map, string_bytes}
use Rattle.std.specs.List.{flat_map}
use Rattle.verdict_text.specs.Words.{number, spaced}
use Rattle.verdict_text.proofs.words.spaced_numbers.Given as goal

abbrev pub invariant-loop-z : goal.invariant-loop-z
invariant-loop-z l = string_bytes l.text ++ flat_map (λ text. 32 ∷ text) (map (number l.width) (drop l.z-index l.others)) ≡ spaced (map (number l.width) l.fn.zs)
