use Rattle.std.proofs.Common.{◌≡◌, ◌++◌, ◌∷◌, drop, map, string_bytes}
use Rattle.std.specs.List.{flat_map}
use Rattle.verdict_text.specs.Words.{word, spaced}
use Rattle.verdict_text.proofs.words.spaced_words.Given as goal

abbrev pub invariant-loop-n : goal.invariant-loop-n
invariant-loop-n l = string_bytes l.text ++ flat_map (λ text. 32 ∷ text) (map (word l.width) (drop l.n-index l.others)) ≡ spaced (map (word l.width) l.fn.ns)
