use Rattle.std.proofs.Common.{◌≡◌, ◌++◌, drop, map, option_map}
use Rattle.spec_reader.specs.Expressions.{reading, all_of}
use Rattle.spec_reader.proofs.parts.numbers_in.Given as goal

abbrev pub invariant-loop-part : goal.invariant-loop-part
invariant-loop-part l = option_map (λ more. l.numbers.items ++ more) (all_of (map (λ part. part.number) (map reading (drop l.part-index l.parts)))) ≡ all_of (map (λ part. part.number) (map reading l.parts))
