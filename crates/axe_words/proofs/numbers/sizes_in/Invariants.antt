use Rattle.std.proofs.Common.{◌≡◌, ◌≤◌, ◌+◌, length}
use denote.Text.{Utf8}
use denote.Shadow.{shadow}
use Rattle.std.specs.List.{slice_split}
use Rattle.std.specs.Prelude.{◌==◌}
use Rattle.axe_words.specs.Numbers.{sizes_in, sizes_from}
use Rattle.axe_words.proofs.NumberLemmas.{with_sizes}
use Rattle.axe_words.proofs.numbers.sizes_in.Given as goal

abbrev pub invariant-loop-first : goal.invariant-loop-first
invariant-loop-first l = shadow (Utf8 l.rest)
    × (sizes_in l.text ≡ with_sizes l.sizes.items (sizes_from l.at l.before (slice_split (λ b. b == 44) l.rest)))
    × (l.before ≤ 16384)
    × (l.at + length l.rest ≤ length l.text)

abbrev pub decreases-loop-first : goal.decreases-loop-first
decreases-loop-first l = length l.rest
