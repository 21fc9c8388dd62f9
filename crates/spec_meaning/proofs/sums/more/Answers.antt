use Rattle.std.proofs.Common.{◌≡◌, ◌∙◌, refl, rules, to_z, of_z, ◌+ℤ◌, FitsSigned}
use mir.Syntax.{w64, w128}
use Rattle.std.proofs.lemmas.Int.{to_z-of_z}
use Rattle.spec_meaning.proofs.WideSums.{one_more}
use Rattle.spec_meaning.proofs.sums.more.Goals as goal

pub returns-clause-value : goal.returns-clause-value
returns-clause-value c =
    let low : to_z w128 (of_z w128 c.args.low) ≡ c.args.low = to_z-of_z w128 _ c.ranges.low in
    let number : to_z w128 (of_z w128 c.args.number) ≡ c.args.number = to_z-of_z w128 _ c.ranges.number in
    let turns : to_z w64 (of_z w64 c.args.turns) ≡ c.args.turns = to_z-of_z w64 _ c.ranges.turns in
    let sum : to_z w128 (of_z w128 c.added-low.result.0) ≡ c.added-low.result.0 = search rules in
    let turn : to_z w64 (of_z w64 c.added-low.result.1) ≡ c.added-low.result.1 = search rules in
    let fits : FitsSigned w64 (c.args.turns +ℤ c.added-low.result.1) = search rules in
    rw (sum, turns, turn, to_z-of_z w64 (c.args.turns +ℤ c.added-low.result.1) fits)
    (one_more c.args.low c.args.number c.added-low.result.0 c.args.turns c.added-low.result.1 (c.added-low.ensures.value ∙ rw (low, number) refl))
