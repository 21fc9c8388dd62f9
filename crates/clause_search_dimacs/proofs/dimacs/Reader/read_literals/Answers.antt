-- A number makes the formula grow, and adds no variable.
use Rattle.std.proofs.Common.{◌≡◌, ◌∙◌, ℤ, to_z, of_z, w32}
use Rattle.clause_search_dimacs.specs.Dimacs.{Reading, after_number}
use Rattle.clause_search_dimacs.proofs.Growth.{grows_on, variables-after_number}
use Rattle.clause_search_dimacs.proofs.dimacs.Reader.read_literals.Goals as goal

pub loop-word-preserved-in-Continue-1 : goal.loop-word-preserved-in-Continue-1
loop-word-preserved-in-Continue-1 c =
    let r : Reading = c.loop-word.self in
    let s : Reading = c.read_literal.new.self in
    let n : ℤ = to_z w32 (of_z w32 c.in-Ok.number) in
    let is : s ≡ after_number n r = c.in_ok-read_literal.ensures.ok in
    record {
      grows = grows_on c.args.self.now.formula n r s is c.loop-word.invariant.grows;
      variables = variables-after_number n r s is ∙ c.loop-word.invariant.variables;
    }
