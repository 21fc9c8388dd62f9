use Rattle.std.proofs.Common.{rules, ◌≡◌, [], ◌∷◌, length}
use Rattle.std.proofs.lemmas.Result.{err_from_is_err_and}
use Rattle.spec_reader.proofs.Steps.{goes_on, fails, ends, is_empty}
use Rattle.spec_reader.specs.Nesting.{step, finish}
use Rattle.spec_reader.proofs.nesting.nested.Goals as goal

pub loop-located-preserved : goal.loop-located-preserved
loop-located-preserved c =
    let front : c.loop-located.located-iterator.rest.items ≡ c.in-Some.located ∷ c.next.new.self.rest.items = search rules in
    goes_on step _ _ _ _ _ _ front c.in_ok-read.ensures c.loop-located.invariant

pub returns : goal.returns
returns c =
    let size : length c.loop-located.located-iterator.rest.items ≡ 0 = search rules in
    let none : c.loop-located.located-iterator.rest.items ≡ [] = is_empty _ size in
    rw (ends step _ _ _ none c.loop-located.invariant) c.finish.ensures

pub returns-in_err-read : goal.returns-in_err-read
returns-in_err-read c =
    let p = err_from_is_err_and c.from_residual.result c.from_residual.ensures.1 in
    let front : c.loop-located.located-iterator.rest.items ≡ c.in-Some.located ∷ c.next.new.self.rest.items = search rules in
    rw (p.1, p.2) (fails step _ _ _ _ _ finish c.in_err-read.field-0.0 front c.in_err-read.ensures c.loop-located.invariant)
