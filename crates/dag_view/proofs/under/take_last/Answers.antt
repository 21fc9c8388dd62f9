use Rattle.std.proofs.Common.{◌≡◌, ◌<◌, ℕ, List, Option, Some, None}
use Rattle.std.specs.Prelude.{All, IfSome}
use Rattle.std.specs.declared.cmp.Ordering.TheVariants.{Less}
use Rattle.std.specs.Ordering.{nat_cmp}
use Rattle.dag_view.specs.Under.{Among}
use Rattle.dag_view.proofs.Lists.{all_before}
use Rattle.dag_view.proofs.under.take_last.Goals as goal

before : (o : Option ℕ) (xs : List ℕ) → IfSome o (λ id. All (λ q. nat_cmp q id ≡ Less) xs) → IfSome o (λ id. (k : ℕ) → Among xs k → k < id)
before None xs h = h
before (Some id) xs h = all_before xs id h

pub returns-clause-last : goal.returns-clause-last
returns-clause-last c = before c.pop_last.result c.pop_last.new.self.keys c.pop_last.ensures.all_below
