-- The ranges of a job's numbers.
use Rattle.std.specs.Prelude.{ℕ, ◌≤◌}
use Rattle.axe_io.specs.declared.budgets.Budgets.{Budgets}

-- a number from a least one to a greatest one
abbrev pub IsFrom : ℕ → ℕ → ℕ → Type 0
IsFrom least greatest n = (least ≤ n) × (n ≤ greatest)

-- each number of a job's budgets is in its range
pub record AreBudgets (b : Budgets) : Type 0 where
  pub steps : IsFrom 1 2000000 b.steps
  pub paths : IsFrom 1 1024 b.paths
  pub frames : IsFrom 1 256 b.frames
  pub elements : IsFrom 1 262144 b.elements
  pub depth : IsFrom 1 2000 b.depth
  pub work : IsFrom 1 5000000 b.work
  pub nodes : IsFrom 1 2000000 b.nodes
  pub lines : IsFrom 1 1000000 b.lines
  pub total : IsFrom 1 100000000 b.total
  pub cases : IsFrom 0 20 b.cases
  pub vectors : IsFrom 1 256 b.vectors
  pub workers : IsFrom 1 16 b.workers
