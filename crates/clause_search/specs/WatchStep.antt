-- What one step of a watched clause did.
use Rattle.std.specs.Prelude.{◌≡◌, ◌++◌, ◌∷◌, ◌⊎◌, List, [], Option, Some, None, Contains}
use Rattle.cnf_clauses.specs.Literal.{Literal}
use Rattle.cnf_clauses.specs.declared.lit.ClauseId.{ClauseId}
use Rattle.clause_log.specs.Resolution.{clause_at}
use Rattle.clause_search.specs.declared.watch.Pair.{Pair}
use Rattle.clause_search.specs.declared.watch.Reaction.{Reaction}
use Rattle.clause_search.specs.declared.watch.Reaction.TheVariants.{Held, Pushed, Open, Falsified}
use Rattle.clause_search.specs.Path.{IsFalseIn, AllFalseIn}

abbrev pub IsStepped : List (List Literal) → ClauseId → Literal → List Literal → List Literal → Reaction → Type 0
IsStepped db id other was path Held = (path ≡ was) × Contains path other
IsStepped db id other was path Pushed = path ≡ was ++ other ∷ []
IsStepped db id other was path (Open l) = (path ≡ was) × Contains (clause_at db id) l × (l ≡ other → ⊥) × (IsFalseIn path l → ⊥)
IsStepped db id other was path Falsified = (path ≡ was) × AllFalseIn path (clause_at db id)

-- the other literal of a pair, where one is this one
abbrev pub HasBoth : Pair → Literal → Literal → Type 0
HasBoth p gone other = ((p.first ≡ gone) × (p.second ≡ other)) ⊎ ((p.second ≡ gone) × (p.first ≡ other))

abbrev pub IsOther : Option Pair → Literal → Option Literal → Type 0
IsOther None gone None = Unit {0}
IsOther None gone (Some o) = ⊥
IsOther (Some p) gone None = (p.first ≡ gone → ⊥) × (p.second ≡ gone → ⊥)
IsOther (Some p) gone (Some o) = HasBoth p gone o
