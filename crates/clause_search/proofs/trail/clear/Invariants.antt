use Rattle.std.proofs.Common.{◌≡◌, ℕ, ◌<◌, None, length, get_or}
use Rattle.cnf_clauses.specs.Literal.{Literal}
use Rattle.clause_search.proofs.trail.clear.Given as goal

abbrev pub invariant-loop-l : goal.invariant-loop-l
invariant-loop-l l =
    ((k : ℕ) (d : Literal) → k < l.l-index → get_or l.places.items (get_or l.gone k d).var None ≡ None)
    × (length l.places.items ≡ length l.initial.places.items)
    × ((v : ℕ) → ((k : ℕ) (d : Literal) → k < l.l-index → (get_or l.gone k d).var ≡ v → ⊥) → get_or l.places.items v None ≡ get_or l.initial.places.items v None)
