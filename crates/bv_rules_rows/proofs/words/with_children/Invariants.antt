use Rattle.std.proofs.Common.{◌≡◌, ◌++◌, ◌∷◌, drop, map, string_bytes}
use Rattle.std.specs.List.{flat_map}
use Rattle.bv_rules_rows.specs.Terms.{with_children}
use Rattle.bv_rules_rows.proofs.words.with_children.Given as goal

abbrev pub invariant-loop-child : goal.invariant-loop-child
invariant-loop-child l = string_bytes l.text ++ flat_map (λ t. 32 ∷ t) (map (λ c. c.now) (drop l.child-index l.children)) ≡ with_children l.head (map (λ c. c.now) l.children)
