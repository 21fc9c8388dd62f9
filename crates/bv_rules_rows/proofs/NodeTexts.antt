-- The texts of a graph's nodes when one is added.
use Rattle.std.proofs.Common.{◌≡◌, ◌<◌, ℕ, List, [], ◌∷◌, ◌++◌, length, ap, sym, refl, arith, inl, inr}
use Rattle.dag.specs.declared.node.Node.{Node}
use Rattle.dag.specs.Graph.{Graph, Adds}
use Rattle.bv_rules_rows.specs.Terms.{term, child_texts, terms_from}

-- the terms of nodes and of one more
pub terms_snoc : (done : List (List ℕ)) (ns : List Node) (n : Node) → terms_from done (ns ++ n ∷ []) ≡ terms_from done ns ++ term n (child_texts (terms_from done ns) n) ∷ []
terms_snoc done [] n = refl
terms_snoc done (m ∷ ns) n = terms_snoc (done ++ term m (child_texts done m) ∷ []) ns n

-- a node that stood already adds none, and another one adds its term
pub terms_grown : (old new : Graph) (n : Node) (place : ℕ) (texts more : List (List ℕ)) (text : List ℕ) → Adds old new n place → length old.nodes < length new.nodes → texts ≡ terms_from [] old.nodes → text ≡ term n (child_texts texts n) → more ≡ texts ++ text ∷ [] → more ≡ terms_from [] new.nodes
terms_grown old new n place texts more text (inl s) grows each is grown = absurd (omega (arith, grows, ap (λ (g : Graph). length g.nodes) s.same))
terms_grown old new n place texts more text (inr a) grows each is grown = rw (grown, is, each, ap (λ (g : Graph). g.nodes) a.grown) (sym (terms_snoc [] old.nodes n))
