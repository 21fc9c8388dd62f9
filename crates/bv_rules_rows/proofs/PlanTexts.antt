-- The texts of a plan's nodes, one after another.
use Rattle.std.proofs.Common.{◌≡◌, ◌∙◌, ◌<◌, ℕ, ◌+◌, List, [], ◌∷◌, ◌++◌, length, drop, get_or, sym}
use Rattle.std.proofs.lemmas.List.{at_drop_more}
use Rattle.bv_rules.specs.declared.plan.PlanNode.{PlanNode}
use Rattle.bv_rules_rows.specs.Terms.{term, step_texts, plan_texts}

-- with one more text there is one node fewer to come
pub texts_more : (texts made more : List (List ℕ)) (ps : List PlanNode) (i : ℕ) (d : PlanNode) (text : List ℕ) (all : List (List ℕ)) → i < length ps → text ≡ term (get_or ps i d).node (step_texts texts made (get_or ps i d)) → more ≡ made ++ text ∷ [] → plan_texts texts made (drop i ps) ≡ all → plan_texts texts more (drop (i + 1) ps) ≡ all
texts_more texts made more ps i d text all short is grown before = rw (grown, is) (sym (at_drop_more (plan_texts texts made) ps i d short) ∙ before)
