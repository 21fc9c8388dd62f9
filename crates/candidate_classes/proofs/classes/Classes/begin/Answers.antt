use Rattle.std.proofs.Common.{◌∷◌, [], ◌∙◌, ℕ, List, subst}
use Rattle.candidate_classes.specs.Partition.{AreLeaders}
use Rattle.candidate_classes.proofs.MemberLemmas.{one_class}
use Rattle.candidate_classes.proofs.classes.Classes.begin.Goals as goal

pub returns-clause-leaders : goal.returns-clause-leaders
returns-clause-leaders c =
    subst (λ (ws : List ℕ). AreLeaders (ws ∷ []) c.split.new.self) (c.deref.ensures.value ∙ c.in_ok-values.ensures) (c.split.ensures.leaders [] (one_class _ _ c.in_ok-classes.ensures))
