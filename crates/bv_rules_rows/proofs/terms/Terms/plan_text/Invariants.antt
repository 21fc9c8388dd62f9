use Rattle.std.proofs.Common.{◌≡◌, [], drop, map, string_bytes}
use Rattle.bv_rules.specs.Plans.{steps}
use Rattle.bv_rules_rows.specs.Terms.{plan_texts}
use Rattle.bv_rules_rows.proofs.terms.Terms.plan_text.Given as goal

abbrev pub invariant-loop-step : goal.invariant-loop-step
invariant-loop-step l = plan_texts (map string_bytes l.self.texts.items) (map string_bytes l.made.items) (drop l.step-index (steps l.plan)) ≡ plan_texts (map string_bytes l.self.texts.items) [] (steps l.plan)
