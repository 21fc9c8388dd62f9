use Rattle.std.proofs.Common.{ap, map, string_bytes, sym, [], ◌∙◌}
use Rattle.std.proofs.lemmas.List.{map_push}
use Rattle.dag.specs.declared.node.Node.TheVariants.{Leaf}
use Rattle.bv_rules.specs.declared.plan.PlanNode.{PlanNode}
use Rattle.bv_rules.specs.Plans.{steps}
use Rattle.bv_rules_rows.proofs.PlanTexts.{texts_more}
use Rattle.bv_rules_rows.proofs.terms.Terms.plan_text.Goals as goal

-- what fills a read past the end of a list of a plan's nodes
abbrev none : PlanNode
none = record { node = Leaf 0 0; children = [] }

pub loop-step-preserved : goal.loop-step-preserved
loop-step-preserved c =
    let made = sym c.deref.ensures.value in
    let grown = ap (map string_bytes) c.in_ok-push.ensures.items ∙ map_push string_bytes c.loop-step.made.items c.in_ok-text.text in
    texts_more _ (map string_bytes c.loop-step.made.items) _ (steps c.args.plan.now) c.loop-step.step-index none _ _ c.loop-step-test.true (rw made c.in_ok-text.ensures) grown c.loop-step.invariant
