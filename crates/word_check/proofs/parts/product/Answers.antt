use Rattle.std.proofs.Common.{sym, subst}
use Rattle.word_check.specs.Sums.{IsMultiple}
use Rattle.word_check.specs.declared.sums.Term.{Term}
use Rattle.word_check.proofs.PartLaws.{times_parts, product_parts}
use Rattle.word_check.proofs.parts.product.Goals as goal
use Rattle.word_check.proofs.parts.product.Goals.{in-Some, in-None+in_ok-left-in-None}

pub returns : goal.returns
returns c = elim c.match-left.branch [
  | in-Some w ↦ times_parts _ _ _ c.args.term c.args.a c.args.b _ _ c.requires.is c.in_ok-wraps.ensures.0 c.in_ok-wraps.ensures.1 (subst (λ (t : Term). IsMultiple c.args.nodes.now c.args.width c.args.term.factor c.args.a.0 c.args.b.0 t) (sym w.left-is) w.in-Some.ensures) c.constant.ensures.constant c.constant.ensures.right
  | in-None+in_ok-left-in-None w ↦ product_parts _ _ _ c.args.term c.args.a c.args.b _ _ c.requires.is c.in_ok-wraps.ensures.0 c.in_ok-wraps.ensures.1 (subst (λ (t : Term). IsMultiple c.args.nodes.now c.args.width c.args.term.factor c.args.b.0 c.args.a.0 t) (sym w.left-is) w.in_ok-left-in-None.ensures) c.constant.ensures.constant c.constant.ensures.right
]
