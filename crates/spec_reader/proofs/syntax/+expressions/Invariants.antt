use Rattle.std.proofs.Common.{◌≡◌, ◌+◌, ◌*◌, max, drop, map}
use Rattle.spec_reader.specs.Reading.{with_front}
use Rattle.spec_reader.specs.Nesting.{depth, depth_of_all}
use Rattle.spec_reader.specs.Expressions.{reading, expressions, clauses, bound_values}
use Rattle.spec_reader.proofs.syntax.+expressions.Given as goal

abbrev pub invariant-expressions-loop-part : goal.invariant-expressions-loop-part
invariant-expressions-loop-part l = with_front l.out.items (expressions (map reading (drop l.part-index l.parts))) ≡ expressions (map reading l.parts)

abbrev pub invariant-clauses-loop-part : goal.invariant-clauses-loop-part
invariant-clauses-loop-part l = with_front l.out (clauses l.at (map reading (drop l.part-index l.parts))) ≡ clauses l.at (map reading l.parts)

abbrev pub invariant-bound_values-loop-binding : goal.invariant-bound_values-loop-binding
invariant-bound_values-loop-binding l = with_front l.out (bound_values l.at (map (λ part. part.binding) (map reading (drop l.binding-index l.bindings)))) ≡ bound_values l.at (map (λ part. part.binding) (map reading l.bindings))

-- The measure is the depth of the data; among functions on data of one depth a caller ranks above what it calls.

abbrev pub decreases-expression : goal.decreases-expression
decreases-expression l = 16 * depth l.datum.now

abbrev pub decreases-list_form : goal.decreases-list_form
decreases-list_form l = 16 * depth_of_all l.parts.now + 9

abbrev pub decreases-keyword_form : goal.decreases-keyword_form
decreases-keyword_form l = 16 * depth_of_all l.parts.now + 8

abbrev pub decreases-call_form : goal.decreases-call_form
decreases-call_form l = 16 * depth_of_all l.parts.now + 8

abbrev pub decreases-if_form : goal.decreases-if_form
decreases-if_form l = 16 * depth_of_all l.parts.now + 7

abbrev pub decreases-cond_form : goal.decreases-cond_form
decreases-cond_form l = 16 * depth_of_all l.parts.now + 7

abbrev pub decreases-let_form : goal.decreases-let_form
decreases-let_form l = 16 * depth_of_all l.parts.now + 7

abbrev pub decreases-built : goal.decreases-built
decreases-built l = 16 * depth_of_all l.parts.now + 7

abbrev pub decreases-called : goal.decreases-called
decreases-called l = 16 * depth_of_all l.parts.now + 7

abbrev pub decreases-special : goal.decreases-special
decreases-special l = 16 * depth_of_all l.parts.now + 6

abbrev pub decreases-let_named : goal.decreases-let_named
decreases-let_named l = 16 * max (depth_of_all l.bindings.now) (depth l.body.now) + 6

abbrev pub decreases-expressions : goal.decreases-expressions
decreases-expressions l = 16 * depth_of_all l.parts.now + 5

abbrev pub decreases-clauses : goal.decreases-clauses
decreases-clauses l = 16 * depth_of_all l.parts.now + 5

abbrev pub decreases-bound_values : goal.decreases-bound_values
decreases-bound_values l = 16 * depth_of_all l.bindings.now + 5

abbrev pub decreases-clause : goal.decreases-clause
decreases-clause l = 16 * depth l.part.now + 1

abbrev pub decreases-bound_value : goal.decreases-bound_value
decreases-bound_value l = 16 * depth l.binding.now + 1

abbrev pub decreases-body_behind : goal.decreases-body_behind
decreases-body_behind l = 16 * depth l.body.now + 1
