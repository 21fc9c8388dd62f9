use Rattle.std.proofs.Common.{◌≡◌, ◌≤◌, ◌+◌, ◌*◌, drop, take, length}
use Rattle.std.specs.Prelude.{vec_len}
use Rattle.spec_meaning.specs.Evaluations.{eval_form, eval_parts, eval_cond, eval_and, eval_or, bind_each}
use Rattle.spec_meaning.specs.Stacks.{Spends, Rests, scope}
use Rattle.spec_meaning.specs.declared.value.Value.TheVariants.{T}
use Rattle.spec_meaning.proofs.evaluation.+eval.Given as goal

-- each form costs a visit
abbrev pub decreases-eval_form : goal.decreases-eval_form
decreases-eval_form l = 4 * l.stack.now.left

abbrev pub decreases-eval_parts : goal.decreases-eval_parts
decreases-eval_parts l = 4 * l.stack.now.left + 1

abbrev pub decreases-eval_kind : goal.decreases-eval_kind
decreases-eval_kind l = 4 * l.stack.now.left + 3

abbrev pub decreases-eval_and : goal.decreases-eval_and
decreases-eval_and l = 4 * l.stack.now.left + 2

abbrev pub decreases-eval_builtin : goal.decreases-eval_builtin
decreases-eval_builtin l = 4 * l.stack.now.left + 2

abbrev pub decreases-eval_call : goal.decreases-eval_call
decreases-eval_call l = 4 * l.stack.now.left + 2

abbrev pub decreases-eval_cond : goal.decreases-eval_cond
decreases-eval_cond l = 4 * l.stack.now.left + 2

abbrev pub decreases-eval_constant : goal.decreases-eval_constant
decreases-eval_constant l = 4 * l.stack.now.left + 2

abbrev pub decreases-eval_if : goal.decreases-eval_if
decreases-eval_if l = 4 * l.stack.now.left + 2

abbrev pub decreases-eval_let : goal.decreases-eval_let
decreases-eval_let l = 4 * l.stack.now.left + 2

abbrev pub decreases-eval_let_star : goal.decreases-eval_let_star
decreases-eval_let_star l = 4 * l.stack.now.left + 2

abbrev pub decreases-eval_or : goal.decreases-eval_or
decreases-eval_or l = 4 * l.stack.now.left + 2

abbrev pub decreases-eval_body : goal.decreases-eval_body
decreases-eval_body l = 4 * l.stack.now.left + 1

abbrev pub decreases-bind_each : goal.decreases-bind_each
decreases-bind_each l = 4 * l.stack.now.left + 1

abbrev pub invariant-eval_parts-loop-form : goal.invariant-eval_parts-loop-form
invariant-eval_parts-loop-form l = record {
  value : eval_parts (eval_form l.place.program.now l.place.depth (scope l.initial.stack l.place.base)) l.stack.parts.items (drop l.form-index l.forms) l.stack.left ≡ eval_parts (eval_form l.place.program.now l.place.depth (scope l.initial.stack l.place.base)) l.initial.stack.parts.items l.forms l.initial.stack.left;
  spends : Spends l.initial.stack l.stack;
  grows : vec_len l.initial.stack.parts ≤ vec_len l.stack.parts;
}

abbrev pub invariant-eval_and-loop-part : goal.invariant-eval_and-loop-part
invariant-eval_and-loop-part l = record {
  value : eval_and (eval_form l.place.program.now l.place.depth (scope l.initial.stack l.place.base)) l.value (drop l.part-index l.parts) l.stack.left ≡ eval_and (eval_form l.place.program.now l.place.depth (scope l.initial.stack l.place.base)) T l.parts l.initial.stack.left;
  rests : Rests l.initial.stack l.stack;
}

abbrev pub invariant-eval_or-loop-part : goal.invariant-eval_or-loop-part
invariant-eval_or-loop-part l = record {
  value : eval_or (eval_form l.place.program.now l.place.depth (scope l.initial.stack l.place.base)) (drop l.part-index l.parts) l.stack.left ≡ eval_or (eval_form l.place.program.now l.place.depth (scope l.initial.stack l.place.base)) l.parts l.initial.stack.left;
  rests : Rests l.initial.stack l.stack;
}

abbrev pub invariant-eval_cond-loop-test : goal.invariant-eval_cond-loop-test
invariant-eval_cond-loop-test l = record {
  value : eval_cond (eval_form l.place.program.now l.place.depth (scope l.initial.stack l.place.base)) l.at l.rest l.stack.left ≡ eval_cond (eval_form l.place.program.now l.place.depth (scope l.initial.stack l.place.base)) l.at l.clauses l.initial.stack.left;
  rests : Rests l.initial.stack l.stack;
}

abbrev pub decreases-eval_cond-loop-test : goal.decreases-eval_cond-loop-test
decreases-eval_cond-loop-test l = length l.rest

abbrev pub invariant-bind_each-loop-binding : goal.invariant-bind_each-loop-binding
invariant-bind_each-loop-binding l = record {
  value : bind_each (eval_form l.place.program.now l.place.depth) (scope l.stack l.place.base) (drop l.binding-index l.bindings) l.body l.stack.left ≡ bind_each (eval_form l.place.program.now l.place.depth) (scope l.initial.stack l.place.base) l.bindings l.body l.initial.stack.left;
  kept : take (length l.initial.stack.variables.items) l.stack.variables.items ≡ l.initial.stack.variables.items;
  base : l.place.base ≤ length l.stack.variables.items;
  left : l.stack.left ≤ l.initial.stack.left;
  parts : l.stack.parts.items ≡ l.initial.stack.parts.items;
}
