use Rattle.std.proofs.Common.{◌≡◌, ◌+◌, ◌*◌, max, length, take, drop, map}
use Rattle.spec_reader.specs.Reading.{with_front}
use Rattle.spec_reader.specs.Forms.{meaning_in, depth, depth_of_all, forms, star_parts, resolve}
use Rattle.spec_reader.proofs.resolve.+resolve.Given as goal

abbrev pub invariant-forms-loop-part : goal.invariant-forms-loop-part
invariant-forms-loop-part l = record {
  so_far : with_front l.out.items (forms (map resolve (drop l.part-index l.parts)) (meaning_in l.names) l.initial.scope) ≡ forms (map resolve l.parts) (meaning_in l.names) l.initial.scope;
  kept : l.scope ≡ l.initial.scope;
}

abbrev pub invariant-star_parts-loop-at : goal.invariant-star_parts-loop-at
invariant-star_parts-loop-at l = record {
  so_far : with_front l.out (star_parts (drop l.at l.bound) (map resolve (drop l.at l.values)) (resolve l.body) (meaning_in l.names) l.scope) ≡ star_parts l.bound (map resolve l.values) (resolve l.body) (meaning_in l.names) l.initial.scope;
  kept : take l.depth l.scope ≡ l.initial.scope;
  depth : l.depth ≡ length l.initial.scope;
}

-- The measure is the depth of the expressions; among functions on expressions of one depth a caller ranks above
-- what it calls.

abbrev pub decreases-resolve : goal.decreases-resolve
decreases-resolve l = 4 * depth l.expression.now

abbrev pub decreases-forms : goal.decreases-forms
decreases-forms l = 4 * depth_of_all l.parts.now + 1

abbrev pub decreases-call_form : goal.decreases-call_form
decreases-call_form l = 4 * depth_of_all l.parts.now + 2

abbrev pub decreases-let_parts : goal.decreases-let_parts
decreases-let_parts l = 4 * max (depth_of_all l.values.now) (depth l.body.now) + 2

abbrev pub decreases-star_parts : goal.decreases-star_parts
decreases-star_parts l = 4 * max (depth_of_all l.values.now) (depth l.body.now) + 2

abbrev pub decreases-let_form : goal.decreases-let_form
decreases-let_form l = 4 * max (depth_of_all l.values.now) (depth l.body.now) + 3
