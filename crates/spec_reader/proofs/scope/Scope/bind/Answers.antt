use Rattle.std.proofs.Common.{◌≡◌, ℕ, cond, List, [], ◌∷◌, ◌++◌, length, Some, ◌∙◌, rules}
use Rattle.std.specs.Str.{bytes_eq}
use Rattle.spec_reader.specs.declared.scope.Binding.{Binding}
use Rattle.spec_reader.specs.Forms.{place}
use Rattle.spec_reader.specs.Bindings.{place_in, names_bound}
use Rattle.spec_reader.proofs.Bindings.{places_bound, notes_bound}
use Rattle.spec_reader.proofs.scope.Scope.bind.Goals as goal

pub invariant_of-self-else-is_err : goal.invariant_of-self-else-is_err
invariant_of-self-else-is_err c =
    let bindings : List Binding = c.self.inside.bindings.items in
    let b : Binding = record { name = c.args.name; hidden = c.get-hidden.result } in
    let items : c.push.new.self.items ≡ bindings ++ b ∷ [] = c.in_ok-push.ensures.items in
    let set : (other : List ℕ) → place_in c.set-set.new.self other ≡ cond (bytes_eq c.args.name.now other) (Some (length bindings)) (place_in c.self.inside.places other) = search rules in
    let hidden : b.hidden ≡ place (names_bound bindings) b.name.now = c.get-hidden.ensures ∙ c.self.invariant.0 c.args.name.now in
    rw items (places_bound c.self.inside.places c.set-set.new.self bindings b c.self.invariant.0 set, notes_bound bindings b c.self.invariant.1 hidden)
