use Rattle.std.proofs.Common.{◌≡◌, [], ◌∷◌, ◌++◌, subst}
use Rattle.spec_reader.specs.Bindings.{names_bound, HavePlaces, NoteHidden}
use Rattle.spec_reader.proofs.Bindings.{last_is_some, places_unbound, notes_unbound}
use Rattle.spec_reader.proofs.scope.Scope.unbind.Goals as goal

pub restore-requires : goal.restore-requires
restore-requires c =
    let items : c.self.inside.bindings.items ≡ c.pop.new.self.items ++ c.in-Some.binding ∷ [] = c.in-Some.ensures.items in
    last_is_some c.self.inside.places c.pop.new.self.items c.in-Some.binding (subst (λ bs. HavePlaces c.self.inside.places (names_bound bs)) items c.self.invariant.0)

pub invariant_of-self : goal.invariant_of-self
invariant_of-self c =
    let items : c.self.inside.bindings.items ≡ c.pop.new.self.items ++ c.in-Some.binding ∷ [] = c.in-Some.ensures.items in
    let have : HavePlaces c.self.inside.places (names_bound (c.pop.new.self.items ++ c.in-Some.binding ∷ [])) = subst (λ bs. HavePlaces c.self.inside.places (names_bound bs)) items c.self.invariant.0 in
    let notes : NoteHidden (c.pop.new.self.items ++ c.in-Some.binding ∷ []) = subst NoteHidden items c.self.invariant.1 in
    (places_unbound c.self.inside.places c.restore.new.self c.pop.new.self.items c.in-Some.binding have notes c.restore.ensures, notes_unbound c.pop.new.self.items c.in-Some.binding notes)
