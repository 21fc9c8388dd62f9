-- The variables in scope with the place of each name's last binding.
use Rattle.std.specs.Prelude.{◌≡◌, ℕ, List, map, take, slice_get, Option, Some}
use Rattle.std.specs.Str.{bytes_eq}
use Rattle.std.specs.HashMap.{get_by}
use Rattle.spec_reader.specs.declared.scope.Places.{Places}
use Rattle.spec_reader.specs.declared.scope.Binding.{Binding}
use Rattle.spec_reader.specs.Forms.{Scope, place}

-- the place of a name in a table
abbrev pub place_in : Places → List ℕ → Option ℕ
place_in places name = get_by (λ key. bytes_eq name key.now) places.places

abbrev pub name_bound : Binding → List ℕ
name_bound b = b.name.now

abbrev pub names_bound : List Binding → Scope
names_bound bindings = map name_bound bindings

-- a table has the places of the names in scope
abbrev pub HavePlaces : Places → Scope → Type 0
HavePlaces places scope = (name : List ℕ) → place_in places name ≡ place scope name

-- each binding notes the place of its name among those before it
abbrev pub NoteHidden : List Binding → Type 0
NoteHidden bindings = (i : ℕ) (b : Binding) → slice_get bindings i ≡ Some b → b.hidden ≡ place (take i (names_bound bindings)) b.name.now
