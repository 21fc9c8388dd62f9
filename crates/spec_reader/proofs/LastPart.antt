-- The last part of a list.
use Rattle.std.proofs.Common.{◌≡◌, ℕ, zero, suc, ◌<◌, ◌≤◌, List, [], ◌∷◌, ◌++◌, length, get_or, map, Some, refl, ap, ◌∙◌, arith}
use Rattle.std.proofs.lemmas.List.{map-append}
use Rattle.spec_reader.specs.declared.datum.Datum.{Datum}
use Rattle.spec_reader.specs.Nesting.{depth, depth_of_all}
use Rattle.spec_reader.specs.Expressions.{with_first, split_last}

last_behind : {A : Type 0} (before : List A) (x : A) → split_last (before ++ x ∷ []) ≡ Some (before, x)
last_behind [] x = refl
last_behind (y ∷ before) x = ap (with_first y) (last_behind before x)

pub split_last-map : {A B : Type 0} (f : A → B) (all before : List A) (x : A) → all ≡ before ++ x ∷ [] → split_last (map f all) ≡ Some (map f before, f x)
split_last-map f all before x is = ap (λ xs. split_last (map f xs)) is ∙ ap split_last (map-append f before (x ∷ [])) ∙ last_behind (map f before) (f x)

-- ---- depths

pub deepest_item : (ds : List Datum) (i : ℕ) (d : Datum) → i < length ds → d ≡ get_or ds i d → depth d ≤ depth_of_all ds
deepest_item [] i d lt is = absurd (omega (arith, lt))
deepest_item (e ∷ ds) zero d lt is = rw is (omega arith)
deepest_item (e ∷ ds) (suc i) d lt is = omega (arith, deepest_item ds i d (omega (arith, lt)) is)

last_depth : (before : List Datum) (x : Datum) → depth x ≤ depth_of_all (before ++ x ∷ [])
last_depth [] x = omega arith
last_depth (y ∷ before) x = omega (arith, last_depth before x)

pub last_depth-of : (all before : List Datum) (x : Datum) → all ≡ before ++ x ∷ [] → depth x ≤ depth_of_all all
last_depth-of all before x is = rw is (last_depth before x)
