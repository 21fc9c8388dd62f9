-- Variables that are bound and unbound, with the places of their names.
use Rattle.std.proofs.Common.{◌≡◌, ℕ, suc, ◌+◌, ◌<◌, ◌≤◌, Bool, true, false, cond, List, [], ◌∷◌, ◌++◌, length, take, get_or, Option, Some, None, ◌⊎◌, inl, inr, refl, sym, ap, ◌∙◌, subst, length-append, arith}
use Rattle.std.specs.Prelude.{slice_get, IsSome}
use Rattle.std.specs.Str.{bytes_eq}
use Rattle.std.proofs.Math.Seq.{take-append_seam, get_or-append_seam}
use Rattle.std.proofs.lemmas.Bool.{cases_lt}
use Rattle.std.proofs.lemmas.List.{length-map, take-append-le, get_or_append_left, map-append}
use Rattle.std.proofs.lemmas.Option.{slice_get-get_or, slice_get_within, get_or_from_slice_get}
use Rattle.std.proofs.lemmas.Slice.Eq.{bytes_eq-Decides}
use Rattle.spec_reader.specs.declared.scope.Places.{Places}
use Rattle.spec_reader.specs.declared.scope.Binding.{Binding}
use Rattle.spec_reader.specs.Forms.{Scope, or_here, place}
use Rattle.spec_reader.specs.Bindings.{place_in, name_bound, names_bound, HavePlaces, NoteHidden}

here_or : (here same : Bool) (n : ℕ) (before : Option ℕ) → or_here here (cond same (Some n) before) ≡ cond same (Some (suc n)) (or_here here before)
here_or here true n before = let e : n + 1 ≡ suc n = omega arith in ap (λ (k : ℕ). let o : Option ℕ = Some k in o) e
here_or here false n before = refl

-- the last name of a scope hides what is before it
pub place-snoc : (scope : Scope) (last name : List ℕ) → place (scope ++ last ∷ []) name ≡ cond (bytes_eq last name) (Some (length scope)) (place scope name)
place-snoc [] last name = none (bytes_eq last name) where
  none : (same : Bool) → or_here same None ≡ cond same (Some 0) None
  none true = refl
  none false = refl
place-snoc (first ∷ scope) last name = ap (or_here (bytes_eq first name)) (place-snoc scope last name) ∙ here_or (bytes_eq first name) (bytes_eq last name) (length scope) (place scope name)

names-snoc : (bindings : List Binding) (b : Binding) → names_bound (bindings ++ b ∷ []) ≡ names_bound bindings ++ b.name.now ∷ []
names-snoc bindings b = map-append name_bound bindings (b ∷ [])

-- the places behind one binding more
pub places_bound : (places after : Places) (bindings : List Binding) (b : Binding) → HavePlaces places (names_bound bindings)
    → ((other : List ℕ) → place_in after other ≡ cond (bytes_eq b.name.now other) (Some (length bindings)) (place_in places other)) → HavePlaces after (names_bound (bindings ++ b ∷ []))
places_bound places after bindings b have set name =
    set name
    ∙ ap (λ (o : Option ℕ). cond (bytes_eq b.name.now name) (Some (length bindings)) o) (have name)
    ∙ ap (λ (n : ℕ). cond (bytes_eq b.name.now name) (Some n) (place (names_bound bindings) name)) (sym (length-map bindings name_bound))
    ∙ sym (place-snoc (names_bound bindings) b.name.now name)
    ∙ ap (λ (s : Scope). place s name) (sym (names-snoc bindings b))

-- an element of a list with one element more
snoc_cases : {X : Type 0} (xs : List X) (y : X) (i : ℕ) (x : X) → slice_get (xs ++ y ∷ []) i ≡ Some x → ((i < length xs) × (slice_get xs i ≡ Some x)) ⊎ ((i ≡ length xs) × (y ≡ x))
snoc_cases xs y i x h =
    let read : get_or (xs ++ y ∷ []) i x ≡ x = get_or_from_slice_get (xs ++ y ∷ []) i x x h in
    let within : i < length (xs ++ y ∷ []) = slice_get_within (xs ++ y ∷ []) i x h in
    elim (cases_lt i (length xs)) [
      | inl lt ↦ inl (lt, slice_get-get_or xs i x lt ∙ ap Some (sym (get_or_append_left xs (y ∷ []) x i lt) ∙ read))
      | inr ge ↦
          let e : i ≡ length xs = omega (arith, within, length-append xs (y ∷ [])) in
          inr (e, sym (get_or-append_seam xs y [] x) ∙ ap (λ (k : ℕ). get_or (xs ++ y ∷ []) k x) (sym e) ∙ read)
    ]

get_more : {X : Type 0} (xs ys : List X) (k : ℕ) (x : X) → slice_get xs k ≡ Some x → slice_get (xs ++ ys) k ≡ Some x
get_more xs ys k x h =
    let lt : k < length xs = slice_get_within xs k x h in
    let more : k < length (xs ++ ys) = omega (arith, lt, length-append xs ys) in
    slice_get-get_or (xs ++ ys) k x more ∙ ap Some (get_or_append_left xs ys x k lt ∙ get_or_from_slice_get xs k x x h)

-- the names before a place are those of the bindings before it, whatever follows
before_more : (bindings : List Binding) (b : Binding) (i : ℕ) → i ≤ length bindings → take i (names_bound (bindings ++ b ∷ [])) ≡ take i (names_bound bindings)
before_more bindings b i le =
    let within : i ≤ length (names_bound bindings) = omega (arith, le, length-map bindings name_bound) in
    ap (take i) (names-snoc bindings b) ∙ take-append-le i (names_bound bindings) (b.name.now ∷ []) within

all_before : (bindings : List Binding) (b : Binding) → take (length bindings) (names_bound (bindings ++ b ∷ [])) ≡ names_bound bindings
all_before bindings b =
    let size : length (names_bound bindings) ≡ length bindings = length-map bindings name_bound in
    ap (take (length bindings)) (names-snoc bindings b) ∙ ap (λ (n : ℕ). take n (names_bound bindings ++ b.name.now ∷ [])) (sym size) ∙ take-append_seam (names_bound bindings) (b.name.now ∷ [])

-- a binding notes what it hides
pub notes_bound : (bindings : List Binding) (b : Binding) → NoteHidden bindings → b.hidden ≡ place (names_bound bindings) b.name.now → NoteHidden (bindings ++ b ∷ [])
notes_bound bindings b notes hidden i x at = elim (snoc_cases bindings b i x at) [
  | inl old ↦ notes i x old.1 ∙ ap (λ (s : Scope). place s x.name.now) (sym (before_more bindings b i (omega (arith, old.0))))
  | inr last ↦ subst (λ (y : Binding). y.hidden ≡ place (take i (names_bound (bindings ++ b ∷ []))) y.name.now) last.1 (hidden ∙ ap (λ (s : Scope). place s b.name.now) (sym (all_before bindings b) ∙ ap (λ (n : ℕ). take n (names_bound (bindings ++ b ∷ []))) (sym last.0)))
]

pub notes_unbound : (bindings : List Binding) (b : Binding) → NoteHidden (bindings ++ b ∷ []) → NoteHidden bindings
notes_unbound bindings b notes i x at =
    notes i x (get_more bindings (b ∷ []) i x at) ∙ ap (λ (s : Scope). place s x.name.now) (before_more bindings b i (omega (arith, slice_get_within bindings i x at)))

-- what the last binding hides
last_hidden : (bindings : List Binding) (b : Binding) → NoteHidden (bindings ++ b ∷ []) → b.hidden ≡ place (names_bound bindings) b.name.now
last_hidden bindings b notes =
    let within : length bindings < length (bindings ++ b ∷ []) = omega (arith, length-append bindings (b ∷ [])) in
    let at : slice_get (bindings ++ b ∷ []) (length bindings) ≡ Some b = slice_get-get_or (bindings ++ b ∷ []) (length bindings) b within ∙ ap Some (get_or-append_seam bindings b [] b) in
    notes (length bindings) b at ∙ ap (λ (s : Scope). place s b.name.now) (all_before bindings b)

-- the name of the last binding has a place
last_has_place : (places : Places) (bindings : List Binding) (b : Binding) → HavePlaces places (names_bound (bindings ++ b ∷ [])) → place_in places b.name.now ≡ Some (length (names_bound bindings))
last_has_place places bindings b have =
    have b.name.now ∙ ap (λ (s : Scope). place s b.name.now) (names-snoc bindings b) ∙ place-snoc (names_bound bindings) b.name.now b.name.now
    ∙ ap (λ (same : Bool). cond same (Some (length (names_bound bindings))) (place (names_bound bindings) b.name.now)) ((bytes_eq-Decides b.name.now b.name.now).1 refl)

pub last_is_some : (places : Places) (bindings : List Binding) (b : Binding) → HavePlaces places (names_bound (bindings ++ b ∷ [])) → IsSome (place_in places b.name.now)
last_is_some places bindings b have = let is = last_has_place places bindings b have in cc is

-- one name, with what it hid, and the others with what they have
unhidden : (same : Bool) (hidden before : Option ℕ) (n : ℕ) (after : Option ℕ) → (same ≡ true → hidden ≡ before) → after ≡ cond same (Some n) before → cond same hidden after ≡ before
unhidden true hidden before n after is last = is refl
unhidden false hidden before n after is last = last

-- the places before the last binding
pub places_unbound : (places after : Places) (bindings : List Binding) (b : Binding) → HavePlaces places (names_bound (bindings ++ b ∷ [])) → NoteHidden (bindings ++ b ∷ [])
    → ((other : List ℕ) → place_in after other ≡ cond (bytes_eq b.name.now other) b.hidden (place_in places other)) → HavePlaces after (names_bound bindings)
places_unbound places after bindings b have notes set name =
    set name
    ∙ unhidden (bytes_eq b.name.now name) b.hidden (place (names_bound bindings) name) (length (names_bound bindings)) (place_in places name)
    (λ same. last_hidden bindings b notes ∙ ap (place (names_bound bindings)) ((bytes_eq-Decides b.name.now name).0 same))
    (have name ∙ ap (λ (s : Scope). place s name) (names-snoc bindings b) ∙ place-snoc (names_bound bindings) b.name.now name)
