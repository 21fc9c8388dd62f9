-- Rows whose keys rise, searched by halves.
use Rattle.std.proofs.Common.{◌≡◌, ℕ, ◌<◌, ◌≤◌, Bool, true, false, cond, eqb, ltb, List, [], ◌∷◌, ◌++◌, map, find, Option, Some, None, refl, sym, ap, subst, ◌∙◌, arith}
use Rattle.std.proofs.lemmas.Bool.{ltb-true, ltb-false, eq-eqb}
use Rattle.std.proofs.lemmas.Bool.Decides.{nat_tests}
use Rattle.case_tables.specs.Tables.{rise, rise_above}

if_both : (b c : Bool) → cond b c false ≡ true → (b ≡ true) × (c ≡ true)
if_both true c h = (refl, h)
if_both false c h = absurd cc

eqb_apart : (a b : ℕ) → (a ≡ b → ⊥) → eqb a b ≡ false
eqb_apart a b ne = grind (arith, nat_tests)

-- ---- keys that rise

rise-tail : (key : ℕ) (keys : List ℕ) → rise (key ∷ keys) ≡ true → rise keys ≡ true
rise-tail key [] h = refl
rise-tail key (next ∷ keys) h = (if_both _ _ h).1

-- the keys in front of one are below it
first_below : {R : Type 0} (key_of : R → ℕ) (first : ℕ) (xs : List R) (y : R) (ys : List R) → rise_above first (map key_of (xs ++ y ∷ ys)) ≡ true → first < key_of y
first_below key_of first [] y ys h = ltb-true _ _ (if_both (ltb first (key_of y)) _ h).0
first_below key_of first (x ∷ xs) y ys h =
    let both = if_both (ltb first (key_of x)) (rise_above (key_of x) (map key_of (xs ++ y ∷ ys))) h in
    let here : first < key_of x = ltb-true _ _ both.0 in
    let there : key_of x < key_of y = first_below key_of (key_of x) xs y ys both.1 in
    omega arith

rise-before : {R : Type 0} (key_of : R → ℕ) (xs zs : List R) → rise (map key_of (xs ++ zs)) ≡ true → rise (map key_of xs) ≡ true
rise-before key_of [] zs h = refl
rise-before key_of (x ∷ []) zs h = refl
rise-before key_of (x ∷ (y ∷ xs)) zs h =
    let both = if_both (ltb (key_of x) (key_of y)) (rise_above (key_of y) (map key_of (xs ++ zs))) h in
    rw both.0 (rise-before key_of (y ∷ xs) zs both.1)

rise-after : {R : Type 0} (key_of : R → ℕ) (xs : List R) (y : R) (ys : List R) → rise (map key_of (xs ++ y ∷ ys)) ≡ true → rise (map key_of ys) ≡ true
rise-after key_of [] y ys h = rise-tail (key_of y) (map key_of ys) h
rise-after key_of (x ∷ xs) y ys h = rise-after key_of xs y ys (rise-tail (key_of x) (map key_of (xs ++ y ∷ ys)) h)

-- ---- the row of a key

none_above : {R : Type 0} (key_of : R → ℕ) (key last : ℕ) (ys : List R) → rise_above last (map key_of ys) ≡ true → key ≤ last → find (λ r. eqb (key_of r) key) ys ≡ None
none_above key_of key last [] h le = refl
none_above key_of key last (y ∷ ys) h le =
    let both = if_both (ltb last (key_of y)) (rise_above (key_of y) (map key_of ys)) h in
    let here : last < key_of y = ltb-true _ _ both.0 in
    let other : eqb (key_of y) key ≡ false = eqb_apart _ _ (λ e. absurd (omega arith)) in
    rw other (none_above key_of key (key_of y) ys both.1 (omega arith))

find_here : {R : Type 0} (key_of : R → ℕ) (key : ℕ) (xs : List R) (y : R) (ys : List R) → rise (map key_of (xs ++ y ∷ ys)) ≡ true → key_of y ≡ key
    → Some y ≡ find (λ r. eqb (key_of r) key) (xs ++ y ∷ ys)
find_here key_of key [] y ys h is = rw (eq-eqb (key_of y) key is) refl
find_here key_of key (x ∷ xs) y ys h is =
    let below : key_of x < key_of y = first_below key_of (key_of x) xs y ys h in
    let other : eqb (key_of x) key ≡ false = eqb_apart _ _ (λ e. absurd (omega arith)) in
    rw other (find_here key_of key xs y ys (rise-tail (key_of x) (map key_of (xs ++ y ∷ ys)) h) is)

find_after : {R : Type 0} (key_of : R → ℕ) (key : ℕ) (xs : List R) (y : R) (ys : List R) → rise (map key_of (xs ++ y ∷ ys)) ≡ true → key_of y < key
    → find (λ r. eqb (key_of r) key) ys ≡ find (λ r. eqb (key_of r) key) (xs ++ y ∷ ys)
find_after key_of key [] y ys h lt = let other : eqb (key_of y) key ≡ false = eqb_apart _ _ (λ e. absurd (omega arith)) in rw other refl
find_after key_of key (x ∷ xs) y ys h lt =
    let below : key_of x < key_of y = first_below key_of (key_of x) xs y ys h in
    let other : eqb (key_of x) key ≡ false = eqb_apart _ _ (λ e. absurd (omega arith)) in
    rw other (find_after key_of key xs y ys (rise-tail (key_of x) (map key_of (xs ++ y ∷ ys)) h) lt)

find_before : {R : Type 0} (key_of : R → ℕ) (key : ℕ) (xs : List R) (y : R) (ys : List R) → rise (map key_of (xs ++ y ∷ ys)) ≡ true → key < key_of y
    → find (λ r. eqb (key_of r) key) xs ≡ find (λ r. eqb (key_of r) key) (xs ++ y ∷ ys)
find_before key_of key [] y ys h lt =
    let other : eqb (key_of y) key ≡ false = eqb_apart _ _ (λ e. absurd (omega arith)) in
    rw other (sym (none_above key_of key (key_of y) ys h (omega arith)))
find_before key_of key (x ∷ xs) y ys h lt =
    ap (λ rest. cond (eqb (key_of x) key) (Some x) rest) (find_before key_of key xs y ys (rise-tail (key_of x) (map key_of (xs ++ y ∷ ys)) h) lt)

-- ---- a turn of the search

pub half_rises : {R : Type 0} (key_of : R → ℕ) (b : Bool) (rows before after next : List R) (row : R) → rise (map key_of rows) ≡ true → rows ≡ before ++ row ∷ after
    → next ≡ cond b before after → rise (map key_of next) ≡ true
half_rises {R = R} key_of true rows before after next row h parts is =
    let P : List R → Type 0 = λ l. rise (map key_of l) ≡ true in
    subst P (sym is) (rise-before key_of before (row ∷ after) (subst P parts h))
half_rises {R = R} key_of false rows before after next row h parts is =
    let P : List R → Type 0 = λ l. rise (map key_of l) ≡ true in
    subst P (sym is) (rise-after key_of before row after (subst P parts h))

half_finds_in : {R : Type 0} (key_of : R → ℕ) (key : ℕ) (before after : List R) (row : R) (b : Bool) → ltb key (key_of row) ≡ b → rise (map key_of (before ++ row ∷ after)) ≡ true
    → (key_of row ≡ key → ⊥) → find (λ r. eqb (key_of r) key) (cond b before after) ≡ find (λ r. eqb (key_of r) key) (before ++ row ∷ after)
half_finds_in key_of key before after row true is h other = find_before key_of key before row after h (ltb-true _ _ is)
half_finds_in key_of key before after row false is h other =
    let le : key_of row ≤ key = ltb-false _ _ is in
    let lt : key_of row < key = grind (arith, nat_tests) in
    find_after key_of key before row after h lt

pub half_finds : {R : Type 0} (key_of : R → ℕ) (key : ℕ) (rows before after next : List R) (row : R) → rise (map key_of rows) ≡ true → rows ≡ before ++ row ∷ after
    → (key_of row ≡ key → ⊥) → next ≡ cond (ltb key (key_of row)) before after → find (λ r. eqb (key_of r) key) next ≡ find (λ r. eqb (key_of r) key) rows
half_finds {R = R} key_of key rows before after next row h parts other is =
    let P : List R → Type 0 = λ l. rise (map key_of l) ≡ true in
    let found : List R → Option R = λ l. find (λ r. eqb (key_of r) key) l in
    ap found is ∙ half_finds_in key_of key before after row (ltb key (key_of row)) refl (subst P parts h) other ∙ ap found (sym parts)

pub middle_found : {R : Type 0} (key_of : R → ℕ) (key : ℕ) (rows before after : List R) (row : R) → rise (map key_of rows) ≡ true → rows ≡ before ++ row ∷ after → key_of row ≡ key
    → Some row ≡ find (λ r. eqb (key_of r) key) rows
middle_found {R = R} key_of key rows before after row h parts is =
    let P : List R → Type 0 = λ l. rise (map key_of l) ≡ true in
    let found : List R → Option R = λ l. find (λ r. eqb (key_of r) key) l in
    find_here key_of key before row after (subst P parts h) is ∙ ap found (sym parts)
