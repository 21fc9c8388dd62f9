-- What a learnt clause brings.
use Rattle.std.proofs.Common.{◌≡◌, ℕ, ◌<◌, ◌≤◌, false, Option, Some, List, [], ◌∷◌, ◌++◌, length, take, get_or, refl, sym, ◌∙◌, ap, subst, arith, ⊎_elim, nat_le, map, suc}
use Rattle.std.specs.List.{Contains, find}
use Rattle.std.proofs.lemmas.List.{get_or-take, length-take, take-take}
use Rattle.std.proofs.lemmas.List.Elements.{Contains-get_or}
use Rattle.std.proofs.lemmas.Bool.{cases_eq, cases_Bool, cond-false, leb-true}
use Rattle.cnf_clauses.specs.Literal.{Literal, opposite}
use Rattle.cnf_clauses.specs.declared.lit.ClauseId.{ClauseId}
use Rattle.clause_log.specs.Resolution.{IsNew, IsWithin, Step, StepsAreIn}
use Rattle.clause_log.proofs.Resolving.{same_or_other, Contains-nil, Contains-here}
use Rattle.clause_log.specs.Line.{Line}
use Rattle.clause_log.specs.Log.{all_clauses}
use Rattle.clause_log.specs.Missing.{named, first_missing}
use Rattle.clause_log.proofs.Logs.{all_clauses-push}
use Rattle.clause_search.specs.Path.{IsFalseIn, AllFalseIn, AllButFalseIn, IsClosed, IsTrail, IsSearch}
use Rattle.clause_search.specs.Learnt.{IsAsserting, last_start}
use Rattle.clause_search.proofs.Searches.{front_in, front_within, IsSearch-cut, IsSearch-learn, learnt_is_closed}
use Rattle.clause_search.proofs.Analysis.{begins_by, over_all}

-- no clause that is named is missing
find_none : (n : ℕ) (ss : List Step) (k : ℕ) → StepsAreIn n ss → find (nat_le n) (map named ss) ≡ Some k → ⊥
find_none n [] k steps e = cc
find_none n (s ∷ ss) k steps e =
    let no_step : Step = (record { 0 = 0 }, record { var = 0; negated = false }) in
    let here : s.0.0 < n = steps 0 no_step (omega arith) in
    let past : nat_le n s.0.0 ≡ false = ⊎_elim (λ t. absurd (omega (arith, leb-true n s.0.0 t))) (λ f. f) (cases_Bool (nat_le n s.0.0)) in
    find_none n ss k (λ j d h. steps (suc j) d (omega arith)) (sym (cond-false (nat_le n s.0.0) (Some s.0.0) (find (nat_le n) (map named ss)) past) ∙ e)

pub none_missing : (n : ℕ) (start : ClauseId) (ss : List Step) (k : ℕ) → start.0 < n → StepsAreIn n ss → first_missing n start ss ≡ Some k → ⊥
none_missing n start ss k there steps e =
    let past : nat_le n start.0 ≡ false = ⊎_elim (λ t. absurd (omega (arith, leb-true n start.0 t))) (λ f. f) (cases_Bool (nat_le n start.0)) in
    find_none n ss k steps (sym (cond-false (nat_le n start.0) (Some start.0) (find (nat_le n) (map named ss)) past) ∙ e)

pub all_false_learnt : (path : List Literal) (b : ℕ) (c : List Literal) (u : Literal) → IsAsserting path b c u → AllFalseIn path c
all_false_learnt path b c u r l l-in =
    ⊎_elim (λ same. subst (IsFalseIn path) (sym same) r.is_false) (λ other. front_in path b (opposite l) (r.others l l-in other)) (same_or_other l u)

not_empty : (c : List Literal) (u : Literal) → Contains c u → c ≡ [] → ⊥
not_empty c u u-in e = Contains-nil u (subst (λ (zs : List Literal). Contains zs u) e u-in)

-- the levels that are left keep all that the search keeps, with the new clause too
pub learn_keeps : (db : List (List Literal)) (path : List Literal) (reasons : List (Option ClauseId)) (starts : List ℕ) (places : List (Option ℕ)) (c : List Literal) (u : Literal) (level : ℕ) → IsTrail path reasons starts places → IsSearch db path reasons starts (length places) → IsAsserting path (last_start starts) c u → level < length starts
    → ((j : ℕ) → j < level → AllButFalseIn (take (get_or starts j 0) path) u c → ⊥)
    → IsSearch (db ++ c ∷ []) (take (get_or starts level 0) path) (take (get_or starts level 0) reasons) (take level starts) (length places)
learn_keeps db path reasons starts places c u level t s r low not_unit =
    let n : ℕ = get_or starts level 0 in
    IsSearch-learn db c (take n path) (take n reasons) (take level starts) (length places) (IsSearch-cut db path reasons starts places (length places) level t low s)
    (λ j h. let j-low : j < level = omega (arith, length-take level starts) in
    let m : ℕ = get_or starts j 0 in
    let m-last : m ≤ last_start starts = begins_by starts m t.rising (Contains-get_or starts j 0 (omega arith)) in
    subst (λ (k : ℕ). IsClosed (take k (take n path)) c) (sym (get_or-take level starts j 0 j-low))
    (subst (λ (p : List Literal). IsClosed p c) (sym (take-take m n path (t.rising j level j-low low)))
    (learnt_is_closed path m c u r.holds_it (λ f. r.not_before (front_within path m (last_start starts) (opposite u) m-last f)) (not_unit j j-low))))
    (over_all path reasons starts places c t (all_false_learnt path (last_start starts) c u r))
    (not_empty c u r.holds_it)

-- all clauses after a line
pub clauses_after : (fs later : List (List Literal)) (ls new : List Line) (e : Line) → later ≡ fs → new ≡ ls ++ e ∷ [] → all_clauses later new ≡ all_clauses fs ls ++ e.clause ∷ []
clauses_after fs later ls new e fs-is ls-is =
    ap (λ (zs : List (List Literal)). all_clauses zs new) fs-is ∙ (ap (all_clauses fs) ls-is ∙ all_clauses-push fs ls e)

within_nil : (c : List Literal) → IsWithin c [] → c ≡ []
within_nil [] w = refl
within_nil (x ∷ xs) w = absurd (Contains-nil x (w x (Contains-here x xs)))

-- the empty line is new where no clause is empty
pub empty_is_new : (db : List (List Literal)) → ((k : ℕ) → k < length db → get_or db k [] ≡ [] → ⊥) → IsNew db []
empty_is_new db some k k-in within = some k k-in (within_nil (get_or db k []) within)

-- one literal is false for one level before another
pub all_but_within : (path : List Literal) (m n : ℕ) (u : Literal) (c : List Literal) → m ≤ n → AllButFalseIn (take m path) u c → AllButFalseIn (take n path) u c
all_but_within path m n u c h all l l-in ne = front_within path m n (opposite l) h (all l l-in ne)

pub rising_to : (starts : List ℕ) (i j : ℕ) → ((i j : ℕ) → i < j → j < length starts → get_or starts i 0 ≤ get_or starts j 0) → i ≤ j → j < length starts → get_or starts i 0 ≤ get_or starts j 0
rising_to starts i j rising h low = ⊎_elim (λ same. omega (arith, ap (λ (k : ℕ). get_or starts k 0) same)) (λ ne. rising i j (omega arith) low) (cases_eq i j)
