-- What follows from a log.
use Rattle.std.proofs.Common.{◌≡◌, ℕ, ◌+◌, ◌<◌, ◌≤◌, zero, suc, Bool, true, false, cond, List, [], ◌∷◌, ◌++◌, length, map, take, get_or, refl, sym, ◌∙◌, ap, subst, arith, ⊎_elim, add-one, ◌^◌, ◌-◌, nat_le, Option, None, Some, Result, Ok, Err}
use Rattle.std.specs.Result.{OnOk, OnErr}
use Rattle.std.specs.List.{find}
use Rattle.std.proofs.lemmas.List.{get_or_append_left, get_or_push, length_push, append_assoc, append-nil, take_more, map-append, take-append-le, take_all, get_or-map}
use Rattle.std.proofs.lemmas.Bool.{cases_lt, cases_Bool, cond-false, leb-false}
use Rattle.cnf_clauses.specs.Literal.{Literal}
use Rattle.cnf_clauses.specs.declared.lit.ClauseId.{ClauseId}
use Rattle.cnf_clauses.specs.Clause.{IsMet, Models, HasVariablesBelow}
use Rattle.clause_log.specs.Resolution.{Step, resolvent, first_places, clause_at, resolvents, StepsAreIn}
use Rattle.clause_log.specs.Line.{Line, clause_of, Follows, line_from}
use Rattle.clause_log.specs.Log.{all_clauses, EachFollows, IsLog}
use Rattle.clause_log.specs.Missing.{named, first_missing}
use Rattle.clause_log.proofs.Resolving.{IsMet-resolvent, first_places-resolvent, resolvent-first_places}

pub resolvents-nil : (db : List (List Literal)) (c : List Literal) → resolvents db c [] ≡ c
unfolding resolvents
resolvents-nil db c = refl

pub resolvents-push : (db : List (List Literal)) (c : List Literal) (ss : List Step) (s : Step) → resolvents db c (ss ++ s ∷ []) ≡ resolvent s.1 (resolvents db c ss) (clause_at db s.0)
unfolding resolvents
resolvents-push db c [] s = refl
resolvents-push db c (r ∷ ss) s = resolvents-push db (resolvent r.1 c (clause_at db r.0)) ss s

pub StepsAreIn-push : (n : ℕ) (ss : List Step) (s : Step) → StepsAreIn n ss → s.0.0 < n → StepsAreIn n (ss ++ s ∷ [])
StepsAreIn-push n ss s all here k d h =
    ⊎_elim (λ lt. subst (λ (t : Step). t.0.0 < n) (sym (get_or_append_left ss (s ∷ []) d k lt)) (all k d lt))
    (λ ge. subst (λ (t : Step). t.0.0 < n) (sym (get_or_push ss s d k (omega (arith, length_push ss s)))) here) (cases_lt k (length ss))

StepsAreIn-tail : (n : ℕ) (s : Step) (ss : List Step) → StepsAreIn n (s ∷ ss) → StepsAreIn n ss
StepsAreIn-tail n s ss all k d h = all (suc k) d (omega arith)

pub IsMet-resolvents : (v : ℕ → Bool) (db : List (List Literal)) (c : List Literal) (ss : List Step) → Models v db → IsMet v c → StepsAreIn (length db) ss → IsMet v (resolvents db c ss)
unfolding resolvents
IsMet-resolvents v db c [] models met ids = met
IsMet-resolvents v db c (s ∷ ss) models met ids =
    IsMet-resolvents v db (resolvent s.1 c (clause_at db s.0)) ss models (IsMet-resolvent v s.1 c (clause_at db s.0) met (models s.0.0 (ids 0 s (omega arith)))) (StepsAreIn-tail (length db) s ss ids)

pub IsMet-follows : (v : ℕ → Bool) (db : List (List Literal)) (e : Line) → Models v db → Follows db e → IsMet v e.clause
IsMet-follows v db e models f = subst (IsMet v) (sym f.result) (IsMet-resolvents v db (clause_at db e.start) e.steps models (models e.start.0 f.start_in) f.steps_in)

pub Models-push : (v : ℕ → Bool) (db : List (List Literal)) (c : List Literal) → Models v db → IsMet v c → Models v (db ++ c ∷ [])
Models-push v db c all here k h =
    ⊎_elim (λ lt. subst (IsMet v) (sym (get_or_append_left db (c ∷ []) [] k lt)) (all k lt))
    (λ ge. subst (IsMet v) (sym (get_or_push db c [] k (omega (arith, length_push db c)))) here) (cases_lt k (length db))

pub all_clauses-push : (fs : List (List Literal)) (ls : List Line) (e : Line) → all_clauses fs (ls ++ e ∷ []) ≡ all_clauses fs ls ++ e.clause ∷ []
all_clauses-push fs ls e = ap (λ (zs : List (List Literal)). fs ++ zs) (map-append clause_of ls (e ∷ [])) ∙ sym (append_assoc fs (map clause_of ls) (e.clause ∷ []))

pub no_line : Line
no_line = record { start = record { 0 = 0 }; steps = []; clause = [] }

pub Models-front : (v : ℕ → Bool) (fs : List (List Literal)) (ls : List Line) (n : ℕ) → EachFollows fs ls → Models v fs → n ≤ length ls → Models v (all_clauses fs (take n ls))
Models-front v fs ls zero log models h = subst (Models v) (sym (append-nil fs)) models
Models-front v fs ls (suc n) log models h =
    let before : Models v (all_clauses fs (take n ls)) = Models-front v fs ls n log models (omega arith) in
    let e : Line = get_or ls n no_line in
    let grown : all_clauses fs (take (suc n) ls) ≡ all_clauses fs (take n ls) ++ e.clause ∷ [] =
    ap (λ (m : ℕ). all_clauses fs (take m ls)) (sym (add-one n)) ∙ (ap (all_clauses fs) (take_more ls n no_line (omega arith)) ∙ all_clauses-push fs (take n ls) e) in
    subst (Models v) (sym grown) (Models-push v (all_clauses fs (take n ls)) e.clause before (IsMet-follows v (all_clauses fs (take n ls)) e before (log n no_line (omega arith))))

pub Models-log : (v : ℕ → Bool) (fs : List (List Literal)) (ls : List Line) → EachFollows fs ls → Models v fs → Models v (all_clauses fs ls)
Models-log v fs ls log models = subst (λ (zs : List Line). Models v (all_clauses fs zs)) (take_all (length ls) ls (omega arith)) (Models-front v fs ls (length ls) log models (omega arith))

pub EachFollows-push : (fs : List (List Literal)) (ls : List Line) (e : Line) → EachFollows fs ls → Follows (all_clauses fs ls) e → EachFollows fs (ls ++ e ∷ [])
EachFollows-push fs ls e log here j d h =
    ⊎_elim (λ lt. subst (λ (zs : List Line). Follows (all_clauses fs zs) (get_or (ls ++ e ∷ []) j d)) (sym (take-append-le j ls (e ∷ []) (omega arith)))
    (subst (Follows (all_clauses fs (take j ls))) (sym (get_or_append_left ls (e ∷ []) d j lt)) (log j d lt)))
    (λ ge. let j-is : j ≡ length ls = omega (arith, length_push ls e) in
    subst (λ (zs : List Line). Follows (all_clauses fs zs) (get_or (ls ++ e ∷ []) j d)) (sym (take-append-le j ls (e ∷ []) (omega arith) ∙ take_all j ls (omega arith)))
    (subst (Follows (all_clauses fs ls)) (sym (get_or_push ls e d j (sym j-is))) here)) (cases_lt j (length ls))

pub no_step : Step
no_step = (record { 0 = 0 }, record { var = 0; negated = false })

pub resolvents_more : (db : List (List Literal)) (c : List Literal) (ss : List Step) (i : ℕ) (d : Step) (now next : List Literal) → i < length ss → now ≡ first_places (resolvents db c (take i ss)) → next ≡ resolvent (get_or ss i d).1 now (clause_at db (get_or ss i d).0) → next ≡ first_places (resolvents db c (take (i + 1) ss))
resolvents_more db c ss i d now next h e f =
    let s : Step = get_or ss i d in
    let before : List Literal = resolvents db c (take i ss) in
    let other : List Literal = clause_at db s.0 in
    f ∙ (ap (λ (x : List Literal). resolvent s.1 x other) e ∙ (resolvent-first_places s.1 before other ∙ (sym (first_places-resolvent s.1 before other)
    ∙ ap first_places (sym (resolvents-push db c (take i ss) s) ∙ ap (resolvents db c) (sym (take_more ss i d h))))))

-- after a step or more each literal stands once
once_resolved : (db : List (List Literal)) (c : List Literal) (ss : List Step) → first_places c ≡ c → first_places (resolvents db c ss) ≡ resolvents db c ss
unfolding resolvents
once_resolved db c [] e = e
once_resolved db c (s ∷ ss) e = once_resolved db (resolvent s.1 c (clause_at db s.0)) ss (first_places-resolvent s.1 c (clause_at db s.0))

pub resolvents_once : (db : List (List Literal)) (c : List Literal) (ss : List Step) → 0 < length ss → first_places (resolvents db c ss) ≡ resolvents db c ss
unfolding resolvents
resolvents_once db c [] h = absurd (omega arith)
resolvents_once db c (s ∷ ss) h = once_resolved db (resolvent s.1 c (clause_at db s.0)) ss (first_places-resolvent s.1 c (clause_at db s.0))

-- a log with a line more
for_each_push : (P : List Literal → Type 0) (cs : List (List Literal)) (c : List Literal) → ((k : ℕ) → k < length cs → P (get_or cs k [])) → P c → (k : ℕ) → k < length (cs ++ c ∷ []) → P (get_or (cs ++ c ∷ []) k [])
for_each_push P cs c all here k h =
    ⊎_elim (λ lt. subst P (sym (get_or_append_left cs (c ∷ []) [] k lt)) (all k lt))
    (λ ge. subst P (sym (get_or_push cs c [] k (omega (arith, length_push cs c)))) here) (cases_lt k (length cs))

pub IsLog-push : (n : ℕ) (fs : List (List Literal)) (ls : List Line) (line : Line) → IsLog n fs ls → length (all_clauses fs ls) < 2 ^ 32 - 1 → Follows (all_clauses fs ls) line → HasVariablesBelow n line.clause → IsLog n fs (ls ++ line ∷ [])
IsLog-push n fs ls line log room follows below =
    let grown : all_clauses fs (ls ++ line ∷ []) ≡ all_clauses fs ls ++ line.clause ∷ [] = all_clauses-push fs ls line in
    record {
      few = omega (arith, ap length grown, length_push (all_clauses fs ls) line.clause);
      follows = EachFollows-push fs ls line log.follows follows;
      over = subst (λ (zs : List (List Literal)). (k : ℕ) → k < length zs → HasVariablesBelow n (get_or zs k [])) (sym grown)
          (for_each_push (HasVariablesBelow n) (all_clauses fs ls) line.clause log.over below);
    }

-- a log with no lines
pub IsLog-nil : (n : ℕ) (fs : List (List Literal)) → length fs < 2 ^ 32 → ((k : ℕ) → k < length fs → HasVariablesBelow n (get_or fs k [])) → IsLog n fs []
IsLog-nil n fs few over =
    let same : fs ++ [] ≡ fs = append-nil fs in
    record {
      few = omega (arith, ap length same);
      follows = λ j d h. absurd (omega arith);
      over = subst (λ (zs : List (List Literal)). (k : ℕ) → k < length zs → HasVariablesBelow n (get_or zs k [])) (sym same) over;
    }

-- a line among the clauses
pub clause_at_line : (fs : List (List Literal)) (ls : List Line) (id k : ℕ) (d : Line) → length fs + k ≡ id → k < length ls → (get_or ls k d).clause ≡ get_or (all_clauses fs ls) id []
clause_at_line [] ls id k d e h = let same : k ≡ id = omega (arith, e) in
    sym (ap (λ (n : ℕ). get_or (map clause_of ls) n []) (sym same) ∙ get_or-map clause_of ls k d [] h)
clause_at_line (f ∷ fs) ls zero k d e h = absurd (omega (arith, e))
clause_at_line (f ∷ fs) ls (suc id) k d e h = clause_at_line fs ls id k d (omega (arith, e)) h

-- the step of a loop names a clause that is there
pub step_in : (n : ℕ) (ss : List Step) (i : ℕ) (s : Step) → i < length ss → s ≡ get_or ss i s → StepsAreIn n ss → s.0.0 < n
step_in n ss i s h e all = subst (λ (t : Step). t.0.0 < n) (sym e) (all i s h)

-- none is missing where the look-up finds nothing
at_step : (n : ℕ) (s : Step) (ss : List Step) → s.0.0 < n → StepsAreIn n ss → StepsAreIn n (s ∷ ss)
at_step n s ss here later zero d h = here
at_step n s ss here later (suc k) d h = later k d (omega arith)

pub none_missing : (n : ℕ) (ss : List Step) → find (nat_le n) (map named ss) ≡ None → StepsAreIn n ss
none_missing n [] e k d h = absurd (omega arith)
none_missing n (s ∷ ss) e k d h =
    ⊎_elim (λ t. cc) (λ f. at_step n s ss (leb-false n s.0.0 f) (none_missing n ss (sym (cond-false (nat_le n s.0.0) (Some s.0.0) (find (nat_le n) (map named ss)) f) ∙ e)) k d h) (cases_Bool (nat_le n s.0.0))

pub resolvents_none : (db : List (List Literal)) (c : List Literal) (ss : List Step) → length ss ≡ 0 → resolvents db c ss ≡ c
unfolding resolvents
resolvents_none db c [] e = refl
resolvents_none db c (s ∷ ss) e = absurd (omega (arith, e))

-- what an append that may fail leaves
pub IsLog-append : {T E : Type 0} (r : Result T E) (n : ℕ) (fs : List (List Literal)) (ls new : List Line) (line made : Line) → OnOk r (new ≡ ls ++ line ∷ []) → OnErr r (new ≡ ls) → line ≡ made → IsLog n fs ls → length (all_clauses fs ls) < 2 ^ 32 - 1 → Follows (all_clauses fs ls) made → HasVariablesBelow n made.clause → IsLog n fs new
IsLog-append (Ok x) n fs ls new line made ok err same log room follows below =
    subst (IsLog n fs) (sym (ok ∙ ap (λ (l : Line). ls ++ l ∷ []) same)) (IsLog-push n fs ls made log room follows below)
IsLog-append (Err e) n fs ls new line made ok err same log room follows below = subst (IsLog n fs) (sym err) log

pub follows_from : (db : List (List Literal)) (start : ClauseId) (ss : List Step) → start.0 < length db → StepsAreIn (length db) ss → Follows db (line_from db start ss)
follows_from db start ss there steps = record { start_in = there; steps_in = steps; result = refl }

none_after : (b : Bool) (x : ℕ) (o : Option ℕ) → None ≡ cond b (Some x) o → o ≡ None
none_after true x o e = cc
none_after false x o e = sym e

pub steps_are_in : (n : ℕ) (start : ClauseId) (ss : List Step) → None ≡ first_missing n start ss → StepsAreIn n ss
steps_are_in n start ss e = none_missing n ss (none_after (nat_le n start.0) start.0 (find (nat_le n) (map named ss)) e)
