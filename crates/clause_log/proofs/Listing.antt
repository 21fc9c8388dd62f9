-- Lines whose parts stand in three lists.
use Rattle.std.proofs.Common.{◌≡◌, ℕ, ◌<◌, zero, suc, List, [], ◌∷◌, ◌++◌, length, get_or, refl, ap, arith}
use Rattle.cnf_clauses.specs.Literal.{Literal}
use Rattle.cnf_clauses.specs.declared.lit.ClauseId.{ClauseId}
use Rattle.clause_log.specs.Resolution.{Step}
use Rattle.clause_log.specs.Line.{Line, lines_of}

pub length-lines_of : (ss : List ClauseId) (ts : List (List Step)) (cs : List (List Literal)) → length ts ≡ length ss → length cs ≡ length ss → length (lines_of ss ts cs) ≡ length ss
unfolding lines_of
length-lines_of [] ts cs e f = refl
length-lines_of (s ∷ ss) [] cs e f = absurd (omega (arith, e))
length-lines_of (s ∷ ss) (t ∷ ts) [] e f = absurd (omega (arith, f))
length-lines_of (s ∷ ss) (t ∷ ts) (c ∷ cs) e f = omega (arith, length-lines_of ss ts cs (omega (arith, e)) (omega (arith, f)))

pub lines_of-push : (ss : List ClauseId) (ts : List (List Step)) (cs : List (List Literal)) (s : ClauseId) (t : List Step) (c : List Literal) → length ts ≡ length ss → length cs ≡ length ss → lines_of (ss ++ s ∷ []) (ts ++ t ∷ []) (cs ++ c ∷ []) ≡ lines_of ss ts cs ++ record { start = s; steps = t; clause = c } ∷ []
unfolding lines_of
lines_of-push [] [] [] s t c e f = refl
lines_of-push [] (u ∷ ts) cs s t c e f = absurd (omega (arith, e))
lines_of-push [] [] (d ∷ cs) s t c e f = absurd (omega (arith, f))
lines_of-push (r ∷ ss) [] cs s t c e f = absurd (omega (arith, e))
lines_of-push (r ∷ ss) (u ∷ ts) [] s t c e f = absurd (omega (arith, f))
lines_of-push (r ∷ ss) (u ∷ ts) (d ∷ cs) s t c e f =
    ap (λ (zs : List Line). record { start = r; steps = u; clause = d } ∷ zs) (lines_of-push ss ts cs s t c (omega (arith, e)) (omega (arith, f)))

-- a part of a line stands at the line's place in its list
pub start_at : (ss : List ClauseId) (ts : List (List Step)) (cs : List (List Literal)) (k : ℕ) (d : Line) (x : ClauseId) → length ts ≡ length ss → length cs ≡ length ss → k < length ss → get_or ss k x ≡ (get_or (lines_of ss ts cs) k d).start
unfolding lines_of
start_at [] ts cs k d x e f h = absurd (omega arith)
start_at (s ∷ ss) [] cs k d x e f h = absurd (omega (arith, e))
start_at (s ∷ ss) (t ∷ ts) [] k d x e f h = absurd (omega (arith, f))
start_at (s ∷ ss) (t ∷ ts) (c ∷ cs) zero d x e f h = refl
start_at (s ∷ ss) (t ∷ ts) (c ∷ cs) (suc k) d x e f h = start_at ss ts cs k d x (omega (arith, e)) (omega (arith, f)) (omega arith)

pub steps_at : (ss : List ClauseId) (ts : List (List Step)) (cs : List (List Literal)) (k : ℕ) (d : Line) (x : List Step) → length ts ≡ length ss → length cs ≡ length ss → k < length ss → get_or ts k x ≡ (get_or (lines_of ss ts cs) k d).steps
unfolding lines_of
steps_at [] ts cs k d x e f h = absurd (omega arith)
steps_at (s ∷ ss) [] cs k d x e f h = absurd (omega (arith, e))
steps_at (s ∷ ss) (t ∷ ts) [] k d x e f h = absurd (omega (arith, f))
steps_at (s ∷ ss) (t ∷ ts) (c ∷ cs) zero d x e f h = refl
steps_at (s ∷ ss) (t ∷ ts) (c ∷ cs) (suc k) d x e f h = steps_at ss ts cs k d x (omega (arith, e)) (omega (arith, f)) (omega arith)

pub text_at : (ss : List ClauseId) (ts : List (List Step)) (cs : List (List Literal)) (k : ℕ) (d : Line) (x : List Literal) → length ts ≡ length ss → length cs ≡ length ss → k < length ss → get_or cs k x ≡ (get_or (lines_of ss ts cs) k d).clause
unfolding lines_of
text_at [] ts cs k d x e f h = absurd (omega arith)
text_at (s ∷ ss) [] cs k d x e f h = absurd (omega (arith, e))
text_at (s ∷ ss) (t ∷ ts) [] k d x e f h = absurd (omega (arith, f))
text_at (s ∷ ss) (t ∷ ts) (c ∷ cs) zero d x e f h = refl
text_at (s ∷ ss) (t ∷ ts) (c ∷ cs) (suc k) d x e f h = text_at ss ts cs k d x (omega (arith, e)) (omega (arith, f)) (omega arith)
