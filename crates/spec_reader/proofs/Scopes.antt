-- Variables in scope, and expressions in it.
use Rattle.std.proofs.Common.{◌≡◌, ℕ, zero, suc, ◌+◌, ◌<◌, ◌≤◌, List, [], ◌∷◌, ◌++◌, length, take, drop, map, get_or, Result, Ok, Err, refl, sym, ap, ◌∙◌, subst, append_assoc, add-one, drop-cons, arith}
use Rattle.std.proofs.lemmas.List.{drop-drop, length-take, take-append-le}
use Rattle.spec_form.specs.declared.error.SpecError.{SpecError}
use Rattle.spec_reader.specs.declared.expression.Expression.{Expression}
use Rattle.spec_form.specs.declared.form.Form.{Form}
use Rattle.spec_reader.specs.Reading.{◌>>=◌, with_front, Fails}
use Rattle.spec_reader.proofs.Faults.{Fails-bind}
use Rattle.std.proofs.Math.ListN.{drop_of_length-le}
use Rattle.spec_reader.specs.Forms.{Meanings, Scope, Resolver, star_parts, depth, depth_of_all, resolve}

pub deepest_part : (es : List Expression) (i : ℕ) (e : Expression) → i < length es → e ≡ get_or es i e → depth e ≤ depth_of_all es
deepest_part [] i e lt is = absurd (omega (arith, lt))
deepest_part (f ∷ es) zero e lt is = rw is (omega arith)
deepest_part (f ∷ es) (suc i) e lt is = omega (arith, deepest_part es i e (omega (arith, lt)) is)

-- one value more, in the scope that the names before it make
one_value : (bound : Scope) (values : List Expression) (i : ℕ) (value : Expression) (body : Resolver) (names : Meanings) (scope : Scope) → i < length values → value ≡ get_or values i value
    → star_parts (drop i bound) (map resolve (drop i values)) body names scope
    ≡ (resolve value names scope >>= λ f. star_parts (drop 1 (drop i bound)) (map resolve (drop (i + 1) values)) body names (scope ++ take 1 (drop i bound)) >>= λ fs. Ok (f ∷ fs))
one_value bound values i value body names scope lt is = rw (add-one, drop-cons values i value, ← is) refl

with_one : (out : List Form) (f : Form) (read : Result (List Form) SpecError) → with_front out (read >>= λ fs. Ok (f ∷ fs)) ≡ with_front (out ++ f ∷ []) read
with_one out f (Ok fs) = ap (λ (all : List Form). Ok all) (sym (append_assoc out (f ∷ []) fs))
with_one out f (Err e) = refl

pub goes_on : (bound : Scope) (values : List Expression) (i : ℕ) (value : Expression) (body : Resolver) (names : Meanings) (scope : Scope) (out : List Form) (f : Form) (all : Result (List Form) SpecError) → i < length values → value ≡ get_or values i value
    → resolve value names scope ≡ Ok f → with_front out (star_parts (drop i bound) (map resolve (drop i values)) body names scope) ≡ all
    → with_front (out ++ f ∷ []) (star_parts (drop (i + 1) bound) (map resolve (drop (i + 1) values)) body names (scope ++ take 1 (drop i bound))) ≡ all
goes_on bound values i value body names scope out f all lt is resolved so_far =
    let rest : Scope → Result (List Form) SpecError = λ (left : Scope). star_parts left (map resolve (drop (i + 1) values)) body names (scope ++ take 1 (drop i bound)) in
    ap (λ (left : Scope). with_front (out ++ f ∷ []) (rest left)) (sym (drop-drop 1 i bound))
    ∙ sym (with_one out f (rest (drop 1 (drop i bound))))
    ∙ ap (λ (r : Result Form SpecError). with_front out (r >>= λ g. rest (drop 1 (drop i bound)) >>= λ fs. Ok (g ∷ fs))) (sym resolved)
    ∙ ap (with_front out) (sym (one_value bound values i value body names scope lt is)) ∙ so_far

-- what was in scope before stays there
pub kept_behind : (depth : ℕ) (scope before more : Scope) → depth ≡ length before → take depth scope ≡ before → take depth (scope ++ more) ≡ before
kept_behind depth scope before more is kept =
    let within : depth ≤ length scope = omega (arith, is, length-take depth scope, ap (λ (s : Scope). length s) kept) in
    take-append-le depth scope more within ∙ kept

-- the body fails in the scope of all names
pub body_fails : (bound : Scope) (values : List Expression) (i : ℕ) (body : Resolver) (names : Meanings) (scope inner : Scope) (out : List Form) (e : SpecError) (all : Result (List Form) SpecError) → length values ≤ i → inner ≡ scope ++ drop i bound
    → Fails e (body names inner) → with_front out (star_parts (drop i bound) (map resolve (drop i values)) body names scope) ≡ all → Fails e all
body_fails bound values i body names scope inner out e all le is failed so_far =
    let ended : map resolve (drop i values) ≡ [] = ap (map resolve) (drop_of_length-le values le) in
    let last : Result (List Form) SpecError = body names (scope ++ drop i bound) >>= λ b. Ok (b ∷ []) in
    let here : Fails e (body names (scope ++ drop i bound)) = subst (λ (s : Scope). Fails e (body names s)) is failed in
    let at_end : with_front out last ≡ all = ap (λ (vs : List Resolver). with_front out (star_parts (drop i bound) vs body names scope)) (sym ended) ∙ so_far in
    subst (λ (r : Result (List Form) SpecError). Fails e r) at_end (Fails-bind e last (λ more. Ok (out ++ more)) (Fails-bind e (body names (scope ++ drop i bound)) (λ b. Ok (b ∷ [])) here))
