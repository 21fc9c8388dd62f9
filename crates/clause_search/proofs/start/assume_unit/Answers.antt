use Rattle.std.proofs.Common.{◌≡◌, ◌<◌, List, [], ◌∷◌, ◌++◌, length, sym, ap, subst, arith, refl}
use Rattle.std.specs.List.{Contains}
use Rattle.std.proofs.lemmas.List.Elements.{Contains-append_left, Contains-push}
use Rattle.cnf_clauses.specs.Literal.{Literal}
use Rattle.clause_log.specs.Resolution.{clause_at}
use Rattle.clause_log.specs.Log.{clauses_of}
use Rattle.clause_search.specs.Path.{IsFalseIn, IsReason}
use Rattle.clause_search.proofs.Paths.{item_in}
use Rattle.clause_search.proofs.Searches.{IsSearch-push}
use Rattle.clause_search.proofs.Starts.{some_literal, two_literals, one_literal}
use Rattle.clause_search.proofs.start.assume_unit.Goals as goal

pub bounds-clause-0 : goal.bounds-clause-0
bounds-clause-0 c =
    let text : List Literal = clause_at (clauses_of c.args.log.now) c.args.id in
    omega (arith, some_literal text (c.requires.search.some c.args.id.0 c.requires.there), ap length c.clause-clause.ensures.value)

pub value-requires : goal.value-requires
value-requires c =
    let t = c.args.trail.now in
    let db : List (List Literal) = clauses_of c.args.log.now in
    let text : List Literal = clause_at db c.args.id in
    let first : Literal = c.index-clause-0.result in
    let same : c.clause-clause.result.now ≡ text = c.clause-clause.ensures.value in
    let some : 0 < length text = some_literal text (c.requires.search.some c.args.id.0 c.requires.there) in
    let first-in : Contains text first = subst (λ (x : List Literal). Contains x first) same (item_in c.clause-clause.result.now 0 first (omega (arith, some, ap length same)) c.index-clause-0.is) in
    c.requires.search.over c.args.id.0 c.requires.there first first-in

pub push-requires-clause-inside : goal.push-requires-clause-inside
push-requires-clause-inside c =
    let t = c.args.trail.now in
    let db : List (List Literal) = clauses_of c.args.log.now in
    let text : List Literal = clause_at db c.args.id in
    let first : Literal = c.index-clause-0.result in
    let same : c.clause-clause.result.now ≡ text = c.clause-clause.ensures.value in
    let some : 0 < length text = some_literal text (c.requires.search.some c.args.id.0 c.requires.there) in
    let first-in : Contains text first = subst (λ (x : List Literal). Contains x first) same (item_in c.clause-clause.result.now 0 first (omega (arith, some, ap length same)) c.index-clause-0.is) in
    c.requires.search.over c.args.id.0 c.requires.there first first-in

pub returns-in-Some-clause-assumed : goal.returns-in-Some-clause-assumed
returns-in-Some-clause-assumed c =
    let t = c.args.trail.now in
    let db : List (List Literal) = clauses_of c.args.log.now in
    let text : List Literal = clause_at db c.args.id in
    let first : Literal = c.index-clause-0.result in
    let same : c.clause-clause.result.now ≡ text = c.clause-clause.ensures.value in
    let some : 0 < length text = some_literal text (c.requires.search.some c.args.id.0 c.requires.there) in
    let first-in : Contains text first = subst (λ (x : List Literal). Contains x first) same (item_in c.clause-clause.result.now 0 first (omega (arith, some, ap length same)) c.index-clause-0.is) in
    let x : Literal = c.in-Some.field-0 in
    let x-in : Contains text x = subst (λ (y : List Literal). Contains y x) same c.in-Some.ensures.0 in
    ((λ l l-in. l-in), two_literals t.path.items text first x first-in x-in c.in-Some.ensures.1)

pub returns-in-True-clause-assumed : goal.returns-in-True-clause-assumed
returns-in-True-clause-assumed c =
    let t = c.args.trail.now in
    let db : List (List Literal) = clauses_of c.args.log.now in
    let text : List Literal = clause_at db c.args.id in
    let first : Literal = c.index-clause-0.result in
    let same : c.clause-clause.result.now ≡ text = c.clause-clause.ensures.value in
    let some : 0 < length text = some_literal text (c.requires.search.some c.args.id.0 c.requires.there) in
    let first-in : Contains text first = subst (λ (x : List Literal). Contains x first) same (item_in c.clause-clause.result.now 0 first (omega (arith, some, ap length same)) c.index-clause-0.is) in
    ((λ l l-in. l-in), one_literal t.path.items text first first-in c.in-True.ensures)

pub returns-in-False-clause-assumed : goal.returns-in-False-clause-assumed
returns-in-False-clause-assumed c =
    let t = c.args.trail.now in
    let db : List (List Literal) = clauses_of c.args.log.now in
    let text : List Literal = clause_at db c.args.id in
    let first : Literal = c.index-clause-0.result in
    let same : c.clause-clause.result.now ≡ text = c.clause-clause.ensures.value in
    let some : 0 < length text = some_literal text (c.requires.search.some c.args.id.0 c.requires.there) in
    let first-in : Contains text first = subst (λ (x : List Literal). Contains x first) same (item_in c.clause-clause.result.now 0 first (omega (arith, some, ap length same)) c.index-clause-0.is) in
    let alone : (l : Literal) → Contains text l → l ≡ first = subst (λ (x : List Literal). (l : Literal) → Contains x l → l ≡ first) same c.in-None.ensures in
    (refl, (λ l l-in. subst (IsFalseIn t.path.items) (sym (alone l l-in)) c.in-False.ensures))

pub returns-in_ok-push-in-Free-clause-search : goal.returns-in_ok-push-in-Free-clause-search
returns-in_ok-push-in-Free-clause-search c =
    let t = c.args.trail.now in
    let db : List (List Literal) = clauses_of c.args.log.now in
    let text : List Literal = clause_at db c.args.id in
    let first : Literal = c.index-clause-0.result in
    let same : c.clause-clause.result.now ≡ text = c.clause-clause.ensures.value in
    let some : 0 < length text = some_literal text (c.requires.search.some c.args.id.0 c.requires.there) in
    let first-in : Contains text first = subst (λ (x : List Literal). Contains x first) same (item_in c.clause-clause.result.now 0 first (omega (arith, some, ap length same)) c.index-clause-0.is) in
    let alone : (l : Literal) → Contains text l → l ≡ first = subst (λ (x : List Literal). (l : Literal) → Contains x l → l ≡ first) same c.in-None.ensures in
    let e = c.in_ok-push-in-Free.ensures in
    let why : IsReason db t.path.items (length t.path.items) first c.args.id = record {
      in_db = c.requires.there;
      holds_it = first-in;
      others = λ l l-in ne. absurd (ne (alone l l-in));
    } in
    rw (e.path, e.reasons, e.starts, e.places)
    (IsSearch-push db t.path.items t.reasons.items t.starts.items (length t.places.items) first c.args.id t.is_trail.same_length t.is_trail.inside c.requires.search why)

pub returns-in_ok-push-in-Free-clause-assumed : goal.returns-in_ok-push-in-Free-clause-assumed
returns-in_ok-push-in-Free-clause-assumed c =
    let t = c.args.trail.now in
    let db : List (List Literal) = clauses_of c.args.log.now in
    let text : List Literal = clause_at db c.args.id in
    let first : Literal = c.index-clause-0.result in
    let same : c.clause-clause.result.now ≡ text = c.clause-clause.ensures.value in
    let some : 0 < length text = some_literal text (c.requires.search.some c.args.id.0 c.requires.there) in
    let first-in : Contains text first = subst (λ (x : List Literal). Contains x first) same (item_in c.clause-clause.result.now 0 first (omega (arith, some, ap length same)) c.index-clause-0.is) in
    rw c.in_ok-push-in-Free.ensures.path
    ((λ l l-in. Contains-append_left t.path.items (first ∷ []) l l-in), one_literal (t.path.items ++ first ∷ []) text first first-in (Contains-push t.path.items first))
