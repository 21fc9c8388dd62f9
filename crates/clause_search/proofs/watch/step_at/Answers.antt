use Rattle.std.proofs.Common.{List, length, sym, arith, subst, refl, ⊎_elim}
use Rattle.std.specs.List.{Contains}
use Rattle.std.proofs.lemmas.List.{take_all}
use Rattle.cnf_clauses.specs.Literal.{Literal}
use Rattle.cnf_clauses.specs.Clause.{HasVariablesBelow}
use Rattle.clause_log.proofs.Resolving.{same_or_other}
use Rattle.clause_log.specs.Resolution.{clause_at}
use Rattle.clause_log.specs.Log.{clauses_of}
use Rattle.clause_search.specs.Path.{AllButFalseIn, IsFalseIn, IsReason}
use Rattle.clause_search.proofs.Searches.{IsSearch-push}
use Rattle.clause_search.proofs.watch.step_at.Goals as goal

pub value-requires : goal.value-requires
value-requires c = c.requires.search.over c.args.id.0 c.requires.there c.args.other c.requires.other_in

pub open_but-requires : goal.open_but-requires
open_but-requires c = subst (HasVariablesBelow (length c.args.trail.now.places.items)) (sym c.clause.ensures.value) (c.requires.search.over c.args.id.0 c.requires.there)

pub open_but-requires-in-Free : goal.open_but-requires-in-Free
open_but-requires-in-Free c = subst (HasVariablesBelow (length c.args.trail.now.places.items)) (sym c.clause-in-Free.ensures.value) (c.requires.search.over c.args.id.0 c.requires.there)

pub push-requires-clause-inside : goal.push-requires-clause-inside
push-requires-clause-inside c = c.requires.search.over c.args.id.0 c.requires.there c.args.other c.requires.other_in

pub returns-in-None-clause-stepped : goal.returns-in-None-clause-stepped
returns-in-None-clause-stepped c =
    let path : List Literal = c.args.trail.now.path.items in (
      refl,
      (λ l l-in. ⊎_elim (λ same. subst (IsFalseIn path) (sym same) c.in-False.ensures)
          (λ ne. c.in-None.ensures l (subst (λ (zs : List Literal). Contains zs l) (sym c.clause.ensures.value) l-in) ne) (same_or_other l c.args.other)),
    )

pub returns-in_ok-push-in-None-open_but-clause-search : goal.returns-in_ok-push-in-None-open_but-clause-search
returns-in_ok-push-in-None-open_but-clause-search c =
    let t = c.args.trail.now in
    let db : List (List Literal) = clauses_of c.args.log.now in
    let e = c.in_ok-push-in-None-open_but.ensures in
    let why : IsReason db t.path.items (length t.path.items) c.args.other c.args.id = record {
      in_db = c.requires.there;
      holds_it = c.requires.other_in;
      others = subst (λ (zs : List Literal). AllButFalseIn zs c.args.other (clause_at db c.args.id)) (sym (take_all (length t.path.items) t.path.items (omega arith)))
          (subst (AllButFalseIn t.path.items c.args.other) c.clause-in-Free.ensures.value c.in-None-open_but.ensures);
    } in
    rw (e.path, e.reasons, e.starts, e.places)
    (IsSearch-push db t.path.items t.reasons.items t.starts.items (length t.places.items) c.args.other c.args.id t.is_trail.same_length t.is_trail.inside c.requires.search why)
