use Rattle.std.proofs.Common.{◌≡◌, List, get_or, ◌∙◌, ap, arith, refl}
use Rattle.std.proofs.lemmas.List.{get_or_read}
use Rattle.cnf_clauses.specs.Literal.{Literal, opposite}
use Rattle.clause_log.specs.Log.{clauses_of}
use Rattle.clause_search.proofs.Paths.{no_lit}
use Rattle.clause_search.proofs.Passes.{passing_start}
use Rattle.clause_search.proofs.pass.go_through.Goals as goal

pub entries-init : goal.entries-init
entries-init c =
    let db : List (List Literal) = clauses_of c.args.log.now in
    let t = c.args.trail.now in
    let w = c.args.watches.now in
    let gone-is : (d : Literal) → c.opposite-gone.result ≡ opposite (get_or t.path.items c.args.q d) = λ (d : Literal). c.opposite-gone.ensures ∙ ap opposite (get_or_read t.path.items c.args.q c.index.result.now c.requires.q c.index.ensures d) in (
      c.requires.search,
      c.requires.lists,
      refl,
      refl,
      refl,
      omega arith,
      gone-is,
      omega arith,
      passing_start db t.path.items c.args.q t.starts.items w.pairs.items w.lists.items c.opposite-gone.result no_lit c.requires.q (gone-is no_lit) c.requires.lists.listed c.requires.watching,
    )
