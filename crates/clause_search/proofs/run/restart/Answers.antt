use Rattle.std.proofs.Common.{◌<◌, ◌∙◌, [], None, length, get_or, sym, arith}
use Rattle.std.specs.Vec.{vec_len}
use Rattle.std.proofs.lemmas.Bool.{eqb-false}
use Rattle.clause_log.specs.Log.{clauses_of}
use Rattle.clause_search.proofs.Searches.{IsSearch-cut}
use Rattle.clause_search.proofs.Watches.{held_cut}
use Rattle.clause_search.proofs.run.restart.Goals as goal

pub returns-clause-search : goal.returns-clause-search
returns-clause-search c =
    let t = c.args.trail.now in
    let low : 0 < length t.starts.items = omega (arith, eqb-false (vec_len t.starts) 0 (sym c.is_empty.ensures ∙ c.if-is_empty.false), t.starts.ok.0) in
    rw (c.cut.ensures.path, c.cut.ensures.reasons, c.cut.ensures.starts, c.cut.ensures.places)
    (IsSearch-cut (clauses_of c.args.log.now) t.path.items t.reasons.items t.starts.items t.places.items (length t.places.items) 0 t.is_trail low c.requires.search)

pub returns-clause-watching : goal.returns-clause-watching
returns-clause-watching c = λ k k-in.
    let t = c.args.trail.now in
    let low : 0 < length t.starts.items = omega (arith, eqb-false (vec_len t.starts) 0 (sym c.is_empty.ensures ∙ c.if-is_empty.false), t.starts.ok.0) in
    rw (c.cut.ensures.path, c.cut.ensures.starts)
    (held_cut t.path.items c.args.head c.len.result t.starts.items (get_or (clauses_of c.args.log.now) k []) (get_or c.args.watches.now.pairs.items k None) 0 low t.is_trail.rising (c.requires.watching k k-in))
