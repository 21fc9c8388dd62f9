use Rattle.std.proofs.Common.{◌≡◌, sym, ◌∙◌, arith, false}
use Rattle.std.proofs.lemmas.List.{get_or_read}
use Rattle.clause_log.specs.Resolution.{stands_in}
use Rattle.clause_log.proofs.Resolving.{first_places_push, first_places_kept}
use Rattle.clause_log.proofs.Marking.{IsMarked-push}
use Rattle.clause_log.proofs.resolvent.add_once.Goals as goal

pub returns-in_ok-push-clause-literals : goal.returns-in_ok-push-clause-literals
returns-in_ok-push-clause-literals c = λ xs e.
    let marks = c.args.marks.now.items in
    let out = c.args.literals.now.items in
    let read : c.index.result.now ≡ stands_in out c.args.lit = get_or_read marks c.code-at.result c.index.result.now (omega (arith, c.code-at.ensures, c.requires.inside)) c.index.ensures false ∙ rw c.code-at.ensures (c.requires.marked.exact c.args.lit c.requires.inside) in
    c.in_ok-push.ensures.items ∙ first_places_push out xs c.args.lit e (sym read ∙ c.if-not-index.true)

pub returns-in_ok-push-clause-marked : goal.returns-in_ok-push-clause-marked
returns-in_ok-push-clause-marked c =
    let marks = c.args.marks.now.items in
    let out = c.args.literals.now.items in
    let read : c.index.result.now ≡ stands_in out c.args.lit = get_or_read marks c.code-at.result c.index.result.now (omega (arith, c.code-at.ensures, c.requires.inside)) c.index.ensures false ∙ rw c.code-at.ensures (c.requires.marked.exact c.args.lit c.requires.inside) in
    rw (c.in_ok-push.ensures.items, c.code-at.ensures) (IsMarked-push marks out c.args.lit c.requires.marked c.requires.inside (sym read ∙ c.if-not-index.true))

pub returns-else-not-index-clause-literals : goal.returns-else-not-index-clause-literals
returns-else-not-index-clause-literals c = λ xs e.
    let marks = c.args.marks.now.items in
    let out = c.args.literals.now.items in
    let read : c.index.result.now ≡ stands_in out c.args.lit = get_or_read marks c.code-at.result c.index.result.now (omega (arith, c.code-at.ensures, c.requires.inside)) c.index.ensures false ∙ rw c.code-at.ensures (c.requires.marked.exact c.args.lit c.requires.inside) in
    first_places_kept out xs c.args.lit e (sym read ∙ c.if-not-index.false)
