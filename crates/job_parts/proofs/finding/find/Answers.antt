use Rattle.std.proofs.Common.{◌∙◌}
use Rattle.std.proofs.lemmas.Result.{err_from_is_err_and}
use Rattle.axe_io.specs.Ends.{IsContent}
use Rattle.job_parts.specs.Parts.{meant}
use Rattle.job_parts.proofs.StageExits.{class_fails, method_fails, spec_fails, parts_give, HasMethod}
use Rattle.job_parts.proofs.finding.find.Goals as goal

pub returns-in_err-class-clause-found : goal.returns-in_err-class-clause-found
returns-in_err-class-clause-found g c =
    let p = err_from_is_err_and c.from_residual.result c.from_residual.ensures.1 in
    let w = meant c.args.asked.now in
    let s = g.S.Store in
    rw (p.1, p.2) (class_fails w (s.holds c.args.store.now) (s.faults c.args.store.now) (s.faults c.given.new.store) c.in_err-class.field-0.0 c.in_err-class.ensures.cause)

pub returns-in_err-class-2-clause-found : goal.returns-in_err-class-2-clause-found
returns-in_err-class-2-clause-found g c =
    let p = err_from_is_err_and c.from_residual-in_err-class-2.result c.from_residual-in_err-class-2.ensures.1 in
    let w = meant c.args.asked.now in
    let s = g.S.Store in
    let content : IsContent (s.holds c.args.store.now w.class) c.deref.result.now = rw c.deref.ensures.value c.in_ok-class.ensures.content in
    rw (p.1, p.2) (method_fails w (s.holds c.args.store.now) (s.faults c.args.store.now) (s.faults c.given.new.store) c.deref.result.now c.in_err-class-2.field-0.0 content c.in_ok-class.ensures.cause c.in_err-class-2.ensures.method)

pub returns-in_err-spec-clause-found : goal.returns-in_err-spec-clause-found
returns-in_err-spec-clause-found g c =
    let p = err_from_is_err_and c.from_residual-in_err-spec.result c.from_residual-in_err-spec.ensures.1 in
    let w = meant c.args.asked.now in
    let s = g.S.Store in
    let content : IsContent (s.holds c.args.store.now w.class) c.deref.result.now = rw c.deref.ensures.value c.in_ok-class.ensures.content in
    let has : HasMethod w (s.holds c.args.store.now) c.deref.result.now (c.in_ok-class-2.class, c.in_ok-class-2.method) = record { content = content; method = c.in_ok-class-2.ensures.method } in
    rw (p.1, p.2) (spec_fails w (s.holds c.args.store.now) (s.holds c.given.new.store) (s.faults c.args.store.now) (s.faults c.given.new.store) (s.faults c.given-2.new.store) c.deref.result.now (c.in_ok-class-2.class, c.in_ok-class-2.method) c.in_err-spec.field-0.0
    has c.given.ensures.kept c.in_ok-class.ensures.cause c.in_err-spec.ensures.cause)

pub returns-clause-found : goal.returns-clause-found
returns-clause-found g c =
    let w = meant c.args.asked.now in
    let s = g.S.Store in
    let content : IsContent (s.holds c.args.store.now w.class) c.deref.result.now = rw c.deref.ensures.value c.in_ok-class.ensures.content in
    let has : HasMethod w (s.holds c.args.store.now) c.deref.result.now (c.in_ok-class-2.class, c.in_ok-class-2.method) = record { content = content; method = c.in_ok-class-2.ensures.method } in
    let spec : IsContent (s.holds c.given.new.store w.spec) c.deref-2.result.now = rw c.deref-2.ensures.value c.in_ok-spec.ensures.content in
    parts_give w (s.holds c.args.store.now) (s.holds c.given.new.store) (s.faults c.args.store.now) (s.faults c.given-2.new.store) c.deref.result.now c.deref-2.result.now (c.in_ok-class-2.class, c.in_ok-class-2.method) c.parts_of.result has c.given.ensures.kept spec (c.in_ok-spec.ensures.cause ∙ c.in_ok-class.ensures.cause) c.parts_of.ensures.parts
