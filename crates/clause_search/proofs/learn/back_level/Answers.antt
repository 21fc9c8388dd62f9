use Rattle.std.proofs.Common.{◌≡◌, ℕ, ◌-◌, ◌<◌, ◌≤◌, length, get_or, take, sym, arith, subst}
use Rattle.std.proofs.lemmas.List.{get_or_read}
use Rattle.std.proofs.lemmas.Bool.{both_ways}
use Rattle.clause_search.specs.Path.{AllButFalseIn}
use Rattle.clause_search.proofs.Learning.{all_but_within, rising_to}
use Rattle.clause_search.proofs.learn.back_level.Goals as goal

pub returns-then-not-false_but-clause-not_unit : goal.returns-then-not-false_but-clause-not_unit
returns-then-not-false_but-clause-not_unit c = λ j h but.
    let t = c.args.trail.now in
    let last : c.down.level - 1 < length t.starts.items = omega (arith, c.down.invariant.0) in
    let m-is : c.index.result.now ≡ get_or t.starts.items (c.down.level - 1) 0 = get_or_read t.starts.items (c.down.level - 1) c.index.result.now last c.index.ensures 0 in
    let le : get_or t.starts.items j 0 ≤ get_or t.starts.items (c.down.level - 1) 0 = rising_to t.starts.items j (c.down.level - 1) t.is_trail.rising (omega arith) last in
    both_ways c.false_but.result c.if-not-false_but.true (c.false_but.ensures.1 (all_but_within t.path.items (get_or t.starts.items j 0) c.index.result.now c.args.first c.args.clause.now (omega arith) but))

pub down-init : goal.down-init
down-init c =
    let t = c.args.trail.now in
    let last : c.len-level.result - 1 ≡ length t.starts.items - 1 = omega (arith, c.len-level.ensures, t.starts.ok.0) in
    (omega (arith, c.len-level.ensures, t.starts.ok.0, c.requires.level), subst (λ (k : ℕ). AllButFalseIn (take (get_or t.starts.items k 0) t.path.items) c.args.first c.args.clause.now) (sym last) c.requires.unit)

pub down-preserved : goal.down-preserved
down-preserved c =
    let t = c.args.trail.now in
    let last : c.down.level - 1 < length t.starts.items = omega (arith, c.down.invariant.0) in
    let m-is : c.index.result.now ≡ get_or t.starts.items (c.down.level - 1) 0 = get_or_read t.starts.items (c.down.level - 1) c.index.result.now last c.index.ensures 0 in
    (last, subst (λ (k : ℕ). AllButFalseIn (take k t.path.items) c.args.first c.args.clause.now) m-is (c.false_but.ensures.0 c.if-not-false_but.false))
