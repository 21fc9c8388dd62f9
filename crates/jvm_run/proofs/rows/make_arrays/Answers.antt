use Rattle.std.proofs.Common.{◌≡◌, ◌*◌, ◌<◌, ◌^◌, ℕ, List, sym, ap, subst, ◌∙◌}
use Rattle.std.specs.List.{All}
use Rattle.std.proofs.lemmas.List.Elements.{All-head, All-tail}
use Rattle.jvm_run.proofs.RowLemmas.{level_on, total_on}
use Rattle.jvm_run.proofs.rows.make_arrays.Goals as goal

pub push_rows-requires : goal.push_rows-requires
push_rows-requires c =
    All-head (λ n. n < 2 ^ 31) _ _ (subst (λ (ns : List ℕ). All (λ n. n < 2 ^ 31) ns) c.in-Some.ensures.cases.0 c.loop-count.invariant.short)

pub loop-count-preserved : goal.loop-count-preserved
loop-count-preserved c =
    let is = c.in-Some.ensures.cases.0 in
    let times : c.loop-count.many * c.from-many.result ≡ c.loop-count.many * c.in-Some.count.now = ap (λ n. c.loop-count.many * n) c.from-many.ensures in
    record {
      so_far = level_on _ _ _ _ _ _ _ _ _ _ is (sym c.is_empty.ensures ∙ c.if-is_empty.false) c.lowered-current.ensures c.in_ok-push_rows.ensures times c.loop-count.invariant.so_far;
      total = total_on _ _ _ _ _ is times c.loop-count.invariant.total;
      short = All-tail (λ n. n < 2 ^ 31) _ _ (subst (λ (ns : List ℕ). All (λ n. n < 2 ^ 31) ns) is c.loop-count.invariant.short);
    }
