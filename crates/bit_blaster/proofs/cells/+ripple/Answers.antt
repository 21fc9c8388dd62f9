use Rattle.std.proofs.Common.{rules, ◌≡◌, ◌∷◌, arith}
use Rattle.std.proofs.lemmas.Result.{IfOk-weaker}
use Rattle.cnf_clauses.specs.Clause.{IsOver}
use Rattle.bit_blaster.proofs.Growing.{ripple_none, ripple_ended, ripple_more, over_push, room_after, cost_small}
use Rattle.bit_blaster.proofs.Over.{IsOver-more}
use Rattle.bit_blaster.proofs.cells.+ripple.Goals as goal

pub returns-in_default : goal.returns-in_default
returns-in_default t c = ripple_none _ _ _ _ _ _ c.in_default.ensures.cases c.requires.c_in c.requires.out_in

pub returns-in_default-split_first : goal.returns-in_default-split_first
returns-in_default-split_first t c = ripple_ended _ _ _ _ _ _ c.in_default-split_first.ensures.cases c.requires.c_in c.requires.out_in

pub ripple-requires : goal.ripple-requires
ripple-requires t c =
    let xs-is : c.args.xs.now ≡ c.in-Some.x.now ∷ c.in-Some.more.now = c.in-Some.ensures.cases.0 in
    let ys-is : c.args.ys.now ≡ c.in-Some-split_first.y.now ∷ c.in-Some-split_first.others.now = c.in-Some-split_first.ensures.cases.0 in
    let xs-in : IsOver c.args.f.now.variables (c.in-Some.x.now ∷ c.in-Some.more.now) = rw xs-is at c.requires.xs_in in
    let ys-in : IsOver c.args.f.now.variables (c.in-Some-split_first.y.now ∷ c.in-Some-split_first.others.now) = rw ys-is at c.requires.ys_in in
    let g = c.in_ok-o.ensures in (
      search rules,
      (
        room_after c.args.f.now c.one_bit.new.f _ _ _ c.requires.room g.grows (rw xs-is (omega (arith, cost_small c.args.kind))),
        (
          g.next_in,
          (
            IsOver-more _ _ _ g.grows.more xs-in.1,
            (
              IsOver-more _ _ _ g.grows.more ys-in.1,
              rw c.in_ok-push.ensures.items (over_push _ _ _ _ g.grows.more c.requires.out_in g.out_in),
            ),
          ),
        ),
      ),
    )

pub returns : goal.returns
returns t c =
    let xs-is : c.args.xs.now ≡ c.in-Some.x.now ∷ c.in-Some.more.now = c.in-Some.ensures.cases.0 in
    let ys-is : c.args.ys.now ≡ c.in-Some-split_first.y.now ∷ c.in-Some-split_first.others.now = c.in-Some-split_first.ensures.cases.0 in
    rw (xs-is, ys-is) (IfOk-weaker c.ripple.result _ _ (λ n r. ripple_more c.args.f.now c.one_bit.new.f c.ripple.new.f _ _ _ _ _ _ _ _ n _ _ c.in_ok-o.ensures (rw c.in_ok-push.ensures.items at r)) c.ripple.ensures)
