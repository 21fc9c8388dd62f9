use Rattle.std.proofs.Common.{◌≡◌, ◌+◌, ◌-◌, Bool, true, false, not, Option, Some, None, is_some, refl, sym, ap, ◌∙◌}
use Rattle.jvm_meaning.specs.Numbers.{Step}
use Rattle.jvm_state.specs.declared.state.Site.{Site}
use Rattle.jvm_meaning.specs.Traces.{trace_from}
use Rattle.jvm_meaning.proofs.TraceLemmas.{go_on_alike, over_alike, out_alike, apart}
use Rattle.jvm_run.proofs.traces.same_steps.Goals as goal

none_of : (o : Option Site) (b : Bool) → is_some o ≡ not b → b ≡ true → o ≡ None
none_of None b e t = refl
none_of (Some s) true e t = absurd (cc)
none_of (Some s) false e t = absurd (cc)

pub returns-then-not-is_same_place : goal.returns-then-not-is_same_place
returns-then-not-is_same_place c = (
  λ t. cc,
  λ same. absurd (apart _ _ _ _ _ c.loop.one c.loop.other c.loop-test.true
      (λ here. let yes = c.is_same_place.ensures.1 (c.place-here.ensures ∙ here ∙ sym c.place.ensures) in let no = c.if-not-is_same_place.true in cc)
      (c.loop.invariant.1 same)),
)

pub returns-then-is_none : goal.returns-then-is_none
returns-then-is_none c =
    let none = none_of c.place-here.result c.is_none.result c.is_none.ensures c.if-is_none.true in
    let other = sym (c.is_same_place.ensures.0 c.if-not-is_same_place.false ∙ c.place.ensures) ∙ none in
    (λ t. c.loop.invariant.0 (over_alike _ _ _ _ c.loop.one c.loop.other (sym c.place-here.ensures ∙ none) other), λ same. refl)

pub loop-preserved : goal.loop-preserved
loop-preserved c =
    let here = sym c.place-here.ensures ∙ c.is_same_place.ensures.0 (c.if-not-is_same_place.false) ∙ c.place.ensures in
    let on = go_on_alike c.args.class.now c.args.shape.now c.args.limits c.args.steps c.loop.counter c.loop.one c.loop.other c.loop-test.true here in
    let behind = λ (r : Step). trace_from (c.args.steps - (c.loop.counter + 1)) c.args.class.now c.args.shape.now c.args.limits r in
    let one = ap behind c.in_ok-go_on.ensures in
    let other = ap behind c.in_ok-go_on-2.ensures in
    (λ same. c.loop.invariant.0 (on.0 (sym one ∙ same ∙ other)), λ all. one ∙ on.1 (c.loop.invariant.1 all) ∙ sym other)

pub returns : goal.returns
returns c = (λ t. c.loop.invariant.0 (out_alike _ _ _ _ _ c.loop.one c.loop.other c.loop-test.false), λ same. refl)
