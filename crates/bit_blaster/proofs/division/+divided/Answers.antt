use Rattle.std.proofs.Common.{◌≡◌, ◌∙◌, ◌∷◌, refl}
use Rattle.bit_blaster.proofs.Growing.{over_after}
use Rattle.bit_blaster.proofs.DivisionLemmas.{quotient_none, quotient_more}
use Rattle.bit_blaster.proofs.division.+divided.Goals as goal

pub returns-in_default : goal.returns-in_default
returns-in_default t c = quotient_none _ _ _ _ _ _ _ _ c.in_default.ensures.cases c.requires.zero_in c.new-none.ensures.items c.in_ok-rest.ensures

pub divided_once-requires-clause-turned_in : goal.divided_once-requires-clause-turned_in
divided_once-requires-clause-turned_in t c = over_after _ _ _ _ c.in_ok-high.ensures.grows c.requires.turned_in

pub returns : goal.returns
returns t c =
    let xs-is : c.args.xs.now ≡ c.in-Some.x.now ∷ c.in-Some.more.now = c.in-Some.ensures.cases.0 in
    let e : c.in_ok-quotient.quotient.items ≡ c.in_ok-bit.bit ∷ c.in_ok-high.high.items = c.in_ok-quotient.ensures ∙ rw (c.deref-2.ensures.value ∙ c.in_ok-low.ensures, c.deref-3.ensures.value) refl in
    rw xs-is (quotient_more _ _ _ _ _ _ _ _ _ _ _ _ _ _ c.in_ok-high.ensures (rw c.deref.ensures.value at c.in_ok-bit.ensures) e)
