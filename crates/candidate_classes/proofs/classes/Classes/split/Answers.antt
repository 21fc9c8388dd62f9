use Rattle.std.proofs.Common.{◌∙◌, length, sym, ap, arith}
use Rattle.candidate_classes.proofs.SplitLemmas.{AreSplit, written, few_members, low_seen, as_split, split_inside, split_parting, split_leaders}
use Rattle.candidate_classes.proofs.classes.Classes.split.Goals as goal

pub refine-requires-clause-few : goal.refine-requires-clause-few
refine-requires-clause-few c =
    let few = few_members c.self.inside.leaders.items c.self.inside.members.items c.self.invariant.3 in
    omega (arith, few, c.self.invariant.0, ap length c.deref-2.ensures.value)

pub refine-requires-clause-finer : goal.refine-requires-clause-finer
refine-requires-clause-finer c =
    let few = few_members c.self.inside.leaders.items c.self.inside.members.items c.self.invariant.3 in
    omega (arith, few, c.self.invariant.1, ap length c.deref-2.ensures.value, ap length c.deref_mut.ensures.value)

pub refine-requires-clause-nexts : goal.refine-requires-clause-nexts
refine-requires-clause-nexts c =
    let few = few_members c.self.inside.leaders.items c.self.inside.members.items c.self.invariant.3 in
    omega (arith, few, c.self.invariant.2, ap length c.deref-2.ensures.value, ap length c.deref_mut-2.ensures.value)

pub refine-requires-clause-heads : goal.refine-requires-clause-heads
refine-requires-clause-heads c =
    let few = few_members c.self.inside.leaders.items c.self.inside.members.items c.self.invariant.3 in
    omega (arith, few, ap length c.self.view_is, ap length c.deref-2.ensures.value, c.requires.scratch)

pub lead-requires-clause-finer : goal.lead-requires-clause-finer
lead-requires-clause-finer c =
    let few = few_members c.self.inside.leaders.items c.self.inside.members.items c.self.invariant.3 in
    let finer-is = written c.self.inside.finer.len _ c.refine.new.finer _ c.deref-4.result.now c.refine.ensures.finer c.deref_mut.ensures.len c.deref-4.ensures.value in
    omega (arith, few, c.self.invariant.1, ap length c.deref-3.ensures.value, ap length finer-is, c.refine.ensures.finer, ap length c.deref_mut.ensures.value)

pub lead-requires-clause-places : goal.lead-requires-clause-places
lead-requires-clause-places c =
    let finer-is = written c.self.inside.finer.len _ c.refine.new.finer _ c.deref-4.result.now c.refine.ensures.finer c.deref_mut.ensures.len c.deref-4.ensures.value in
    low_seen c.deref.result.now c.deref-2.result.now c.args.values.now c.refine.new.finer c.deref-3.result.now c.deref-4.result.now
    (c.deref-3.ensures.value ∙ sym c.deref-2.ensures.value) finer-is c.refine.ensures.least

pub drop_alone-requires-clause-leaders : goal.drop_alone-requires-clause-leaders
drop_alone-requires-clause-leaders c =
    let finer-is = written c.self.inside.finer.len _ c.refine.new.finer _ c.deref-4.result.now c.refine.ensures.finer c.deref_mut.ensures.len c.deref-4.ensures.value in
    let made : AreSplit c.self.inside.leaders.items c.self.inside.members.items c.args.values.now c.refine.new.finer c.lead.new.leaders
    = as_split _ _ _ _ _ c.deref.result.now c.deref-2.result.now c.deref_mut-3.result.now c.deref-3.result.now c.deref-4.result.now
    c.deref.ensures.value c.deref-2.ensures.value c.deref_mut-3.ensures.value c.deref-3.ensures.value finer-is
    c.refine.ensures.least (record { size = c.lead.ensures.size; led = c.lead.ensures.led; others = c.lead.ensures.others }) in
    let seen-is = written c.self.inside.leaders.len _ c.lead.new.leaders _ c.deref-5.result.now c.lead.ensures.size c.deref_mut-3.ensures.len c.deref-5.ensures.value in
    split_inside _ _ _ _ _ c.deref-5.result.now c.self.invariant.3 made seen-is

pub drop_alone-requires-clause-parting : goal.drop_alone-requires-clause-parting
drop_alone-requires-clause-parting c =
    let finer-is = written c.self.inside.finer.len _ c.refine.new.finer _ c.deref-4.result.now c.refine.ensures.finer c.deref_mut.ensures.len c.deref-4.ensures.value in
    let made : AreSplit c.self.inside.leaders.items c.self.inside.members.items c.args.values.now c.refine.new.finer c.lead.new.leaders
    = as_split _ _ _ _ _ c.deref.result.now c.deref-2.result.now c.deref_mut-3.result.now c.deref-3.result.now c.deref-4.result.now
    c.deref.ensures.value c.deref-2.ensures.value c.deref_mut-3.ensures.value c.deref-3.ensures.value finer-is
    c.refine.ensures.least (record { size = c.lead.ensures.size; led = c.lead.ensures.led; others = c.lead.ensures.others }) in
    let seen-is = written c.self.inside.leaders.len _ c.lead.new.leaders _ c.deref-5.result.now c.lead.ensures.size c.deref_mut-3.ensures.len c.deref-5.ensures.value in
    split_parting _ _ _ _ _ c.deref-5.result.now c.self.invariant.3 made seen-is

pub returns-clause-leaders : goal.returns-clause-leaders
returns-clause-leaders c =
    let finer-is = written c.self.inside.finer.len _ c.refine.new.finer _ c.deref-4.result.now c.refine.ensures.finer c.deref_mut.ensures.len c.deref-4.ensures.value in
    let made : AreSplit c.self.inside.leaders.items c.self.inside.members.items c.args.values.now c.refine.new.finer c.lead.new.leaders
    = as_split _ _ _ _ _ c.deref.result.now c.deref-2.result.now c.deref_mut-3.result.now c.deref-3.result.now c.deref-4.result.now
    c.deref.ensures.value c.deref-2.ensures.value c.deref_mut-3.ensures.value c.deref-3.ensures.value finer-is
    c.refine.ensures.least (record { size = c.lead.ensures.size; led = c.lead.ensures.led; others = c.lead.ensures.others }) in
    let seen-is = written c.self.inside.leaders.len _ c.lead.new.leaders _ c.deref-5.result.now c.lead.ensures.size c.deref_mut-3.ensures.len c.deref-5.ensures.value in
    split_leaders _ _ _ _ _ _ c.args.self.now c.self.invariant.3 made (sym c.deref-5.ensures.value ∙ seen-is) c.self.view_is
