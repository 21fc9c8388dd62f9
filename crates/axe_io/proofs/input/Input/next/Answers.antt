use Rattle.std.proofs.Common.{◌≡◌, ℕ, ◌<◌, length, ap, arith}
use Rattle.axe_io.specs.Shapes.{leaf_widths}
use Rattle.axe_io.proofs.Leaves.{below_word}
use Rattle.axe_io.proofs.Counting.{IsInput-length, IsInput-raised, number_of-raised, length-raised, written_over}
use Rattle.axe_io.proofs.input.Input.next.Goals as goal

pub raise-requires-clause-room : goal.raise-requires-clause-room
raise-requires-clause-room c =
    let ws = leaf_widths c.args.shape.now.params in
    let can = (rw (c.deref.ensures.value, c.self.view_is) at c.in-Some.ensures) in
    rw (c.deref_mut.ensures.value, c.self.view_is) (below_word c.args.shape.now.params c.in-Some.at _ (omega (arith, can.within, IsInput-length ws c.args.self.now c.requires)) can.room)

pub returns-in-Some-clause-fits : goal.returns-in-Some-clause-fits
returns-in-Some-clause-fits c =
    let ws = leaf_widths c.args.shape.now.params in
    let can = (rw (c.deref.ensures.value, c.self.view_is) at c.in-Some.ensures) in
    let new = (rw (c.deref_mut.ensures.value, c.self.view_is) at c.raise.ensures) in
    let within : c.in-Some.at < length c.deref_mut.result.now = rw (c.deref_mut.ensures.value, c.self.view_is) can.within in
    let same : length c.raise.new.leaves ≡ c.self.inside.leaves.len = omega (arith, ap (length {A = ℕ}) c.raise.ensures, length-raised c.deref_mut.result.now c.in-Some.at within, c.deref_mut.ensures.len) in
    rw (written_over c.self.inside.leaves.len c.raise.new.leaves c.self.inside.leaves.items same, new) (IsInput-raised ws c.args.self.now c.in-Some.at c.requires can)

pub returns-in-Some-clause-next : goal.returns-in-Some-clause-next
returns-in-Some-clause-next c =
    let ws = leaf_widths c.args.shape.now.params in
    let can = (rw (c.deref.ensures.value, c.self.view_is) at c.in-Some.ensures) in
    let new = (rw (c.deref_mut.ensures.value, c.self.view_is) at c.raise.ensures) in
    let within : c.in-Some.at < length c.deref_mut.result.now = rw (c.deref_mut.ensures.value, c.self.view_is) can.within in
    let same : length c.raise.new.leaves ≡ c.self.inside.leaves.len = omega (arith, ap (length {A = ℕ}) c.raise.ensures, length-raised c.deref_mut.result.now c.in-Some.at within, c.deref_mut.ensures.len) in
    rw (written_over c.self.inside.leaves.len c.raise.new.leaves c.self.inside.leaves.items same, new) (number_of-raised ws c.args.self.now c.in-Some.at c.requires can)
