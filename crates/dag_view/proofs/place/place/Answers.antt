use Rattle.std.proofs.Common.{◌≤◌, ◌^◌, arith, length}
use Rattle.dag_view.proofs.Making.{ready}
use Rattle.dag_view.proofs.place.place.Goals as goal

pub nodes_of-requires : goal.nodes_of-requires
nodes_of-requires g c = rw (c.deref-2.ensures.value, c.deref-3.ensures.value) (ready c.args.dag.now (g.R.Retains.table c.args.table.now) c.args.expanded.now c.args.a c.args.b _ _ _ c.known.ensures.graph c.requires.table c.in_ok-ids.ensures (rw c.deref.ensures.value at c.in_ok-widths.ensures) c.leaves-leaves.ensures.few)

pub overflow_cast-first : goal.overflow_cast-first
overflow_cast-first g c =
    let few : length c.in_ok-ids.ids.items ≤ 2 ^ 31 = (ready c.args.dag.now (g.R.Retains.table c.args.table.now) c.args.expanded.now c.args.a c.args.b _ _ _ c.known.ensures.graph c.requires.table c.in_ok-ids.ensures (rw c.deref.ensures.value at c.in_ok-widths.ensures) c.leaves-leaves.ensures.few).few in
    omega (arith, few, rw c.deref-4.ensures.value at c.place_of-first.ensures.within)

pub overflow_cast-second : goal.overflow_cast-second
overflow_cast-second g c =
    let few : length c.in_ok-ids.ids.items ≤ 2 ^ 31 = (ready c.args.dag.now (g.R.Retains.table c.args.table.now) c.args.expanded.now c.args.a c.args.b _ _ _ c.known.ensures.graph c.requires.table c.in_ok-ids.ensures (rw c.deref.ensures.value at c.in_ok-widths.ensures) c.leaves-leaves.ensures.few).few in
    omega (arith, few, rw c.deref-5.ensures.value at c.place_of-second.ensures.within)

pub returns : goal.returns
returns g c = record {
  graph = c.known.ensures.graph;
  fits = c.known.ensures.fits;
  tabled = c.requires.table;
  under = c.in_ok-ids.ensures;
  measured = rw c.deref.ensures.value at c.in_ok-widths.ensures;
  size = rw c.deref-2.ensures.value at c.in_ok-nodes.ensures.size;
  placed = rw (c.deref-2.ensures.value, c.deref-3.ensures.value) at c.in_ok-nodes.ensures.placed;
  first_at = rw c.deref-4.ensures.value at c.place_of-first.ensures.at c.in_ok-ids.ensures.first;
  second_at = rw c.deref-5.ensures.value at c.place_of-second.ensures.at c.in_ok-ids.ensures.second;
  same = c.requires.width;
  many = rw c.shape.ensures at c.leaves-leaves.ensures.count;
}
