use Rattle.std.proofs.Common.{arith}
use Rattle.bit_blaster.proofs.NodeLemmas.{over_row}
use Rattle.view_proof.proofs.Asking.{question_circuit, question_units}
use Rattle.view_proof.proofs.ask.ask_apart.Goals as goal

pub blast_affordable-requires-clause-fits : goal.blast_affordable-requires-clause-fits
blast_affordable-requires-clause-fits c = rw (c.deref.ensures.value, c.in_ok-nodes.ensures) (question_circuit c.args.view.now c.nodes-last.ensures.known).0

pub blast_affordable-requires-clause-few : goal.blast_affordable-requires-clause-few
blast_affordable-requires-clause-few c = rw (c.deref.ensures.value, c.in_ok-nodes.ensures) (question_units c.args.view.now c.nodes-last.ensures.known c.requires)

pub add-requires-clause-over : goal.add-requires-clause-over
add-requires-clause-over c = rw c.row.ensures (over_row _ _ _ c.in_ok-formula.ensures.inside)

pub add-requires-clause-room : goal.add-requires-clause-room
add-requires-clause-room c =
    omega (arith, c.in_ok-formula.ensures.clauses, rw (c.deref.ensures.value, c.in_ok-nodes.ensures) at c.in_ok-formula.ensures.variables, question_units c.args.view.now c.nodes-last.ensures.known c.requires)
