use Rattle.std.proofs.Common.{append_assoc, [], ◌∷◌, false, refl, arith}
use Rattle.cnf_clauses.specs.Literal.{Literal, value_of, opposite}
use Rattle.cnf_clauses.specs.Clause.{all_met}
use Rattle.cnf_clauses.proofs.Meeting.{value_of-opposite}
use Rattle.bit_blaster.specs.Gates.{choose}
use Rattle.bit_blaster.proofs.Definitions.{gate, value_of-agrees}
use Rattle.bit_blaster.proofs.Tables.{choose_table}
use Rattle.bit_blaster.proofs.plain.choose.Goals as goal

pub returns : goal.returns
unfolding all_met
returns q =
    let o : Literal = record { var = q.args.f.now.variables; negated = false } in
    let c : Literal = q.args.c in
    let a : Literal = q.args.a in
    let b : Literal = q.args.b in
    rw q.fresh-o.ensures.literal (gate q.args.f.now q.add-4.new.self o ((opposite c ∷ opposite a ∷ o ∷ []) ∷ (opposite c ∷ a ∷ opposite o ∷ []) ∷ (c ∷ opposite b ∷ o ∷ []) ∷ (c ∷ b ∷ opposite o ∷ []) ∷ []) (λ v. choose (value_of v c) (value_of v a) (value_of v b))
    record {
      variables = rw (q.in_ok-add-4.ensures.ok, q.in_ok-add-3.ensures.ok, q.in_ok-add-2.ensures.ok, q.in_ok-add.ensures.ok, q.fresh-o.ensures.formula) (omega arith);
      clauses = rw (q.in_ok-add-4.ensures.ok, q.in_ok-add-3.ensures.ok, q.in_ok-add-2.ensures.ok, q.in_ok-add.ensures.ok, q.fresh-o.ensures.formula, q.opposite-not_o.ensures, q.opposite-not_c.ensures, q.opposite-not_a.ensures, q.opposite-not_b.ensures, q.fresh-o.ensures.literal) (simp append_assoc);
      eight = omega arith;
      at = refl;
      over = q.fresh-o.ensures.known.over;
      local = λ v w h. rw (value_of-agrees _ v w c h q.requires.c_in, value_of-agrees _ v w a h q.requires.a_in, value_of-agrees _ v w b h q.requires.b_in) refl;
      table = λ v. rw (value_of-opposite v c, value_of-opposite v a, value_of-opposite v b) (choose_table (v q.args.f.now.variables) (value_of v c) (value_of v a) (value_of v b));
    })
