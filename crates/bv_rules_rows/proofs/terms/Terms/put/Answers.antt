use Rattle.std.proofs.Common.{ap, map, string_bytes, arith, [], ◌∷◌, ◌++◌, ◌∙◌}
use Rattle.std.proofs.lemmas.List.{map_push}
use Rattle.bv_rules_rows.proofs.NodeTexts.{terms_grown}
use Rattle.bv_rules_rows.proofs.terms.Terms.put.Goals as goal

pub invariant_of-self-then-len-before : goal.invariant_of-self-then-len-before
invariant_of-self-then-len-before c =
    let texts = c.args.self.now.texts.items in
    let items = c.push_reserved.ensures.items ∙ ap (λ xs. xs ++ c.in_ok-text.text ∷ []) c.in_ok-reserve.ensures.items in
    let grown = ap (map string_bytes) items ∙ map_push string_bytes texts c.in_ok-text.text in
    record { each = terms_grown c.args.self.now.dag c.add.new.self c.args.node c.in_ok-id.id.0 (map string_bytes texts) _ (string_bytes c.in_ok-text.text) c.in_ok-id.ensures.place (omega (arith, c.len-before.ensures, c.len.ensures, c.if-len-before.true)) c.args.self.now.each c.in_ok-text.ensures grown }
