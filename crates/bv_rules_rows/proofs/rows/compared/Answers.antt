use Rattle.std.proofs.Common.{rules, inl, string_bytes}
use Rattle.std.proofs.lemmas.Option.{MatchOption-at_none}
use Rattle.bv_rules_rows.proofs.rows.compared.Goals as goal

pub returns-in-Some-clause-wrong : goal.returns-in-Some-clause-wrong
returns-in-Some-clause-wrong c = λ _. inl (record { got = string_bytes c.in-Some.got; given = search rules; other = search rules; line_is = c.in_ok-text.ensures.ok })

pub returns-clause-right : goal.returns-clause-right
returns-clause-right c = λ _. (MatchOption-at_none _ _ c.in_default.is c.in_ok-got.ensures, MatchOption-at_none _ _ c.in_default-2.is c.in_ok-got-2.ensures, c.in_ok-text-3.ensures.ok)
