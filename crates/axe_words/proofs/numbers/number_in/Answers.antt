-- A number that has become too great is out of the range, however the text goes on.
use Rattle.std.proofs.Common.{◌∙◌, ap, sym, ◌+◌, ◌-◌, ◌*◌, drop, slice_index_or}
use Rattle.std.specs.Prelude.{option_and_then}
use Rattle.axe_words.specs.Numbers.{in_range}
use Rattle.axe_words.proofs.NumberLemmas.{decimal_next, too_great}
use Rattle.axe_words.proofs.numbers.number_in.Goals as goal

pub returns-then-value-most-clause-value : goal.returns-then-value-most-clause-value
returns-then-value-most-clause-value c =
    let text = c.args.text.now in let at = c.loop-byte.byte-index in
    sym (ap (option_and_then (in_range c.args.least c.args.greatest)) (c.loop-byte.invariant.so_far ∙ decimal_next c.loop-byte.value text at c.loop-byte-test.true (sym c.is_ascii_digit.ensures.value ∙ c.if-not-is_ascii_digit.false))
    ∙ too_great c.args.least c.args.greatest (10 * c.loop-byte.value + (slice_index_or text at 0 - 48)) (drop (at + 1) text) c.if-value-most.true)
