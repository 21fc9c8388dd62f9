use Rattle.axe_io.proofs.Counting.{input_at-number_of, number_of-below, IsInput-input_at, number_of-input_at}
use Rattle.axe_io.proofs.input.inputs_are_counted.Goals as goal

pub returns : goal.returns
returns c = record { place = input_at-number_of; below = number_of-below; is_input = IsInput-input_at; number = number_of-input_at }
