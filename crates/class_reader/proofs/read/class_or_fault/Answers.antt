use Rattle.class_reader.proofs.ClassLaws.{one_class, faultless_is_spelled, spelled_is_faultless, cut_is_truncated, padded_is_trailing}
use Rattle.class_reader.proofs.read.class_or_fault.Goals as goal

pub returns-clause-at_most_one : goal.returns-clause-at_most_one
returns-clause-at_most_one c = one_class

pub returns-clause-class : goal.returns-clause-class
returns-clause-class c = faultless_is_spelled

pub returns-clause-no_fault : goal.returns-clause-no_fault
returns-clause-no_fault c = spelled_is_faultless

pub returns-clause-cut : goal.returns-clause-cut
returns-clause-cut c = cut_is_truncated

pub returns-clause-padded : goal.returns-clause-padded
returns-clause-padded c = padded_is_trailing
