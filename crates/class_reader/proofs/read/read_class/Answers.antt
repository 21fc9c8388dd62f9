use Rattle.class_reader.proofs.ClassLaws.{gives-spelled, gives-complete, gives-fault}
use Rattle.class_reader.proofs.read.read_class.Goals as goal

pub returns-clause-spelled : goal.returns-clause-spelled
returns-clause-spelled c = gives-spelled _ _ _ c.whole.ensures

pub returns-clause-complete : goal.returns-clause-complete
returns-clause-complete c = λ class is. gives-complete _ _ _ class c.whole.ensures is

pub returns-clause-fault : goal.returns-clause-fault
returns-clause-fault c = gives-fault _ _ _ c.whole.ensures
