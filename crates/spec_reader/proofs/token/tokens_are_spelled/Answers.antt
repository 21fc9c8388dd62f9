use Rattle.spec_reader.proofs.Pieces.{spelled}
use Rattle.spec_reader.proofs.token.tokens_are_spelled.Goals as goal

pub returns : goal.returns
returns c = spelled
