use Rattle.spec_meaning.proofs.Children.{form_is}
use Rattle.spec_meaning.proofs.laws.form_is_the_address.Goals as goal

pub returns : goal.returns
returns c = form_is
