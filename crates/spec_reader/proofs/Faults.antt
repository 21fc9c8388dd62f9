-- A fault stays the fault of all that is read behind it.
use Rattle.std.proofs.Common.{Result, refl}
use Rattle.spec_form.specs.declared.error.SpecError.{SpecError}
use Rattle.spec_form.specs.declared.error.SpecError.TheVariants.{BadToken, Unclosed, BadForm, UnboundName, Duplicate, TooDeep, Memory}
use Rattle.spec_reader.specs.Reading.{◌>>=◌, Fails}

pub Fails-bind : {A B : Type 0} (e : SpecError) (r : Result A SpecError) (f : A → Result B SpecError) → Fails e r → Fails e (r >>= f)
Fails-bind Memory r f h = tt
Fails-bind (BadToken at) r f h = rw h refl
Fails-bind (Unclosed at) r f h = rw h refl
Fails-bind (BadForm at) r f h = rw h refl
Fails-bind (UnboundName at) r f h = rw h refl
Fails-bind (Duplicate at) r f h = rw h refl
Fails-bind (TooDeep at) r f h = rw h refl
