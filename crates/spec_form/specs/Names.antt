-- The names of a program's functions.
use Rattle.std.specs.Prelude.{ℕ, Bool, List, map, position, Option}
use Rattle.std.specs.Str.{bytes_eq}
use Rattle.std.specs.Char.{to_ascii_lowercase}
use Rattle.spec_form.specs.declared.program.Function.{Function}

-- two names are one without regard to case
abbrev pub same_name : List ℕ → List ℕ → Bool
same_name first second = bytes_eq (map to_ascii_lowercase first) (map to_ascii_lowercase second)

-- the place of the first function of a name
abbrev pub function_named : List Function → List ℕ → Option ℕ
function_named functions name = position (λ f. same_name f.name name) functions
