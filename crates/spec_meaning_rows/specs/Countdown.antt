-- A recursion: (defun f (x y) (if (zp x) y (f (- x 1) (+ y x)))), and what its evaluation at 2 and 7 visits.
use Rattle.std.specs.Prelude.{◌≡◌, ℕ, pos, List, [], ◌∷◌, codes, Some, None, Ok}
use Rattle.spec_form.specs.declared.builtin.Builtin.TheVariants.{Zp, Minus, Sum}
use Rattle.spec_form.specs.declared.form.Form.{Form}
use Rattle.spec_form.specs.declared.form.FormKind.TheOpen as kind
use Rattle.spec_form.specs.declared.program.Program.{Program}
use Rattle.spec_form.specs.declared.program.FunId.{FunId}
use Rattle.spec_reader.specs.Forms.{form}
use Rattle.spec_meaning.specs.declared.value.Value.{Value}
use Rattle.spec_meaning.specs.declared.value.Value.TheVariants.{Number}
use Rattle.spec_meaning.specs.Visits.{Address, Visit, Visits, IsCounted, visit_at, form_at, value_at}

abbrev pub first : FunId
first = record { 0 = 0 }

abbrev pub body : Form
body = form 15 (kind.If (
    form 19 (kind.Builtin Zp (form 23 (kind.Variable 0) ∷ [])) ∷
    form 26 (kind.Variable 1) ∷
    form 28 (kind.Call first (
    form 31 (kind.Builtin Minus (form 34 (kind.Variable 0) ∷ form 36 (kind.Number (pos 1)) ∷ [])) ∷
    form 39 (kind.Builtin Sum (form 42 (kind.Variable 1) ∷ form 44 (kind.Variable 0) ∷ [])) ∷ [])) ∷ []))

abbrev pub countdown : Program
countdown = record { functions = record { name = codes "f"; formals = 2; body = body } ∷ []; constants = [] }

abbrev pub args : List Value
args = Number (pos 2) ∷ Number (pos 7) ∷ []

-- child 2 of the body is the call, and child 2 of a call of two arguments the body that it calls
abbrev pub called : Address
called = 2 ∷ 2 ∷ []

abbrev pub called_twice : Address
called_twice = 2 ∷ 2 ∷ 2 ∷ 2 ∷ []

abbrev pub last : Address
last = 2 ∷ 2 ∷ 2 ∷ 2 ∷ 1 ∷ []

abbrev pub visit_of : Form → List Value → ℕ → ℕ → Visit
visit_of form variables depth left = record { form = form; variables = variables; depth = depth; left = left }

-- the body is visited once a call; the last visit is the 24th
pub record RecursionIsVisited : Type 0 where
  pub outermost : Visits countdown first args 9 100 [] (visit_of body args 9 100)
  pub once : Visits countdown first args 9 100 called (visit_of body (Number (pos 1) ∷ Number (pos 9) ∷ []) 7 90)
  pub twice : Visits countdown first args 9 100 called_twice (visit_of body (Number (pos 0) ∷ Number (pos 10) ∷ []) 5 80)
  pub last_one : Visits countdown first args 9 100 last (visit_of (form 26 (kind.Variable 1)) (Number (pos 0) ∷ Number (pos 10) ∷ []) 4 77)
  pub value : value_at countdown (visit_of body (Number (pos 1) ∷ Number (pos 9) ∷ []) 7 90) ≡ Ok (Number (pos 10), 76)
  pub not_taken : visit_at countdown first args 9 100 (1 ∷ []) ≡ None
  pub not_called : visit_at countdown first args 9 100 (2 ∷ 2 ∷ 2 ∷ 2 ∷ 2 ∷ []) ≡ None
  pub no_child : visit_at countdown first args 9 100 (2 ∷ 3 ∷ []) ≡ None
  pub too_deep : visit_at countdown first args 5 100 (2 ∷ 2 ∷ 2 ∷ 2 ∷ 0 ∷ []) ≡ None
  pub spent : visit_at countdown first args 9 23 last ≡ None
  pub next : IsCounted countdown first args 9 23 last
  pub form_there : form_at countdown first (2 ∷ 2 ∷ 2 ∷ 0 ∷ []) ≡ Some (form 31 (kind.Builtin Minus (form 34 (kind.Variable 0) ∷ form 36 (kind.Number (pos 1)) ∷ [])))
