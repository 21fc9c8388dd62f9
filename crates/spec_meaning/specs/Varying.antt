-- When two inputs vary in the specification.
use Rattle.std.specs.Prelude.{◌≡◌, ◌≢◌, ℕ, ℤ, pos, negsuc, ◌^◌, Bool, true, false, ◌&&◌, ◌||◌, ◌==◌, nat_lt, List, [], slice_get, Ok, ◌⊎◌}
use Rattle.std.specs.Ordering.{int_eq}
use Rattle.std.specs.Cmp.Lexicographic.{pointwise}
use Rattle.spec_form.specs.declared.builtin.Builtin.{Builtin}
use Rattle.spec_form.specs.declared.builtin.Builtin.TheVariants as builtin
use Rattle.spec_form.specs.declared.form.Form.{Form, out-Form}
use Rattle.spec_form.specs.declared.form.FormKind.{FormKind}
use Rattle.spec_form.specs.declared.form.FormKind.TheOpen.{FormKind-F}
use Rattle.spec_form.specs.declared.form.FormKind.TheOpen as kind
use Rattle.spec_form.specs.declared.program.Program.{Program}
use Rattle.spec_form.specs.declared.program.FunId.{FunId}
use Rattle.spec_meaning.specs.declared.value.Value.{Value}
use Rattle.spec_meaning.specs.declared.value.Value.TheVariants.{Number, T, List as Numbers}
use Rattle.spec_meaning.specs.Checks.{is_nil}
use Rattle.spec_meaning.specs.Evaluations.{kind_of}
use Rattle.spec_meaning.specs.Visits.{Address, Visit, Visits, value_at, arguments_at}

-- ---- static arguments

-- the first argument, the first two, the first and the third
abbrev pub is_first : ℕ → Bool
is_first place = place == 0

abbrev pub is_first_or_second : ℕ → Bool
is_first_or_second place = place == 0 || place == 1

abbrev pub is_first_or_third : ℕ → Bool
is_first_or_third place = place == 0 || place == 2

-- whether a function's argument at a place, counted from 0, must be the same on all inputs: widths, places, lengths and
-- indexes into lists, the amount of a shift, and what whole numbers are computed or compared from
abbrev pub is_static : Builtin → ℕ → Bool
is_static builtin.BvChop place = is_first place
is_static builtin.Slice place = is_first_or_second place
is_static builtin.GetBit place = is_first place
is_static builtin.BvCat place = is_first_or_third place
is_static builtin.BvPlus place = is_first place
is_static builtin.BvMinus place = is_first place
is_static builtin.BvMult place = is_first place
is_static builtin.BvDiv place = is_first place
is_static builtin.BvMod place = is_first place
is_static builtin.BvUMinus place = is_first place
is_static builtin.BvAnd place = is_first place
is_static builtin.BvOr place = is_first place
is_static builtin.BvXor place = is_first place
is_static builtin.BvNot place = is_first place
is_static builtin.BvLt place = is_first place
is_static builtin.BvIf place = is_first place
is_static builtin.BvSx place = is_first_or_second place
is_static builtin.LeftRotate place = is_first place
is_static builtin.RightRotate place = is_first place
is_static builtin.LeftRotate32 place = false
is_static builtin.RightRotate32 place = false
is_static builtin.BvShl place = is_first_or_third place
is_static builtin.BvShr place = is_first_or_third place
is_static builtin.BvArrayRead place = is_first_or_second place
is_static builtin.BvArrayWrite place = is_first_or_second place
is_static builtin.Sum place = true
is_static builtin.Minus place = true
is_static builtin.Increment place = true
is_static builtin.Decrement place = true
is_static builtin.Less place = true
is_static builtin.LessOrEqual place = true
is_static builtin.Greater place = true
is_static builtin.GreaterOrEqual place = true
is_static builtin.Zp place = true
is_static builtin.SameNumber place = false
is_static builtin.Equal place = false
is_static builtin.Not place = false
is_static builtin.List place = false
is_static builtin.Cons place = false
is_static builtin.Append place = false
is_static builtin.Cdr place = false
is_static builtin.Car place = false
is_static builtin.Nth place = is_first place
is_static builtin.UpdateNth place = is_first place
is_static builtin.Len place = false
is_static builtin.Endp place = false
is_static builtin.Consp place = false

-- ---- values that are alike

-- from 0 to 2 ^ 64 - 1
abbrev pub is_word : ℤ → Bool
is_word (pos n) = nat_lt n (2 ^ 64)
is_word (negsuc n) = false

-- the same number, or two words
abbrev pub are_alike_numbers : ℤ → ℤ → Bool
are_alike_numbers x y = int_eq x y || (is_word x && is_word y)

-- alike numbers; t or nil each; lists of one length whose elements are alike
abbrev pub are_alike : Value → Value → Bool
are_alike (Number x) (Number y) = are_alike_numbers x y
are_alike (Number x) T = false
are_alike (Number x) (Numbers ys) = false
are_alike T (Number y) = false
are_alike T T = true
are_alike T (Numbers ys) = is_nil (Numbers ys)
are_alike (Numbers xs) (Number y) = false
are_alike (Numbers xs) T = is_nil (Numbers xs)
are_alike (Numbers xs) (Numbers ys) = pointwise are_alike_numbers xs ys

-- ---- varying

-- the arguments of a call of the language have values at both visits, and a static one differs
pub record StaticDiffers (p : Program) (b : Builtin) (parts : List Form) (v w : Visit) : Type 0 where
  pub values : List Value
  pub others : List Value
  pub left : ℕ
  pub rest : ℕ
  pub one : arguments_at p v parts ≡ Ok (values, left)
  pub other : arguments_at p w parts ≡ Ok (others, rest)
  pub place : ℕ
  pub static : is_static b place ≡ true
  pub differs : slice_get values place ≢ slice_get others place

abbrev pub StaticDiffersIn : Program → FormKind-F FormKind Form → Visit → Visit → Type 0
StaticDiffersIn p (kind.Builtin b parts) v w = StaticDiffers p b parts v w
StaticDiffersIn p _ v w = ⊥

-- the form has a value at both visits
pub record HasValues (p : Program) (v w : Visit) (x y : Value) : Type 0 where
  pub left : ℕ
  pub rest : ℕ
  pub one : value_at p v ≡ Ok (x, left)
  pub other : value_at p w ≡ Ok (y, rest)

-- t and nil
abbrev pub AreOpposite : Value → Value → Type 0
AreOpposite x y = (x ≡ T) × (y ≡ Numbers [])

-- what two visits of one address show: a static argument that differs, two values that aren't alike, or, of the
-- function's body, t on one side and nil on the other
abbrev pub IsVaryingVisit : Program → Address → Visit → Visit → Type 0
IsVaryingVisit p address v w = StaticDiffersIn p (kind_of v.form) v w ⊎ ((x : Value) × (y : Value) × HasValues p v w x y × ((are_alike x y ≡ false) ⊎ ((address ≡ []) × (AreOpposite x y ⊎ AreOpposite y x))))

-- two evaluations, at these arguments and at others, visit an address of this offset, where they vary
pub record VaryInSpecification (p : Program) (f : FunId) (args others : List Value) (depth work : ℕ) (at : ℕ) : Type 0 where
  pub address : Address
  pub one : Visit
  pub other : Visit
  pub visits : Visits p f args depth work address one
  pub visits_too : Visits p f others depth work address other
  pub offset : (out-Form one.form).at ≡ at
  pub varies : IsVaryingVisit p address one other
