-- The functions of the language: their names, and how many arguments they take.
use Rattle.std.specs.Prelude.{ℕ, Bool, true, ◌&&◌, nat_le, if◌then◌else◌, List, [], ◌∷◌, codes, Option, Some, None}
use Rattle.std.specs.Str.{bytes_eq}
use Rattle.spec_form.specs.declared.builtin.Builtin.{Builtin}
use Rattle.spec_form.specs.declared.builtin.Builtin.TheVariants.{BvChop, Slice, GetBit, BvCat, BvPlus, BvMinus, BvMult, BvDiv, BvMod, BvUMinus, BvAnd, BvOr, BvXor, BvNot, BvLt, BvIf, BvSx, LeftRotate, RightRotate, LeftRotate32, RightRotate32, BvShl, BvShr, BvArrayRead, BvArrayWrite, Sum, Minus, Increment, Decrement, Less, LessOrEqual, Greater, GreaterOrEqual, Zp, SameNumber, Equal, Not, Cons, Append, Cdr, Car, Nth, UpdateNth, Len, Endp, Consp}
use Rattle.spec_form.specs.declared.builtin.Builtin.TheVariants as builtin
use Rattle.spec_reader.specs.declared.calls.Call.{Call}

pub record Row : Type 0 where
  pub name : List ℕ
  pub call : Call

abbrev pub row : List ℕ → Builtin → ℕ → Option ℕ → Row
row name function least most = record { name = name; call = record { builtin = function; least = least; most = most } }

-- a name, its function, and the number of arguments
abbrev pub exactly : List ℕ → Builtin → ℕ → Row
exactly name function count = row name function count (Some count)

abbrev pub at_least : List ℕ → Builtin → ℕ → Row
at_least name function least = row name function least None

-- functions on words
abbrev pub word_calls : List Row
word_calls =
    exactly (codes "bvchop") BvChop 2 ∷
    exactly (codes "slice") Slice 3 ∷
    exactly (codes "getbit") GetBit 2 ∷
    exactly (codes "bvcat") BvCat 4 ∷
    exactly (codes "bvplus") BvPlus 3 ∷
    exactly (codes "bvminus") BvMinus 3 ∷
    exactly (codes "bvmult") BvMult 3 ∷
    exactly (codes "bvdiv") BvDiv 3 ∷
    exactly (codes "bvmod") BvMod 3 ∷
    exactly (codes "bvuminus") BvUMinus 2 ∷
    exactly (codes "bvand") BvAnd 3 ∷
    exactly (codes "bvor") BvOr 3 ∷
    exactly (codes "bvxor") BvXor 3 ∷
    exactly (codes "bvnot") BvNot 2 ∷
    exactly (codes "bvlt") BvLt 3 ∷
    exactly (codes "bvif") BvIf 4 ∷
    exactly (codes "bvsx") BvSx 3 ∷ []

-- rotations, shifts, and arrays of words
abbrev pub array_calls : List Row
array_calls =
    exactly (codes "leftrotate") LeftRotate 3 ∷
    exactly (codes "rightrotate") RightRotate 3 ∷
    exactly (codes "leftrotate32") LeftRotate32 2 ∷
    exactly (codes "rightrotate32") RightRotate32 2 ∷
    exactly (codes "bvshl") BvShl 3 ∷
    exactly (codes "bvshr") BvShr 3 ∷
    exactly (codes "bv-array-read") BvArrayRead 4 ∷
    exactly (codes "bv-array-write") BvArrayWrite 5 ∷ []

-- whole numbers, comparisons and equality
abbrev pub number_calls : List Row
number_calls =
    at_least (codes "+") Sum 2 ∷
    row (codes "-") Minus 1 (Some 2) ∷
    exactly (codes "1+") Increment 1 ∷
    exactly (codes "1-") Decrement 1 ∷
    exactly (codes "<") Less 2 ∷
    exactly (codes "<=") LessOrEqual 2 ∷
    exactly (codes ">") Greater 2 ∷
    exactly (codes ">=") GreaterOrEqual 2 ∷
    exactly (codes "zp") Zp 1 ∷
    exactly (codes "=") SameNumber 2 ∷
    exactly (codes "equal") Equal 2 ∷
    exactly (codes "not") Not 1 ∷ []

-- lists
abbrev pub list_calls : List Row
list_calls =
    at_least (codes "list") builtin.List 1 ∷
    exactly (codes "cons") Cons 2 ∷
    at_least (codes "append") Append 2 ∷
    exactly (codes "cdr") Cdr 1 ∷
    exactly (codes "car") Car 1 ∷
    exactly (codes "nth") Nth 2 ∷
    exactly (codes "update-nth") UpdateNth 3 ∷
    exactly (codes "len") Len 1 ∷
    exactly (codes "endp") Endp 1 ∷
    exactly (codes "consp") Consp 1 ∷ []

-- what a table says of a name
abbrev pub call_in : List Row → List ℕ → Option Call
call_in [] name = None
call_in (r ∷ rows) name = if bytes_eq name r.name then Some r.call else call_in rows name

abbrev pub or_else : Option Call → Option Call → Option Call
or_else (Some call) other = Some call
or_else None other = other

-- the function that a name means
abbrev pub call_named : List ℕ → Option Call
call_named name = or_else (call_in word_calls name) (or_else (call_in array_calls name) (or_else (call_in number_calls name) (call_in list_calls name)))

abbrev pub is_at_most : ℕ → Option ℕ → Bool
is_at_most count None = true
is_at_most count (Some most) = nat_le count most

-- whether a function takes so many arguments
abbrev pub takes : Call → ℕ → Bool
takes call count = nat_le call.least count && is_at_most count call.most
