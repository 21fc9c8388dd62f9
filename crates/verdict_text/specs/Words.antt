-- The texts of numbers, lists of numbers and names.
use Rattle.std.specs.Prelude.{ℕ, zero, suc, ℤ, pos, negsuc, ◌+◌, ◌/◌, ◌%◌, ◌^◌, ◌==◌, not, ◌&&◌, nat_lt, nat_le, if◌then◌else◌, List, [], ◌∷◌, ◌++◌, codes, map, slice_get, Option, Some, None}
use Rattle.std.specs.List.{flat_map}
use Rattle.std.specs.Fmt.{signed_decimal}
use Rattle.class_file.specs.declared.class.Method.{Method}
use Rattle.class_file.specs.declared.class.MethodId.{MethodId}

-- pieces of text, one after the other
abbrev pub joined : List (List ℕ) → List ℕ
joined [] = []
joined (piece ∷ []) = piece
joined (piece ∷ next ∷ pieces) = piece ++ joined (next ∷ pieces)

-- a hexadecimal digit in lower case
abbrev pub digit : ℕ → ℕ
digit n = if nat_lt n 10 then n + 48 else n + 87

-- so many hexadecimal digits of a number
abbrev pub hex : ℕ → ℕ → List ℕ
hex zero n = []
hex (suc digits) n = hex digits (n / 16) ++ digit (n % 16) ∷ []

-- a word of a width
abbrev pub word : ℕ → ℕ → List ℕ
word width n = hex (width / 4) n

-- a number of the specification, beside results of a width
abbrev pub number : ℕ → ℤ → List ℕ
number width (pos n) = if nat_lt n (2 ^ width) then word width n else codes "dec " ++ signed_decimal (pos n)
number width (negsuc n) = codes "dec " ++ signed_decimal (negsuc n)

-- texts with one space between
abbrev pub spaced : List (List ℕ) → List ℕ
spaced [] = []
spaced (text ∷ texts) = text ++ flat_map (λ text. 32 ∷ text) texts

-- a list in brackets
abbrev pub bracketed : List (List ℕ) → List ℕ
bracketed texts = joined (codes "[" ∷ spaced texts ∷ codes "]" ∷ [])

abbrev pub words : ℕ → List ℕ → List ℕ
words width ns = bracketed (map (word width) ns)

abbrev pub numbers : ℕ → List ℤ → List ℕ
numbers width zs = bracketed (map (number width) zs)

-- a byte of a name: as it is from 0x21 to 0x7e but for the backslash, and else a backslash and two digits
abbrev pub name_byte : ℕ → List ℕ
name_byte b = if nat_le 33 b && nat_le b 126 && not (b == 92) then b ∷ [] else 92 ∷ hex 2 b

abbrev pub name : List ℕ → List ℕ
name bytes = flat_map name_byte bytes

-- a method is its name followed by its descriptor
abbrev pub method_text : Option Method → List ℕ
method_text None = []
method_text (Some m) = name m.name ++ name m.desc

abbrev pub method : List Method → MethodId → List ℕ
method methods id = method_text (slice_get methods id.0)
