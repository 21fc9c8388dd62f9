-- The instruction at a place of a code, by the opcode table.
use Rattle.std.specs.Prelude.{ℕ, ◌+◌, Bool, true, false, List, [], ◌∷◌, drop, ℤ, pos, Option, Some, None, Result, Ok, Err}
use Rattle.std.specs.Int.{w8, w16, w32, cast_signed, from_be_bytes}
use Rattle.jvm_code.specs.declared.decoding.Inst.{Inst}
use Rattle.jvm_code.specs.declared.decoding.CodeError.{CodeError}
use Rattle.jvm_code.specs.declared.decoding.CodeError.TheVariants.{OutOfCode, OutsideTable, Cut}
use Rattle.jvm_code.specs.declared.operands.Values.{Values}
use Rattle.jvm_code.specs.declared.table.Operands.{Operands}
use Rattle.jvm_code.specs.declared.table.Operands.TheVariants.{Nothing, SignedByte, SignedShort, SignedInt, UnsignedByte, UnsignedShort, LocalAndByte, LocalAndShort, ConstantAndByte, Wide}
use Rattle.jvm_code.specs.declared.table.OpRow.{OpRow}
use Rattle.jvm_code.specs.Opcodes.{opcode_table, wide_table, row_of}

-- numbers of two and four bytes, the highest first
abbrev pub u2 : ℕ → ℕ → ℕ
u2 a b = from_be_bytes w16 (a ∷ b ∷ [])

abbrev pub s2 : ℕ → ℕ → ℤ
s2 a b = cast_signed w16 (u2 a b)

abbrev pub s4 : ℕ → ℕ → ℕ → ℕ → ℤ
s4 a b c d = cast_signed w32 (from_be_bytes w32 (a ∷ b ∷ c ∷ d ∷ []))

abbrev pub values : ℤ → ℤ → ℕ → Option Values
values first second count = Some (record { first = first; second = second; count = count })

-- the operands that the bytes behind an opcode begin with, none where the bytes end too early
abbrev pub operands_in : Operands → List ℕ → Option Values
operands_in Nothing rest = values (pos 0) (pos 0) 0
operands_in SignedByte (a ∷ rest) = values (cast_signed w8 a) (pos 0) 1
operands_in SignedShort (a ∷ (b ∷ rest)) = values (s2 a b) (pos 0) 2
operands_in SignedInt (a ∷ (b ∷ (c ∷ (d ∷ rest)))) = values (s4 a b c d) (pos 0) 4
operands_in UnsignedByte (a ∷ rest) = values (pos a) (pos 0) 1
operands_in UnsignedShort (a ∷ (b ∷ rest)) = values (pos (u2 a b)) (pos 0) 2
operands_in LocalAndByte (a ∷ (b ∷ rest)) = values (pos a) (cast_signed w8 b) 2
operands_in LocalAndShort (a ∷ (b ∷ (c ∷ (d ∷ rest)))) = values (pos (u2 a b)) (s2 c d) 4
operands_in ConstantAndByte (a ∷ (b ∷ (c ∷ rest))) = values (pos (u2 a b)) (pos c) 3
operands_in _ _ = None

-- an opcode with its operands, behind so many bytes
abbrev pub with_operands : ℕ → ℕ → Bool → ℕ → Option Values → Result Inst CodeError
with_operands pc op wide before None = Err (Cut pc)
with_operands pc op wide before (Some v) = Ok (record { op = op; wide = wide; first = v.first; second = v.second; size = before + v.count })

abbrev pub wide_row : ℕ → ℕ → List ℕ → Option OpRow → Result Inst CodeError
wide_row pc op rest None = Err (OutsideTable pc op)
wide_row pc op rest (Some row) = with_operands pc op true 2 (operands_in row.operands rest)

-- what stands behind wide
abbrev pub behind_wide : ℕ → List ℕ → Result Inst CodeError
behind_wide pc [] = Err (Cut pc)
behind_wide pc (op ∷ rest) = wide_row pc op rest (row_of wide_table op)

abbrev pub with_shape : ℕ → ℕ → List ℕ → Operands → Result Inst CodeError
with_shape pc op rest Wide = behind_wide pc rest
with_shape pc op rest shape = with_operands pc op false 1 (operands_in shape rest)

abbrev pub with_row : ℕ → ℕ → List ℕ → Option OpRow → Result Inst CodeError
with_row pc op rest None = Err (OutsideTable pc op)
with_row pc op rest (Some row) = with_shape pc op rest row.operands

abbrev pub first_instruction : ℕ → List ℕ → Result Inst CodeError
first_instruction pc [] = Err (OutOfCode pc)
first_instruction pc (op ∷ rest) = with_row pc op rest (row_of opcode_table op)

-- the instruction that begins at pc
unfoldable pub instruction_at : List ℕ → ℕ → Result Inst CodeError
instruction_at code pc = first_instruction pc (drop pc code)
