-- The opcode table: the opcodes of the profile, each with the shape of its operands (JVM Specification
-- SE 8, 6.5 and 7).
use Rattle.std.specs.Prelude.{ℕ, ◌==◌, List, [], ◌∷◌, Option, find}
use Rattle.jvm_code.specs.declared.table.Operands.{Operands}
use Rattle.jvm_code.specs.declared.table.Operands.TheVariants.{Nothing, SignedByte, SignedShort, SignedInt, UnsignedByte, UnsignedShort, LocalAndByte, LocalAndShort, ConstantAndByte, Wide}
use Rattle.jvm_code.specs.declared.table.OpRow.{OpRow}

abbrev pub entry : ℕ → Operands → OpRow
entry op operands = record { op = op; operands = operands }

-- a line an opcode, in the order of the opcodes
abbrev pub opcode_table : List OpRow
opcode_table =
    entry 0 Nothing ∷  -- nop
    entry 1 Nothing ∷  -- aconst_null
    entry 2 Nothing ∷  -- iconst_m1
    entry 3 Nothing ∷  -- iconst_0
    entry 4 Nothing ∷  -- iconst_1
    entry 5 Nothing ∷  -- iconst_2
    entry 6 Nothing ∷  -- iconst_3
    entry 7 Nothing ∷  -- iconst_4
    entry 8 Nothing ∷  -- iconst_5
    entry 9 Nothing ∷  -- lconst_0
    entry 10 Nothing ∷  -- lconst_1
    entry 16 SignedByte ∷  -- bipush
    entry 17 SignedShort ∷  -- sipush
    entry 18 UnsignedByte ∷  -- ldc
    entry 19 UnsignedShort ∷  -- ldc_w
    entry 20 UnsignedShort ∷  -- ldc2_w
    entry 21 UnsignedByte ∷  -- iload
    entry 22 UnsignedByte ∷  -- lload
    entry 25 UnsignedByte ∷  -- aload
    entry 26 Nothing ∷  -- iload_0
    entry 27 Nothing ∷  -- iload_1
    entry 28 Nothing ∷  -- iload_2
    entry 29 Nothing ∷  -- iload_3
    entry 30 Nothing ∷  -- lload_0
    entry 31 Nothing ∷  -- lload_1
    entry 32 Nothing ∷  -- lload_2
    entry 33 Nothing ∷  -- lload_3
    entry 42 Nothing ∷  -- aload_0
    entry 43 Nothing ∷  -- aload_1
    entry 44 Nothing ∷  -- aload_2
    entry 45 Nothing ∷  -- aload_3
    entry 46 Nothing ∷  -- iaload
    entry 47 Nothing ∷  -- laload
    entry 50 Nothing ∷  -- aaload
    entry 51 Nothing ∷  -- baload
    entry 52 Nothing ∷  -- caload
    entry 53 Nothing ∷  -- saload
    entry 54 UnsignedByte ∷  -- istore
    entry 55 UnsignedByte ∷  -- lstore
    entry 58 UnsignedByte ∷  -- astore
    entry 59 Nothing ∷  -- istore_0
    entry 60 Nothing ∷  -- istore_1
    entry 61 Nothing ∷  -- istore_2
    entry 62 Nothing ∷  -- istore_3
    entry 63 Nothing ∷  -- lstore_0
    entry 64 Nothing ∷  -- lstore_1
    entry 65 Nothing ∷  -- lstore_2
    entry 66 Nothing ∷  -- lstore_3
    entry 75 Nothing ∷  -- astore_0
    entry 76 Nothing ∷  -- astore_1
    entry 77 Nothing ∷  -- astore_2
    entry 78 Nothing ∷  -- astore_3
    entry 79 Nothing ∷  -- iastore
    entry 80 Nothing ∷  -- lastore
    entry 83 Nothing ∷  -- aastore
    entry 84 Nothing ∷  -- bastore
    entry 85 Nothing ∷  -- castore
    entry 86 Nothing ∷  -- sastore
    entry 87 Nothing ∷  -- pop
    entry 88 Nothing ∷  -- pop2
    entry 89 Nothing ∷  -- dup
    entry 90 Nothing ∷  -- dup_x1
    entry 91 Nothing ∷  -- dup_x2
    entry 92 Nothing ∷  -- dup2
    entry 93 Nothing ∷  -- dup2_x1
    entry 94 Nothing ∷  -- dup2_x2
    entry 95 Nothing ∷  -- swap
    entry 96 Nothing ∷  -- iadd
    entry 97 Nothing ∷  -- ladd
    entry 100 Nothing ∷  -- isub
    entry 101 Nothing ∷  -- lsub
    entry 104 Nothing ∷  -- imul
    entry 105 Nothing ∷  -- lmul
    entry 108 Nothing ∷  -- idiv
    entry 109 Nothing ∷  -- ldiv
    entry 112 Nothing ∷  -- irem
    entry 113 Nothing ∷  -- lrem
    entry 116 Nothing ∷  -- ineg
    entry 117 Nothing ∷  -- lneg
    entry 120 Nothing ∷  -- ishl
    entry 121 Nothing ∷  -- lshl
    entry 122 Nothing ∷  -- ishr
    entry 123 Nothing ∷  -- lshr
    entry 124 Nothing ∷  -- iushr
    entry 125 Nothing ∷  -- lushr
    entry 126 Nothing ∷  -- iand
    entry 127 Nothing ∷  -- land
    entry 128 Nothing ∷  -- ior
    entry 129 Nothing ∷  -- lor
    entry 130 Nothing ∷  -- ixor
    entry 131 Nothing ∷  -- lxor
    entry 132 LocalAndByte ∷  -- iinc
    entry 133 Nothing ∷  -- i2l
    entry 136 Nothing ∷  -- l2i
    entry 145 Nothing ∷  -- i2b
    entry 146 Nothing ∷  -- i2c
    entry 147 Nothing ∷  -- i2s
    entry 148 Nothing ∷  -- lcmp
    entry 153 SignedShort ∷  -- ifeq
    entry 154 SignedShort ∷  -- ifne
    entry 155 SignedShort ∷  -- iflt
    entry 156 SignedShort ∷  -- ifge
    entry 157 SignedShort ∷  -- ifgt
    entry 158 SignedShort ∷  -- ifle
    entry 159 SignedShort ∷  -- if_icmpeq
    entry 160 SignedShort ∷  -- if_icmpne
    entry 161 SignedShort ∷  -- if_icmplt
    entry 162 SignedShort ∷  -- if_icmpge
    entry 163 SignedShort ∷  -- if_icmpgt
    entry 164 SignedShort ∷  -- if_icmple
    entry 165 SignedShort ∷  -- if_acmpeq
    entry 166 SignedShort ∷  -- if_acmpne
    entry 167 SignedShort ∷  -- goto
    entry 172 Nothing ∷  -- ireturn
    entry 173 Nothing ∷  -- lreturn
    entry 176 Nothing ∷  -- areturn
    entry 177 Nothing ∷  -- return
    entry 178 UnsignedShort ∷  -- getstatic
    entry 179 UnsignedShort ∷  -- putstatic
    entry 184 UnsignedShort ∷  -- invokestatic
    entry 188 UnsignedByte ∷  -- newarray
    entry 189 UnsignedShort ∷  -- anewarray
    entry 190 Nothing ∷  -- arraylength
    entry 196 Wide ∷  -- wide
    entry 197 ConstantAndByte ∷  -- multianewarray
    entry 198 SignedShort ∷  -- ifnull
    entry 199 SignedShort ∷  -- ifnonnull
    entry 200 SignedInt ∷  -- goto_w
    []

-- the opcodes that may stand behind wide
abbrev pub wide_table : List OpRow
wide_table =
    entry 21 UnsignedShort ∷  -- iload
    entry 22 UnsignedShort ∷  -- lload
    entry 25 UnsignedShort ∷  -- aload
    entry 54 UnsignedShort ∷  -- istore
    entry 55 UnsignedShort ∷  -- lstore
    entry 58 UnsignedShort ∷  -- astore
    entry 132 LocalAndShort ∷  -- iinc
    []

-- the row of an opcode
abbrev pub row_of : List OpRow → ℕ → Option OpRow
row_of table op = find (λ r. r.op == op) table
