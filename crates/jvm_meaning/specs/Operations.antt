-- The opcode table's meaning: what each opcode of the profile does (JVM Specification SE 8, section 6.5). The
-- operands are those that stand behind the opcode.
use Rattle.std.specs.Prelude.{ℕ, ◌==◌, nat_le, nat_lt, if◌then◌else◌, ℤ, pos, negsuc, List, [], ◌∷◌, length, unsigned_abs, Option, Some, None, Result, Ok, Err}
use Rattle.std.specs.Int.{w32, cast_unsigned}
use Rattle.bv_words.specs.Words.{chop}
use Rattle.axe_io.specs.declared.parameters.Kind.TheVariants as kind
use Rattle.class_file.specs.declared.class.Code.{Code}
use Rattle.jvm_code.specs.declared.decoding.Inst.{Inst}
use Rattle.jvm_code.specs.declared.decoding.CodeError.{CodeError}
use Rattle.jvm_code.specs.declared.decoding.CodeError.TheVariants.{OutOfCode, OutsideTable, Cut}
use Rattle.jvm_code.specs.Instructions.{instruction_at as row_at}
use Rattle.jvm_state.specs.declared.value.Value.TheVariants as value
use Rattle.jvm_state.specs.declared.value.Reason.{Reason}
use Rattle.jvm_state.specs.declared.value.Reason.TheVariants.{OutsideProfile, BadCode}
use Rattle.jvm_state.specs.declared.sorts.Sort.TheVariants as sort
use Rattle.jvm_state.specs.declared.sorts.Width.TheVariants as width
use Rattle.jvm_state.specs.declared.block.Span.TheVariants.{NoSlot, OneSlot, TwoSlots}
use Rattle.jvm_meaning.specs.declared.operation.Instruction.{Instruction}
use Rattle.jvm_meaning.specs.declared.operation.Operation.{Operation}
use Rattle.jvm_meaning.specs.declared.operation.Operation.TheVariants.{Stack, Move, Increment, Branch, Array, LoadConstant, NewReferences, NewRows, PutStatic, Invoke, Return}
use Rattle.jvm_meaning.specs.declared.operation.StackOperation.TheVariants.{Push, Binary, Divide, Negate, Shift, ToLong, ToInt, Narrow, Compare}
use Rattle.jvm_meaning.specs.declared.operation.Move.TheVariants.{Nothing, PushNull, Discard, Duplicate, Swap, Load, Store, GetStatic, Jump, JumpIf}
use Rattle.jvm_meaning.specs.declared.operation.ArrayOperation.TheVariants.{LoadElement, StoreElement, LoadReference, StoreReference, NewArray, ArrayLength}
use Rattle.jvm_meaning.specs.declared.operation.Condition.TheVariants.{IfZero, IfInts}
use Rattle.jvm_meaning.specs.declared.operation.ReferenceTest.TheVariants.{Same, NotSame, Null, NotNull}
use Rattle.jvm_meaning.specs.declared.operation.Binary.TheVariants.{Add, Subtract, Multiply, And, Or, Xor}
use Rattle.jvm_meaning.specs.declared.operation.Division.TheVariants.{Quotient, Remainder}
use Rattle.jvm_meaning.specs.declared.operation.Shift.TheVariants.{Left, Right, UnsignedRight}
use Rattle.jvm_meaning.specs.declared.operation.Test.TheVariants.{Equal, NotEqual, Less, NotLess, Greater, NotGreater}

abbrev pub Rows : Type 0
Rows = List (ℕ × Operation)

abbrev pub row_of : ℕ → Rows → Option Operation
row_of op [] = None
row_of op (row ∷ rows) = if op == row.0 then Some row.1 else row_of op rows

-- an int with its sign, and a number of two bytes
abbrev pub int : ℤ → Operation
int n = Stack (Push (value.Int (cast_unsigned w32 n)))

abbrev pub number : ℤ → ℕ
number n = chop 16 (unsigned_abs n)

abbrev pub long : ℕ → Operation
long n = Stack (Push (value.Long n))

unfoldable pub constants : ℕ → ℤ → Option Operation
constants op first = row_of op (
    (0, Move Nothing)  -- nop
    ∷ (1, Move PushNull)  -- aconst_null
    ∷ (2, int (negsuc 0))  -- iconst_m1
    ∷ (3, int (pos 0))  -- iconst_0
    ∷ (4, int (pos 1))  -- iconst_1
    ∷ (5, int (pos 2))  -- iconst_2
    ∷ (6, int (pos 3))  -- iconst_3
    ∷ (7, int (pos 4))  -- iconst_4
    ∷ (8, int (pos 5))  -- iconst_5
    ∷ (9, long 0)  -- lconst_0
    ∷ (10, long 1)  -- lconst_1
    ∷ (16, int first)  -- bipush
    ∷ (17, int first)  -- sipush
    ∷ (18, LoadConstant 18 width.Int (number first))  -- ldc
    ∷ (19, LoadConstant 19 width.Int (number first))  -- ldc_w
    ∷ (20, LoadConstant 20 width.Long (number first))  -- ldc2_w
    ∷ [])

unfoldable pub loads : ℕ → ℤ → Option Operation
loads op first = row_of op (
    (21, Move (Load sort.Int (number first)))  -- iload
    ∷ (22, Move (Load sort.Long (number first)))  -- lload
    ∷ (25, Move (Load sort.Reference (number first)))  -- aload
    ∷ (26, Move (Load sort.Int 0))  -- iload_0
    ∷ (27, Move (Load sort.Int 1))  -- iload_1
    ∷ (28, Move (Load sort.Int 2))  -- iload_2
    ∷ (29, Move (Load sort.Int 3))  -- iload_3
    ∷ (30, Move (Load sort.Long 0))  -- lload_0
    ∷ (31, Move (Load sort.Long 1))  -- lload_1
    ∷ (32, Move (Load sort.Long 2))  -- lload_2
    ∷ (33, Move (Load sort.Long 3))  -- lload_3
    ∷ (42, Move (Load sort.Reference 0))  -- aload_0
    ∷ (43, Move (Load sort.Reference 1))  -- aload_1
    ∷ (44, Move (Load sort.Reference 2))  -- aload_2
    ∷ (45, Move (Load sort.Reference 3))  -- aload_3
    ∷ (46, Array (LoadElement kind.Int))  -- iaload
    ∷ (47, Array (LoadElement kind.Long))  -- laload
    ∷ (50, Array LoadReference)  -- aaload
    ∷ (51, Array (LoadElement kind.Byte))  -- baload
    ∷ (52, Array (LoadElement kind.Char))  -- caload
    ∷ (53, Array (LoadElement kind.Short))  -- saload
    ∷ [])

unfoldable pub stores : ℕ → ℤ → Option Operation
stores op first = row_of op (
    (54, Move (Store sort.Int (number first)))  -- istore
    ∷ (55, Move (Store sort.Long (number first)))  -- lstore
    ∷ (58, Move (Store sort.Reference (number first)))  -- astore
    ∷ (59, Move (Store sort.Int 0))  -- istore_0
    ∷ (60, Move (Store sort.Int 1))  -- istore_1
    ∷ (61, Move (Store sort.Int 2))  -- istore_2
    ∷ (62, Move (Store sort.Int 3))  -- istore_3
    ∷ (63, Move (Store sort.Long 0))  -- lstore_0
    ∷ (64, Move (Store sort.Long 1))  -- lstore_1
    ∷ (65, Move (Store sort.Long 2))  -- lstore_2
    ∷ (66, Move (Store sort.Long 3))  -- lstore_3
    ∷ (75, Move (Store sort.Reference 0))  -- astore_0
    ∷ (76, Move (Store sort.Reference 1))  -- astore_1
    ∷ (77, Move (Store sort.Reference 2))  -- astore_2
    ∷ (78, Move (Store sort.Reference 3))  -- astore_3
    ∷ (79, Array (StoreElement kind.Int))  -- iastore
    ∷ (80, Array (StoreElement kind.Long))  -- lastore
    ∷ (83, Array StoreReference)  -- aastore
    ∷ (84, Array (StoreElement kind.Byte))  -- bastore
    ∷ (85, Array (StoreElement kind.Char))  -- castore
    ∷ (86, Array (StoreElement kind.Short))  -- sastore
    ∷ [])

unfoldable pub moves : ℕ → Option Operation
moves op = row_of op (
    (87, Move (Discard OneSlot))  -- pop
    ∷ (88, Move (Discard TwoSlots))  -- pop2
    ∷ (89, Move (Duplicate OneSlot NoSlot))  -- dup
    ∷ (90, Move (Duplicate OneSlot OneSlot))  -- dup_x1
    ∷ (91, Move (Duplicate OneSlot TwoSlots))  -- dup_x2
    ∷ (92, Move (Duplicate TwoSlots NoSlot))  -- dup2
    ∷ (93, Move (Duplicate TwoSlots OneSlot))  -- dup2_x1
    ∷ (94, Move (Duplicate TwoSlots TwoSlots))  -- dup2_x2
    ∷ (95, Move Swap)  -- swap
    ∷ [])

unfoldable pub arithmetic : ℕ → ℤ → ℤ → Option Operation
arithmetic op first second = row_of op (
    (96, Stack (Binary Add width.Int))  -- iadd
    ∷ (97, Stack (Binary Add width.Long))  -- ladd
    ∷ (100, Stack (Binary Subtract width.Int))  -- isub
    ∷ (101, Stack (Binary Subtract width.Long))  -- lsub
    ∷ (104, Stack (Binary Multiply width.Int))  -- imul
    ∷ (105, Stack (Binary Multiply width.Long))  -- lmul
    ∷ (108, Stack (Divide Quotient width.Int))  -- idiv
    ∷ (109, Stack (Divide Quotient width.Long))  -- ldiv
    ∷ (112, Stack (Divide Remainder width.Int))  -- irem
    ∷ (113, Stack (Divide Remainder width.Long))  -- lrem
    ∷ (116, Stack (Negate width.Int))  -- ineg
    ∷ (117, Stack (Negate width.Long))  -- lneg
    ∷ (120, Stack (Shift Left width.Int))  -- ishl
    ∷ (121, Stack (Shift Left width.Long))  -- lshl
    ∷ (122, Stack (Shift Right width.Int))  -- ishr
    ∷ (123, Stack (Shift Right width.Long))  -- lshr
    ∷ (124, Stack (Shift UnsignedRight width.Int))  -- iushr
    ∷ (125, Stack (Shift UnsignedRight width.Long))  -- lushr
    ∷ (126, Stack (Binary And width.Int))  -- iand
    ∷ (127, Stack (Binary And width.Long))  -- land
    ∷ (128, Stack (Binary Or width.Int))  -- ior
    ∷ (129, Stack (Binary Or width.Long))  -- lor
    ∷ (130, Stack (Binary Xor width.Int))  -- ixor
    ∷ (131, Stack (Binary Xor width.Long))  -- lxor
    ∷ (132, Increment (number first) second)  -- iinc
    ∷ (133, Stack ToLong)  -- i2l
    ∷ (136, Stack ToInt)  -- l2i
    ∷ (145, Stack (Narrow kind.Byte))  -- i2b
    ∷ (146, Stack (Narrow kind.Char))  -- i2c
    ∷ (147, Stack (Narrow kind.Short))  -- i2s
    ∷ (148, Stack Compare)  -- lcmp
    ∷ [])

unfoldable pub branches : ℕ → ℤ → Option Operation
branches op first = row_of op (
    (153, Branch (IfZero Equal) first)  -- ifeq
    ∷ (154, Branch (IfZero NotEqual) first)  -- ifne
    ∷ (155, Branch (IfZero Less) first)  -- iflt
    ∷ (156, Branch (IfZero NotLess) first)  -- ifge
    ∷ (157, Branch (IfZero Greater) first)  -- ifgt
    ∷ (158, Branch (IfZero NotGreater) first)  -- ifle
    ∷ (159, Branch (IfInts Equal) first)  -- if_icmpeq
    ∷ (160, Branch (IfInts NotEqual) first)  -- if_icmpne
    ∷ (161, Branch (IfInts Less) first)  -- if_icmplt
    ∷ (162, Branch (IfInts NotLess) first)  -- if_icmpge
    ∷ (163, Branch (IfInts Greater) first)  -- if_icmpgt
    ∷ (164, Branch (IfInts NotGreater) first)  -- if_icmple
    ∷ (165, Move (JumpIf Same first))  -- if_acmpeq
    ∷ (166, Move (JumpIf NotSame first))  -- if_acmpne
    ∷ (167, Move (Jump first))  -- goto
    ∷ (198, Move (JumpIf Null first))  -- ifnull
    ∷ (199, Move (JumpIf NotNull first))  -- ifnonnull
    ∷ (200, Move (Jump first))  -- goto_w
    ∷ [])

-- newarray: 5 char, 8 byte, 9 short, 10 int, 11 long
unfoldable pub new_arrays : ℤ → Option Operation
new_arrays first = row_of (number first) (
    (5, Array (NewArray kind.Char)) ∷ (8, Array (NewArray kind.Byte)) ∷ (9, Array (NewArray kind.Short))
    ∷ (10, Array (NewArray kind.Int)) ∷ (11, Array (NewArray kind.Long)) ∷ [])

unfoldable pub calls : ℕ → ℤ → ℤ → Option Operation
calls op first second = row_of op (
    (172, Return (Some sort.Int))  -- ireturn
    ∷ (173, Return (Some sort.Long))  -- lreturn
    ∷ (176, Return (Some sort.Reference))  -- areturn
    ∷ (177, Return None)  -- return
    ∷ (178, Move (GetStatic (number first)))  -- getstatic
    ∷ (179, PutStatic (number first))  -- putstatic
    ∷ (184, Invoke (number first))  -- invokestatic
    ∷ (189, NewReferences (number first))  -- anewarray
    ∷ (190, Array ArrayLength)  -- arraylength
    ∷ (197, NewRows (number first) (chop 8 (unsigned_abs second)))  -- multianewarray
    ∷ [])

-- what an opcode with these operands does; 188 is newarray
abbrev pub operation_of : ℕ → ℤ → ℤ → Option Operation
operation_of op first second =
    if nat_le op 20 then constants op first else if nat_le op 53 then loads op first else if nat_le op 86 then stores op first
    else if nat_le op 95 then moves op else if nat_le op 148 then arithmetic op first second
    else if nat_le op 167 then branches op first else if nat_le 198 op then branches op first
    else if op == 188 then new_arrays first else calls op first second

abbrev pub with_operation : ℕ → ℕ → Option Operation → Result Instruction Reason
with_operation op size None = Err (OutsideProfile op)
with_operation op size (Some operation) = Ok (record { operation = operation; size = size })

-- a place outside the code, and an instruction that runs past its end, are bad code
abbrev pub reason_of : CodeError → Reason
reason_of (OutOfCode pc) = BadCode
reason_of (Cut pc) = BadCode
reason_of (OutsideTable pc op) = OutsideProfile op

abbrev pub known : Result Inst CodeError → Result Instruction Reason
known (Ok inst) = with_operation inst.op inst.size (operation_of inst.op inst.first inst.second)
known (Err error) = Err (reason_of error)

-- the instruction at a place of the code, which has at most 65,535 bytes (section 4.7.3)
abbrev pub instruction_at : Code → ℕ → Result Instruction Reason
instruction_at code pc = if nat_lt 65535 (length code.bytes) then Err BadCode else known (row_at code.bytes pc)
