-- Trial ciphers: the class file and the specification that are made from a number. Both take two words of 32 bits, a
-- and b, through the same rounds. A round adds a and b, rotates the sum to the left and mixes in a constant k: where t
-- is the rotated sum, the method takes (t | k) - (t & k) and the specification t xor k. Then a becomes b, and b becomes
-- what came out. The result is a xor b.
use Rattle.std.specs.Prelude.{ℕ, ◌+◌, ◌-◌, ◌*◌, ◌%◌, ◌^◌, List, [], ◌∷◌, ◌++◌, length, codes}
use Rattle.std.specs.List.{concat, flat_map, range_with_len}
use Rattle.std.specs.Fmt.{decimal}
use Rattle.byteorder.specs.Endian.{big_bytes}

-- ---- what the number n chooses; rounds are counted from 0

-- how many rounds there are, 1 to 8
abbrev pub rounds : ℕ → ℕ
rounds n = 1 + n % 8

-- the constant of round i, a word of 32 bits
abbrev pub constant : ℕ → ℕ → ℕ
constant n i = (n * 2654435769 + (i + 1) * 2246822519) % 2 ^ 32

-- by how many bits round i rotates, 1 to 31
abbrev pub rotation : ℕ → ℕ → ℕ
rotation n i = 1 + constant n i % 31

-- what the rounds give, one after the other
unfoldable pub in_rounds : (ℕ → List ℕ) → ℕ → List ℕ
in_rounds part n = flat_map part (range_with_len 0 (rounds n))

-- ---- the class file, in the words of the Java Virtual Machine Specification, chapter 4

abbrev pub u2 : ℕ → List ℕ
u2 x = big_bytes 2 x

abbrev pub u4 : ℕ → List ℕ
u4 x = big_bytes 4 x

-- entries of the constant pool: CONSTANT_Utf8_info, CONSTANT_Class_info, CONSTANT_Integer_info
unfoldable pub utf8 : List ℕ → List ℕ
utf8 text = concat ((1 ∷ []) ∷ u2 (length text) ∷ text ∷ [])

unfoldable pub class_info : ℕ → List ℕ
class_info name = 7 ∷ u2 name

abbrev pub integer : ℕ → List ℕ
integer word = 3 ∷ u4 word

-- the name of a class, which is the entry of a number, and the class
unfoldable pub named_class : List ℕ → ℕ → List ℕ
named_class text name = utf8 text ++ class_info name

-- the entries 1 to 4: this class and its superclass
unfoldable pub classes : List ℕ
classes = named_class (codes "Mix") 1 ++ named_class (codes "java/lang/Object") 3

-- the entries 5 to 7: the names of the method, of its descriptor and of its attribute
unfoldable pub names : List ℕ
names = concat (utf8 (codes "mix") ∷ utf8 (codes "(II)I") ∷ utf8 (codes "Code") ∷ [])

-- the count, which is one more than there are entries; the entries, of which 8 + i is the constant of round i
unfoldable pub pool : ℕ → List ℕ
pool n = ((u2 (8 + rounds n) ++ classes) ++ names) ++ in_rounds (λ i. integer (constant n i)) n

-- the instructions of round i, where the locals 0, 1 and 2 are a, b and t
abbrev pub round_code : ℕ → ℕ → List ℕ
round_code n i =
    -- iload_0 iload_1 iadd istore_2: t = a + b
    0x1a ∷ 0x1b ∷ 0x60 ∷ 0x3d
    -- iload_2 bipush ishl iload_2 bipush iushr ior istore_2: t is rotated
    ∷ 0x1c ∷ 0x10 ∷ rotation n i ∷ 0x78 ∷ 0x1c ∷ 0x10 ∷ (32 - rotation n i) ∷ 0x7c ∷ 0x80 ∷ 0x3d
    -- iload_2 ldc ior iload_2 ldc iand isub istore_2: t = (t | k) - (t & k)
    ∷ 0x1c ∷ 0x12 ∷ (8 + i) ∷ 0x80 ∷ 0x1c ∷ 0x12 ∷ (8 + i) ∷ 0x7e ∷ 0x64 ∷ 0x3d
    -- iload_1 istore_0 iload_2 istore_1: a = b, b = t
    ∷ 0x1b ∷ 0x3b ∷ 0x1c ∷ 0x3c
    ∷ []

-- the instructions of all rounds, and iload_0 iload_1 ixor ireturn
unfoldable pub code : ℕ → List ℕ
code n = in_rounds (round_code n) n ++ 0x1a ∷ 0x1b ∷ 0x82 ∷ 0xac ∷ []

-- what the attribute Code holds: max_stack and max_locals, code_length and the code, no exception rows, no attributes
unfoldable pub code_info : ℕ → List ℕ
code_info n = concat (u2 3 ∷ u2 3 ∷ u4 (length (code n)) ∷ code n ∷ u2 0 ∷ u2 0 ∷ [])

-- the attribute Code: attribute_name_index, attribute_length, and what it holds
unfoldable pub code_attribute : ℕ → List ℕ
code_attribute n = (u2 7 ++ u4 (length (code_info n))) ++ code_info n

-- public static int mix(int, int): access_flags, name_index, descriptor_index, and its one attribute
unfoldable pub method : ℕ → List ℕ
method n = concat (u2 0x0009 ∷ u2 5 ∷ u2 6 ∷ u2 1 ∷ []) ++ code_attribute n

-- public class Mix: magic, minor_version and major_version, the constant pool, access_flags, this_class and
-- super_class, no interfaces and no fields, one method, no attributes
abbrev pub class_bytes : ℕ → List ℕ
class_bytes n = concat
    (u4 0xcafebabe ∷ u2 0 ∷ u2 52
    ∷ pool n
    ∷ u2 0x0021 ∷ u2 2 ∷ u2 4
    ∷ u2 0 ∷ u2 0
    ∷ u2 1 ∷ method n
    ∷ u2 0
    ∷ [])

-- ---- the specification's text

-- the lines of round i, which binds a and b of the next number
abbrev pub new_a : ℕ → List ℕ
new_a i = concat (codes "    (a" ∷ decimal (i + 1) ∷ codes " b" ∷ decimal i ∷ codes ")\n" ∷ [])

abbrev pub new_b : ℕ → ℕ → List ℕ
new_b n i = concat
    (codes "    (b" ∷ decimal (i + 1)
    ∷ codes " (bvxor 32 (leftrotate 32 " ∷ decimal (rotation n i)
    ∷ codes " (bvplus 32 a" ∷ decimal i ∷ codes " b" ∷ decimal i
    ∷ codes ")) " ∷ decimal (constant n i) ∷ codes "))\n"
    ∷ [])

abbrev pub bindings : ℕ → ℕ → List ℕ
bindings n i = new_a i ++ new_b n i

abbrev pub result_line : ℕ → List ℕ
result_line n = concat
    (codes "  (bvxor 32 a" ∷ decimal (rounds n) ∷ codes " b" ∷ decimal (rounds n) ∷ codes ")))\n"
    ∷ [])

abbrev pub spec_text : ℕ → List ℕ
spec_text n = concat
    (codes "(defun mix (a0 b0)\n"
    ∷ codes "  (let* (\n"
    ∷ in_rounds (bindings n) n
    ∷ codes "  )\n"
    ∷ result_line n
    ∷ [])
