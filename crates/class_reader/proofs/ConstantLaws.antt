-- The reader of the constant pool reads what spells one.
use Rattle.std.proofs.Common.{◌≡◌, ℕ, ◌-◌, eqb, ◌&&◌, Bool, true, false, List, [], ◌∷◌, drop, length, Option, Some, None, Result, Ok, Err, is_ok, refl, ◌∙◌}
use Rattle.class_file.specs.declared.error.ClassError.{ClassError}
use Rattle.class_file.specs.declared.error.ClassError.TheVariants.{Truncated, BadTag, BadLength}
use Rattle.class_file.specs.declared.class.Constant.{Constant}
use Rattle.class_file.specs.declared.class.Constant.TheVariants.{Utf8, Integer, Float, Long, Double, Class, Str, Fieldref, Methodref, InterfaceMethodref, NameAndType, MethodHandle, MethodType, InvokeDynamic}
use Rattle.class_reader.specs.Numbers.{number, number_text}
use Rattle.class_file.specs.Pools.{Pool}
use Rattle.class_reader.specs.References.{entry_refers, slot_refers, all_refer, then_check, entry_references, slot_references, references, slot_size}
use Rattle.class_reader.specs.ConstantReaders.{utf8_at, word_at, wide_bits_at, wide_at, index_at, two_at, pair_at, handle_at, content_at, constant_at, slot_at, slot_turn, slots_at, pool_at}
use Rattle.class_reader.specs.ConstantTexts.{utf8_text, word_text, wide_bits_text, wide_text, index_text, two_text, pair_text, handle_text, content_text, constant_text, slot_text, slot_turn_text, slots_text, pool_text}
use Rattle.reading.specs.Readers.{check}
use Rattle.reading.specs.Reads.{Reads}
use Rattle.reading.proofs.Laws.{bind_reads, done_reads, fail_reads, test_reads, byte_reads, bytes_reads, located_reads, checked_reads, either_reads, turns_read}

pub number_reads : (count end : ℕ) → Reads (Truncated end) (number count end) (number_text count)
unfolding number
number_reads count end = bind_reads _ _ _ _ (bytes_reads count (Truncated end)) (λ digits. done_reads _)

utf8_reads : (end : ℕ) → Reads (Truncated end) (utf8_at end) utf8_text
unfolding utf8_at
utf8_reads end = bind_reads _ _ _ _ (number_reads 2 end) (λ len. bind_reads _ _ _ _ (bytes_reads len (Truncated end)) (λ text. done_reads _))

word_reads : (kind : ℕ → Constant) (end : ℕ) → Reads (Truncated end) (word_at kind end) (word_text kind)
unfolding word_at
word_reads kind end = bind_reads _ _ _ _ (number_reads 4 end) (λ bits. done_reads _)

wide_bits_read : (end left at : ℕ) → Reads (Truncated end) (wide_bits_at end left at) (wide_bits_text left)
unfolding wide_bits_at
wide_bits_read end left at = bind_reads _ _ _ _ (test_reads _ (BadLength at)) (λ has_second. number_reads 8 end)

wide_reads : (kind : ℕ → Constant) (end left at : ℕ) → Reads (Truncated end) (wide_at kind end left at) (wide_text kind left)
unfolding wide_at
wide_reads kind end left at = bind_reads _ _ _ _ (wide_bits_read end left at) (λ bits. done_reads _)

index_reads : (kind : ℕ → Constant) (end : ℕ) → Reads (Truncated end) (index_at kind end) (index_text kind)
unfolding index_at
index_reads kind end = bind_reads _ _ _ _ (number_reads 2 end) (λ index. done_reads _)

two_read : (end : ℕ) → Reads (Truncated end) (two_at end) two_text
unfolding two_at
two_read end = bind_reads _ _ _ _ (number_reads 2 end) (λ first. bind_reads _ _ _ _ (number_reads 2 end) (λ second. done_reads _))

pair_reads : (kind : ℕ → ℕ → Constant) (end : ℕ) → Reads (Truncated end) (pair_at kind end) (pair_text kind)
unfolding pair_at
pair_reads kind end = bind_reads _ _ _ _ (two_read end) (λ numbers. done_reads _)

handle_reads : (end : ℕ) → Reads (Truncated end) (handle_at end) handle_text
unfolding handle_at
handle_reads end = bind_reads _ _ _ _ (byte_reads (Truncated end)) (λ kind. bind_reads _ _ _ _ (number_reads 2 end) (λ index. done_reads _))

content_reads : (end left at tag : ℕ) → Reads (Truncated end) (content_at end left at tag) (content_text left tag)
unfolding content_at
content_reads end left at tag =
    either_reads (eqb tag 1) _ _ _ _ (utf8_reads end) (
    either_reads (eqb tag 3) _ _ _ _ (word_reads _ end) (
    either_reads (eqb tag 4) _ _ _ _ (word_reads _ end) (
    either_reads (eqb tag 5) _ _ _ _ (wide_reads _ end left at) (
    either_reads (eqb tag 6) _ _ _ _ (wide_reads _ end left at) (
    either_reads (eqb tag 7) _ _ _ _ (index_reads _ end) (
    either_reads (eqb tag 8) _ _ _ _ (index_reads _ end) (
    either_reads (eqb tag 9) _ _ _ _ (pair_reads _ end) (
    either_reads (eqb tag 10) _ _ _ _ (pair_reads _ end) (
    either_reads (eqb tag 11) _ _ _ _ (pair_reads _ end) (
    either_reads (eqb tag 12) _ _ _ _ (pair_reads _ end) (
    either_reads (eqb tag 15) _ _ _ _ (handle_reads end) (
    either_reads (eqb tag 16) _ _ _ _ (index_reads _ end) (
    either_reads (eqb tag 18) _ _ _ _ (pair_reads _ end)
    (fail_reads (BadTag at tag)))))))))))))))

constant_reads : (end left : ℕ) → Reads (Truncated end) (constant_at end left) (constant_text left)
unfolding constant_at
constant_reads end left = located_reads end _ _ (λ at. bind_reads _ _ _ _ (byte_reads (Truncated end)) (λ tag. content_reads end left at tag))

slot_reads : (end : ℕ) (second : Bool) (left : ℕ) → Reads (Truncated end) (slot_at end second left) (slot_text second left)
unfolding slot_at
slot_reads end second left = either_reads second _ _ _ _ (done_reads _) (bind_reads _ _ _ _ (constant_reads end left) (λ entry. done_reads _))

slots_read : (end count : ℕ) → Reads (Truncated end) (slots_at end count) (slots_text count)
unfolding slots_at
slots_read end count =
    bind_reads _ _ _ _ (turns_read (slot_turn end) slot_turn_text count ([], false) (λ left state. bind_reads _ _ _ _ (slot_reads end state.1 left) (λ slot. done_reads _))) (λ state. done_reads _)

-- ---- the references: none is a fault exactly where all refer

check-ok : (b : Bool) (e : ClassError) → is_ok (check b e) ≡ b
check-ok true e = refl
check-ok false e = refl

two_checks-ok : (a b : Bool) (d e : ClassError) → is_ok (then_check (check a d) (check b e)) ≡ a && b
two_checks-ok true b d e = check-ok b e
two_checks-ok false b d e = refl

entry_references-ok : (pool : Pool) (at : ℕ) (entry : Constant) → is_ok (entry_references pool at entry) ≡ entry_refers pool entry
entry_references-ok pool at (Utf8 text) = refl
entry_references-ok pool at (Integer value) = refl
entry_references-ok pool at (Float bits) = refl
entry_references-ok pool at (Long value) = refl
entry_references-ok pool at (Double bits) = refl
entry_references-ok pool at (Class name) = check-ok _ _
entry_references-ok pool at (Str text) = check-ok _ _
entry_references-ok pool at (Fieldref class member) = two_checks-ok _ _ _ _
entry_references-ok pool at (Methodref class member) = two_checks-ok _ _ _ _
entry_references-ok pool at (InterfaceMethodref class member) = two_checks-ok _ _ _ _
entry_references-ok pool at (NameAndType name desc) = two_checks-ok _ _ _ _
entry_references-ok pool at (MethodHandle kind index) = refl
entry_references-ok pool at (MethodType desc) = refl
entry_references-ok pool at (InvokeDynamic bootstrap member) = refl

slot_references-ok : (pool : Pool) (at : ℕ) (slot : Option Constant) → is_ok (slot_references pool at slot) ≡ slot_refers pool slot
slot_references-ok pool at None = refl
slot_references-ok pool at (Some entry) = entry_references-ok pool at entry

then_check-ok : (first second : Result (Unit {0}) ClassError) → is_ok (then_check first second) ≡ is_ok first && is_ok second
then_check-ok (Ok u) second = refl
then_check-ok (Err e) second = refl

references-ok : (end : ℕ) (pool slots : Pool) (bytes : List ℕ) → is_ok (references end pool slots bytes) ≡ all_refer pool slots
unfolding references
references-ok end pool [] bytes = refl
references-ok end pool (slot ∷ slots) bytes =
    then_check-ok (slot_references pool (end - length bytes) slot) (references end pool slots (drop (slot_size slot) bytes))
    ∙ rw (slot_references-ok pool (end - length bytes) slot, references-ok end pool slots (drop (slot_size slot) bytes)) refl

pub pool_reads : (end count : ℕ) → Reads (Truncated end) (pool_at end count) (pool_text count)
unfolding pool_at
pool_reads end count = checked_reads _ _ _ (λ pool. all_refer pool pool) (slots_read end (count - 1)) (λ pool bytes. references-ok end pool pool bytes)
