-- The reader of a class file is the class grammar.
use Rattle.std.proofs.Common.{◌≡◌, ℕ, ◌-◌, List, length, Some, None, ◌⊎◌, Result, Ok, Err, IfOk, IfErr, MatchResult, inl, inr, refl, sym, subst, ◌∙◌, ◌<◌, ◌++◌, ap, arith, length-append}
use Rattle.class_file.specs.declared.error.ClassError.{ClassError}
use Rattle.class_file.specs.declared.error.ClassError.TheVariants.{Memory, Truncated, BadMagic, BadVersion, BadIndex, BadLength, Trailing}
use Rattle.class_file.specs.Contents.{Contents}
use Rattle.class_file.specs.Pools.{Pool}
use Rattle.class_reader.specs.ClassReaders.{head_at, class_index_at, super_index_at, interface_turn, interfaces_at, this_class_at, members_at, class_at, class_of, fault_in, first_class_fault}
use Rattle.class_reader.specs.ClassTexts.{head_text, class_index_text, super_index_text, interface_turn_text, interfaces_text, this_class_text, members_text, class_text, SpellsClass}
use Rattle.class_reader.proofs.ConstantLaws.{number_reads, pool_reads}
use Rattle.class_reader.proofs.MemberLaws.{attributes_read, fields_read, methods_read}
use Rattle.reading.specs.Answers.{GivesAs}
use Rattle.reading.specs.Reads.{Reads}
use Rattle.reading.proofs.Laws.{bind_reads, done_reads, test_reads, located_reads, turns_read, whole_reads, whole_is_read, whole_short, whole_more}

head_reads : (end : ℕ) → Reads (Truncated end) (head_at end) head_text
unfolding head_at
head_reads end =
    bind_reads _ _ _ _ (number_reads 4 end) (λ magic.
    bind_reads _ _ _ _ (test_reads _ BadMagic) (λ is_class_file.
    bind_reads _ _ _ _ (number_reads 2 end) (λ minor.
    bind_reads _ _ _ _ (number_reads 2 end) (λ major.
    bind_reads _ _ _ _ (test_reads _ (BadVersion major)) (λ is_known.
    bind_reads _ _ _ _ (number_reads 2 end) (λ count.
    bind_reads _ _ _ _ (test_reads _ (BadLength 8)) (λ has_zero.
    done_reads _)))))))

class_index_reads : (pool : Pool) (end : ℕ) → Reads (Truncated end) (class_index_at pool end) (class_index_text pool)
unfolding class_index_at
class_index_reads pool end =
    located_reads end _ _ (λ at.
    bind_reads _ _ _ _ (number_reads 2 end) (λ index.
    bind_reads _ _ _ _ (test_reads _ (BadIndex at index)) (λ is.
    done_reads _)))

super_index_reads : (pool : Pool) (end : ℕ) → Reads (Truncated end) (super_index_at pool end) (super_index_text pool)
unfolding super_index_at
super_index_reads pool end =
    located_reads end _ _ (λ at.
    bind_reads _ _ _ _ (number_reads 2 end) (λ index.
    bind_reads _ _ _ _ (test_reads _ (BadIndex at index)) (λ is.
    done_reads _)))

interfaces_read : (pool : Pool) (end : ℕ) → Reads (Truncated end) (interfaces_at pool end) (interfaces_text pool)
unfolding interfaces_at
interfaces_read pool end =
    bind_reads _ _ _ _ (number_reads 2 end) (λ count.
    turns_read (interface_turn pool end) (interface_turn_text pool) count tt (λ left state.
    bind_reads _ _ _ _ (class_index_reads pool end) (λ index. done_reads tt)))

this_class_reads : (pool : Pool) (end : ℕ) → Reads (Truncated end) (this_class_at pool end) (this_class_text pool)
unfolding this_class_at
this_class_reads pool end =
    bind_reads _ _ _ _ (number_reads 2 end) (λ flags.
    bind_reads _ _ _ _ (class_index_reads pool end) (λ this_class.
    bind_reads _ _ _ _ (super_index_reads pool end) (λ super_class.
    bind_reads _ _ _ _ (interfaces_read pool end) (λ interfaces.
    done_reads _))))

members_read : (pool : Pool) (end : ℕ) → Reads (Truncated end) (members_at pool end) (members_text pool)
unfolding members_at
members_read pool end =
    bind_reads _ _ _ _ (this_class_reads pool end) (λ this_class.
    bind_reads _ _ _ _ (fields_read pool end) (λ fields.
    bind_reads _ _ _ _ (methods_read pool end) (λ methods.
    bind_reads _ _ _ _ (attributes_read pool end) (λ skipped.
    done_reads _))))

class_reads : (end : ℕ) → Reads (Truncated end) (class_at end) class_text
unfolding class_at
class_reads end =
    bind_reads _ _ _ _ (head_reads end) (λ count.
    bind_reads _ _ _ _ (pool_reads end count) (λ pool.
    bind_reads _ _ _ _ (members_read pool end) (λ members.
    done_reads _)))

-- what spells a class is read as it
pub spelled_is_read : (text : List ℕ) (class : Contents) → SpellsClass text class → class_of text ≡ Ok class
unfolding class_of
spelled_is_read text class is = whole_reads (λ left. Trailing (length text - left)) (class_at (length text)) class_text class text (class_reads (length text)) is

-- what is read as a class spells it
pub read_is_spelled : (text : List ℕ) (class : Contents) → class_of text ≡ Ok class → SpellsClass text class
unfolding class_of
read_is_spelled text class is = whole_is_read (λ left. Trailing (length text - left)) (class_at (length text)) class_text class text (class_reads (length text)) is

abbrev ok_class : Contents → Result Contents ClassError
ok_class class = Ok class

same_class : (c d : Contents) → ok_class c ≡ ok_class d → c ≡ d
same_class c d e = cc

-- a text spells at most one class
pub one_class : (text : List ℕ) (c d : Contents) → SpellsClass text c → SpellsClass text d → c ≡ d
one_class text c d first second = same_class c d (sym (spelled_is_read text c first) ∙ spelled_is_read text d second)

no_fault : (read : Result Contents ClassError) → fault_in read ≡ None → (class : Contents) × (read ≡ Ok class)
no_fault (Ok class) h = (class, refl)
no_fault (Err fault) h = absurd cc

-- a text without a fault spells a class
pub faultless_is_spelled : (text : List ℕ) → first_class_fault text ≡ None → (class : Contents) × SpellsClass text class
faultless_is_spelled text h = let c = no_fault (class_of text) h in (c.0, read_is_spelled text c.0 c.1)

-- a text that spells a class has no fault
pub spelled_is_faultless : (text : List ℕ) (class : Contents) → SpellsClass text class → first_class_fault text ≡ None
spelled_is_faultless text class is = rw (spelled_is_read text class is) refl

-- ---- texts that are cut short or longer

abbrev err_fault : ClassError → Result Contents ClassError
err_fault fault = Err fault

cut_class : (front back : List ℕ) (class : Contents) → SpellsClass (front ++ back) class → 0 < length back → class_of front ≡ err_fault (Truncated (length front))
unfolding class_of
cut_class front back class is lt = whole_short (λ left. Trailing (length front - left)) (class_at (length front)) class_text class front back (class_reads (length front)) is lt

padded_class : (text more : List ℕ) (class : Contents) → SpellsClass text class → 0 < length more → class_of (text ++ more) ≡ err_fault (Trailing (length text))
unfolding class_of
padded_class text more class is lt =
    let end = length (text ++ more) in
    let at : end - length more ≡ length text = omega (arith, length-append text more) in
    whole_more (λ left. Trailing (end - left)) (class_at end) class_text class text more (class_reads end) is lt ∙ ap (λ (n : ℕ). err_fault (Trailing n)) at

-- a class that is cut short is truncated at its length
pub cut_is_truncated : (front back : List ℕ) (class : Contents) → SpellsClass (front ++ back) class → 0 < length back → first_class_fault front ≡ Some (Truncated (length front))
cut_is_truncated front back class is lt = rw (cut_class front back class is lt) refl

-- a class with bytes behind it has them as its fault
pub padded_is_trailing : (text more : List ℕ) (class : Contents) → SpellsClass text class → 0 < length more → first_class_fault (text ++ more) ≡ Some (Trailing (length text))
padded_is_trailing text more class is lt = rw (padded_class text more class is lt) refl

-- ---- what an answer says

pub gives-spelled : {X : Type 0} (view : X → Contents) (result : Result X ClassError) (text : List ℕ) → GivesAs Memory view result (class_of text)
    → IfOk result (λ c. SpellsClass text (view c))
gives-spelled view (Ok c) text h = read_is_spelled text (view c) h
gives-spelled view (Err e) text h = tt

abbrev ok_or_err : Result Contents ClassError → Type 0
ok_or_err (Ok class) = Unit {0}
ok_or_err (Err fault) = ⊥

pub gives-complete : {X : Type 0} (view : X → Contents) (result : Result X ClassError) (text : List ℕ) (class : Contents) → GivesAs Memory view result (class_of text)
    → SpellsClass text class → MatchResult result (λ c. view c ≡ class) (λ e. e ≡ Memory)
gives-complete view (Ok c) text class h is = same_class (view c) class (sym h ∙ spelled_is_read text class is)
gives-complete view (Err e) text class (inl out) is = out
gives-complete view (Err e) text class (inr fault) is = absurd (subst ok_or_err (sym (spelled_is_read text class is) ∙ fault) tt)

pub gives-fault : {X : Type 0} (view : X → Contents) (result : Result X ClassError) (text : List ℕ) → GivesAs Memory view result (class_of text)
    → IfErr result (λ e. (e ≡ Memory) ⊎ (first_class_fault text ≡ Some e))
gives-fault view (Ok c) text h = tt
gives-fault view (Err e) text (inl out) = inl out
gives-fault view (Err e) text (inr fault) = inr (rw fault refl)
