-- The loops of the readers, by what one turn of each gives.
use Rattle.std.proofs.Common.{◌≡◌, ℕ, ◌-◌, ◌+◌, ◌≤◌, ◌<◌, Bool, false, List, [], ◌∷◌, ◌++◌, length, get_or, drop, Option, Result, Ok, Err, refl, sym, ◌∙◌, add-one, drop-cons}
use Rattle.std.proofs.Math.ListN.{drop_of_length-le}
use Rattle.class_file.specs.declared.error.ClassError.{ClassError}
use Rattle.class_file.specs.declared.error.ClassError.TheVariants.{Memory}
use Rattle.class_file.specs.declared.class.Constant.{Constant}
use Rattle.class_file.specs.Pools.{Pool}
use Rattle.class_reader.specs.References.{then_check, slot_references, references, slot_size}
use Rattle.class_reader.specs.ConstantReaders.{slot_at, slot_turn, slots_at, takes_two}
use Rattle.class_reader.specs.ClassReaders.{class_index_at, interface_turn}
use Rattle.reading.specs.Answers.{FailsAs}
use Rattle.reading.specs.Readers.{Read, bind, done, turns}
use Rattle.reading.proofs.Fails.{FailsAs-continue_with}
use Rattle.reading.proofs.Turns.{goes_on, fails, ends}

-- ---- the slots of the pool

slot_turn-is : (end left : ℕ) (slots : Pool) (second : Bool) (rest after : List ℕ) (slot : Option Constant) → slot_at end second left rest ≡ Ok (slot, after)
    → slot_turn end left (slots, second) rest ≡ Ok ((slots ++ slot ∷ [], takes_two slot), after)
unfolding bind done
slot_turn-is end left slots second rest after slot here = rw here refl

pub slot_goes_on : (end count i : ℕ) (slots : Pool) (second : Bool) (rest after : List ℕ) (slot : Option Constant) (all : Read ClassError (Pool × Bool)) → i < count
    → slot_at end second (count - (i + 1)) rest ≡ Ok (slot, after) → turns (slot_turn end) (count - i) (slots, second) rest ≡ all
    → turns (slot_turn end) (count - (i + 1)) (slots ++ slot ∷ [], takes_two slot) after ≡ all
slot_goes_on end count i slots second rest after slot all lt here so_far =
    goes_on (slot_turn end) count i (slots, second) (slots ++ slot ∷ [], takes_two slot) rest after all lt (slot_turn-is end (count - (i + 1)) slots second rest after slot here) so_far

pub slot_fails : (e : ClassError) (end count i : ℕ) (slots : Pool) (second : Bool) (rest bytes : List ℕ) → i < count
    → FailsAs Memory e (slot_at end second (count - (i + 1)) rest) → turns (slot_turn end) (count - i) (slots, second) rest ≡ turns (slot_turn end) count ([], false) bytes
    → FailsAs Memory e (slots_at end count bytes)
unfolding slots_at bind
slot_fails e end count i slots second rest bytes lt here so_far =
    FailsAs-continue_with Memory e _ (λ state. done state.0)
    (fails Memory e (slot_turn end) count i (slots, second) rest (turns (slot_turn end) count ([], false) bytes) lt (FailsAs-continue_with Memory e _ _ here) so_far)

pub slots_end : (end count i : ℕ) (slots : Pool) (second : Bool) (rest bytes : List ℕ) → count ≤ i
    → turns (slot_turn end) (count - i) (slots, second) rest ≡ turns (slot_turn end) count ([], false) bytes → slots_at end count bytes ≡ Ok (slots, rest)
unfolding slots_at bind done
slots_end end count i slots second rest bytes le so_far =
    let all = ends (slot_turn end) count i (slots, second) rest (turns (slot_turn end) count ([], false) bytes) le so_far in
    rw all refl

-- ---- the references of the pool

next_reference : (end : ℕ) (pool : Pool) (i : ℕ) (slot : Option Constant) (rest : List ℕ) → i < length pool → slot ≡ get_or pool i slot
    → references end pool (drop i pool) rest ≡ then_check (slot_references pool (end - length rest) slot) (references end pool (drop (i + 1) pool) (drop (slot_size slot) rest))
unfolding references
next_reference end pool i slot rest lt is = rw (add-one, drop-cons pool i slot, ← is) refl

pub reference_goes_on : (end : ℕ) (pool : Pool) (i : ℕ) (slot : Option Constant) (rest : List ℕ) (u : Unit {0}) (all : Result (Unit {0}) ClassError) → i < length pool
    → slot ≡ get_or pool i slot → Ok u ≡ slot_references pool (end - length rest) slot → references end pool (drop i pool) rest ≡ all
    → references end pool (drop (i + 1) pool) (drop (slot_size slot) rest) ≡ all
reference_goes_on end pool i slot rest u all lt is here so_far = sym (next_reference end pool i slot rest lt is ∙ rw (← here) refl) ∙ so_far

pub reference_fails : (end : ℕ) (pool : Pool) (i : ℕ) (slot : Option Constant) (rest : List ℕ) (e : ClassError) (all : Result (Unit {0}) ClassError) → i < length pool
    → slot ≡ get_or pool i slot → Err e ≡ slot_references pool (end - length rest) slot → references end pool (drop i pool) rest ≡ all → Err e ≡ all
reference_fails end pool i slot rest e all lt is here so_far = sym (next_reference end pool i slot rest lt is ∙ rw (← here) refl) ∙ so_far

pub references_end : (end : ℕ) (pool : Pool) (i : ℕ) (rest : List ℕ) (all : Result (Unit {0}) ClassError) → length pool ≤ i
    → references end pool (drop i pool) rest ≡ all → Ok tt ≡ all
unfolding references
references_end end pool i rest all le so_far = sym (rw (drop_of_length-le pool le) refl) ∙ so_far

-- ---- the interfaces

pub interface_turn-ok : (pool : Pool) (end left : ℕ) (bytes after : List ℕ) (index : ℕ) → class_index_at pool end bytes ≡ Ok (index, after)
    → interface_turn pool end left tt bytes ≡ Ok (tt, after)
unfolding bind done
interface_turn-ok pool end left bytes after index here = rw here refl

pub interface_turn-fails : (e : ClassError) (pool : Pool) (end left : ℕ) (bytes : List ℕ) → FailsAs Memory e (class_index_at pool end bytes)
    → FailsAs Memory e (interface_turn pool end left tt bytes)
unfolding bind
interface_turn-fails e pool end left bytes here = FailsAs-continue_with Memory e (class_index_at pool end bytes) (λ index. done tt) here
