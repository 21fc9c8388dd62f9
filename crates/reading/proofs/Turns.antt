-- A loop that makes so many turns: its invariant is that the turns that are left give what all of them
-- give. The three goals of such a loop are the next turn, a turn's fault, and the end.
use Rattle.std.proofs.Common.{◌≡◌, ℕ, suc, ◌-◌, ◌+◌, ◌≤◌, ◌<◌, List, ◌∷◌, ◌++◌, [], Ok, refl, sym, ◌∙◌, arith}
use Rattle.reading.specs.Readers.{Read, Reader, continue_with, bind, done, turns, one_more}
use Rattle.reading.specs.Answers.{FailsAs}
use Rattle.reading.proofs.Fails.{FailsAs-continue_with}

one_turn : {E S : Type 0} (turn : ℕ → S → Reader E S) (count i : ℕ) (state : S) (bytes : List ℕ) → i < count
    → turns turn (count - i) state bytes ≡ continue_with (turn (count - (i + 1)) state bytes) (turns turn (count - (i + 1)))
unfolding turns bind
one_turn turn count i state bytes lt = let k : count - i ≡ suc (count - (i + 1)) = omega arith in rw k refl

pub goes_on : {E S : Type 0} (turn : ℕ → S → Reader E S) (count i : ℕ) (state next : S) (bytes after : List ℕ) (all : Read E S) → i < count
    → turn (count - (i + 1)) state bytes ≡ Ok (next, after) → turns turn (count - i) state bytes ≡ all → turns turn (count - (i + 1)) next after ≡ all
goes_on turn count i state next bytes after all lt here so_far = sym (one_turn turn count i state bytes lt ∙ rw here refl) ∙ so_far

pub fails : {E S : Type 0} (memory e : E) (turn : ℕ → S → Reader E S) (count i : ℕ) (state : S) (bytes : List ℕ) (all : Read E S) → i < count
    → FailsAs memory e (turn (count - (i + 1)) state bytes) → turns turn (count - i) state bytes ≡ all → FailsAs memory e all
fails memory e turn count i state bytes all lt here so_far =
    rw (← so_far, one_turn turn count i state bytes lt) (FailsAs-continue_with memory e _ (turns turn (count - (i + 1))) here)

pub ends : {E S : Type 0} (turn : ℕ → S → Reader E S) (count i : ℕ) (state : S) (bytes : List ℕ) (all : Read E S) → count ≤ i
    → turns turn (count - i) state bytes ≡ all → all ≡ Ok (state, bytes)
unfolding turns done
ends turn count i state bytes all le so_far =
    let k : count - i ≡ 0 = omega arith in
    let last : turns turn (count - i) state bytes ≡ Ok (state, bytes) = rw k refl in
    sym so_far ∙ last

-- ---- a list of so many: each turn puts one more at the end

adds : {E A : Type 0} (reader : Reader E A) (left : ℕ) (items : List A) (bytes : List ℕ) (item : A) (after : List ℕ) → reader bytes ≡ Ok (item, after)
    → one_more reader left items bytes ≡ Ok (items ++ item ∷ [], after)
unfolding bind done
adds reader left items bytes item after here = rw here refl

adds_none : {E A : Type 0} (memory e : E) (reader : Reader E A) (left : ℕ) (items : List A) (bytes : List ℕ) → FailsAs memory e (reader bytes)
    → FailsAs memory e (one_more reader left items bytes)
unfolding bind
adds_none memory e reader left items bytes here = FailsAs-continue_with memory e (reader bytes) _ here

pub list_goes_on : {E A : Type 0} (reader : Reader E A) (count i : ℕ) (items : List A) (bytes : List ℕ) (item : A) (after : List ℕ) (all : Read E (List A)) → i < count
    → reader bytes ≡ Ok (item, after) → turns (one_more reader) (count - i) items bytes ≡ all → turns (one_more reader) (count - (i + 1)) (items ++ item ∷ []) after ≡ all
list_goes_on reader count i items bytes item after all lt here so_far =
    goes_on (one_more reader) count i items (items ++ item ∷ []) bytes after all lt (adds reader (count - (i + 1)) items bytes item after here) so_far

pub list_fails : {E A : Type 0} (memory e : E) (reader : Reader E A) (count i : ℕ) (items : List A) (bytes : List ℕ) (all : Read E (List A)) → i < count
    → FailsAs memory e (reader bytes) → turns (one_more reader) (count - i) items bytes ≡ all → FailsAs memory e all
list_fails memory e reader count i items bytes all lt here so_far =
    fails memory e (one_more reader) count i items bytes all lt (adds_none memory e reader (count - (i + 1)) items bytes here) so_far
