-- A counter's entries stay none, and a pass keeps its numbers.
use Rattle.std.proofs.Common.{◌≡◌, ◌++◌, List, [], ap, sym, ◌∙◌, append_assoc, append-nil}
use Rattle.turn_lock.specs.Entries.{History, Rows, grown, numbers_of}
use Rattle.turn_lock.proofs.RowLemmas.{numbers_of-grown}

-- what stands after some entries stands with nothing added
pub nothing_added : {E : Type 0} (base front all : List E) → all ≡ base ++ front → all ≡ base ++ (front ++ [])
nothing_added {E} base front all is = is ∙ ap (λ (l : List E). base ++ l) (sym (append-nil front))

-- what stands after some entries stands with more behind them
pub more_added : {E : Type 0} (base front added old all : List E) → old ≡ base ++ front → all ≡ old ++ added → all ≡ base ++ (front ++ added)
more_added {E} base front added old all was is = is ∙ (ap (λ (l : List E). l ++ added) was ∙ append_assoc base front added)

-- a turn keeps the numbers
pub as_numbered : {E : Type 0} (added : History E) (rows out : Rows E) → out ≡ grown added rows → numbers_of out ≡ numbers_of rows
as_numbered {E} added rows out is = ap (λ (l : Rows E). numbers_of l) is ∙ numbers_of-grown added rows
