-- Pieces that were added one after the other.
use Rattle.std.proofs.Common.{◌≡◌, ℕ, List, ◌++◌, [], append_assoc, append-nil}

pub appended : (xs ys zs : List ℕ) → (xs ++ ys) ++ zs ≡ xs ++ (ys ++ zs)
appended xs ys zs = append_assoc xs ys zs

pub nothing_more : (xs : List ℕ) → xs ++ [] ≡ xs
nothing_more xs = append-nil xs
