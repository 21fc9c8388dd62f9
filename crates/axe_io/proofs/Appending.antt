-- One text after another.
use Rattle.std.proofs.Common.{◌≡◌, ℕ, ◌+◌, ◌-◌, List, ◌++◌, Option, Some, None, take, drop, length, refl, ◌∙◌, append_assoc, length-drop, arith}
use Rattle.std.proofs.lemmas.List.{take_all}
use Rattle.std.proofs.Math.Seq.{take-add}
use Rattle.axe_io.specs.Ends.{Appends}

pub Appends-then : (a b c : Option (List ℕ)) (x y : List ℕ) → Appends a b x → Appends b c y → Appends a c (x ++ y)
Appends-then None b c x y p q = q ∙ rw p refl
Appends-then (Some a) b c x y p q = q ∙ rw p (simp append_assoc)

-- what stands after m of the elements, as an index `m..` gives it
pub rest_is : (m : ℕ) (xs : List ℕ) → take (length xs - m) (drop m xs) ≡ drop m xs
rest_is m xs = take_all (length xs - m) (drop m xs) (omega (arith, length-drop m xs))

-- after m bytes of a text, the n bytes that follow them
pub Appends-more : (a b c : Option (List ℕ)) (text : List ℕ) (m n : ℕ) → Appends a b (take m text) → Appends b c (take n (take (length text - m) (drop m text))) → Appends a c (take (m + n) text)
Appends-more a b c text m n p q = rw take-add (Appends-then a b c (take m text) (take n (drop m text)) p (rw rest_is at q))
