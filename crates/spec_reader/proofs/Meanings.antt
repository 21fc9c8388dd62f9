-- Names of which the first meaning counts.
use Rattle.std.proofs.Common.{◌≡◌, ℕ, Bool, true, false, cond, List, Option, Some, None, refl, sym, ap, ◌∙◌}
use Rattle.std.specs.Str.{bytes_eq}
use Rattle.std.proofs.lemmas.Slice.Eq.{bytes_eq-Decides}
use Rattle.spec_reader.specs.declared.meaning.Meaning.{Meaning}
use Rattle.spec_reader.specs.Forms.{Meanings, or_meaning}

or_none : (m : Option Meaning) → m ≡ or_meaning m None
or_none None = refl
or_none (Some m) = refl

-- a name that is new
inserted_by : (b : Bool) (before : Option Meaning) (m : Meaning) → (b ≡ true → before ≡ None) → cond b (Some m) before ≡ or_meaning before (cond b (Some m) None)
inserted_by true before m absent = ap (λ (o : Option Meaning). or_meaning o (Some m)) (sym (absent refl))
inserted_by false before m absent = or_none before

pub inserted : (before : Meanings) (name other : List ℕ) (m : Meaning) (after : Option Meaning) → None ≡ before name → after ≡ cond (bytes_eq name other) (Some m) (before other) → after ≡ or_meaning (before other) (cond (bytes_eq name other) (Some m) None)
inserted before name other m after absent is = is ∙ inserted_by (bytes_eq name other) (before other) m (λ same. ap before (sym ((bytes_eq-Decides name other).0 same)) ∙ sym absent)

-- a name that has a meaning
known_by : (b : Bool) (before : Option Meaning) (m known : Meaning) → (b ≡ true → before ≡ Some known) → before ≡ or_meaning before (cond b (Some m) None)
known_by true before m known is = is refl ∙ ap (λ (o : Option Meaning). or_meaning o (Some m)) (sym (is refl))
known_by false before m known is = or_none before

pub known : (before : Meanings) (name other : List ℕ) (m first : Meaning) → Some first ≡ before name → before other ≡ or_meaning (before other) (cond (bytes_eq name other) (Some m) None)
known before name other m first is = known_by (bytes_eq name other) (before other) m first (λ same. ap before (sym ((bytes_eq-Decides name other).0 same)) ∙ sym is)
