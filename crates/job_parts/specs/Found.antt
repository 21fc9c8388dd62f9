-- Which parts a store's contents lead to.
use Rattle.std.specs.Prelude.{◌≡◌, ◌⊎◌, ℕ, List, Option, Some, None, Result, Err, MatchResult}
use Rattle.axe_io.specs.Ends.{Told, IsContent, IsLonger}
use Rattle.class_file.specs.Contents.{Contents}
use Rattle.class_file.specs.declared.class.MethodId.{MethodId}
use Rattle.verdict_text.specs.declared.verdict.Refusal.{Refusal}
use Rattle.job_parts.specs.Parts.{Asked, Parts}
use Rattle.job_parts.specs.Stages.{method_stage, parts_stage}

-- what a store gave under a name: None where that is too long
abbrev pub IsGiven : Told → Option (List ℕ) → Type 0
IsGiven told None = IsLonger told 1048576
IsGiven told (Some bytes) = IsContent told bytes

-- the specification that the store gave leads to these parts, or to this refusal
abbrev pub IsSpecFound : Asked → (List ℕ → Told) → Result Parts Refusal → Contents × MethodId → Type 0
IsSpecFound w holds found cm = (spec : Option (List ℕ)) × IsGiven (holds w.spec) spec × (found ≡ parts_stage w cm spec)

-- the class and the specification that the store gave lead to these parts, or to this refusal
abbrev pub IsFound : Asked → (List ℕ → Told) → Result Parts Refusal → Type 0
IsFound w holds found = (class : Option (List ℕ)) × IsGiven (holds w.class) class × MatchResult (method_stage w class) (IsSpecFound w holds found) (λ r. found ≡ Err r)

-- the class has the method, and nothing stands under the specification's name
abbrev pub LacksSpec : Asked → (List ℕ → Told) → Type 0
LacksSpec w holds = (class : Option (List ℕ)) × IsGiven (holds w.class) class × MatchResult (method_stage w class) (λ _. holds w.spec ≡ Some None) (λ _. ⊥)

-- nothing stands under a name when it is read: the class is read first, and the specification once its method is found
abbrev pub IsMissing : Asked → (List ℕ → Told) → Type 0
IsMissing w holds = (holds w.class ≡ Some None) ⊎ LacksSpec w holds
