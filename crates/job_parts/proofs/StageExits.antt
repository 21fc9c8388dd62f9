-- What a job is found to be, exit by exit.
use Rattle.std.proofs.Common.{◌≡◌, ℕ, List, Option, Some, None, Result, Ok, Err, refl, sym, ap, ◌∙◌, subst, inl, inr}
use Rattle.std.specs.Prelude.{MatchResult}
use Rattle.axe_io.specs.Ends.{Told, IsContent, IsLonger, Rose, HasReadCause}
use Rattle.axe_io.specs.declared.store.StoreError.{StoreError}
use Rattle.axe_io.specs.declared.store.StoreError.TheVariants as store
use Rattle.class_file.specs.Contents.{Contents}
use Rattle.class_file.specs.declared.class.MethodId.{MethodId}
use Rattle.verdict_text.specs.declared.verdict.Refusal.{Refusal}
use Rattle.job_parts.specs.declared.given.Named.{Named}
use Rattle.job_parts.specs.declared.given.Named.TheVariants as named
use Rattle.job_parts.specs.declared.parts.Stop.{Stop}
use Rattle.job_parts.specs.declared.parts.Stop.TheVariants.{Refused, ReadFault, Memory}
use Rattle.job_parts.specs.declared.parts.Parts as code
use Rattle.job_parts.specs.Parts.{Asked, Parts, parts, Fails, Gives}
use Rattle.job_parts.specs.Stages.{method_stage, parts_stage}
use Rattle.job_parts.specs.Found.{IsFound, IsSpecFound}
use Rattle.job_parts.specs.Causes.{HasGivenCause, HasFindCause, stop_of}

-- a read's cause is that of the stop
pub read_stops : (told : Told) (which : Named) (before now : ℕ) (e : StoreError) → HasReadCause told 1048576 before now e → HasGivenCause told which before now (stop_of e which)
read_stops told which before now store.Failed h = h
read_stops told which before now (store.TooLong limit) h = (refl, h.1, h.2)
read_stops told which before now store.Memory h = h

-- something stands where content was read
stands : (told : Told) (bytes : List ℕ) → IsContent told bytes → told ≡ Some None → ⊥
stands None bytes h e = cc
stands (Some content) bytes h e = cc

pub class_fails : (w : Asked) (holds : List ℕ → Told) (before now : ℕ) (e : Stop) → HasGivenCause (holds w.class) named.Class before now e → HasFindCause w holds before now e
unfolding method_stage
class_fails w holds before now (Refused r) h = let none : Option (List ℕ) = None in ((none, h.1, ap (λ (q : Refusal). Err q) h.0), h.2)
class_fails w holds before now ReadFault (inl rose) = inl rose
class_fails w holds before now ReadFault (inr missing) = inr (inl missing)
class_fails w holds before now Memory h = h

pub method_fails : (w : Asked) (holds : List ℕ → Told) (before now : ℕ) (class : List ℕ) (e : Stop) → IsContent (holds w.class) class → now ≡ before → Fails e (method_stage w (Some class)) → HasFindCause w holds before now e
method_fails w holds before now class (Refused r) content same h = let some : Option (List ℕ) = Some class in ((some, content, rw h refl), same)
method_fails w holds before now class ReadFault content same h = absurd h
method_fails w holds before now class Memory content same h = (stands (holds w.class) class content, same)

-- the class that was given has the method
pub record HasMethod (w : Asked) (holds : List ℕ → Told) (class : List ℕ) (m : Contents × MethodId) : Type 0 where
  pub content : IsContent (holds w.class) class
  pub method : method_stage w (Some class) ≡ Ok m

found_with : (w : Asked) (holds : List ℕ → Told) (class : List ℕ) (m : Contents × MethodId) (found : Result Parts Refusal) → HasMethod w holds class m → IsSpecFound w holds found m → IsFound w holds found
found_with w holds class m found has spec = let some : Option (List ℕ) = Some class in (some, has.content, rw has.method spec)

pub spec_fails : (w : Asked) (holds holds' : List ℕ → Told) (a b c : ℕ) (class : List ℕ) (m : Contents × MethodId) (e : Stop) → HasMethod w holds class m → ((n : List ℕ) → holds' n ≡ holds n) → b ≡ a → HasGivenCause (holds' w.spec) named.Spec b c e → HasFindCause w holds a c e
unfolding parts_stage
spec_fails w holds holds' a b c class m (Refused r) has kept same h =
    let none : Option (List ℕ) = None in
    let longer : IsLonger (holds w.spec) 1048576 = rw (← kept w.spec) h.1 in
    (found_with w holds class m (Err r) has (none, longer, ap (λ (q : Refusal). Err q) h.0), h.2 ∙ same)
spec_fails w holds holds' a b c class m ReadFault has kept same (inl rose) = inl (subst (λ (k : ℕ). Rose k c) same rose)
spec_fails w holds holds' a b c class m ReadFault has kept same (inr missing) =
    let some : Option (List ℕ) = Some class in
    let none : holds w.spec ≡ Some None = sym (kept w.spec) ∙ missing in
    inr (inr (some, has.content, rw has.method none))
spec_fails w holds holds' a b c class m Memory has kept same h = (stands (holds w.class) class has.content, h.1 ∙ same)

pub parts_found : (w : Asked) (holds holds' : List ℕ → Told) (class spec : List ℕ) (m : Contents × MethodId) (found : Result Parts Refusal) → HasMethod w holds class m → ((n : List ℕ) → holds' n ≡ holds n) → IsContent (holds' w.spec) spec → parts_stage w m (Some spec) ≡ found → IsFound w holds found
parts_found w holds holds' class spec m found has kept content is =
    let some : Option (List ℕ) = Some spec in
    let here : IsContent (holds w.spec) spec = rw (← kept w.spec) content in
    found_with w holds class m found has (some, here, sym is)

pub parts_give : (w : Asked) (holds holds' : List ℕ → Told) (before now : ℕ) (class spec : List ℕ) (m : Contents × MethodId) (r : Result code.Parts Stop) → HasMethod w holds class m → ((n : List ℕ) → holds' n ≡ holds n) → IsContent (holds' w.spec) spec → now ≡ before → Gives parts r (parts_stage w m (Some spec))
    → MatchResult r (λ p. IsFound w holds (Ok (parts p)) × (now ≡ before)) (HasFindCause w holds before now)
parts_give w holds holds' before now class spec m (Ok p) has kept content same h = (parts_found w holds holds' class spec m (Ok (parts p)) has kept content h, same)
parts_give w holds holds' before now class spec m (Err (Refused r)) has kept content same h = (parts_found w holds holds' class spec m (Err r) has kept content h, same)
parts_give w holds holds' before now class spec m (Err ReadFault) has kept content same h = absurd h
parts_give w holds holds' before now class spec m (Err Memory) has kept content same h = (stands (holds w.class) class has.content, same)
