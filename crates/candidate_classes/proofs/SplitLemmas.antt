-- The steps of a split, seen as lists.
use Rattle.std.proofs.Common.{◌≡◌, ℕ, zero, suc, ◌<◌, ◌≤◌, List, [], ◌∷◌, ◌++◌, length, take, refl, sym, ◌∙◌, ap, subst, arith, get_or, inl, inr, All}
use Rattle.std.specs.Prelude.{slice_index}
use Rattle.std.specs.List.{AllPairs}
use Rattle.std.proofs.Math.Seq.{take-append_seam}
use Rattle.std.proofs.lemmas.List.{get_or_default}
use Rattle.candidate_classes.specs.Partition.{AreLeaders, AreParting}
use Rattle.candidate_classes.specs.Filing.{IsLeast, of_places}
use Rattle.candidate_classes.proofs.MemberLemmas.{AreLed, refined, still_parting, of_places_size, member, place_of}

-- a slice of a list that was written whole is the list
pub written : (n : ℕ) (before new rest seen : List ℕ) → length new ≡ length before → length before ≡ n → seen ≡ take n (new ++ rest) → seen ≡ new
written n before new rest seen size whole is = is ∙ ap (λ (k : ℕ). take k (new ++ rest)) (sym whole ∙ sym size) ∙ take-append_seam new rest

-- numbers that rise are no less than their places
at_least : (xs : List ℕ) (i : ℕ) → AllPairs (λ (a b : ℕ). a < b) xs → i < length xs → i ≤ slice_index xs i
at_least xs zero rising lt = omega arith
at_least xs (suc i) rising lt =
    let before : i ≤ slice_index xs i = at_least xs i rising (omega (arith, lt)) in
    let more : slice_index xs i < slice_index xs (suc i) = rising i (suc i) 0 (omega arith) lt in
    omega (arith, before, more)

-- there are no more members than places
pub few_members : (leaders members : List ℕ) → AreParting leaders members → length members ≤ length leaders
few_members leaders members h = on (length members) refl
  where
    on : (n : ℕ) → n ≡ length members → length members ≤ length leaders
    on zero e = omega (arith, e)
    on (suc n) e =
        let last : n < length members = omega (arith, e) in
        let low : n ≤ slice_index members n = at_least members n h.rising last in
        let inside : slice_index members n < length leaders = h.inside n 0 last in
        omega (arith, e, low, inside)

-- the least place of each member's key
abbrev pub HaveLeast : List ℕ → List ℕ → List ℕ → List ℕ → Type 0
HaveLeast leaders members values finer = (i : ℕ) → i < length members → IsLeast (of_places leaders members) (of_places values members) (slice_index finer i) i

pub low_places : (leaders members values finer : List ℕ) → HaveLeast leaders members values finer → (i : ℕ) → i < length members → slice_index finer i ≤ i
low_places leaders members values finer least i lt = (least i lt).least i (omega (arith, of_places_size leaders members, lt)) (refl, refl)

pub low_seen : (leaders members values finer places found : List ℕ) → places ≡ members → found ≡ finer → HaveLeast leaders members values finer → (i : ℕ) → i < length places → slice_index found i ≤ i
low_seen leaders members values finer places found there is least =
    subst (λ (xs : List ℕ). (i : ℕ) → i < length xs → slice_index found i ≤ i) (sym there)
    (subst (λ (xs : List ℕ). (i : ℕ) → i < length members → slice_index xs i ≤ i) (sym is) (low_places leaders members values finer least))

-- leaders stand among the places
pub led_inside : (old members finer new : List ℕ) → ((i : ℕ) → i < length members → slice_index finer i ≤ i) → AreLed old members finer new → AreParting old members → All (λ (l : ℕ). l < length new) new
led_inside old members finer new low led h k d lt = elim (member members k) [
  | inl c ↦ (let p = place_of members k c in
      let j : ℕ = slice_index finer p.0 in
      let le : j ≤ p.0 = low p.0 p.1 in
      let leads : slice_index members j ≡ get_or new k d = sym (led.led p.0 p.1) ∙ ap (slice_index new) p.2 ∙ get_or_default new k 0 d lt in
      let inside : slice_index members j < length old = h.inside j 0 (omega (arith, le, p.1)) in
      omega (arith, inside, leads, led.size))
  | inr out ↦ (let itself : k ≡ get_or new k d = sym (h.itself k (omega (arith, lt, led.size)) out) ∙ sym (led.others k out) ∙ get_or_default new k 0 d lt in
      omega (arith, itself, lt))
]

-- what finding the least places and leading make of leaders
pub record AreSplit (old members values finer new : List ℕ) : Type 0 where
  pub least : HaveLeast old members values finer
  pub led : AreLed old members finer new

-- each step has seen the same lists
pub as_split : (old members values finer new first places second others found : List ℕ) → first ≡ old → places ≡ members → second ≡ old → others ≡ members → found ≡ finer
    → HaveLeast first places values finer → AreLed second others found new → AreSplit old members values finer new
as_split old members values finer new first places second others found is there was here found-is least led = record {
  least = subst (λ (xs : List ℕ). HaveLeast xs members values finer) is (subst (λ (xs : List ℕ). HaveLeast first xs values finer) there least);
  led = subst (λ (xs : List ℕ). AreLed xs members finer new) was (subst (λ (xs : List ℕ). AreLed second xs finer new) here (subst (λ (xs : List ℕ). AreLed second others xs new) found-is led));
}

pub split_inside : (old members values finer new seen : List ℕ) → AreParting old members → AreSplit old members values finer new → seen ≡ new → All (λ (l : ℕ). l < length seen) seen
split_inside old members values finer new seen h made is =
    subst (λ (xs : List ℕ). All (λ (l : ℕ). l < length xs) xs) (sym is) (led_inside old members finer new (low_places old members values finer made.least) made.led h)

pub split_parting : (old members values finer new seen : List ℕ) → AreParting old members → AreSplit old members values finer new → seen ≡ new → AreParting seen members
split_parting old members values finer new seen h made is =
    subst (λ (xs : List ℕ). AreParting xs members) (sym is) (still_parting old members finer new (low_places old members values finer made.least) made.led h)

pub split_leaders : (old members values finer new seen entry : List ℕ) → AreParting old members → AreSplit old members values finer new → seen ≡ new → old ≡ entry
    → (columns : List (List ℕ)) → AreLeaders columns entry → AreLeaders (columns ++ values ∷ []) seen
split_leaders old members values finer new seen entry h made is was columns are =
    subst (AreLeaders (columns ++ values ∷ [])) (sym is) (refined columns old new members finer values (subst (AreLeaders columns) (sym was) are) h made.led made.least)
