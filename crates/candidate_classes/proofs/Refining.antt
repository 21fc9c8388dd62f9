-- Refined partitions.
use Rattle.std.proofs.Common.{◌≡◌, ◌≢◌, ℕ, ◌+◌, ◌<◌, ◌≤◌, List, length, set, refl, sym, ◌∙◌, ap, subst, arith, inl, inr, get_or-set_same, get_or-set_other, length-set}
use Rattle.std.specs.Prelude.{slice_index}
use Rattle.std.proofs.lemmas.Bool.{cases_lt}
use mathlib.Core.Logic.{dite}
use native.Mathlib.Decide.{ℕ_discrete}
use Rattle.candidate_classes.specs.Filing.{SameKey, IsLeast, IsLast, AreFiled, slot}

pub slot_same : (leaders values : List ℕ) (a b : ℕ) → SameKey leaders values a b → slot leaders values a ≡ slot leaders values b
slot_same leaders values a b h = cc

pub key_sym : (leaders values : List ℕ) (a b : ℕ) → SameKey leaders values a b → SameKey leaders values b a
key_sym leaders values a b h = (sym h.0, sym h.1)

pub key_trans : (leaders values : List ℕ) (a b c : ℕ) → SameKey leaders values a b → SameKey leaders values b c → SameKey leaders values a c
key_trans leaders values a b c h i = (h.0 ∙ i.0, h.1 ∙ i.1)

-- the new leader of a place before k is its own
own : (leaders values finer : List ℕ) (k m : ℕ) → k < length leaders → ((j : ℕ) → j < k → IsLeast leaders values (slice_index finer j) j) → m < k
    → (j : ℕ) × (j < k) × (slice_index finer j ≡ j) × SameKey leaders values j m
own leaders values finer k m inside each lt =
    let j : ℕ = slice_index finer m in
    let is : IsLeast leaders values j m = each m lt in
    let jm : j ≤ m = is.least m (omega arith) (refl, refl) in
    let jk : j < k = omega arith in
    let js : IsLeast leaders values (slice_index finer j) j = each j jk in
    let down : slice_index finer j ≤ j = js.least j (omega arith) (refl, refl) in
    let up : j ≤ slice_index finer j = is.least (slice_index finer j) (omega arith) (key_trans leaders values _ _ _ js.same is.same) in
    (j, jk, omega arith, is.same)

-- where no leader of its key is filed, a place is the least of its key
pub ends : (leaders values finer : List ℕ) (k : ℕ) → k < length leaders → ((j : ℕ) → j < k → IsLeast leaders values (slice_index finer j) j)
    → ((j : ℕ) → j < k → slice_index finer j ≡ j → SameKey leaders values j k → ⊥) → IsLeast leaders values k k
ends leaders values finer k inside each none = record {
  same = (refl, refl);
  least = λ m within same. elim (cases_lt m k) [
    | inl lt ↦ (let o = own leaders values finer k m inside each lt in absurd (none o.0 o.1 o.2 (key_trans leaders values _ _ _ o.3 same)))
    | inr ge ↦ ge
  ];
}

-- a filed leader of the same key is the least
pub finds : (leaders values finer : List ℕ) (k j : ℕ) → ((i : ℕ) → i < k → IsLeast leaders values (slice_index finer i) i) → j < k → slice_index finer j ≡ j → SameKey leaders values j k → IsLeast leaders values j k
finds leaders values finer k j each lt is same = record {
  same = same;
  least = λ m within h. let e : slice_index finer j ≤ m = (each j lt).least m within (key_trans leaders values _ _ _ h (key_sym leaders values _ _ same)) in omega arith;
}

-- a chain after k has its new leader
module _ (leaders values finer : List ℕ) (k v : ℕ) where
  below : (j : ℕ) → j < k → slice_index (set finer k v) j ≡ slice_index finer j
  below j lt = let ne : j ≢ k = omega arith in get_or-set_other finer k j v 0 ne

  pub still : (s i at : ℕ) → i ≤ k → IsLast leaders values finer s i at → IsLast leaders values (set finer k v) s i at
  still s i at le h = record {
    low = h.low;
    there = λ j e. let low : at ≤ i = h.low in let lt : j < k = omega arith in ((h.there j e).0, below j lt ∙ (h.there j e).1);
    covers = λ j lt own same. h.covers j lt (sym (below j (omega arith)) ∙ own) same;
  }

  at_k : k < length finer → slice_index (set finer k v) k ≡ v
  at_k lt = get_or-set_same finer k v 0 lt

  -- a slot in which k isn't filed
  pub passes : (s at : ℕ) → k < length finer → (slot leaders values k ≡ s → v ≡ k → ⊥) → IsLast leaders values finer s k at → IsLast leaders values (set finer k v) s (k + 1) at
  passes s at lt other h = record {
    low = omega (arith, h.low);
    there = (still s k at (omega arith) h).there;
    covers = λ j low own same. elim (cases_lt j k) [
      | inl l ↦ (still s k at (omega arith) h).covers j l own same
      | inr ge ↦ (let e : j ≡ k = omega arith in absurd (other (subst (λ (i : ℕ). slot leaders values i ≡ s) e same) (sym (at_k lt) ∙ subst (λ (i : ℕ). slice_index (set finer k v) i ≡ i) e own)))
    ];
  }

  -- the slot in which it is filed
  pub takes : (s at : ℕ) → k < length finer → slot leaders values k ≡ s → v ≡ k → IsLast leaders values finer s k at → IsLast leaders values (set finer k v) s (k + 1) (k + 1)
  takes s at lt here self h = record {
    low = omega arith;
    there = λ j e. let is : k ≡ j = omega arith in (subst (λ (i : ℕ). slot leaders values i ≡ s) is here, subst (λ (i : ℕ). slice_index (set finer k v) i ≡ i) is (at_k lt ∙ self));
    covers = λ j low own same. omega arith;
  }

each_more : (leaders values finer : List ℕ) (k v : ℕ) → k < length finer → ((j : ℕ) → j < k → IsLeast leaders values (slice_index finer j) j) → IsLeast leaders values v k → (j : ℕ) → j < k + 1 → IsLeast leaders values (slice_index (set finer k v) j) j
each_more leaders values finer k v inside each new j lt = elim (cases_lt j k) [
  | inl l ↦ (let ne : j ≢ k = omega arith in subst (λ (i : ℕ). IsLeast leaders values i j) (sym (get_or-set_other finer k j v 0 ne)) (each j l))
  | inr ge ↦ (let e : k ≡ j = omega arith in subst (λ (i : ℕ). IsLeast leaders values (slice_index (set finer k v) i) i) e (subst (λ (i : ℕ). IsLeast leaders values i k) (sym (get_or-set_same finer k v 0 inside)) new))
]

before_more : (leaders values finer nexts : List ℕ) (k v first : ℕ) → k < length nexts → ((i : ℕ) → i < k → IsLast leaders values finer (slot leaders values i) i (slice_index nexts i)) → IsLast leaders values finer (slot leaders values k) k first
    → (i : ℕ) → i < k + 1 → IsLast leaders values (set finer k v) (slot leaders values i) i (slice_index (set nexts k first) i)
before_more leaders values finer nexts k v first inside each new i lt = elim (cases_lt i k) [
  | inl l ↦ (let ne : i ≢ k = omega arith in subst (λ (at : ℕ). IsLast leaders values (set finer k v) (slot leaders values i) i at) (sym (get_or-set_other nexts k i first 0 ne)) (still leaders values finer k v _ i _ (omega arith) (each i l)))
  | inr ge ↦ (let e : k ≡ i = omega arith in subst (λ (j : ℕ). IsLast leaders values (set finer k v) (slot leaders values j) j (slice_index (set nexts k first) j)) e
      (subst (λ (at : ℕ). IsLast leaders values (set finer k v) (slot leaders values k) k at) (sym (get_or-set_same nexts k first 0 inside)) (still leaders values finer k v _ k _ (omega arith) new)))
]

slot_in : (leaders values : List ℕ) (k : ℕ) → k < length leaders → slot leaders values k < length leaders
slot_in leaders values k lt = let pos : 0 < length leaders = omega arith in omega arith

-- one place more has its leader
pub filed_more : (leaders values finer heads nexts : List ℕ) (k v first s : ℕ) → s ≡ slot leaders values k → first ≡ slice_index heads s → k < length leaders → AreFiled leaders values finer heads nexts k → IsLeast leaders values v k → (v ≡ k → ⊥)
    → AreFiled leaders values (set finer k v) heads (set nexts k first) (k + 1)
filed_more leaders values finer heads nexts k v first s s-is first-is inside h new other =
    let kf : k < length finer = omega (arith, h.finer_size) in let kn : k < length nexts = omega (arith, h.nexts_size) in
    let t : ℕ = slot leaders values k in
    record {
      finer_size = omega (arith, length-set finer k v, h.finer_size);
      heads_size = h.heads_size;
      nexts_size = omega (arith, length-set nexts k first, h.nexts_size);
      each = each_more leaders values finer k v kf h.each new;
      last_in = λ u lt. passes leaders values finer k v u _ kf (λ here self. other self) (h.last_in u lt);
      last_before = before_more leaders values finer nexts k v first kn h.last_before (subst (λ (at : ℕ). IsLast leaders values finer t k at) (sym (first-is ∙ ap (slice_index heads) s-is)) (h.last_in t (slot_in leaders values k inside)));
    }

pub filed_own : (leaders values finer heads nexts : List ℕ) (k v first s : ℕ) → s ≡ slot leaders values k → first ≡ slice_index heads s → k < length leaders → AreFiled leaders values finer heads nexts k → IsLeast leaders values v k → v ≡ k
    → AreFiled leaders values (set finer k v) (set heads s (k + 1)) (set nexts k first) (k + 1)
filed_own leaders values finer heads nexts k v first s s-is first-is inside h new self =
    let kf : k < length finer = omega (arith, h.finer_size) in let kn : k < length nexts = omega (arith, h.nexts_size) in
    let sin : s < length leaders = subst (λ (i : ℕ). i < length leaders) (sym s-is) (slot_in leaders values k inside) in let sh : s < length heads = omega (arith, h.heads_size) in
    record {
      finer_size = omega (arith, length-set finer k v, h.finer_size);
      heads_size = omega (arith, length-set heads s (k + 1), h.heads_size);
      nexts_size = omega (arith, length-set nexts k first, h.nexts_size);
      each = each_more leaders values finer k v kf h.each new;
      last_in = λ t lt. dite (ℕ_discrete t s)
          (λ e. subst (λ (u : ℕ). IsLast leaders values (set finer k v) u (k + 1) (slice_index (set heads s (k + 1)) u)) (sym e)
          (subst (λ (at : ℕ). IsLast leaders values (set finer k v) s (k + 1) at) (sym (get_or-set_same heads s (k + 1) 0 sh)) (takes leaders values finer k v s _ kf (sym s-is) self (h.last_in s sin))))
          (λ ne. subst (λ (at : ℕ). IsLast leaders values (set finer k v) t (k + 1) at) (sym (get_or-set_other heads s t (k + 1) 0 ne)) (passes leaders values finer k v t _ kf (λ here _. ne (sym here ∙ sym s-is)) (h.last_in t lt)));
      last_before = before_more leaders values finer nexts k v first kn h.last_before (subst (λ (u : ℕ). IsLast leaders values finer u k first) s-is (subst (λ (at : ℕ). IsLast leaders values finer s k at) (sym first-is) (h.last_in s sin)));
    }
