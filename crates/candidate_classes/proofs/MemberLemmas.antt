-- Which places may still be parted, and what a split makes of leaders.
use Rattle.std.proofs.Common.{◌≡◌, ◌≢◌, ℕ, zero, suc, ◌+◌, ◌^◌, ◌<◌, ◌≤◌, Bool, true, false, cond, List, [], ◌∷◌, ◌++◌, length, filter, set, refl, sym, ◌∙◌, ap, subst, arith, Some, ◌⊎◌, inl, inr, get_or, get_or-set_same, get_or-set_other, length-set, length-append}
use Rattle.std.specs.Prelude.{slice_get, slice_index, replicate}
use Rattle.std.specs.List.{Contains, AllPairs, range_with_len}
use Rattle.std.proofs.lemmas.Bool.{cases_lt, lt-ltb, eq-eqb}
use Rattle.std.proofs.lemmas.Option.{slice_get-get_or, slice_get_within, get_or_from_slice_get}
use Rattle.std.proofs.lemmas.List.Elements.{All-push, All-filter}
use Rattle.std.proofs.lemmas.List.Kept.{AllPairs-filter}
use Rattle.std.proofs.lemmas.List.{get_or_append_left, get_or_push, get_or-replicate, get_or-map, get_or_default, set_past, length-map, length-replicate}
use Rattle.std.proofs.lemmas.List.FromFn.{length-range_with_len, get_or-range_with_len}
use mathlib.Core.Logic.{dite}
use native.Mathlib.Decide.{ℕ_discrete}
use Rattle.candidate_classes.specs.Partition.{SameIn, IsLeader, AreLeaders, AreParting}
use Rattle.candidate_classes.specs.Filing.{IsLeast, of_places}
use Rattle.candidate_classes.specs.Marks.{is_marked}

-- a place is a member or not
pub member : (xs : List ℕ) (k : ℕ) → Contains xs k ⊎ (Contains xs k → ⊥)
member [] k = inr (λ h. let lt : h.0 < 0 = h.1 in omega (arith, lt))
member (x ∷ xs) k = dite (ℕ_discrete x k)
    (λ e. inl (0, omega arith, e))
    (λ ne. elim (member xs k) [
      | inl h ↦ inl (suc h.0, omega (arith, h.1), h.2)
      | inr out ↦ inr (λ h. other x xs k ne out h.0 h.1 h.2)
    ])
  where
    other : (x : ℕ) (xs : List ℕ) (k : ℕ) → x ≢ k → (Contains xs k → ⊥) → (i : ℕ) → i < length (x ∷ xs) → get_or (x ∷ xs) i k ≡ k → ⊥
    other x xs k ne out zero lt is = ne is
    other x xs k ne out (suc i) lt is = out (i, omega (arith, lt), is)

-- the place of a member, and the member of a place
pub place_of : (xs : List ℕ) (x : ℕ) → Contains xs x → (i : ℕ) × (i < length xs) × (slice_index xs i ≡ x)
place_of xs x h = (h.0, h.1, get_or_default xs h.0 0 x h.1 ∙ h.2)

pub is_member : (xs : List ℕ) (i x : ℕ) → i < length xs → slice_index xs i ≡ x → Contains xs x
is_member xs i x lt is = (i, lt, get_or_default xs i x 0 lt ∙ is)

-- two places of one number are the same, where numbers rise
pub rising_place : (xs : List ℕ) (i j : ℕ) → AllPairs (λ (a b : ℕ). a < b) xs → i < length xs → j < length xs → slice_index xs i ≡ slice_index xs j → i ≡ j
rising_place xs i j rising li lj is = elim (cases_lt i j) [
  | inl lt ↦ (let h : slice_index xs i < slice_index xs j = rising i j 0 lt lj in absurd (omega (arith, h, is)))
  | inr ge ↦ elim (cases_lt j i) [
    | inl lt ↦ (let h : slice_index xs j < slice_index xs i = rising j i 0 lt li in absurd (omega (arith, h, is)))
    | inr le ↦ omega (arith, ge, le)
  ]
]

pub rising_le : (xs : List ℕ) (i j : ℕ) → AllPairs (λ (a b : ℕ). a < b) xs → i ≤ j → j < length xs → slice_index xs i ≤ slice_index xs j
rising_le xs i j rising le lj = elim (cases_lt i j) [
  | inl lt ↦ (let h : slice_index xs i < slice_index xs j = rising i j 0 lt lj in omega (arith, h))
  | inr ge ↦ (let e : i ≡ j = omega arith in let h : slice_index xs i ≡ slice_index xs j = ap (slice_index xs) e in omega (arith, h))
]

-- what a filter keeps
pub kept_from : (p : ℕ → Bool) (xs : List ℕ) (x : ℕ) → Contains xs x → p x ≡ true → Contains (filter p xs) x
kept_from p [] x h so = absurd (let lt : h.0 < 0 = h.1 in omega (arith, lt))
kept_from p (y ∷ ys) x h so = on (λ c. kept_from p ys x c so) (p y) refl h.0 h.1 h.2
  where
    more : (v : Bool) (zs : List ℕ) → Contains zs x → Contains (cond v (y ∷ zs) zs) x
    more true zs c = (suc c.0, omega (arith, c.1), c.2)
    more false zs c = c

    on : (Contains ys x → Contains (filter p ys) x) → (v : Bool) → v ≡ p y → (i : ℕ) → i < length (y ∷ ys) → get_or (y ∷ ys) i x ≡ x → Contains (filter p (y ∷ ys)) x
    on rest true e zero lt is = subst (λ (b : Bool). Contains (cond b (y ∷ filter p ys) (filter p ys)) x) e (0, omega arith, is)
    on rest false e zero lt is = absurd (let t : p x ≡ false = ap p (sym is) ∙ sym e in cc)
    on rest v e (suc i) lt is = more (p y) (filter p ys) (rest (i, omega (arith, lt), is))

-- the number of a member in a list
pub of_place : (numbers places : List ℕ) (i : ℕ) → i < length places → slice_index (of_places numbers places) i ≡ slice_index numbers (slice_index places i)
of_place numbers places i lt = get_or-map (slice_index numbers) places i 0 0 lt

pub of_places_size : (numbers places : List ℕ) → length (of_places numbers places) ≡ length places
of_places_size numbers places = length-map places (slice_index numbers)

-- what `lead` makes of leaders
pub record AreLed (old members finer new : List ℕ) : Type 0 where
  pub size : length new ≡ length old
  pub led : (i : ℕ) → i < length members → slice_index new (slice_index members i) ≡ slice_index members (slice_index finer i)
  pub others : (k : ℕ) → (Contains members k → ⊥) → slice_index new k ≡ slice_index old k

-- the places that may be parted are still these
pub still_parting : (old members finer new : List ℕ) → ((i : ℕ) → i < length members → slice_index finer i ≤ i) → AreLed old members finer new → AreParting old members → AreParting new members
still_parting old members finer new low led h = record {
  inside = λ i d lt. let within : get_or members i d < length old = h.inside i d lt in omega (arith, led.size, within);
  rising = h.rising;
  itself = λ k lt no. led.others k no ∙ h.itself k (omega (arith, led.size)) no;
  alone = λ k m lt no is. elim (member members m) [
    | inl h ↦ (let c = place_of members m h in absurd (no (other k m is c.0 c.1 c.2)))
    | inr out ↦ h.alone k m (omega (arith, led.size)) no (sym (led.others m out) ∙ is)
  ];
}
  where
    other : (k m : ℕ) → slice_index new m ≡ k → (i : ℕ) → i < length members → slice_index members i ≡ m → Contains members k
    other k m is i lt at = let le : slice_index finer i ≤ i = low i lt in is_member members (slice_index finer i) k (omega (arith, le, lt)) (sym (led.led i lt) ∙ ap (slice_index new) at ∙ is)

-- a member that isn't its own leader has a mark, and its leader too
abbrev pub AreAllMarked : List ℕ → List ℕ → List ℕ → Type 0
AreAllMarked leaders members marks = (k : ℕ) → Contains members k → (slice_index leaders k ≡ k → ⊥) → (slice_index marks k ≡ 1) × (slice_index marks (slice_index leaders k) ≡ 1)

-- the members that are marked are enough
pub marked_part : (leaders members marks : List ℕ) → length marks ≡ length leaders → AreParting leaders members
    → AreAllMarked leaders members marks → AreParting leaders (filter (is_marked marks) members)
marked_part leaders members marks size h marked = record {
  inside = All-filter (is_marked marks) (λ (k : ℕ). k < length leaders) members h.inside;
  rising = AllPairs-filter (λ (a b : ℕ). a < b) (is_marked marks) members h.rising;
  itself = itself;
  alone = λ k m lt out_of is. elim (member members k) [
    | inl c ↦ dite (ℕ_discrete m k) (λ e. e) (λ ne. elim (member members m) [
      | inl d ↦ absurd (out_of (kept_from (is_marked marks) members k c (has_mark k (inside k c) (subst (λ (l : ℕ). slice_index marks l ≡ 1) is (marked m d (λ own. ne (sym own ∙ is))).1))))
      | inr out ↦ absurd (ne (sym (h.itself m lt out) ∙ is))
    ])
    | inr out ↦ h.alone k m lt out is
  ];
}
  where
    inside : (k : ℕ) → Contains members k → k < length leaders
    inside k c = let p = place_of members k c in subst (λ (j : ℕ). j < length leaders) p.2 (h.inside p.0 0 p.1)

    has_mark : (k : ℕ) → k < length leaders → slice_index marks k ≡ 1 → is_marked marks k ≡ true
    has_mark k lt one = rw (lt-ltb k (length marks) (omega (arith, size)), eq-eqb (slice_index marks k) 1 one) refl

    itself : (k : ℕ) → k < length leaders → (Contains (filter (is_marked marks) members) k → ⊥) → slice_index leaders k ≡ k
    itself k lt out_of = elim (member members k) [
      | inl c ↦ dite (ℕ_discrete (slice_index leaders k) k) (λ e. e) (λ ne. absurd (out_of (kept_from (is_marked marks) members k c (has_mark k lt (marked k c ne).0))))
      | inr out ↦ h.itself k lt out
    ]

-- what a split makes of leaders
pub refined : (columns : List (List ℕ)) (old new members finer values : List ℕ) → AreLeaders columns old → AreParting old members → AreLed old members finer new
    → ((i : ℕ) → i < length members → IsLeast (of_places old members) (of_places values members) (slice_index finer i) i) → AreLeaders (columns ++ values ∷ []) new
refined columns old new members finer values are h led least k l at =
    let within : k < length old = omega (arith, slice_get_within new k l at, led.size) in
    let is : slice_index new k ≡ l = get_or_from_slice_get new k l 0 at in
    elim (member members k) [
      | inl m ↦ (let c = place_of members k m in subst (λ (j : ℕ). IsLeader (columns ++ values ∷ []) l j) c.2 (moved c.0 c.1 (sym (led.led c.0 c.1) ∙ ap (slice_index new) c.2 ∙ is)))
      | inr out ↦ (let own : k ≡ l = sym (h.itself k within out) ∙ sym (led.others k out) ∙ is in subst (λ (j : ℕ). IsLeader (columns ++ values ∷ []) j k) own (stays k within out))
    ]
  where
    lead : (j : ℕ) → j < length old → IsLeader columns (slice_index old j) j
    lead j lt = are j (slice_index old j) (slice_get-get_or old j 0 lt)

    front : (m k : ℕ) → SameIn (columns ++ values ∷ []) m k → SameIn columns m k
    front m k h i d lt = subst (λ (c : List ℕ). slice_index c m ≡ slice_index c k) (get_or_append_left columns (values ∷ []) d i lt) (h i d (omega (arith, length-append columns (values ∷ []))))

    last : (m k : ℕ) → SameIn (columns ++ values ∷ []) m k → slice_index values m ≡ slice_index values k
    last m k h = subst (λ (c : List ℕ). slice_index c m ≡ slice_index c k) (get_or_push columns values [] (length columns) refl) (h (length columns) [] (omega (arith, length-append columns (values ∷ []))))

    -- one class so far: one leader
    one_leader : (m k : ℕ) → m < length old → k < length old → SameIn columns m k → slice_index old m ≡ slice_index old k
    one_leader m k lm lk same =
        let one : slice_index old k ≤ slice_index old m = (lead k lk).least (slice_index old m) (λ i d lt. (lead m lm).same i d lt ∙ same i d lt) in
        let two : slice_index old m ≤ slice_index old k = (lead m lm).least (slice_index old k) (λ i d lt. (lead k lk).same i d lt ∙ sym (same i d lt)) in
        omega (arith, one, two)

    -- a place that is a class of its own
    stays : (k : ℕ) → k < length old → (Contains members k → ⊥) → IsLeader (columns ++ values ∷ []) k k
    stays k within out = record {
      same = λ i d lt. refl;
      least = λ m same. elim (cases_lt m (length old)) [
        | inl lt ↦ (let e : m ≡ k = h.alone k m lt out (one_leader m k lt within (front m k same) ∙ h.itself k within out) in omega arith)
        | inr ge ↦ omega arith
      ];
    }

    -- a member
    moved : (i : ℕ) → i < length members → slice_index members (slice_index finer i) ≡ l → IsLeader (columns ++ values ∷ []) l (slice_index members i)
    moved i li lead_is =
        let new-is = least i li in
        let size : length (of_places old members) ≡ length members = of_places_size old members in
        let low : slice_index finer i ≤ i = new-is.least i (omega (arith, size)) (refl, refl) in
        let lf : slice_index finer i < length members = omega arith in
        let k : ℕ = slice_index members i in let j : ℕ = slice_index members (slice_index finer i) in
        let inj : j < length old = h.inside (slice_index finer i) 0 lf in let ink : k < length old = h.inside i 0 li in
        let old-is : slice_index old j ≡ slice_index old k = sym (of_place old members (slice_index finer i) lf) ∙ new-is.same.0 ∙ of_place old members i li in
        let val-is : slice_index values j ≡ slice_index values k = sym (of_place values members (slice_index finer i) lf) ∙ new-is.same.1 ∙ of_place values members i li in
        subst (λ (n : ℕ). IsLeader (columns ++ values ∷ []) n k) lead_is (record {
          same = All-push (λ (c : List ℕ). slice_index c j ≡ slice_index c k) columns values
              (λ x d lt. sym ((lead j inj).same x d lt) ∙ ap (slice_index (get_or columns x d)) old-is ∙ (lead k ink).same x d lt)
              val-is;
          least = λ m same. elim (cases_lt m (length old)) [
            | inl lt ↦ (
                let mk : slice_index old m ≡ slice_index old k = one_leader m k lt ink (front m k same) in
                elim (member members m) [
                  | inl n ↦ (
                      let c = place_of members m n in
                      let le : slice_index finer i ≤ c.0 = new-is.least c.0 (omega (arith, size, c.1))
                      (of_place old members c.0 c.1 ∙ ap (slice_index old) c.2 ∙ mk ∙ sym (of_place old members i li), of_place values members c.0 c.1 ∙ ap (slice_index values) c.2 ∙ last m k same ∙ sym (of_place values members i li)) in
                      let b : j ≤ slice_index members c.0 = rising_le members (slice_index finer i) c.0 h.rising le c.1 in
                      omega (arith, b, c.2))
                  | inr out ↦ (let e : k ≡ m = h.alone m k ink out (sym mk ∙ h.itself m lt out) in absurd (out (is_member members i m li e)))
                ])
            | inr ge ↦ omega (arith, inj)
          ];
        })

-- before the first split all places are in one class
pub one_class : (leaders : List ℕ) (n : ℕ) → leaders ≡ replicate n 0 → AreLeaders [] leaders
one_class leaders n e k l at =
    let zs : List ℕ = replicate n 0 in let within : k < length zs = slice_get_within (replicate n 0) k l (subst (λ (xs : List ℕ). slice_get xs k ≡ Some l) e at) in
    let size : length zs ≡ n = length-replicate n 0 in
    let lt : k < n = subst (λ (m : ℕ). k < m) size within in
    let z : slice_index leaders k ≡ 0 = ap (λ (xs : List ℕ). slice_index xs k) e ∙ get_or-replicate n k 0 0 lt in
    let is : l ≡ 0 = sym (get_or_from_slice_get leaders k l 0 at) ∙ z in
    record { same = λ i d li. absurd (none i li); least = λ m h. omega (arith, is) }
  where
    none : (i : ℕ) → i < 0 → ⊥
    none i h = omega arith

-- and all of them may be parted
pub all_parting : (leaders members : List ℕ) (n : ℕ) → leaders ≡ replicate n 0 → members ≡ range_with_len 0 n → AreParting leaders members
all_parting leaders members n zeros places =
    let size : length leaders ≡ n = ap length zeros ∙ length-replicate n 0 in
    let many : length members ≡ n = ap length places ∙ length-range_with_len 0 n in
    record {
      inside = λ i d lt. let is = at i d (omega (arith, many)) in omega (arith, is, size, many);
      rising = λ i j d lt lj. let one = at i d (omega (arith, many)) in let other = at j d (omega (arith, many)) in omega (arith, one, other);
      itself = λ k lt no. absurd (no (is_member members k k (omega (arith, size, many)) (at k 0 (omega (arith, size)))));
      alone = λ k m lt no is. absurd (no (zero_in k m is (omega (arith, size))));
    }
  where
    zero_plus : (i : ℕ) → 0 + i ≡ i
    zero_plus i = omega arith

    at : (i d : ℕ) → i < n → get_or members i d ≡ i
    at i d lt = ap (λ (xs : List ℕ). get_or xs i d) places ∙ get_or-range_with_len 0 n i d lt ∙ zero_plus i

    zero_in : (k m : ℕ) → slice_index leaders m ≡ k → m < n → Contains members k
    zero_in k m is lt =
        let z : slice_index leaders m ≡ 0 = ap (λ (xs : List ℕ). slice_index xs m) zeros ∙ get_or-replicate n m 0 0 lt in
        let e : 0 ≡ k = sym z ∙ is in
        let many : length members ≡ n = ap length places ∙ length-range_with_len 0 n in
        is_member members 0 k (omega (arith, many)) (at 0 0 (omega arith) ∙ e)

-- the loop that leads goes on by one
pub led_more : (members finer old now : List ℕ) (i v : ℕ) → AllPairs (λ (a b : ℕ). a < b) members → i < length members → slice_index members i < length now → v ≡ slice_index members (slice_index finer i)
    → ((j : ℕ) → j < i → slice_index now (slice_index members j) ≡ slice_index members (slice_index finer j))
    → (j : ℕ) → j < i + 1 → slice_index (set now (slice_index members i) v) (slice_index members j) ≡ slice_index members (slice_index finer j)
led_more members finer old now i v rising li inside is led j lt = elim (cases_lt j i) [
  | inl l ↦ (let below : slice_index members j < slice_index members i = rising j i 0 l li in let ne : slice_index members j ≢ slice_index members i = omega arith in
      get_or-set_other now (slice_index members i) (slice_index members j) v 0 ne ∙ led j l)
  | inr ge ↦ (let e : i ≡ j = omega arith in subst (λ (k : ℕ). slice_index (set now (slice_index members i) v) (slice_index members k) ≡ slice_index members (slice_index finer k)) e
      (get_or-set_same now (slice_index members i) v 0 inside ∙ is))
]

pub others_more : (members old now : List ℕ) (i v : ℕ) → i < length members → ((k : ℕ) → (Contains members k → ⊥) → slice_index now k ≡ slice_index old k)
    → (k : ℕ) → (Contains members k → ⊥) → slice_index (set now (slice_index members i) v) k ≡ slice_index old k
others_more members old now i v li others k out = dite (ℕ_discrete k (slice_index members i))
    (λ e. absurd (out (is_member members i k li (sym e))))
    (λ ne. get_or-set_other now (slice_index members i) k v 0 ne ∙ others k out)

-- the loop that marks goes on by one
abbrev pub AreMarked : List ℕ → List ℕ → List ℕ → ℕ → Type 0
AreMarked leaders members marks i = (j : ℕ) → j < i → (slice_index leaders (slice_index members j) ≡ slice_index members j → ⊥)
    → (slice_index marks (slice_index members j) ≡ 1) × (slice_index marks (slice_index leaders (slice_index members j)) ≡ 1)

marked_once : (marks : List ℕ) (a k : ℕ) → slice_index marks k ≡ 1 → slice_index (set marks a 1) k ≡ 1
marked_once marks a k one = dite (ℕ_discrete k a)
    (λ e. elim (cases_lt a (length marks)) [
      | inl lt ↦ ap (slice_index (set marks a 1)) e ∙ get_or-set_same marks a 1 0 lt
      | inr ge ↦ ap (λ (xs : List ℕ). slice_index xs k) (set_past marks a 1 ge) ∙ one
    ])
    (λ ne. get_or-set_other marks a k 1 0 ne ∙ one)

pub marked_none : (leaders members marks : List ℕ) (i node leader : ℕ) → node ≡ slice_index members i → leader ≡ slice_index leaders node → leader ≡ node → AreMarked leaders members marks i → AreMarked leaders members marks (i + 1)
marked_none leaders members marks i node leader at leads own h j lt other = elim (cases_lt j i) [
  | inl l ↦ h j l other
  | inr ge ↦ (let e : j ≡ i = omega arith in let is : slice_index members j ≡ node = ap (slice_index members) e ∙ sym at in absurd (other (ap (slice_index leaders) is ∙ sym leads ∙ own ∙ sym is)))
]

pub marked_two : (leaders members marks : List ℕ) (i node leader : ℕ) → node ≡ slice_index members i → leader ≡ slice_index leaders node → node < length marks → leader < length marks
    → AreMarked leaders members marks i → AreMarked leaders members (set (set marks node 1) leader 1) (i + 1)
marked_two leaders members marks i node leader at leads ln ll h j lt other =
    let twice : (k : ℕ) → slice_index marks k ≡ 1 → slice_index (set (set marks node 1) leader 1) k ≡ 1 = λ k one. marked_once (set marks node 1) leader k (marked_once marks node k one) in
    elim (cases_lt j i) [
      | inl l ↦ (let m = h j l other in (twice (slice_index members j) m.0, twice (slice_index leaders (slice_index members j)) m.1))
      | inr ge ↦ (let e : j ≡ i = omega arith in let is : node ≡ slice_index members j = at ∙ sym (ap (slice_index members) e) in (
        subst (λ (k : ℕ). slice_index (set (set marks node 1) leader 1) k ≡ 1) is (marked_once (set marks node 1) leader node (get_or-set_same marks node 1 0 ln)),
        subst (λ (k : ℕ). slice_index (set (set marks node 1) leader 1) k ≡ 1) (leads ∙ ap (slice_index leaders) is) (get_or-set_same (set marks node 1) leader 1 0 (omega (arith, length-set marks node 1, ll))),
      ))
    ]

pub marked_all : (leaders members marks : List ℕ) (i : ℕ) → length members ≤ i → AreMarked leaders members marks i → (k : ℕ) → Contains members k → (slice_index leaders k ≡ k → ⊥) → (slice_index marks k ≡ 1) × (slice_index marks (slice_index leaders k) ≡ 1)
marked_all leaders members marks i le h k m other =
    let c = place_of members k m in
    subst (λ (n : ℕ). (slice_index leaders n ≡ n → ⊥) → (slice_index marks n ≡ 1) × (slice_index marks (slice_index leaders n) ≡ 1)) c.2 (h c.0 (omega (arith, c.1, le))) other

-- the loop that clears goes on by one
pub cleared_more : (heads : List ℕ) (s : ℕ) → s < length heads → ((i : ℕ) → i < s → slice_index heads i ≡ 0) → (i : ℕ) → i < s + 1 → slice_index (set heads s 0) i ≡ 0
cleared_more heads s inside h i lt = elim (cases_lt i s) [
  | inl l ↦ (let ne : i ≢ s = omega arith in get_or-set_other heads s i 0 0 ne ∙ h i l)
  | inr ge ↦ (let e : i ≡ s = omega arith in ap (slice_index (set heads s 0)) e ∙ get_or-set_same heads s 0 0 inside)
]

-- the loop that lists places goes on by one
pub range_next : (n : ℕ) → range_with_len 0 n ++ n ∷ [] ≡ range_with_len 0 (n + 1)
range_next n = more 0 n n (omega arith)
  where
    more : (a n k : ℕ) → a + n ≡ k → range_with_len a n ++ k ∷ [] ≡ range_with_len a (n + 1)
    more a zero k is = let e : k ≡ a = omega arith in ap (λ (x : ℕ). x ∷ []) e
    more a (suc n) k is = let e : suc (n + 1) ≡ suc n + 1 = omega arith in ap (λ (xs : List ℕ). a ∷ xs) (more (a + 1) n k (omega arith)) ∙ ap (range_with_len a) e

-- what a partition of one class keeps
pub undivided : (leaders members finer nexts : List ℕ) (n : ℕ) → n < 2 ^ 32 → leaders ≡ replicate n 0 → members ≡ range_with_len 0 n → finer ≡ replicate n 0 → nexts ≡ replicate n 0
    → (length leaders < 2 ^ 32) × (length finer ≡ length leaders) × (length nexts ≡ length leaders) × AreParting leaders members
undivided leaders members finer nexts n few zeros places finer-is nexts-is =
    let size : length leaders ≡ n = ap length zeros ∙ length-replicate n 0 in
    (omega (arith, size, few), ap length finer-is ∙ sym (ap length zeros), ap length nexts-is ∙ sym (ap length zeros), all_parting leaders members n zeros places)
