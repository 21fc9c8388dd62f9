-- Each word of the readers is the reader of the grammars' word of that name.
use Rattle.std.proofs.Common.{◌≡◌, ℕ, zero, suc, ◌+◌, ◌-◌, ◌<◌, ◌≤◌, Bool, true, false, cond, eqb, ltb, List, [], ◌∷◌, ◌++◌, length, take, drop, Option, Some, None, Result, Ok, Err, is_ok, refl, sym, ap, subst, ◌∙◌, ◌⊎◌, inl, inr, append_assoc, arith, eq-eqb}
use Rattle.std.proofs.lemmas.Bool.{ltb-false, le-ltb, lt-ltb, eqb-true}
use Rattle.std.proofs.lemmas.Bool.Decides.{nat_tests}
use Rattle.std.proofs.lemmas.List.{take_at, drop_at, take-append-drop, length-append, length-take, append-nil}
use Rattle.reading.specs.Readers.{Read, Reader, continue_with, bind, done, fail, requires_that, found, located, byte, bytes, is_exactly, exactly, passed, checked, turns, one_more, is_whole, whole}
use Rattle.reading.specs.Grammars as grammar
use Rattle.reading.specs.Grammars.{Grammar, Joined}
use Rattle.reading.specs.Reads.{Takes, Reads}

-- ---- what an Ok says

abbrev read_ok : {E A : Type 0} → A × List ℕ → Read E A
read_ok p = Ok p

same_read : {E A : Type 0} (p q : A × List ℕ) → read_ok {E = E} p ≡ read_ok q → p ≡ q
same_read p q e = cc

same_value : {E A : Type 0} (x y : A) (a b : List ℕ) → read_ok {E = E} (x, a) ≡ read_ok (y, b) → y ≡ x
same_value {E = E} {A} x y a b e = sym (ap (λ (p : A × List ℕ). p.0) (same_read {E = E} (x, a) (y, b) e))

same_rest : {E A : Type 0} (x y : A) (a b : List ℕ) → read_ok {E = E} (x, a) ≡ read_ok (y, b) → a ≡ b
same_rest {E = E} {A} x y a b e = ap (λ (p : A × List ℕ). p.1) (same_read {E = E} (x, a) (y, b) e)

pub continue_with-ok : {E A B : Type 0} (read : Read E A) (next : A → Reader E B) (y : B × List ℕ) → continue_with read next ≡ Ok y → (x : A × List ℕ) × (read ≡ Ok x) × (next x.0 x.1 ≡ Ok y)
continue_with-ok (Ok x) next y e = (x, refl, e)
continue_with-ok (Err d) next y e = absurd cc

if_taken : {E A : Type 0} (b : Bool) (e : E) (x y : A) → cond b (Err e) (Ok x) ≡ Ok y → (b ≡ false) × (x ≡ y)
if_taken true e x y h = absurd cc
if_taken false e x y h = (refl, cc)

if_passed : {E A : Type 0} (b : Bool) (e : E) (x y : A) → cond b (Ok x) (Err e) ≡ Ok y → (b ≡ true) × (x ≡ y)
if_passed true e x y h = (refl, cc)
if_passed false e x y h = absurd cc

-- ---- a text that is cut short

never_short : (text front back : List ℕ) → text ≡ [] → text ≡ front ++ back → 0 < length back → ⊥
never_short text front back empty is lt = absurd (omega (arith, ap length empty, ap length is, length-append front back))

same_head : (x y : ℕ) (xs ys : List ℕ) → x ∷ xs ≡ y ∷ ys → x ≡ y
same_head x y xs ys e = cc

same_tail : (x y : ℕ) (xs ys : List ℕ) → x ∷ xs ≡ y ∷ ys → xs ≡ ys
same_tail x y xs ys e = cc

-- where two texts are cut: behind the first, or within it
split : (first second front back : List ℕ) → first ++ second ≡ front ++ back
    → ((mid : List ℕ) × (front ≡ first ++ mid) × (second ≡ mid ++ back)) ⊎ ((mid : List ℕ) × (first ≡ front ++ mid) × (0 < length mid))
split [] second front back is = inl (front, refl, is)
split (x ∷ xs) second [] back is = inr (x ∷ xs, refl, omega arith)
split (x ∷ xs) second (y ∷ ys) back is =
    let head : y ≡ x = sym (same_head x y (xs ++ second) (ys ++ back) is) in
    elim (split xs second ys back (same_tail x y (xs ++ second) (ys ++ back) is)) [
      | inl s ↦ inl (s.0, rw (head, s.1) refl, s.2)
      | inr s ↦ inr (s.0, rw (head, s.1) refl, s.2)
    ]

-- ---- one after another

pub bind_reads : {E A B : Type 0} {cut : E} (r : Reader E A) (k : A → Reader E B) (G : Grammar A) (H : A → Grammar B) → Reads cut r G → ((x : A) → Reads cut (k x) (H x)) → Reads cut (bind r k) (Joined G H)
unfolding bind
bind_reads r k G H first second = record {
  sound = λ all z rest e.
      let a = continue_with-ok (r all) k (z, rest) e in
      let t = first.sound all a.0.0 a.0.1 a.1 in
      let u = (second a.0.0).sound a.0.1 z rest a.2 in
      record {
        text = t.text ++ u.text;
        parts = t.parts ∙ ap (λ (l : List ℕ). t.text ++ l) u.parts ∙ sym (append_assoc t.text u.text rest);
        is = record { value = a.0.0; first = t.text; second = u.text; parts = refl; first_is = t.is; second_is = u.is };
      };
  complete = λ z text rest j.
      let regrouped : text ++ rest ≡ j.first ++ (j.second ++ rest) = ap (λ (l : List ℕ). l ++ rest) j.parts ∙ append_assoc j.first j.second rest in
      ap (λ (l : List ℕ). continue_with (r l) k) regrouped ∙ rw (first.complete j.value j.first (j.second ++ rest) j.first_is) ((second j.value).complete z j.second rest j.second_is);
  short = λ z text front back j is lt.
      elim (split j.first j.second front back (sym j.parts ∙ is)) [
        | inl s ↦ rw (s.1, first.complete j.value j.first s.0 j.first_is) ((second j.value).short z j.second s.0 back j.second_is s.2 lt)
        | inr s ↦ rw (first.short j.value j.first front s.0 j.first_is s.1 s.2) refl
      ];
}

pub done_reads : {E A : Type 0} {cut : E} (x : A) → Reads cut (done {E = E} x) (grammar.done x)
unfolding done
done_reads {E = E} x = record {
  sound = λ all z rest e. record { text = []; parts = same_rest {E = E} x z all rest e; is = (same_value {E = E} x z all rest e, refl) };
  complete = λ z text rest h. rw (h.0, h.1) refl;
  short = λ z text front back h is lt. absurd (never_short text front back h.1 is lt);
}

pub fail_reads : {E A : Type 0} {cut : E} (e : E) → Reads cut (fail {E = E} {A = A} e) grammar.nothing
unfolding fail
fail_reads e = record { sound = λ all z rest h. absurd cc; complete = λ z text rest h. absurd h; short = λ z text front back h is lt. absurd h }

pub test_reads : {E : Type 0} {cut : E} (b : Bool) (e : E) → Reads cut (requires_that b e) (grammar.test b)
unfolding requires_that
test_reads {E = E} true e = record {
  sound = λ all z rest h. record { text = []; parts = same_rest {E = E} tt z all rest h; is = (refl, refl) };
  complete = λ z text rest h. rw h.1 refl;
  short = λ z text front back h is lt. absurd (never_short text front back h.1 is lt);
}
test_reads false e = record {
  sound = λ all z rest h. absurd cc;
  complete = λ z text rest h. absurd (let no : false ≡ true = h.0 in cc);
  short = λ z text front back h is lt. absurd (let no : false ≡ true = h.0 in cc);
}

abbrev some : {A : Type 0} → A → Option A
some x = Some x

same_some : {A : Type 0} (x y : A) → some x ≡ some y → x ≡ y
same_some x y e = cc

pub found_reads : {E A : Type 0} {cut : E} (value : Option A) (e : E) → Reads cut (found value e) (grammar.found value)
unfolding found
found_reads {E = E} (Some x) e = record {
  sound = λ all z rest h. record { text = []; parts = same_rest {E = E} x z all rest h; is = (ap some (sym (same_value {E = E} x z all rest h)), refl) };
  complete = λ z text rest h. rw (h.1, ← same_some x z h.0) refl;
  short = λ z text front back h is lt. absurd (never_short text front back h.1 is lt);
}
found_reads None e = record {
  sound = λ all z rest h. absurd cc;
  complete = λ z text rest h. absurd (let no = h.0 in cc);
  short = λ z text front back h is lt. absurd (let no = h.0 in cc);
}

-- ---- bytes

byte_sound : {E : Type 0} (e : E) (all : List ℕ) (z : ℕ) (rest : List ℕ) → byte e all ≡ Ok (z, rest) → Takes grammar.byte z all rest
unfolding byte
byte_sound e [] z rest h = absurd cc
byte_sound {E = E} e (b ∷ bs) z rest h = record { text = b ∷ []; parts = ap (λ (l : List ℕ). b ∷ l) (same_rest {E = E} b z bs rest h); is = ap (λ (x : ℕ). x ∷ []) (sym (same_value {E = E} b z bs rest h)) }

byte_short : {E : Type 0} (e : E) (front : List ℕ) → length front ≡ 0 → byte e front ≡ Err e
unfolding byte
byte_short e [] none = refl
byte_short e (b ∷ bs) none = absurd (omega (arith, none))

pub byte_reads : {E : Type 0} (e : E) → Reads e (byte e) grammar.byte
unfolding byte
byte_reads e = record {
  sound = byte_sound e;
  complete = λ z text rest h. rw h refl;
  short = λ z text front back h is lt. byte_short e front (omega (arith, ap length h, ap length is, length-append front back));
}

pub bytes_reads : {E : Type 0} (count : ℕ) (e : E) → Reads e (bytes count e) (grammar.bytes count)
unfolding bytes
bytes_reads count e = record {
  sound = λ all z rest h.
      let g = if_taken (ltb (length all) count) e (take count all, drop count all) (z, rest) h in
      let long : count ≤ length all = ltb-false _ _ g.0 in
      let front : take count all ≡ z = ap (λ (p : List ℕ × List ℕ). p.0) g.1 in
      let back : drop count all ≡ rest = ap (λ (p : List ℕ × List ℕ). p.1) g.1 in
      record { text = take count all; parts = rw (← back) (sym (take-append-drop count all)); is = (omega (arith, length-take count all), sym front) };
  complete = λ z text rest h.
      let long : ltb (length (text ++ rest)) count ≡ false = le-ltb _ _ (omega (arith, length-append text rest)) in
      rw (long, take_at text rest count h.0, drop_at text rest count h.0, h.1) refl;
  short = λ z text front back h is lt.
      let few : length front < count = omega (arith, h.0, ap length is, length-append front back) in
      let test : ltb (length front) count ≡ true = lt-ltb _ _ few in
      rw test refl;
}

-- ---- offsets, lengths and checks

pub located_reads : {E A : Type 0} {cut : E} (end : ℕ) (r : ℕ → Reader E A) (G : Grammar A) → ((at : ℕ) → Reads cut (r at) G) → Reads cut (located end r) G
unfolding located
located_reads end r G each = record {
  sound = λ all z rest h. (each (end - length all)).sound all z rest h;
  complete = λ z text rest h. (each (end - length (text ++ rest))).complete z text rest h;
  short = λ z text front back h is lt. (each (end - length front)).short z text front back h is lt;
}

is_exactly-ok : {E A : Type 0} (count : ℕ) (e : E) (before : ℕ) (read : Read E A) (y : A × List ℕ) → is_exactly count e before read ≡ Ok y → (read ≡ Ok y) × (before - length y.1 ≡ count)
is_exactly-ok count e before (Ok x) y h =
    let g = if_passed (eqb (before - length x.1) count) e x y h in
    (ap Ok g.1, ap (λ (p : _ × List ℕ). before - length p.1) (sym g.1) ∙ eqb-true _ _ g.0)
is_exactly-ok count e before (Err f) y h = absurd cc

pub exactly_reads : {E A : Type 0} {cut : E} (count : ℕ) (e : E) (r : Reader E A) (G : Grammar A) → Reads cut r G → Reads cut (exactly count e r) (grammar.exactly count G)
unfolding exactly
exactly_reads count e r G each = record {
  sound = λ all z rest h.
      let g = is_exactly-ok count e (length all) (r all) (z, rest) h in
      let t = each.sound all z rest g.0 in
      let whole : length all ≡ length t.text + length rest = ap length t.parts ∙ length-append t.text rest in
      record { text = t.text; parts = t.parts; is = (omega (arith, g.1), t.is) };
  complete = λ z text rest h.
      let size : eqb (length (text ++ rest) - length rest) count ≡ true = eq-eqb _ _ (omega (arith, length-append text rest, h.0)) in
      rw (each.complete z text rest h.1, size) refl;
  short = λ z text front back h is lt. rw (each.short z text front back h.1 is lt) refl;
}

passed-ok : {E A : Type 0} (answer : Result (Unit {0}) E) (x y : A × List ℕ) → passed answer (read_ok {E = E} x) ≡ Ok y → (is_ok answer ≡ true) × (x ≡ y)
passed-ok (Ok u) x y h = (refl, cc)
passed-ok (Err e) x y h = absurd cc

passed_is : {E A : Type 0} (answer : Result (Unit {0}) E) (read : Read E A) → is_ok answer ≡ true → passed answer read ≡ read
passed_is (Ok u) read h = refl
passed_is (Err e) read h = absurd (let no : false ≡ true = h in cc)

pub checked_reads : {E A : Type 0} {cut : E} (r : Reader E A) (answer : A → List ℕ → Result (Unit {0}) E) (G : Grammar A) (holds : A → Bool) → Reads cut r G
    → ((x : A) (bytes : List ℕ) → is_ok (answer x bytes) ≡ holds x) → Reads cut (checked r answer) (grammar.such_that G holds)
unfolding checked
checked_reads {E = E} {A = A} r answer G holds each same = record {
  sound = λ all z rest h.
      let a = continue_with-ok (r all) (λ x rest. passed (answer x all) (Ok (x, rest))) (z, rest) h in
      let p = passed-ok {E = E} (answer a.0.0 all) a.0 (z, rest) a.2 in
      let t = each.sound all z rest (a.1 ∙ ap Ok p.1) in
      let value : a.0.0 ≡ z = ap (λ (q : A × List ℕ). q.0) p.1 in
      record { text = t.text; parts = t.parts; is = (ap holds (sym value) ∙ sym (same a.0.0 all) ∙ p.0, t.is) };
  complete = λ z text rest h.
      rw (each.complete z text rest h.1) (passed_is (answer z (text ++ rest)) _ (same z (text ++ rest) ∙ h.0));
  short = λ z text front back h is lt. rw (each.short z text front back h.1 is lt) refl;
}

pub either_reads : {E A : Type 0} {cut : E} (b : Bool) (r s : Reader E A) (G H : Grammar A) → Reads cut r G → Reads cut s H → Reads cut (cond b r s) (grammar.either b G H)
either_reads true r s G H first second = first
either_reads false r s G H first second = second

-- ---- so many

pub turns_read : {E S : Type 0} {cut : E} (turn : ℕ → S → Reader E S) (G : ℕ → S → Grammar S) (count : ℕ) (state : S) → ((left : ℕ) (s : S) → Reads cut (turn left s) (G left s))
    → Reads cut (turns turn count state) (grammar.turns G count state)
unfolding turns
turns_read turn G zero state each = done_reads state
turns_read turn G (suc left) state each = bind_reads _ _ _ _ (each left state) (λ next. turns_read turn G left next each)

pub times_read : {E A : Type 0} {cut : E} (count : ℕ) (r : Reader E A) (G : Grammar A) → Reads cut r G → Reads cut (turns (one_more r) count []) (grammar.times count G)
times_read count r G each = turns_read (one_more r) (grammar.one_more G) count [] (λ left items. bind_reads _ _ _ _ each (λ item. done_reads _))

-- ---- whole texts

-- a whole text is read exactly where the grammar has it
pub whole_reads : {E A : Type 0} {cut : E} (trailing : ℕ → E) (r : Reader E A) (G : Grammar A) (x : A) (text : List ℕ) → Reads cut r G → G x text → whole trailing r text ≡ Ok x
unfolding whole
whole_reads {E = E} {A = A} trailing r G x text each is =
    let taken : r text ≡ Ok (x, []) = ap r (sym (append-nil text)) ∙ each.complete x text [] is in
    rw taken refl

abbrev value_ok : {E A : Type 0} → A → Result A E
value_ok x = Ok x

same_ok : {E A : Type 0} (x y : A) → value_ok {E = E} x ≡ value_ok y → x ≡ y
same_ok x y e = cc

is_whole-ok : {E A : Type 0} (trailing : ℕ → E) (read : Read E A) (x : A) → is_whole trailing read ≡ Ok x → read ≡ Ok (x, [])
is_whole-ok {E = E} {A = A} trailing (Ok (y, [])) x h = let pair : A → Read E A = λ z. Ok (z, []) in ap pair (same_ok {E = E} y x h)
is_whole-ok trailing (Ok (y, b ∷ bs)) x h =
    let none = (if_passed (eqb (length (b ∷ bs)) 0) (trailing (length (b ∷ bs))) y x h).0 in
    let empty : length (b ∷ bs) ≡ 0 = eqb-true _ _ none in
    absurd (omega (arith, empty))
is_whole-ok trailing (Err e) x h = absurd cc

pub whole_is_read : {E A : Type 0} {cut : E} (trailing : ℕ → E) (r : Reader E A) (G : Grammar A) (x : A) (text : List ℕ) → Reads cut r G → whole trailing r text ≡ Ok x → G x text
unfolding whole
whole_is_read trailing r G x text each h =
    let t = each.sound text x [] (is_whole-ok trailing (r text) x h) in
    let same : t.text ≡ text = sym (append-nil t.text) ∙ sym t.parts in
    subst (λ (l : List ℕ). G x l) same t.is

-- a text that is cut short is the fault that says so
pub whole_short : {E A : Type 0} {cut : E} (trailing : ℕ → E) (r : Reader E A) (G : Grammar A) (x : A) (front back : List ℕ) → Reads cut r G → G x (front ++ back) → 0 < length back
    → whole trailing r front ≡ Err cut
unfolding whole
whole_short trailing r G x front back each is lt = rw (each.short x (front ++ back) front back is refl lt) refl

some_left : (b : ℕ) (bs : List ℕ) → eqb (length (b ∷ bs)) 0 ≡ false
some_left b bs = grind (arith, nat_tests)

is_whole-more : {E A : Type 0} (trailing : ℕ → E) (x : A) (more : List ℕ) → 0 < length more → is_whole trailing (read_ok {E = E} (x, more)) ≡ Err (trailing (length more))
is_whole-more trailing x [] lt = absurd (omega (arith, lt))
is_whole-more trailing x (b ∷ bs) lt = rw (some_left b bs) refl

-- a text with bytes behind it is the fault that says so
pub whole_more : {E A : Type 0} {cut : E} (trailing : ℕ → E) (r : Reader E A) (G : Grammar A) (x : A) (text more : List ℕ) → Reads cut r G → G x text → 0 < length more
    → whole trailing r (text ++ more) ≡ Err (trailing (length more))
unfolding whole
whole_more trailing r G x text more each is lt = rw (each.complete x text more is) (is_whole-more trailing x more lt)
