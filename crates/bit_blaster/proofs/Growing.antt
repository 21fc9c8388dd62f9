-- How growths join.
use Rattle.std.proofs.Common.{◌≡◌, ℕ, ◌+◌, ◌*◌, ◌<◌, ◌≤◌, Bool, true, false, not, ◌&&◌, List, [], ◌∷◌, ◌++◌, length, refl, sym, ◌∙◌, ap, arith, append_assoc, append-nil, length-append}
use Rattle.cnf_clauses.specs.Literal.{Literal}
use Rattle.cnf_clauses.specs.Formula.{Cnf}
use Rattle.cnf_clauses.specs.Literal.{value_of, opposite}
use Rattle.cnf_clauses.specs.Clause.{IsOver}
use Rattle.bit_blaster.proofs.Over.{IsOver-more}
use Rattle.bit_blaster.specs.Gates.{HasRoom, Grows, IsGate, bits, constant}
use Rattle.bit_blaster.specs.Ripples.{cell_out, cell_next, cell_cost, IsCell, ripple, carried, IsRipple}
use Rattle.bit_blaster.specs.declared.cells.Cell.{Cell}
use Rattle.bit_blaster.specs.declared.cells.Cell.TheVariants.{Both, Either, Differ, Choose, Sum, Less, Same}
use Rattle.cnf_clauses.proofs.Meeting.{value_of-opposite}

pub grows_refl : (f : Cnf) (k : ℕ) → Grows f f k
grows_refl f k = record { more = omega arith; few = omega arith; clauses = omega arith; kept = λ v h. h; free = λ v h. (v, (λ k h. refl), h) }

pub grows_trans : (a b c : Cnf) (m n k : ℕ) → Grows a b m → Grows b c n → m + n ≤ k → Grows a c k
grows_trans a b c m n k p q h = record {
  more = omega arith;
  few = omega arith;
  clauses = omega arith;
  kept = λ v h. p.kept v (q.kept v h);
  free = λ v h. let x = p.free v h in let y = q.free x.0 x.2 in
      (y.0, (λ k lt. let le : k < b.variables = omega (arith, p.more) in y.1 k le ∙ x.1 k lt), y.2);
}

pub room_after : (old new : Cnf) (a b n : ℕ) → HasRoom old n → Grows old new a → a + b ≤ n → HasRoom new b
room_after old new a b n r g h = record { clauses = omega arith; room = omega arith; begun = omega (arith, r.begun, g.more); on = λ v m. r.on v (g.kept v m) }

pub room_less : (f : Cnf) (a b : ℕ) → HasRoom f a → b ≤ a → HasRoom f b
room_less f a b r h = record { clauses = r.clauses; room = omega (arith, r.room, h); begun = r.begun; on = r.on }

pub constant_value : (v : ℕ → Bool) (b : Bool) → v 0 ≡ true → value_of v (constant b) ≡ b
constant_value v true h = h
constant_value v false h = ap not h

-- a constant costs nothing
pub constant_gate : (f : Cnf) (n : ℕ) (l : Literal) (b : Bool) → HasRoom f n → l ≡ constant b → IsGate f f 0 l (λ v. b)
constant_gate f n l true r e = rw e record { grows = grows_refl f 0; inside = r.begun; means = λ v m. r.on v m }
constant_gate f n l false r e = rw e record { grows = grows_refl f 0; inside = r.begun; means = λ v m. ap not (r.on v m) }

pub constant_in : (f : Cnf) (n : ℕ) (l : Literal) (b : Bool) → HasRoom f n → l ≡ constant b → l.var < f.variables
constant_in f n l b r e = rw e r.begun

pub one_wire : (old new : Cnf) (kind : Cell) (c x y o n : Literal) → IsGate old new 1 o (λ v. cell_out kind (value_of v c) (value_of v x) (value_of v y)) → n.var < old.variables
    → ((v : ℕ → Bool) → value_of v n ≡ cell_next kind (value_of v c) (value_of v x) (value_of v y)) → 1 ≤ cell_cost kind → IsCell old new kind c x y o n
one_wire old new kind c x y o n g h e k = record {
  grows = grows_trans old new new 1 0 (cell_cost kind) g.grows (grows_refl new 0) (omega arith);
  out_in = g.inside;
  next_in = omega (arith, g.grows.more);
  out = g.means;
  next = λ v h. e v;
}

pub wire_one : (old new : Cnf) (kind : Cell) (c x y o n : Literal) → o.var < old.variables
    → ((v : ℕ → Bool) → value_of v o ≡ cell_out kind (value_of v c) (value_of v x) (value_of v y)) → IsGate old new 1 n (λ v. cell_next kind (value_of v c) (value_of v x) (value_of v y)) → 1 ≤ cell_cost kind → IsCell old new kind c x y o n
wire_one old new kind c x y o n h e g k = record {
  grows = grows_trans old new new 1 0 (cell_cost kind) g.grows (grows_refl new 0) (omega arith);
  out_in = omega (arith, g.grows.more);
  next_in = g.inside;
  out = λ v h. e v;
  next = g.means;
}

pub gate_like : (old new : Cnf) (l : Literal) (p q : (ℕ → Bool) → Bool) → ((v : ℕ → Bool) → p v ≡ q v) → IsGate old new 1 l p → IsGate old new 1 l q
gate_like old new l p q e g = record { grows = g.grows; inside = g.inside; means = λ v h. g.means v h ∙ e v }

pub opposite_gate : (old new : Cnf) (l m : Literal) (p : (ℕ → Bool) → Bool) → m ≡ opposite l → IsGate old new 1 l p → IsGate old new 1 m (λ v. not (p v))
opposite_gate old new l m p e g = rw e record { grows = g.grows; inside = g.inside; means = λ v h. value_of-opposite v l ∙ ap not (g.means v h) }

pub two_gates : (a b d : Cnf) (kind : Cell) (c x y o n : Literal) → IsGate a b 1 o (λ v. cell_out kind (value_of v c) (value_of v x) (value_of v y))
    → IsGate b d 1 n (λ v. cell_next kind (value_of v c) (value_of v x) (value_of v y)) → 2 ≤ cell_cost kind → IsCell a d kind c x y o n
two_gates a b d kind c x y o n g h k = record {
  grows = grows_trans a b d 1 1 (cell_cost kind) g.grows h.grows (omega arith);
  out_in = omega (arith, g.inside, h.grows.more);
  next_in = h.inside;
  out = λ v m. g.means v (h.grows.kept v m);
  next = h.means;
}

-- a gate whose input is the opposite of another gate's output
pub inner_gate : (a b d : Cnf) (kind : Cell) (c x y o n l : Literal) (p : (ℕ → Bool) → Bool) → IsGate a b 1 l p → o.var < a.variables → IsGate b d 1 n (λ v. value_of v c && value_of v (opposite l))
    → ((v : ℕ → Bool) → value_of v o ≡ cell_out kind (value_of v c) (value_of v x) (value_of v y))
    → ((v : ℕ → Bool) → (value_of v c && not (p v)) ≡ cell_next kind (value_of v c) (value_of v x) (value_of v y)) → 2 ≤ cell_cost kind → IsCell a d kind c x y o n
inner_gate a b d kind c x y o n l p g i h e f k = record {
  grows = grows_trans a b d 1 1 (cell_cost kind) g.grows h.grows (omega arith);
  out_in = omega (arith, g.grows.more, h.grows.more);
  next_in = h.inside;
  out = λ v m. e v;
  next = λ v m. h.means v m ∙ (rw (value_of-opposite v l, g.means v (h.grows.kept v m)) (f v));
}

pub bits-append : (v : ℕ → Bool) (xs ys : List Literal) → bits v (xs ++ ys) ≡ bits v xs ++ bits v ys
bits-append v [] ys = refl
bits-append v (x ∷ xs) ys = ap (λ (zs : List Bool). value_of v x ∷ zs) (bits-append v xs ys)

pub length-bits : (v : ℕ → Bool) (xs : List Literal) → length (bits v xs) ≡ length xs
length-bits v [] = refl
length-bits v (x ∷ xs) = rw (length-bits v xs) refl

pub ripple_none : (f : Cnf) (kind : Cell) (out : List Literal) (c : Literal) (xs ys : List Literal) → length xs ≡ 0 → c.var < f.variables → IsOver f.variables out → IsRipple f f kind out out c c xs ys
unfolding ripple carried
ripple_none f kind out c [] ys e h o = record {
  grows = grows_refl f (cell_cost kind * 0);
  out_in = o;
  next_in = h;
  size = omega arith;
  out = λ v m. sym (append-nil (bits v out));
  next = λ v m. refl;
}
ripple_none f kind out c (x ∷ xs) ys e h o = absurd (omega arith)

pub ripple_ended : (f : Cnf) (kind : Cell) (out : List Literal) (c : Literal) (xs ys : List Literal) → length ys ≡ 0 → c.var < f.variables → IsOver f.variables out → IsRipple f f kind out out c c xs ys
unfolding ripple carried
ripple_ended f kind out c [] ys e h o = ripple_none f kind out c [] ys refl h o
ripple_ended f kind out c (x ∷ xs) (y ∷ ys) e h o = absurd (omega arith)
ripple_ended f kind out c (x ∷ xs) [] e h o = record {
  grows = grows_refl f (cell_cost kind * length (x ∷ xs));
  out_in = o;
  next_in = h;
  size = omega arith;
  out = λ v m. sym (append-nil (bits v out));
  next = λ v m. refl;
}

pub ripple_more : (a b d : Cnf) (kind : Cell) (before after : List Literal) (c x y o n last : Literal) (xs ys : List Literal) → IsCell a b kind c x y o n
    → IsRipple b d kind (before ++ o ∷ []) after n last xs ys → IsRipple a d kind before after c last (x ∷ xs) (y ∷ ys)
unfolding ripple carried
ripple_more a b d kind before after c x y o n last xs ys g r = record {
  grows = grows_trans a b d (cell_cost kind) (cell_cost kind * length xs) (cell_cost kind * length (x ∷ xs)) g.grows r.grows (omega arith);
  out_in = r.out_in;
  next_in = r.next_in;
  size = omega (arith, r.size, length-append before (o ∷ []));
  out = λ v m. r.out v m ∙ rw (bits-append v before (o ∷ []), g.out v (r.grows.kept v m), g.next v (r.grows.kept v m)) (append_assoc (bits v before) (cell_out kind (value_of v c) (value_of v x) (value_of v y) ∷ []) _);
  next = λ v m. r.next v m ∙ rw (g.next v (r.grows.kept v m)) refl;
}

pub over_push : (n m : ℕ) (ls : List Literal) (l : Literal) → n ≤ m → IsOver n ls → l.var < m → IsOver m (ls ++ l ∷ [])
over_push n m [] l h o p = (p, tt)
over_push n m (k ∷ ks) l h o p = (let q : k.var < n = o.0 in omega arith, over_push n m ks l h o.1 p)

pub cost_small : (kind : Cell) → cell_cost kind ≤ 2
cost_small Both = omega arith
cost_small Either = omega arith
cost_small Differ = omega arith
cost_small Choose = omega arith
cost_small Sum = omega arith
cost_small Less = omega arith
cost_small Same = omega arith

pub over_after : (a b : Cnf) (cost : ℕ) (ls : List Literal) → Grows a b cost → IsOver a.variables ls → IsOver b.variables ls
over_after a b cost ls g o = IsOver-more _ _ ls g.more o
