-- What follows from a width: the widths of the children, and what the form asks of them.
use Rattle.std.proofs.Common.{◌≡◌, ℕ, ◌+◌, ◌-◌, ◌<◌, ◌≤◌, ◌^◌, Bool, true, false, refl, ap, subst, arith, Option, Some, None, rules}
use Rattle.std.specs.Prelude.{IsSome, nat_eq, nat_lt, nat_le, cond, ◌&&◌}
use Rattle.std.proofs.lemmas.Bool.Decides.{nat_tests}
use Rattle.dag.specs.Node.{is_width, when, leaf_width, constant_width, same_width, test_width, choice_width, cut_width, joined_width, widened_width, shifted_width}

pub when_some : (b : Bool) (x w : ℕ) → when b x ≡ Some w → (b ≡ true) × (x ≡ w)
when_some true x w h = (refl, inner x w h)
  where
    inner : (x w : ℕ) → Some x ≡ Some w → x ≡ w
    inner x w h = cc
when_some false x w h = cc

pub when_holds : (b : Bool) (x : ℕ) → IsSome (when b x) → b ≡ true
when_holds true x h = refl
when_holds false x h = cc

-- a leaf has the shape's width
pub record HasLeaf (o : Option ℕ) (w : ℕ) : Type 0 where
  pub found : o ≡ Some w
  pub low : 1 ≤ w
  pub high : w ≤ 64

pub leaf_of : (o : Option ℕ) (v w : ℕ) → leaf_width o v ≡ Some w → HasLeaf o w
leaf_of (Some u) v w h =
    let p = when_some (nat_eq u v && is_width v) v w h in
    let t : nat_eq u v && is_width v ≡ true = p.0 in
    record { found = ap Some (same u v w t p.1); low = subst (λ (k : ℕ). 1 ≤ k) p.1 (low u v t); high = subst (λ (k : ℕ). k ≤ 64) p.1 (high u v t) }
  where
    same : (u v w : ℕ) → nat_eq u v && is_width v ≡ true → v ≡ w → u ≡ w
    same u v w t e = grind (arith, nat_tests)

    low : (u v : ℕ) → nat_eq u v && is_width v ≡ true → 1 ≤ v
    low u v t = grind (arith, nat_tests)

    high : (u v : ℕ) → nat_eq u v && is_width v ≡ true → v ≤ 64
    high u v t = grind (arith, nat_tests)
leaf_of None v w h = cc

-- a constant is a word of its width
pub record HasConstant (u v w : ℕ) : Type 0 where
  pub same : u ≡ w
  pub low : 1 ≤ w
  pub high : w ≤ 64
  pub within : v < 2 ^ w

pub constant_of : (u v w : ℕ) → constant_width u v ≡ Some w → HasConstant u v w
constant_of u v w h =
    let p = when_some (is_width u && nat_lt v (2 ^ u)) u w h in
    let t : is_width u && nat_lt v (2 ^ u) ≡ true = p.0 in
    record { same = p.1; low = subst (λ (k : ℕ). 1 ≤ k) p.1 (low u v t); high = subst (λ (k : ℕ). k ≤ 64) p.1 (high u v t); within = subst (λ (k : ℕ). v < 2 ^ k) p.1 (within u v t) }
  where
    low : (u v : ℕ) → is_width u && nat_lt v (2 ^ u) ≡ true → 1 ≤ u
    low u v t = grind (arith, nat_tests)

    high : (u v : ℕ) → is_width u && nat_lt v (2 ^ u) ≡ true → u ≤ 64
    high u v t = grind (arith, nat_tests)

    within : (u v : ℕ) → is_width u && nat_lt v (2 ^ u) ≡ true → v < 2 ^ u
    within u v t = grind (arith, nat_tests)

-- and a word of its width makes a constant that fits
pub constant_fits : (w v : ℕ) → 1 ≤ w → w ≤ 64 → v < 2 ^ w → constant_width w v ≡ Some w
constant_fits w v p q r =
    let t : is_width w && nat_lt v (2 ^ w) ≡ true = grind (arith, nat_tests) in
    rw t refl

pub same_of : (x y : Option ℕ) (w : ℕ) → same_width x y ≡ Some w → (x ≡ Some w) × (y ≡ Some w)
same_of (Some x) (Some y) w h = let p = when_some (nat_eq x y) x w h in (ap Some p.1, ap Some (same x y w p.0 p.1))
  where
    same : (x y w : ℕ) → nat_eq x y ≡ true → x ≡ w → y ≡ w
    same x y w t e = grind (arith, nat_tests)
same_of (Some x) None w h = cc
same_of None y w h = cc

pub same_fits : (w : ℕ) → same_width (Some w) (Some w) ≡ Some w
same_fits w = let t : nat_eq w w ≡ true = search rules in rw t refl

pub test_of : (x : Option ℕ) (w : ℕ) → test_width x ≡ Some w → w ≡ 1
test_of (Some x) w h = cc
test_of None w h = cc

pub choice_of : (x y : Option ℕ) (w : ℕ) → choice_width x y ≡ Some w → (x ≡ Some 1) × (y ≡ Some w)
choice_of (Some x) y w h = pick (nat_eq x 1) refl h
  where
    pick : (b : Bool) → nat_eq x 1 ≡ b → cond b y None ≡ Some w → (Some x ≡ Some 1) × (y ≡ Some w)
    pick true e h = (ap Some (grind (arith, nat_tests)), h)
    pick false e h = cc
choice_of None y w h = cc

-- the bits that a slice takes stand in its child
pub record HasCut (h l : ℕ) (x : Option ℕ) (w : ℕ) : Type 0 where
  pub whole : ℕ
  pub found : x ≡ Some whole
  pub order : l ≤ h
  pub within : h < whole
  pub width : h - l + 1 ≡ w

pub cut_of : (h l : ℕ) (x : Option ℕ) (w : ℕ) → cut_width h l x ≡ Some w → HasCut h l x w
cut_of h l (Some x) w p =
    let q = when_some (nat_le l h && nat_lt h x) (h - l + 1) w p in
    let t : nat_le l h && nat_lt h x ≡ true = q.0 in
    record { whole = x; found = refl; order = order h l x t; within = within h l x t; width = q.1 }
  where
    order : (h l x : ℕ) → nat_le l h && nat_lt h x ≡ true → l ≤ h
    order h l x t = grind (arith, nat_tests)

    within : (h l x : ℕ) → nat_le l h && nat_lt h x ≡ true → h < x
    within h l x t = grind (arith, nat_tests)
cut_of h l None w p = cc

pub cut_fits : (h l x : ℕ) → l ≤ h → h < x → cut_width h l (Some x) ≡ Some (h - l + 1)
cut_fits h l x p q = let t : nat_le l h && nat_lt h x ≡ true = grind (arith, nat_tests) in rw t refl

pub record HasParts (x y : Option ℕ) (w : ℕ) : Type 0 where
  pub high : ℕ
  pub low : ℕ
  pub high_found : x ≡ Some high
  pub low_found : y ≡ Some low
  pub width : high + low ≡ w
  pub narrow : high + low ≤ 64

pub joined_of : (x y : Option ℕ) (w : ℕ) → joined_width x y ≡ Some w → HasParts x y w
joined_of (Some x) (Some y) w p =
    let q = when_some (nat_le (x + y) 64) (x + y) w p in
    let t : nat_le (x + y) 64 ≡ true = q.0 in
    record { high = x; low = y; high_found = refl; low_found = refl; width = q.1; narrow = narrow x y t }
  where
    narrow : (x y : ℕ) → nat_le (x + y) 64 ≡ true → x + y ≤ 64
    narrow x y t = grind (arith, nat_tests)
joined_of (Some x) None w p = cc
joined_of None y w p = cc

pub joined_fits : (x y : ℕ) → x + y ≤ 64 → joined_width (Some x) (Some y) ≡ Some (x + y)
joined_fits x y p = let t : nat_le (x + y) 64 ≡ true = grind (arith, nat_tests) in rw t refl

pub record HasNarrower (n : ℕ) (x : Option ℕ) (w : ℕ) : Type 0 where
  pub old : ℕ
  pub found : x ≡ Some old
  pub order : old ≤ n
  pub high : n ≤ 64
  pub width : n ≡ w

pub widened_of : (n : ℕ) (x : Option ℕ) (w : ℕ) → widened_width n x ≡ Some w → HasNarrower n x w
widened_of n (Some x) w p =
    let q = when_some (nat_le x n && nat_le n 64) n w p in
    let t : nat_le x n && nat_le n 64 ≡ true = q.0 in
    record { old = x; found = refl; order = order x n t; high = high x n t; width = q.1 }
  where
    order : (x n : ℕ) → nat_le x n && nat_le n 64 ≡ true → x ≤ n
    order x n t = grind (arith, nat_tests)

    high : (x n : ℕ) → nat_le x n && nat_le n 64 ≡ true → n ≤ 64
    high x n t = grind (arith, nat_tests)
widened_of n None w p = cc

pub widened_fits : (n x : ℕ) → x ≤ n → n ≤ 64 → widened_width n (Some x) ≡ Some n
widened_fits n x p q = let t : nat_le x n && nat_le n 64 ≡ true = grind (arith, nat_tests) in rw t refl

pub shifted_of : (x y : Option ℕ) (w : ℕ) → shifted_width x y ≡ Some w → x ≡ Some w
shifted_of x (Some y) w h = h
shifted_of x None w h = cc
