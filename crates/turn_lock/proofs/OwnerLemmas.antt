-- Functions that give each number its owner and each ticket its taker, and how they change.
use Rattle.std.proofs.Common.{◌≡◌, ◌≢◌, ℕ, ◌<◌, ◌≤◌, refl, arith}
use native.Mathlib.Decide.{dec_le, ℕ_discrete}

-- a where it holds, and else b
abbrev pick : {P : Type 0} → Dec P → ℕ → ℕ → ℕ
pick (yes _) a b = a
pick (no _) a b = b

-- f, but c at i
pub put : (ℕ → ℕ) → ℕ → ℕ → ℕ → ℕ
put f i c j = pick (ℕ_discrete j i) c (f j)

pub put_here : (f : ℕ → ℕ) (i c : ℕ) → put f i c i ≡ c
unfolding put
put_here f i c = go (ℕ_discrete i i)
  where
    go : (d : Dec (i ≡ i)) → pick d c (f i) ≡ c
    go (yes _) = refl
    go (no n) = absurd (n refl)

pub put_else : (f : ℕ → ℕ) (i c j : ℕ) → j ≢ i → put f i c j ≡ f j
unfolding put
put_else f i c j other = go (ℕ_discrete j i)
  where
    go : (d : Dec (j ≡ i)) → pick d c (f j) ≡ f j
    go (yes e) = absurd (other e)
    go (no _) = refl

-- the owner of k once the numbers of the seat id from c on have gone to the seat n
pub given : (ℕ → ℕ) → ℕ → ℕ → ℕ → ℕ → ℕ
given f id c n k = pick (ℕ_discrete (f k) id) (pick (dec_le c k) n (f k)) (f k)

pub given_other : (f : ℕ → ℕ) (id c n k : ℕ) → f k ≢ id → given f id c n k ≡ f k
unfolding given
given_other f id c n k other = go (ℕ_discrete (f k) id)
  where
    go : (d : Dec (f k ≡ id)) → pick d (pick (dec_le c k) n (f k)) (f k) ≡ f k
    go (yes e) = absurd (other e)
    go (no _) = refl

pub given_low : (f : ℕ → ℕ) (id c n k : ℕ) → k < c → given f id c n k ≡ f k
unfolding given
given_low f id c n k low = go (ℕ_discrete (f k) id) (dec_le c k)
  where
    go : (d : Dec (f k ≡ id)) (e : Dec (c ≤ k)) → pick d (pick e n (f k)) (f k) ≡ f k
    go (yes _) (yes le) = absurd (omega arith)
    go (yes _) (no _) = refl
    go (no _) e = refl

pub given_high : (f : ℕ → ℕ) (id c n k : ℕ) → f k ≡ id → c ≤ k → given f id c n k ≡ n
unfolding given
given_high f id c n k mine high = go (ℕ_discrete (f k) id) (dec_le c k)
  where
    go : (d : Dec (f k ≡ id)) (e : Dec (c ≤ k)) → pick d (pick e n (f k)) (f k) ≡ n
    go (yes _) (yes _) = refl
    go (yes _) (no not) = absurd (not high)
    go (no not) e = absurd (not mine)
