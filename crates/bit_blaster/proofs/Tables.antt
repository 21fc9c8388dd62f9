-- The clauses of each gate say that its variable has the gate's value.
use Rattle.std.proofs.Common.{◌≡◌, Bool, true, false, not, ◌&&◌, ◌||◌, refl}
use mathlib.Core.Bool.{beq}
use Rattle.bit_blaster.specs.Gates.{choose, differ, most, odd}

pub and_table : (o a b : Bool) → ((not o || (a || false)) && ((not o || (b || false)) && ((o || (not a || (not b || false))) && true))) ≡ beq o (a && b)
and_table true true true = refl
and_table true true false = refl
and_table true false true = refl
and_table true false false = refl
and_table false true true = refl
and_table false true false = refl
and_table false false true = refl
and_table false false false = refl

pub differ_table : (o a b : Bool) → ((not o || (a || (b || false))) && ((not o || (not a || (not b || false))) && ((o || (not a || (b || false))) && ((o || (a || (not b || false))) && true)))) ≡ beq o (differ a b)
differ_table true true true = refl
differ_table true true false = refl
differ_table true false true = refl
differ_table true false false = refl
differ_table false true true = refl
differ_table false true false = refl
differ_table false false true = refl
differ_table false false false = refl

pub choose_table : (o c a b : Bool) → ((not c || (not a || (o || false))) && ((not c || (a || (not o || false))) && ((c || (not b || (o || false))) && ((c || (b || (not o || false))) && true)))) ≡ beq o (choose c a b)
choose_table true true true true = refl
choose_table true true true false = refl
choose_table true true false true = refl
choose_table true true false false = refl
choose_table true false true true = refl
choose_table true false true false = refl
choose_table true false false true = refl
choose_table true false false false = refl
choose_table false true true true = refl
choose_table false true true false = refl
choose_table false true false true = refl
choose_table false true false false = refl
choose_table false false true true = refl
choose_table false false true false = refl
choose_table false false false true = refl
choose_table false false false false = refl

pub most_table : (o a b c : Bool) → ((not a || (not b || (o || false))) && ((not a || (not c || (o || false))) && ((not b || (not c || (o || false))) && ((a || (b || (not o || false))) && ((a || (c || (not o || false))) && ((b || (c || (not o || false))) && true)))))) ≡ beq o (most a b c)
most_table true true true true = refl
most_table true true true false = refl
most_table true true false true = refl
most_table true true false false = refl
most_table true false true true = refl
most_table true false true false = refl
most_table true false false true = refl
most_table true false false false = refl
most_table false true true true = refl
most_table false true true false = refl
most_table false true false true = refl
most_table false true false false = refl
most_table false false true true = refl
most_table false false true false = refl
most_table false false false true = refl
most_table false false false false = refl

pub odd_table : (o a b c : Bool) → ((not o || (a || (b || (c || false)))) && ((not o || (a || (not b || (not c || false)))) && ((not o || (not a || (b || (not c || false)))) && ((not o || (not a || (not b || (c || false)))) && ((o || (not a || (not b || (not c || false)))) && ((o || (not a || (b || (c || false)))) && ((o || (a || (not b || (c || false)))) && ((o || (a || (b || (not c || false)))) && true)))))))) ≡ beq o (odd a b c)
odd_table true true true true = refl
odd_table true true true false = refl
odd_table true true false true = refl
odd_table true true false false = refl
odd_table true false true true = refl
odd_table true false true false = refl
odd_table true false false true = refl
odd_table true false false false = refl
odd_table false true true true = refl
odd_table false true true false = refl
odd_table false true false true = refl
odd_table false true false false = refl
odd_table false false true true = refl
odd_table false false true false = refl
odd_table false false false true = refl
odd_table false false false false = refl
