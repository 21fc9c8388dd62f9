-- Words of 1 to 64 bits, as whole numbers below 2 ^ width. Each function of the crate is its line here.
use Rattle.std.specs.Prelude.{ℕ, ◌+◌, ◌-◌, ◌*◌, ◌/◌, ◌%◌, ◌^◌, ℤ, pos, ◌-ℤ◌, neg_ℤ, Bool, true, false, cond, nat_lt, int_lt, int_div, int_rem, unsigned_abs, nat_eq, bit_xor}
use Rattle.std.specs.Int.{int_rem_euclid}

-- the lowest bits of a number: x mod 2 ^ width
unfoldable pub chop : ℕ → ℕ → ℕ
chop width x = x % 2 ^ width

-- the same of an integer, negative ones too: z mod 2 ^ width, which is never below 0
unfoldable pub chop_wide : ℕ → ℤ → ℕ
chop_wide width z = unsigned_abs (int_rem_euclid z (pos (2 ^ width)))

-- a word in two's complement: x where its top bit is 0, and x - 2 ^ width otherwise
unfoldable pub signed : ℕ → ℕ → ℤ
signed width x = cond (nat_lt x (2 ^ (width - 1))) (pos x) (pos x -ℤ pos (2 ^ width))

-- bits low to high of a number, both included
unfoldable pub slice : ℕ → ℕ → ℕ → ℕ
slice high low x = chop (high - low + 1) (x / 2 ^ low)

-- h above l, which has low_width bits
unfoldable pub cat : ℕ → ℕ → ℕ → ℕ → ℕ
cat high_width h low_width l = h * 2 ^ low_width + l

-- sign extension: the word of the new width with the signed value of the old one
unfoldable pub sx : ℕ → ℕ → ℕ → ℕ
sx new_width old_width x = chop_wide new_width (signed old_width x)

-- the word of minus x
unfoldable pub neg : ℕ → ℕ → ℕ
neg width x = chop_wide width (neg_ℤ (pos x))

-- each bit turned
unfoldable pub bit_not : ℕ → ℕ → ℕ
bit_not width x = bit_xor x (2 ^ width - 1)

-- the sum modulo 2 ^ width
unfoldable pub plus : ℕ → ℕ → ℕ → ℕ
plus width x y = chop width (x + y)

-- the difference modulo 2 ^ width
unfoldable pub minus : ℕ → ℕ → ℕ → ℕ
minus width x y = chop_wide width (pos x -ℤ pos y)

-- the product modulo 2 ^ width
unfoldable pub times : ℕ → ℕ → ℕ → ℕ
times width x y = chop width (x * y)

-- the quotient of plain numbers, rounded down: 0 where the divisor is 0
unfoldable pub udiv : ℕ → ℕ → ℕ
udiv x y = cond (nat_eq y 0) 0 (x / y)

-- the remainder of plain numbers: x where the divisor is 0
unfoldable pub urem : ℕ → ℕ → ℕ
urem x y = cond (nat_eq y 0) x (x % y)

-- the absolute value of the signed number
unfoldable pub magnitude : ℕ → ℕ → ℕ
magnitude width x = unsigned_abs (signed width x)

-- the quotient of signed numbers, cut towards zero, modulo 2 ^ width: 0 where the divisor is 0
unfoldable pub sdiv : ℕ → ℕ → ℕ → ℕ
sdiv width x y = chop_wide width (cond (nat_eq y 0) (pos 0) (int_div (signed width x) (signed width y)))

-- what is left of x by that quotient, with the sign of x: x where the divisor is 0
unfoldable pub srem : ℕ → ℕ → ℕ → ℕ
srem width x y = chop_wide width (cond (nat_eq y 0) (signed width x) (int_rem (signed width x) (signed width y)))

-- less, as signed numbers
unfoldable pub slt : ℕ → ℕ → ℕ → Bool
slt width x y = int_lt (signed width x) (signed width y)

-- up by an amount, which is not masked: 0 from the width on
unfoldable pub shl : ℕ → ℕ → ℕ → ℕ
shl width x amount = cond (nat_lt amount width) (chop width (x * 2 ^ amount)) 0

-- down by an amount, with zeros coming in: 0 from the width on
unfoldable pub shr : ℕ → ℕ → ℕ → ℕ
shr width x amount = cond (nat_lt amount width) (x / 2 ^ amount) 0

-- up by an amount modulo the width; what leaves above comes in below
unfoldable pub rotate_left : ℕ → ℕ → ℕ → ℕ
rotate_left width amount x = chop width (x * 2 ^ (amount % width)) + x / 2 ^ (width - amount % width)

-- down by an amount modulo the width: up by what is left of the width; what leaves below comes in above
unfoldable pub rotate_right : ℕ → ℕ → ℕ → ℕ
rotate_right width amount x = rotate_left width (width - amount % width) x

-- a bit of a truth value: 1 where it is true
abbrev pub one_if : Bool → ℕ
one_if true = 1
one_if false = 0
