-- The next float up and down. Definitions only.
use Rattle.std.specs.Prelude.{ℕ, ◌+◌, ◌-◌, true, false, cond, ltb, eqb, Float}
use Rattle.std.specs.Float.{nan, inf, fin, binary64}
use Rattle.std.specs.Float.Ieee.{neg, of_bits, to_bits}

-- the float after that of the pattern b: 9223372036854775808 is 2 ^ 63, the sign's bit, so the pattern of -0
unfoldable pub after : ℕ → Float
after b = cond (ltb b 9223372036854775808) (of_bits binary64 (b + 1)) (cond (eqb b 9223372036854775808) (of_bits binary64 1) (of_bits binary64 (b - 1)))

-- the least float above x; above +infinity there is none, and a NaN gives the bound that is always safe
unfoldable pub next_up : Float → Float
next_up nan = inf false
next_up (inf false) = inf false
next_up (inf true) = after (to_bits binary64 (inf true))
next_up (fin s m e) = after (to_bits binary64 (fin s m e))

-- the greatest float below x
unfoldable pub next_down : Float → Float
next_down x = neg (next_up (neg x))
