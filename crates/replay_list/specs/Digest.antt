-- The digest of what a call left (oracle/README.md, "The stored calls"). Definitions only.
use Rattle.std.specs.Prelude.{cond, ℕ, ◌+◌, ◌*◌, ◌/◌, ◌%◌, zero, suc, Float}
use Rattle.std.specs.Float.{binary64}
use Rattle.std.specs.Float.Ieee.{ne, to_bits}

-- a half of the digest, with a number more
unfoldable pub lane : (h x : ℕ) → ℕ
lane h x = (h * 1664525 + x) % 4294967291

-- the digest with a word more
unfoldable pub mix : (d x : ℕ) → ℕ
mix d x = lane (d / 4294967296) (x / 4294967291) * 4294967296 + lane (d % 4294967296) (x % 4294967291)

-- with n words more
unfoldable pub over : (n d : ℕ) → (ℕ → ℕ) → ℕ
over zero d f = d
over (suc n) d f = mix (over n d f) (f n)

-- the bits of a float, and one pattern for every NaN
unfoldable pub pattern_of : Float → ℕ
pattern_of x = cond (ne x x) 0x7ff8000000000000 (to_bits binary64 x)
