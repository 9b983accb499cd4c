-- The norm of a list: its entries are brought near 1 before they are squared, so that in small units no square vanishes and in large ones none overflows. Definitions only.
use Rattle.std.specs.Prelude.{ℕ, zero, suc, ◌*◌, ◌/◌, ◌^◌, max, Bool, true, false, cond, ◌||◌, List, eqb, length, Float}
use Rattle.std.specs.Float.{nan, inf, fin, binary64}
use Rattle.std.specs.Float.Ieee.{up, down, size, round, is_nan}
use Rattle.numbers.specs.Numbers.{+0, at, dot, tab}
use Rattle.numbers.specs.Root.{sqrt_of}

-- the plain norm: the root of the sum of the squares, of the entries as they are
unfoldable pub plain_norm : List Float → Float
plain_norm v = sqrt_of (dot (length v) v v)

-- x * 2 ^ p / 2 ^ q, rounded once
unfoldable pub scaled : (p q : ℕ) → Float → Float
scaled p q nan = nan
scaled p q (inf s) = inf s
scaled p q (fin s m e) = round binary64 s (m * up e * 2 ^ p) (down e * 2 ^ q)

-- ---- the first n entries of v

-- one of them is a NaN
unfoldable pub has_nan : ℕ → List Float → Bool
has_nan zero v = false
has_nan (suc n) v = has_nan n v || is_nan (at v n)

-- one of them is an infinity
abbrev pub is_inf : Float → Bool
is_inf nan = false
is_inf (inf s) = true
is_inf (fin s m e) = false

unfoldable pub has_inf : ℕ → List Float → Bool
has_inf zero v = false
has_inf (suc n) v = has_inf n v || is_inf (at v n)

-- The magnitude of a finite f64 as a number of units of 2 ^ -1074, the smallest f64 above zero: each is a whole number of them.
abbrev pub magnitude : Float → ℕ
magnitude nan = 0
magnitude (inf s) = 0
magnitude (fin s m e) = m * up e * 2 ^ 1074 / down e

unfoldable pub largest : ℕ → List Float → ℕ
largest zero v = 0
largest (suc n) v = max (largest n v) (magnitude (at v n))

-- ---- the norm

-- Where the largest magnitude has z binary digits in units, it is at least 2 ^ (z - 1) and below 2 ^ z units, and 1 is 2 ^ 1074 units:
-- so 2 ^ 1075 / 2 ^ z is the power of two that brings it to at least 1 and below 2.
unfoldable pub reduced : ℕ → List Float → List Float
reduced z v = tab (length v) (λ i. scaled 1075 z (at v i))

-- the plain norm of the entries so scaled, scaled back
unfoldable pub rescaled : ℕ → List Float → Float
rescaled z v = scaled z 1075 (plain_norm (reduced z v))

-- NaN if an entry is NaN, else +infinity if one is infinite, else +0 if all are zero, or there are none
unfoldable pub norm : List Float → Float
norm v =
    let n = length v in
    let most = largest n v in
    let finite = cond (eqb most 0) +0 (rescaled (size most) v) in
    cond (has_nan n v) nan (cond (has_inf n v) (inf false) finite)
