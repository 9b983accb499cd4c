-- Sums of squares that settle the norm without scaling: no promise rests on them, they spare the kernels work. Definitions only.
use Rattle.std.specs.Prelude.{ℕ, ◌*◌, ◌<◌, ◌≤◌, ◌≡◌, true, false, List, pos, negsuc, T, length, Float}
use Rattle.std.specs.Float.{fin, binary64}
use Rattle.std.specs.Float.Ieee.{minus, fits, lt, le}
use Rattle.numbers.specs.Numbers.{+0, at, dot}
use Rattle.norms.specs.Norm.{plain_norm, norm}

-- 2 ^ (55 n - 1075), for n squares, and 2 ^ 1000
abbrev pub least_sum : ℕ → Float
least_sum n = fin false 1 (minus (55 * n) 1075)

abbrev pub most_sum : Float
most_sum = fin false 1 (pos 1000)

-- A sum of at most 18 squares that lies between these decides alone: what vanished on either way is too small to be seen in it.
abbrev pub SumDecides : Type 0
SumDecides = (v : List Float) → 0 < length v → length v ≤ 18 → ((i : ℕ) → i < length v → T (fits binary64 (at v i)))
    → le (least_sum (length v)) (dot (length v) v v) ≡ true → le (dot (length v) v v) most_sum ≡ true → norm v ≡ plain_norm v

-- 2 ^ -80 and 2 ^ -30
abbrev pub faint_sum : Float
faint_sum = fin false 1 (negsuc 79)

abbrev pub faint_norm : Float
faint_norm = fin false 1 (negsuc 29)

-- And one that is at most 2 ^ -80 belongs to a norm that is at most 2 ^ -30.
abbrev pub SumBounds : Type 0
SumBounds = (v : List Float) → 0 < length v → length v ≤ 18 → ((i : ℕ) → i < length v → T (fits binary64 (at v i)))
    → le +0 (dot (length v) v v) ≡ true → le (dot (length v) v v) faint_sum ≡ true → lt faint_norm (norm v) ≡ false
