-- What is shown of the norm: its scaling is the one that the rules name, and where it has the bits of the plain norm. Definitions only.
use Rattle.std.specs.Prelude.{ℕ, ◌*◌, ◌^◌, ◌<◌, ◌≤◌, ◌≡◌, Bool, false, List, T, eqb, leb, length, Float}
use Rattle.std.specs.Float.{nan, inf, fin, binary64}
use Rattle.std.specs.Float.Ieee.{up, down, size, fits}
use Rattle.numbers.specs.Numbers.{at, dot, ◌⊗◌}
use Rattle.norms.specs.Norm.{plain_norm, largest, reduced, norm}

-- +0 or -0
abbrev pub is_zero : Float → Bool
is_zero nan = false
is_zero (inf s) = false
is_zero (fin s m e) = eqb m 0

-- in the normal range: finite, and its magnitude is 2 ^ -1022 at least
abbrev pub is_normal : Float → Bool
is_normal nan = false
is_normal (inf s) = false
is_normal (fin s m e) = leb (down e) (m * up e * 2 ^ 1022)

-- zero, or in the normal range
abbrev pub NormalOrZero : Float → Type 0
NormalOrZero x = is_zero x ≡ false → T (is_normal x)

-- On the way to the root of the sum of v's squares no nonzero entry, square, sum or root leaves the normal range. (The square of a nonzero entry may not vanish.)
pub record InRange (v : List Float) : Type 0 where
  pub entries : (i : ℕ) → i < length v → NormalOrZero (at v i)
  pub squares : (i : ℕ) → i < length v → is_zero (at v i) ≡ false → T (is_normal (at v i ⊗ at v i))
  pub sums : (i : ℕ) → i ≤ length v → NormalOrZero (dot i v v)
  pub root : NormalOrZero (plain_norm v)

-- A nonempty list of f64s whose way is in range, with its entries as they are and scaled, has the plain norm.
abbrev pub KeepsBits : Type 0
KeepsBits = (v : List Float) → 0 < length v → ((i : ℕ) → i < length v → T (fits binary64 (at v i)))
    → InRange v → InRange (reduced (size (largest (length v) v)) v) → norm v ≡ plain_norm v

-- 2 ^ 1075 / 2 ^ z brings the largest magnitude to at least 1, which is 2 ^ 1074 units, and below 2.
abbrev pub Brings : Type 0
Brings = (n : ℕ) (v : List Float) → 0 < largest n v
    → (2 ^ 1074 * 2 ^ size (largest n v) ≤ largest n v * 2 ^ 1075) × (largest n v * 2 ^ 1075 < 2 ^ 1075 * 2 ^ size (largest n v))
