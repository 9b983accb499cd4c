-- Exact numbers. A fraction is (plus - minus) / den, and nothing about it is rounded. Definitions only.
-- One number has many fractions (1/2, 2/4), so numbers are compared by ≤ℚ, <ℚ and ≈ℚ, which multiply across, and never by ≡.
use Rattle.std.specs.Prelude.{ℕ, zero, suc, ◌+◌, ◌-◌, ◌*◌, ◌≤◌, ◌<◌, ◌≡◌, Bool, true, false, cond, ℤ, leb, Float}
use Rattle.std.proofs.Common.{mul-pos, zero-lt-suc}
use Rattle.std.specs.Float.{nan, inf, fin}
use Rattle.std.specs.Float.Ieee.{up, down}
use Rattle.std.specs.Float.Ieee.Fits.{down_pos}

-- ---- fractions

-- the number (plus - minus) / den
pub record ℚ : Type 0 where
  pub plus : ℕ
  pub minus : ℕ
  pub den : ℕ
  pub above : 0 < den

infix 10 ◌≤ℚ◌ ◌<ℚ◌ ◌≈ℚ◌
infixl 20 ◌+ℚ◌ ◌-ℚ◌
infixl 30 ◌*ℚ◌ ◌/ℚ◌
-- a ≤ b, a < b, and a = b: (p - m) / d ≤ (q - n) / e says p e + n d ≤ q d + m e
unfoldable pub ◌≤ℚ◌ : ℚ → ℚ → Type 0
a ≤ℚ b = a.plus * b.den + b.minus * a.den ≤ b.plus * a.den + a.minus * b.den

unfoldable pub ◌<ℚ◌ : ℚ → ℚ → Type 0
a <ℚ b = a.plus * b.den + b.minus * a.den < b.plus * a.den + a.minus * b.den

unfoldable pub ◌≈ℚ◌ : ℚ → ℚ → Type 0
a ≈ℚ b = a.plus * b.den + b.minus * a.den ≡ b.plus * a.den + a.minus * b.den

-- n / d, for a d above 0; and n
abbrev pub over : ℕ → (d : ℕ) → 0 < d → ℚ
over n d p = record { plus = n; minus = 0; den = d; above = p }

abbrev pub whole : ℕ → ℚ
whole n = over n 1 (zero-lt-suc 0)

-- p / d + q / e = (p e + q d) / (d e)
unfoldable pub ◌+ℚ◌ : ℚ → ℚ → ℚ
a +ℚ b = record {
  plus = a.plus * b.den + b.plus * a.den;
  minus = a.minus * b.den + b.minus * a.den;
  den = a.den * b.den;
  above = mul-pos a.above b.above;
}

unfoldable pub negℚ : ℚ → ℚ
negℚ a = record { plus = a.minus; minus = a.plus; den = a.den; above = a.above }

abbrev pub ◌-ℚ◌ : ℚ → ℚ → ℚ
a -ℚ b = a +ℚ negℚ b

-- (p - m) / d * (q - n) / e = ((p q + m n) - (p n + m q)) / (d e)
unfoldable pub ◌*ℚ◌ : ℚ → ℚ → ℚ
a *ℚ b = record {
  plus = a.plus * b.plus + a.minus * b.minus;
  minus = a.plus * b.minus + a.minus * b.plus;
  den = a.den * b.den;
  above = mul-pos a.above b.above;
}

-- n / d, and 0 where d is 0
unfoldable pub part : ℕ → ℕ → ℚ
part n zero = whole 0
part n (suc d) = over n (suc d) (zero-lt-suc d)

-- 1 / a, and 0 where a is 0. Of p - m and m - p, which stop at 0, one is 0: 1 / ((p - m) / d) is d / (p - m) where p is above m, and - d / (m - p) where m is above p.
unfoldable pub inverse : ℚ → ℚ
inverse a = part a.den (a.plus - a.minus) -ℚ part a.den (a.minus - a.plus)

abbrev pub ◌/ℚ◌ : ℚ → ℚ → ℚ
a /ℚ b = a *ℚ inverse b

-- ---- the larger, the smaller, the size

-- whether a ≤ℚ b
unfoldable pub leℚ : ℚ → ℚ → Bool
leℚ a b = leb (a.plus * b.den + b.minus * a.den) (b.plus * a.den + a.minus * b.den)

unfoldable pub maxℚ : ℚ → ℚ → ℚ
maxℚ a b = cond (leℚ a b) b a

unfoldable pub minℚ : ℚ → ℚ → ℚ
minℚ a b = cond (leℚ a b) a b

-- |a|
unfoldable pub absℚ : ℚ → ℚ
absℚ a = maxℚ a (negℚ a)

-- ---- squares and sums

unfoldable pub squared : ℚ → ℚ
squared a = a *ℚ a

-- f 0 + f 1 + .. + f (n - 1)
unfoldable pub Σℚ : ℕ → (ℕ → ℚ) → ℚ
Σℚ zero f = whole 0
Σℚ (suc n) f = Σℚ n f +ℚ f n

-- ---- floats

-- x is a number: neither a NaN nor an infinity
abbrev pub Finite : Float → Type 0
Finite nan = ⊥
Finite (inf s) = ⊥
Finite (fin s m e) = Unit {0}

-- m * 2 ^ e as a fraction, with the sign s: minus where it is true
unfoldable pub signed : Bool → ℕ → ℤ → ℚ
signed false m e = over (m * up e) (down e) (down_pos e)
signed true m e = negℚ (over (m * up e) (down e) (down_pos e))

-- the number that a finite float is. (0 for a NaN and for an infinity: a statement that speaks of the value says that the float is finite.)
unfoldable pub value : Float → ℚ
value nan = whole 0
value (inf s) = whole 0
value (fin s m e) = signed s m e
