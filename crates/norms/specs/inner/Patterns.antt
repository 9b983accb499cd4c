-- How the code finds the largest magnitude: by the bit patterns, which order magnitudes, then the infinity, then the NaN. No promise rests on it. Definitions only.
-- 4503599627370496 is 2 ^ 52, and 9218868437227405312 is 2047 * 2 ^ 52, the infinity's pattern.
use Rattle.std.specs.Prelude.{ℕ, ◌+◌, ◌-◌, ◌*◌, ◌/◌, ◌%◌, ◌^◌, ◌<◌, ◌≡◌, cond, ◌||◌, List, ltb, leb, Float}
use Rattle.std.specs.Float.Ieee.{is_nan}
use Rattle.norms.specs.Norm.{has_nan, has_inf, is_inf, magnitude, largest}

-- the units of 2 ^ -1074 that the pattern b of a finite value without a sign stands for
abbrev pub units_of : ℕ → ℕ
units_of b = cond (ltb b 4503599627370496) b ((4503599627370496 + b % 4503599627370496) * 2 ^ (b / 4503599627370496 - 1))

-- b is the pattern of x without its sign; a NaN's is above the infinity's
pub record PatternOf (x : Float) (b : ℕ) : Type 0 where
  pub number : is_nan x ≡ ltb 9218868437227405312 b
  pub infinite : is_nan x || is_inf x ≡ leb 9218868437227405312 b
  pub units : b < 9218868437227405312 → magnitude x ≡ units_of b

-- b is the largest of the first n patterns
pub record LargestPattern (n : ℕ) (v : List Float) (b : ℕ) : Type 0 where
  pub number : has_nan n v ≡ ltb 9218868437227405312 b
  pub infinite : has_nan n v || has_inf n v ≡ leb 9218868437227405312 b
  pub units : b < 9218868437227405312 → largest n v ≡ units_of b
