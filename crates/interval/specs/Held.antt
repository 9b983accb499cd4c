-- What it means that a float bounds an exact number from above or from below, and that an interval holds it. Definitions only.
use Rattle.std.specs.Prelude.{true, false, Float}
use Rattle.std.specs.Float.{nan, inf, fin}
use Rattle.exact.specs.Exact.{ℚ, ◌≤ℚ◌, value}
use Rattle.interval.specs.declared.Interval.{Interval}

-- q ≤ x and x ≤ q: an infinity on its own side, and a NaN, say nothing, and an infinity on the other side bounds no number
abbrev pub AtMost : ℚ → Float → Type 0
AtMost q nan = Unit {0}
AtMost q (inf false) = Unit {0}
AtMost q (inf true) = ⊥
AtMost q (fin s m e) = q ≤ℚ value (fin s m e)

abbrev pub AtLeast : ℚ → Float → Type 0
AtLeast q nan = Unit {0}
AtLeast q (inf true) = Unit {0}
AtLeast q (inf false) = ⊥
AtLeast q (fin s m e) = value (fin s m e) ≤ℚ q

-- lo and hi hold q between them
pub record Held (lo hi : Float) (q : ℚ) : Type 0 where
  pub low : AtLeast q lo
  pub high : AtMost q hi

-- the interval a holds q
abbrev pub Holds : Interval → ℚ → Type 0
Holds a q = Held a.lo a.hi q
