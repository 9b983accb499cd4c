-- Interval arithmetic: each end is rounded to the nearest, and then moved one float outward. Definitions only.
-- Nothing is asked of any number. `Claims.antt` says what an interval holds, and how tight it is.
use Rattle.std.specs.Prelude.{ℕ, zero, suc, Bool, true, false, cond, ◌&&◌, ◌||◌, Float}
use Rattle.std.specs.Float.{inf}
use Rattle.std.specs.Float.Ieee.{lt, le, eq, neg}
use Rattle.numbers.specs.Numbers.{+0, -1, one, ◌⊕◌, ◌⊗◌, ◌⊘◌}
use Rattle.numbers.specs.Root.{sqrt_of}
use Rattle.interval.specs.Next.{next_up, next_down}
use Rattle.interval.specs.declared.Interval.{Interval}

-- ---- tests

abbrev pub is_finite : Float → Bool
is_finite x = lt x (inf false) && lt (inf true) x

-- above zero, and finite
abbrev pub is_positive : Float → Bool
is_positive x = lt +0 x && lt x (inf false)

abbrev pub are_zero : Float → Float → Bool
are_zero x y = eq x +0 && eq y +0

-- ---- ends

-- the larger of two, and +infinity where one is a NaN; the smaller, and then -infinity
unfoldable pub larger : Float → Float → Float
larger x y = cond (lt x y) y (cond (le y x) x (inf false))

unfoldable pub smaller : Float → Float → Float
smaller x y = neg (larger (neg x) (neg y))

-- a sum, or more; or less
abbrev pub add_up : Float → Float → Float
add_up x y = next_up (x ⊕ y)

abbrev pub add_down : Float → Float → Float
add_down x y = next_down (x ⊕ y)

-- a product of two that are not below zero, or more
abbrev pub mul_up : Float → Float → Float
mul_up x y = next_up (x ⊗ y)

-- a quotient by a number above zero, or more; by any other +infinity
unfoldable pub div_up : Float → Float → Float
div_up x d = cond (is_positive d) (next_up (x ⊘ d)) (inf false)

-- a root, or more
abbrev pub root_up : Float → Float
root_up x = next_up (sqrt_of x)

-- ---- intervals

-- all numbers
abbrev pub line : Interval
line = record { lo = inf true; hi = inf false }

-- x alone; all numbers where it is not finite
unfoldable pub point : Float → Interval
point x = cond (is_finite x) (record { lo = x; hi = x }) line

-- what is added to nothing is not rounded, and stays as it is
unfoldable pub plus : Interval → Interval → Interval
plus a b = cond (are_zero a.lo a.hi) b (cond (are_zero b.lo b.hi) a (record { lo = add_down a.lo b.lo; hi = add_up a.hi b.hi }))

unfoldable pub minus : Interval → Interval → Interval
minus a b = record { lo = add_down a.lo (neg b.hi); hi = add_up a.hi (neg b.lo) }

-- from the smallest to the largest of the four products of ends
unfoldable pub times : Interval → Interval → Interval
times a b = record {
  lo = next_down (smaller (smaller (a.lo ⊗ b.lo) (a.lo ⊗ b.hi)) (smaller (a.hi ⊗ b.lo) (a.hi ⊗ b.hi)));
  hi = next_up (larger (larger (a.lo ⊗ b.lo) (a.lo ⊗ b.hi)) (larger (a.hi ⊗ b.lo) (a.hi ⊗ b.hi)));
}

-- at least the size of every number that is held
abbrev pub magnitude : Interval → Float
magnitude a = larger (neg a.lo) a.hi

-- the product of two floats; all numbers where it is not finite. By 0, 1 and -1, the coefficients of most balances, it is not rounded, and stays as it is.
unfoldable pub product : Float → Float → Interval
product x y = cond (is_finite (x ⊗ y))
    (cond (eq x +0 || eq y +0) (record { lo = +0; hi = +0 }) (cond (eq x one) (record { lo = y; hi = y }) (cond (eq x -1) (record { lo = neg y; hi = neg y }) (record { lo = next_down (x ⊗ y); hi = next_up (x ⊗ y) })))) line

-- ---- sums of n, from the first on

unfoldable pub sum_within : ℕ → (ℕ → Interval) → Interval
sum_within zero f = point +0
sum_within (suc n) f = plus (sum_within n f) (f n)

-- of upper ends
unfoldable pub sum_up : ℕ → (ℕ → Float) → Float
sum_up zero f = +0
sum_up (suc n) f = add_up (sum_up n f) (f n)
