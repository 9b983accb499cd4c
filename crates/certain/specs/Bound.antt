-- The bound of reported volumes, and whether they are kept, as floats: interval arithmetic in its order. Definitions only.
-- `Claims.antt` says what they say of exact numbers. Where a number is not finite, the bound is +infinity, and nothing is kept within a finite tolerance.
use Rattle.std.specs.Prelude.{ℕ, zero, suc, ◌*◌, Bool, true, false, cond, ◌&&◌, List, Float}
use Rattle.std.specs.Float.{inf}
use Rattle.std.specs.Float.Ieee.{le}
use Rattle.numbers.specs.Numbers.{+0, at, entry}
use Rattle.interval.specs.Intervals.{is_finite, is_positive, larger, add_up, mul_up, div_up, root_up, point, plus, minus, times, magnitude, product, sum_within, sum_up}
use Rattle.interval.specs.declared.Interval.{Interval}

-- ---- tests

-- whether f is true of all below n
unfoldable pub all_below : ℕ → (ℕ → Bool) → Bool
all_below zero f = true
all_below (suc n) f = all_below n f && f n

-- whether the first n of a list are finite; are finite and above zero; are not below zero
unfoldable pub are_finite : ℕ → List Float → Bool
are_finite n v = all_below n (λ i. is_finite (at v i))

unfoldable pub are_positive : ℕ → List Float → Bool
are_positive n v = all_below n (λ i. is_positive (at v i))

unfoldable pub none_negative : ℕ → List Float → Bool
none_negative n v = all_below n (λ i. le +0 (at v i))

-- whether the day's numbers are finite, and the report's
unfoldable pub day_finite : (n m p : ℕ) (values balances limits least : List Float) → Bool
day_finite n m p values balances limits least = are_finite n values && are_finite (m * n) balances && are_finite (p * n) limits && are_finite p least

unfoldable pub report_finite : (n m p : ℕ) (x y z : List Float) → Bool
report_finite n m p x y z = are_finite n x && are_finite m y && are_finite p z

-- ---- rows and columns

-- row j of a matrix of n columns times x
unfoldable pub row_within : (n j : ℕ) (rows x : List Float) → Interval
row_within n j rows x = sum_within n (λ i. product (entry n rows j i) (at x i))

-- what the balances and the limits ask of volume i
unfoldable pub pull_within : (n m p i : ℕ) (balances limits y z : List Float) → Interval
pull_within n m p i balances limits y z = plus (sum_within m (λ j. product (entry n balances j i) (at y j))) (sum_within p (λ k. product (entry n limits k i) (at z k)))

-- ---- the terms of the reach

-- the square of what of a correction x - v the pull g leaves unexplained, in spreads s
unfoldable pub fit_term : (x v s : Float) → Interval → Float
fit_term x v s g = let u = div_up (magnitude (minus (minus (point x) (point v)) (times (product s s) g))) s in mul_up u u

-- what an open balance that comes to c loses by its witness y
unfoldable pub open_term : Float → Interval → Float
open_term y c = mul_up (magnitude (point y)) (magnitude c)

-- what a limit that comes to a and not to b loses by its witness z
unfoldable pub slack_term : (z b : Float) → Interval → Float
slack_term z b a = cond (le +0 z) (mul_up z (larger (minus a (point b)).hi +0)) (inf false)

-- and their sums
unfoldable pub fit_up : (n m p : ℕ) (values spreads balances limits x y z : List Float) → Float
fit_up n m p values spreads balances limits x y z = sum_up n (λ i. fit_term (at x i) (at values i) (at spreads i) (pull_within n m p i balances limits y z))

unfoldable pub open_up : (n m : ℕ) (balances x y : List Float) → Float
open_up n m balances x y = sum_up m (λ j. open_term (at y j) (row_within n j balances x))

unfoldable pub slack_up : (n p : ℕ) (limits least x z : List Float) → Float
slack_up n p limits least x z = sum_up p (λ k. slack_term (at z k) (at least k) (row_within n k limits x))

-- 4 (f + (2 o + s))
unfoldable pub fourfold : (f o s : Float) → Float
fourfold f o s = let q = add_up f (add_up (add_up o o) s) in let h = add_up q q in add_up h h

-- ---- the bound

-- the reach, or more: +infinity where a spread is not positive, a limit's witness is below zero, or a number is not finite
unfoldable pub reach_up : (n m p : ℕ) (values spreads balances limits least x y z : List Float) → Float
reach_up n m p values spreads balances limits least x y z =
    cond (are_positive n spreads && none_negative p z && day_finite n m p values balances limits least && report_finite n m p x y z)
    (fourfold (fit_up n m p values spreads balances limits x y z) (open_up n m balances x y) (slack_up n p limits least x z)) (inf false)

-- B, in spreads: in no volumes that are as good is a meter farther off
unfoldable pub bound : (n m p : ℕ) (values spreads balances limits least x y z : List Float) → Float
bound n m p values spreads balances limits least x y z = root_up (reach_up n m p values spreads balances limits least x y z)

-- ---- kept within a tolerance t

-- what balance j comes to is at most t in size; and what limit k comes to is not below its least by more than t
unfoldable pub closes : (n j : ℕ) (balances x : List Float) (t : Float) → Bool
closes n j balances x t = le (magnitude (row_within n j balances x)) t

unfoldable pub keeps : (n k : ℕ) (limits least x : List Float) (t : Float) → Bool
keeps n k limits least x t = le (minus (point (at least k)) (row_within n k limits x)).hi t

unfoldable pub kept : (n m p : ℕ) (balances limits least x : List Float) (t : Float) → Bool
kept n m p balances limits least x t = all_below m (λ j. closes n j balances x t) && all_below p (λ k. keeps n k limits least x t)
