-- What is claimed of the next float, of rounding, and of intervals, on every float. `proofs/Claims.antt` proves each. Definitions only.
use Rattle.std.specs.Prelude.{ℕ, ◌<◌, ◌≡◌, Bool, true, false, T, Float}
use Rattle.std.specs.Float.{nan, inf, binary64}
use Rattle.std.specs.Float.Ieee.{fits, lt, round}
use Rattle.exact.specs.Exact.{ℚ, ◌≤ℚ◌, ◌≈ℚ◌, over, whole, negℚ, absℚ, ◌+ℚ◌, ◌-ℚ◌, ◌*ℚ◌, ◌/ℚ◌, Σℚ, value, Finite}
use Rattle.interval.specs.Next.{next_up, next_down}
use Rattle.interval.specs.Held.{AtMost, AtLeast, Held, Holds}
use Rattle.interval.specs.Intervals.{is_positive, point, plus, minus, times, product, magnitude, add_up, mul_up, div_up, root_up, sum_within, sum_up}
use Rattle.interval.specs.declared.Interval.{Interval}

-- ---- the next float

-- next_up x is an f64 above x, and no f64 lies between; +infinity stays, and a NaN gives +infinity
pub record LeastAbove : Type 0 where
  pub is_f64 : (x : Float) → T (fits binary64 x) → T (fits binary64 (next_up x))
  pub above : (x : Float) → T (fits binary64 x) → (x ≡ nan → ⊥) → (x ≡ inf false → ⊥) → T (lt x (next_up x))
  pub none_between : (x y : Float) → T (fits binary64 x) → T (fits binary64 y) → T (lt x y) → T (lt y (next_up x)) → ⊥
  pub of_nan : next_up nan ≡ inf false
  pub of_infinity : next_up (inf false) ≡ inf false

-- the same downward
pub record GreatestBelow : Type 0 where
  pub is_f64 : (x : Float) → T (fits binary64 x) → T (fits binary64 (next_down x))
  pub below : (x : Float) → T (fits binary64 x) → (x ≡ nan → ⊥) → (x ≡ inf true → ⊥) → T (lt (next_down x) x)
  pub none_between : (x y : Float) → T (fits binary64 x) → T (fits binary64 y) → T (lt y x) → T (lt (next_down x) y) → ⊥
  pub of_nan : next_down nan ≡ inf true
  pub of_infinity : next_down (inf true) ≡ inf true

-- a / c with the sign s
abbrev pub fraction : Bool → (a c : ℕ) → 0 < c → ℚ
fraction false a c C = over a c C
fraction true a c C = negℚ (over a c C)

-- A number that is rounded to the nearest lies between the float below the rounded one and the float above it: subnormals, and overflow to an infinity, are in it.
abbrev pub Outward : Type 0
Outward = (s : Bool) (a c : ℕ) (C : 0 < c) → let r = round binary64 s a c in Held (next_down r) (next_up r) (fraction s a c C)

-- ---- containment

-- What an operation makes of intervals holds what the exact operation makes of numbers that they hold. Nothing is asked of the ends.
pub record Contained : Type 0 where
  pub of : (x : Float) → Holds (point x) (value x)
  pub add : (a b : Interval) (q t : ℚ) → Holds a q → Holds b t → Holds (plus a b) (q +ℚ t)
  pub sub : (a b : Interval) (q t : ℚ) → Holds a q → Holds b t → Holds (minus a b) (q -ℚ t)
  pub mul : (a b : Interval) (q t : ℚ) → Holds a q → Holds b t → Holds (times a b) (q *ℚ t)
  pub product : (x y : Float) → Holds (product x y) (value x *ℚ value y)
  pub sum : (n : ℕ) (f : ℕ → Interval) (g : ℕ → ℚ) → ((i : ℕ) → Holds (f i) (g i)) → Holds (sum_within n f) (Σℚ n g)
  pub magnitude : (a : Interval) (q : ℚ) → Holds a q → AtMost (absℚ q) (magnitude a)

-- r is at least x / d: q ≤ r for a q that is not below zero, where q times a number that is at least d is at most x; and the size of q / d, where the size of q is at most x
pub record DivUp (x d r : Float) : Type 0 where
  pub bounds : (q t : ℚ) → whole 0 ≤ℚ q → AtLeast t d → AtMost (q *ℚ t) x → AtMost q r
  pub quotient : (q : ℚ) → AtMost (absℚ q) x → AtMost (absℚ (q /ℚ value d)) r

-- r is at least the root of x: q ≤ r where q * q ≤ x; and where r is finite, it is not below zero and x ≤ r * r
pub record RootUp (x r : Float) : Type 0 where
  pub bounds : (q : ℚ) → AtMost (q *ℚ q) x → AtMost q r
  pub square : (q : ℚ) → AtMost q x → Finite r → q ≤ℚ value r *ℚ value r
  pub positive : Finite r → whole 0 ≤ℚ value r

-- Of upper bounds an upper bound.
pub record Upward : Type 0 where
  pub add : (x y : Float) (q t : ℚ) → AtMost q x → AtMost t y → AtMost (q +ℚ t) (add_up x y)
  pub mul : (x y : Float) (q t : ℚ) → whole 0 ≤ℚ q → whole 0 ≤ℚ t → AtMost q x → AtMost t y → AtMost (q *ℚ t) (mul_up x y)
  pub div : (x d : Float) → DivUp x d (div_up x d)
  pub root : (x : Float) → T (fits binary64 x) → RootUp x (root_up x)
  pub sum : (n : ℕ) (f : ℕ → Float) (g : ℕ → ℚ) → ((i : ℕ) → AtMost (g i) (f i)) → AtMost (Σℚ n g) (sum_up n f)

-- ---- tightness

-- no f64 lies between w and hi; and none between lo and w: so an end is at most one f64 away from w
abbrev pub TightAbove : (w hi : Float) → Type 0
TightAbove w hi = (y : Float) → T (fits binary64 y) → T (lt w y) → T (lt y hi) → ⊥

abbrev pub TightBelow : (w lo : Float) → Type 0
TightBelow w lo = (y : Float) → T (fits binary64 y) → T (lt lo y) → T (lt y w) → ⊥

pub record Tight (w : Float) (a : Interval) : Type 0 where
  pub above : TightAbove w a.hi
  pub below : TightBelow w a.lo

-- Where the exact result of one operation on floats is an f64 w, the ends are at most one f64 away from it.
-- (Where it is none, the ends are the two neighbours of the f64 that it is rounded to: so says the definition.)
pub record TightWhereExact : Type 0 where
  pub add : (x y w : Float) → Finite x → Finite y → T (fits binary64 w) → Finite w → value w ≈ℚ value x +ℚ value y → Tight w (plus (point x) (point y))
  pub sub : (x y w : Float) → Finite x → Finite y → T (fits binary64 w) → Finite w → value w ≈ℚ value x -ℚ value y → Tight w (minus (point x) (point y))
  pub mul : (x y w : Float) → Finite x → Finite y → T (fits binary64 w) → Finite w → value w ≈ℚ value x *ℚ value y → Tight w (times (point x) (point y))
  pub product : (x y w : Float) → Finite x → Finite y → T (fits binary64 w) → Finite w → value w ≈ℚ value x *ℚ value y → Tight w (product x y)
  pub add_up_holds : (x y w : Float) → Finite x → Finite y → T (fits binary64 w) → Finite w → value w ≈ℚ value x +ℚ value y → TightAbove w (add_up x y)
  pub mul_up_holds : (x y w : Float) → Finite x → Finite y → T (fits binary64 w) → Finite w → value w ≈ℚ value x *ℚ value y → TightAbove w (mul_up x y)
  pub div_up_holds : (x d w : Float) → Finite x → is_positive d ≡ true → T (fits binary64 w) → Finite w → value w *ℚ value d ≈ℚ value x → TightAbove w (div_up x d)
  pub root_up_holds : (x w : Float) → T (fits binary64 x) → Finite x → T (fits binary64 w) → Finite w → whole 0 ≤ℚ value w → value w *ℚ value w ≈ℚ value x → TightAbove w (root_up x)
