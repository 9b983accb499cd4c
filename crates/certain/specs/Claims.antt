-- What is certain of reported volumes, whoever worked them out and however. `proofs/Certain.antt`, `Found.antt` and `Bounds.antt` prove it. Definitions only.
-- Everything is exact: x' are any fractions, and no rounding of a solver comes in. The theorems ask of y nothing, and of z that it is not below 0; poor witnesses only make the reach larger.
use Rattle.std.specs.Prelude.{ℕ, ◌*◌, ◌<◌, List, ◌≡◌, true, false, Float}
use Rattle.std.specs.Float.Ieee.{lt, le}
use Rattle.numbers.specs.Numbers.{+0, at}
use Rattle.exact.specs.Exact.{ℚ, ◌≤ℚ◌, whole, ◌+ℚ◌, ◌-ℚ◌, ◌*ℚ◌, ◌/ℚ◌, maxℚ, absℚ, squared, Σℚ, Finite, value}
use Rattle.interval.specs.Held.{AtMost}
use Rattle.certain.specs.Day.{Day, Reported, Sound, KeepsAsWell, AsGood, Best, Feasible, BestOfDay, WithinTolerance, balanced, limited, apart, misfit, unexplained, reach, read, report, exactly}
use Rattle.certain.specs.Bound.{reach_up, bound, kept}

-- No volumes that are as good as the reported ones lie farther from them than the reach.
abbrev pub NoneFarther : Type 0
NoneFarther = (d : Day) (r : Reported) → Sound d r → (x' : ℕ → ℚ) → AsGood d r.x x' → apart d r.x x' ≤ℚ reach d r

-- So no meter's volume is more than B spreads off, for a B whose square is at least the reach.
abbrev pub NoMeterFarther : Type 0
NoMeterFarther = (d : Day) (r : Reported) → Sound d r → (B : ℚ) → whole 0 ≤ℚ B → reach d r ≤ℚ squared B
    → (x' : ℕ → ℚ) → AsGood d r.x x' → (i : ℕ) → i < d.n → absℚ (r.x i -ℚ x' i) ≤ℚ B *ℚ d.spread i

-- The best volumes are as good, so they are within reach too.
abbrev pub BestWithin : Type 0
BestWithin = (d : Day) (r : Reported) → Sound d r → (x' : ℕ → ℚ) → Best d r.x x' → apart d r.x x' ≤ℚ reach d r

-- Volumes that keep as well and lie farther fit worse, by half of what they lie beyond the reach: D ≤ reach + 2 (U' - U), for the misfits U of x and U' of x'.
abbrev pub FartherFitsWorse : Type 0
FartherFitsWorse = (d : Day) (r : Reported) → Sound d r → (x' : ℕ → ℚ) → KeepsAsWell d r.x x'
    → apart d r.x x' +ℚ whole 2 *ℚ misfit d r.x ≤ℚ whole 2 *ℚ misfit d x' +ℚ reach d r

-- So none fits better than x by more than half the reach: 2 U ≤ 2 U' + reach.
abbrev pub NoneFitsBetter : Type 0
NoneFitsBetter = (d : Day) (r : Reported) → Sound d r → (x' : ℕ → ℚ) → KeepsAsWell d r.x x' → whole 2 *ℚ misfit d r.x ≤ℚ whole 2 *ℚ misfit d x' +ℚ reach d r

-- The reach is no empty measure: volumes that close exactly and keep every limit, with a reach of 0, are the day's best.
abbrev pub NoReachIsBest : Type 0
NoReachIsBest = (d : Day) (r : Reported) → Sound d r → Feasible d r.x → reach d r ≤ℚ whole 0 → BestOfDay d r.x

-- The day's best volumes close exactly, and reported volumes seldom do, so the best may fit a little worse than those. With any volumes k at hand that close exactly and keep every limit:
-- the best lie no farther than the reach and 2 (U_k - U), for the misfits U_k of k and U of x.
abbrev pub BestOfDayNear : Type 0
BestOfDayNear = (d : Day) (r : Reported) → Sound d r → (x' : ℕ → ℚ) → BestOfDay d x' → (k : ℕ → ℚ) → Feasible d k
    → apart d r.x x' +ℚ whole 2 *ℚ misfit d r.x ≤ℚ whole 2 *ℚ misfit d k +ℚ reach d r

-- and where the reported volumes are such k themselves, no farther than the reach
abbrev pub BestOfDayWithin : Type 0
BestOfDayWithin = (d : Day) (r : Reported) → Sound d r → Feasible d r.x → (x' : ℕ → ℚ) → BestOfDay d x' → apart d r.x x' ≤ℚ reach d r

-- The first two where data, volumes, witnesses and B are floats, each the number that it is.
abbrev pub NoneFartherOfFloats : Type 0
NoneFartherOfFloats = (n m p : ℕ) (values spreads balances limits least x y z : List Float)
    → let d = read n m p values spreads balances limits least in let r = report x y z in
    Sound d r → (x' : ℕ → ℚ) → AsGood d (exactly x) x' → apart d (exactly x) x' ≤ℚ reach d r

abbrev pub NoMeterFartherOfFloats : Type 0
NoMeterFartherOfFloats = (n m p : ℕ) (values spreads balances limits least x y z : List Float) (B : Float)
    → let d = read n m p values spreads balances limits least in let r = report x y z in
    Sound d r → whole 0 ≤ℚ value B → reach d r ≤ℚ squared (value B)
    → (x' : ℕ → ℚ) → AsGood d (exactly x) x' → (i : ℕ) → i < n → absℚ (exactly x i -ℚ x' i) ≤ℚ value B *ℚ exactly spreads i

-- ---- what a program has to find out

-- The tests of floats that make a day and a report sound: each spread is finite and above 0, each z finite and not below 0.
abbrev pub SoundIsTested : Type 0
SoundIsTested = (n m p : ℕ) (values spreads balances limits least x y z : List Float)
    → ((i : ℕ) → i < n → Finite (at spreads i) × (lt +0 (at spreads i) ≡ true))
    → ((k : ℕ) → k < p → Finite (at z k) × (lt (at z k) +0 ≡ false))
    → Sound (read n m p values spreads balances limits least) (report x y z)

-- Bounds from above on its parts, as interval arithmetic finds them, bound the reach: T on what is left unexplained, in spreads, K on how far a balance is open, M on how far a limit is from its floor.
abbrev pub ReachBounded : Type 0
ReachBounded = (d : Day) (r : Reported) → Sound d r → (T K M : ℕ → ℚ)
    → ((i : ℕ) → i < d.n → absℚ (unexplained d r i /ℚ d.spread i) ≤ℚ T i)
    → ((j : ℕ) → j < d.m → absℚ (balanced d j r.x) ≤ℚ K j)
    → ((k : ℕ) → k < d.p → maxℚ (limited d k r.x -ℚ d.floor k) (whole 0) ≤ℚ M k)
    → reach d r ≤ℚ whole 4 *ℚ (Σℚ d.n (λ i. squared (T i)) +ℚ (whole 2 *ℚ Σℚ d.m (λ j. absℚ (r.y j) *ℚ K j) +ℚ Σℚ d.p (λ k. r.z k *ℚ M k)))

-- ---- what the bound says

-- every number of a day and of a report is finite
pub record AllFinite (n m p : ℕ) (values spreads balances limits least x y z : List Float) : Type 0 where
  pub values_finite : (i : ℕ) → i < n → Finite (at values i)
  pub spreads_finite : (i : ℕ) → i < n → Finite (at spreads i)
  pub balances_finite : (i : ℕ) → i < m * n → Finite (at balances i)
  pub limits_finite : (i : ℕ) → i < p * n → Finite (at limits i)
  pub least_finite : (k : ℕ) → k < p → Finite (at least k)
  pub x_finite : (i : ℕ) → i < n → Finite (at x i)
  pub y_finite : (j : ℕ) → j < m → Finite (at y j)
  pub z_finite : (k : ℕ) → k < p → Finite (at z k)

-- R = reach_up is at least the exact reach. Where it is finite, all numbers are, and the day and the report are what the theorems ask for.
abbrev pub ReachIsBounded : Type 0
ReachIsBounded = (n m p : ℕ) (values spreads balances limits least x y z : List Float)
    → let R = reach_up n m p values spreads balances limits least x y z in let d = read n m p values spreads balances limits least in let r = report x y z in
    AtMost (reach d r) R × (Finite R → Sound d r) × (Finite R → AllFinite n m p values spreads balances limits least x y z)

-- So any volumes that are as good lie no farther than a finite R,
abbrev pub WithinBound : Type 0
WithinBound = (n m p : ℕ) (values spreads balances limits least x y z : List Float)
    → let R = reach_up n m p values spreads balances limits least x y z in let d = read n m p values spreads balances limits least in
    Finite R → (x' : ℕ → ℚ) → AsGood d (exactly x) x' → apart d (exactly x) x' ≤ℚ value R

-- and where B is finite, no meter's volume is more than B spreads off, in any volumes that are as good.
abbrev pub NoMeterBeyond : Type 0
NoMeterBeyond = (n m p : ℕ) (values spreads balances limits least x y z : List Float)
    → let B = bound n m p values spreads balances limits least x y z in let d = read n m p values spreads balances limits least in
    Finite B → (x' : ℕ → ℚ) → AsGood d (exactly x) x' → (i : ℕ) → i < n → absℚ (exactly x i -ℚ x' i) ≤ℚ value B *ℚ exactly spreads i

-- The square of a finite B is at least the reach, of a day and a report that are what the theorems ask for.
abbrev pub BoundIsEnough : Type 0
BoundIsEnough = (n m p : ℕ) (values spreads balances limits least x y z : List Float)
    → let B = bound n m p values spreads balances limits least x y z in let d = read n m p values spreads balances limits least in let r = report x y z in
    Finite B → Sound d r × (whole 0 ≤ℚ value B) × (reach d r ≤ℚ squared (value B))

-- A finite B says the same of the numbers as a finite R.
abbrev pub BoundIsOfNumbers : Type 0
BoundIsOfNumbers = (n m p : ℕ) (values spreads balances limits least x y z : List Float)
    → Finite (bound n m p values spreads balances limits least x y z) → AllFinite n m p values spreads balances limits least x y z

-- A bound that is at most some finite float is finite itself: it is never -infinity.
abbrev pub SmallIsFinite : Type 0
SmallIsFinite = (n m p : ℕ) (values spreads balances limits least x y z : List Float) (t : Float) → Finite t
    → le (bound n m p values spreads balances limits least x y z) t ≡ true → Finite (bound n m p values spreads balances limits least x y z)

-- ---- what it means that volumes are kept

-- Kept within a finite tolerance: exactly so.
abbrev pub KeptIsWithin : Type 0
KeptIsWithin = (n m p : ℕ) (values spreads balances limits least x : List Float) (t : Float) → Finite t
    → kept n m p balances limits least x t ≡ true → WithinTolerance (read n m p values spreads balances limits least) (exactly x) (value t)
