-- A day in exact numbers: meters, balances and limits; how good volumes are; and what reported volumes and their witnesses come to. Definitions only.
-- Nothing here is rounded, and nothing says how volumes are worked out. Volumes are x 0, x 1, .., x (n - 1).
use Rattle.std.specs.Prelude.{ℕ, ◌+◌, ◌*◌, ◌<◌, List, get_or, Float}
use Rattle.std.specs.Float.{nan}
use Rattle.exact.specs.Exact.{ℚ, ◌≤ℚ◌, ◌<ℚ◌, ◌≈ℚ◌, whole, ◌+ℚ◌, ◌-ℚ◌, ◌*ℚ◌, ◌/ℚ◌, maxℚ, minℚ, absℚ, squared, Σℚ, value}

-- ---- the day

-- n meters, m balances and p limits. A balance wants the sum of its coefficients times the volumes to be 0, and a limit wants its own to be at least its floor.
-- (That a volume is at least 0 is one of the limits.)
pub record Day : Type 0 where
  pub n : ℕ
  pub m : ℕ
  pub p : ℕ
  pub volume : ℕ → ℚ
  pub spread : ℕ → ℚ
  pub balance : ℕ → ℕ → ℚ
  pub limit : ℕ → ℕ → ℚ
  pub floor : ℕ → ℚ

-- the numbers that a list of floats is. (A NaN and an infinity are read as 0, and so is what lies past the end: whoever cites a claim of floats says that they are finite.)
abbrev pub exactly : List Float → ℕ → ℚ
exactly v i = value (get_or v i nan)

-- the day whose data are floats: a balance, and a limit, is a row of n
abbrev pub read : (n m p : ℕ) (values spreads balances limits least : List Float) → Day
read n m p values spreads balances limits least = record {
  n = n;
  m = m;
  p = p;
  volume = exactly values;
  spread = exactly spreads;
  balance = λ j i. exactly balances (j * n + i);
  limit = λ k i. exactly limits (k * n + i);
  floor = exactly least;
}

-- what balance j, and limit k, comes to at the volumes x
unfoldable pub balanced : Day → ℕ → (ℕ → ℚ) → ℚ
balanced d j x = Σℚ d.n (λ i. d.balance j i *ℚ x i)

unfoldable pub limited : Day → ℕ → (ℕ → ℚ) → ℚ
limited d k x = Σℚ d.n (λ i. d.limit k i *ℚ x i)

-- how far x and x' lie apart: the squares of the differences, each counted in spreads, summed
unfoldable pub apart : Day → (x x' : ℕ → ℚ) → ℚ
apart d x x' = Σℚ d.n (λ i. squared ((x i -ℚ x' i) /ℚ d.spread i))

-- how badly x fits the measured volumes
abbrev pub misfit : Day → (ℕ → ℚ) → ℚ
misfit d x = apart d x d.volume

-- ---- volumes that are as good as x

-- x' closes each balance at least as well as x, and keeps each limit at least as well: the floor, or what x comes to where x itself is below the floor
pub record KeepsAsWell (d : Day) (x x' : ℕ → ℚ) : Type 0 where
  pub closes : (j : ℕ) → j < d.m → absℚ (balanced d j x') ≤ℚ absℚ (balanced d j x)
  pub keeps : (k : ℕ) → k < d.p → minℚ (d.floor k) (limited d k x) ≤ℚ limited d k x'

-- and fits the measured volumes at least as well
pub record AsGood (d : Day) (x x' : ℕ → ℚ) : Type 0 where
  pub keeps_as_well : KeepsAsWell d x x'
  pub fits : misfit d x' ≤ℚ misfit d x

-- x' is the best of all that keep balances and limits as well as x
pub record Best (d : Day) (x x' : ℕ → ℚ) : Type 0 where
  pub keeps_as_well : KeepsAsWell d x x'
  pub fits_best : (x'' : ℕ → ℚ) → KeepsAsWell d x x'' → misfit d x' ≤ℚ misfit d x''

-- ---- the day's best volumes

-- x closes every balance exactly, and keeps every limit
pub record Feasible (d : Day) (x : ℕ → ℚ) : Type 0 where
  pub closed : (j : ℕ) → j < d.m → balanced d j x ≈ℚ whole 0
  pub within : (k : ℕ) → k < d.p → d.floor k ≤ℚ limited d k x

-- and fits best of all that do
pub record BestOfDay (d : Day) (x : ℕ → ℚ) : Type 0 where
  pub feasible : Feasible d x
  pub fits_best : (x' : ℕ → ℚ) → Feasible d x' → misfit d x ≤ℚ misfit d x'

-- ---- within a tolerance

-- no balance is open by more than t, and no limit is missed by more
pub record WithinTolerance (d : Day) (x : ℕ → ℚ) (t : ℚ) : Type 0 where
  pub closes : (j : ℕ) → j < d.m → absℚ (balanced d j x) ≤ℚ t
  pub keeps : (k : ℕ) → k < d.p → d.floor k -ℚ t ≤ℚ limited d k x

-- ---- the witnesses

-- With the volumes x comes a number y j for each balance and a z k, at least 0, for each limit. Where x is the best, y and z may be Lagrange's multipliers; but they may be any numbers.
pub record Reported : Type 0 where
  pub x : ℕ → ℚ
  pub y : ℕ → ℚ
  pub z : ℕ → ℚ

-- the report whose volumes and witnesses are floats
abbrev pub report : (x y z : List Float) → Reported
report x y z = record { x = exactly x; y = exactly y; z = exactly z }

-- what the balances and the limits ask of volume i: Σ C_ji y_j + Σ A_ki z_k
unfoldable pub pull : Day → Reported → ℕ → ℚ
pull d r i = Σℚ d.m (λ j. d.balance j i *ℚ r.y j) +ℚ Σℚ d.p (λ k. d.limit k i *ℚ r.z k)

-- what of volume i's correction that leaves unexplained: (x_i - v_i) - s_i² g_i
unfoldable pub unexplained : Day → Reported → ℕ → ℚ
unexplained d r i = (r.x i -ℚ d.volume i) -ℚ squared (d.spread i) *ℚ pull d r i

-- what is lost where a balance with a witness is open, or a limit with a witness is not met exactly: 2 Σ |y_j| |C_j x| + Σ z_k max (A_k x - b_k) 0
unfoldable pub gap : Day → Reported → ℚ
gap d r =
    whole 2 *ℚ Σℚ d.m (λ j. absℚ (r.y j) *ℚ absℚ (balanced d j r.x))
    +ℚ Σℚ d.p (λ k. r.z k *ℚ maxℚ (limited d k r.x -ℚ d.floor k) (whole 0))

-- how far volumes that are as good may lie apart from x: 4 (Σ (t_i / s_i)² + γ)
unfoldable pub reach : Day → Reported → ℚ
reach d r = whole 4 *ℚ (Σℚ d.n (λ i. squared (unexplained d r i /ℚ d.spread i)) +ℚ gap d r)

-- what the day and the report have to be: spreads above 0, and the limits' witnesses not below 0
pub record Sound (d : Day) (r : Reported) : Type 0 where
  pub spreads : (i : ℕ) → i < d.n → whole 0 <ℚ d.spread i
  pub witnesses : (k : ℕ) → k < d.p → whole 0 ≤ℚ r.z k
