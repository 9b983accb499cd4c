-- The day's reconciliation (docs/RULES.md, "The day"): the meters' volumes, corrected so that the balances close. Definitions only.
use Rattle.std.specs.Prelude.{ℕ, Bool, cond, ◌||◌, List, eqb, replicate, Float}
use Rattle.std.specs.Float.Ieee.{lt, is_nan}
use Rattle.numbers.specs.Numbers.{+0, near, one, ◌⊘◌, at, nth, tab, grid}
use Rattle.totaliser.specs.Volume.{volume}
use Rattle.nnls.specs.Counted.{Counted}
use Rattle.lsei.specs.Lsei.{Solution, lsei}

-- n meters, each with two totaliser readings and a spread, and m balances, a row of n coefficients each
pub record Day : Type 0 where
  pub n : ℕ
  pub m : ℕ
  pub before : List ℕ
  pub after : List ℕ
  pub spreads : List Float
  pub balances : List Float

abbrev pub day_of : (n m : ℕ) (before after : List ℕ) (spreads balances : List Float) → Day
day_of n m before after spreads balances = record { n = n; m = m; before = before; after = after; spreads = spreads; balances = balances }

-- ---- LSEI's problem

-- row i of E holds 1 / spread
abbrev pub scale : List Float → ℕ → Float
scale spreads i = one ⊘ at spreads i

unfoldable pub scales : ℕ → List Float → List Float
scales n spreads = grid n n (λ i j. cond (eqb j i) (scale spreads i) +0)

-- f the volume over its spread
abbrev pub target : (before after : List ℕ) → List Float → ℕ → Float
target before after spreads i = near (volume (nth before i) (nth after i)) 1 ⊘ at spreads i

unfoldable pub targets : ℕ → (before after : List ℕ) → List Float → List Float
targets n before after spreads = tab n (target before after spreads)

-- each volume is at least zero
unfoldable pub identity : ℕ → List Float
identity n = grid n n (λ i j. cond (eqb j i) one +0)

-- the corrected volumes are its x; the balances equal zero
unfoldable pub corrected : Day → Counted Solution
corrected d =
    lsei d.n d.m d.n d.n d.balances (replicate d.m +0)
    (scales d.n d.spreads) (targets d.n d.before d.after d.spreads)
    (identity d.n) (replicate d.n +0)

-- ---- names

-- a meter is named whose corrected volume is below zero or NaN: its mark is 1, else 0
abbrev pub is_named : Float → Bool
is_named v = lt v +0 || is_nan v

abbrev pub mark : Float → ℕ
mark v = cond (is_named v) 1 0

unfoldable pub named : ℕ → List Float → List ℕ
named n x = tab n (λ i. mark (at x i))
