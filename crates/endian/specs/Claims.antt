-- What is promised of numbers as bytes, at every width k. Definitions only.
use Rattle.std.specs.Prelude.{◌≡◌, List, ℕ, ◌+◌, ◌^◌, ◌≤◌, ◌<◌, length, get_or, take, drop}
use Rattle.endian.specs.Little.{bytes, number_at, placed}

-- every entry is a byte
abbrev pub AreBytes : List ℕ → Type 0
AreBytes s = (i : ℕ) → get_or s i 0 < 256

-- Numbers of k bytes, at a place that fits.
pub record BothWays (k : ℕ) : Type 0 where
  -- what is written reads back
  pub written_reads : (at x : ℕ) (s : List ℕ) → at + k ≤ length s → x < 256 ^ k → number_at k at (placed at (bytes k x) s) ≡ x
  -- what is read and written again is the same bytes
  pub read_writes : (at : ℕ) (s : List ℕ) → at + k ≤ length s → AreBytes s → placed at (bytes k (number_at k at s)) s ≡ s
  -- the rest stays: the places before and after, and their number
  pub front : (at x : ℕ) (s : List ℕ) → at + k ≤ length s → take at (placed at (bytes k x) s) ≡ take at s
  pub rest : (at x : ℕ) (s : List ℕ) → at + k ≤ length s → drop (at + k) (placed at (bytes k x) s) ≡ drop (at + k) s
  pub size : (at x : ℕ) (s : List ℕ) → at + k ≤ length s → length (placed at (bytes k x) s) ≡ length s

abbrev pub AllBothWays : Type 0
AllBothWays = (k : ℕ) → BothWays k
