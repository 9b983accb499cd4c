-- What is shown of the corrected volumes. Definitions only.
use Rattle.std.specs.Prelude.{ℕ, ◌<◌, ◌≡◌, true, ◌⊎◌, ◌↔◌, List, Float}
use Rattle.std.specs.Float.{nan}
use Rattle.std.specs.Float.Ieee.{lt}
use Rattle.numbers.specs.Numbers.{+0, at, nth}
use Rattle.reconcile.specs.Day.{named}

-- a meter is named exactly where its volume is below zero or NaN
abbrev pub NamedIs : Type 0
NamedIs = (n : ℕ) (x : List Float) (i : ℕ) → i < n → (nth (named n x) i ≡ 1) ↔ ((lt (at x i) +0 ≡ true) ⊎ (at x i ≡ nan))

-- and every other meter's mark is 0
abbrev pub ElseNot : Type 0
ElseNot = (n : ℕ) (x : List Float) (i : ℕ) → i < n → (nth (named n x) i ≡ 0) ⊎ (nth (named n x) i ≡ 1)
