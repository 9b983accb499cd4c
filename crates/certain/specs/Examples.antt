-- A day worked out: three meters, what comes in at the first goes out at the other two. Definitions only.
use Rattle.std.specs.Prelude.{ℕ, ◌<◌, ◌≡◌, true, false, [], ◌∷◌, pos, negsuc, Float}
use Rattle.std.specs.Float.{fin}
use Rattle.numbers.specs.Numbers.{+0}
use Rattle.exact.specs.Exact.{ℚ, ◌≤ℚ◌, ◌≈ℚ◌, whole, ◌-ℚ◌, leℚ, absℚ, squared, value}
use Rattle.certain.specs.Day.{Day, Reported, AsGood, read, report, reach}

abbrev 1' : Float
1' = fin false 1 (pos 0)

abbrev -1' : Float
-1' = fin true 1 (pos 0)

-- Measured 10, 12 and 0, each with a spread of 1. The balance is x_0 - x_1 - x_2 = 0, and no volume is below 0.
abbrev pub day : Day
day = read 3 1 3 (fin false 5 (pos 1) ∷ fin false 3 (pos 2) ∷ +0 ∷ []) (1' ∷ 1' ∷ 1' ∷ []) (1' ∷ -1' ∷ -1' ∷ [])
    (1' ∷ +0 ∷ +0 ∷ +0 ∷ 1' ∷ +0 ∷ +0 ∷ +0 ∷ 1' ∷ []) (+0 ∷ +0 ∷ +0 ∷ [])

-- 11, 11 and 0, with the witnesses 1, and 0, 0, 1: nothing as good lies apart from them
abbrev pub best : Reported
best = report (fin false 11 (pos 0) ∷ fin false 11 (pos 0) ∷ +0 ∷ []) (1' ∷ []) (+0 ∷ +0 ∷ 1' ∷ [])

abbrev pub BestIsAll : Type 0
BestIsAll = reach day best ≈ℚ whole 0

-- 11 + 2 ^ -46 at the first meter, so that the balance is open by that: 2 ^ -21 of a spread is enough, and 2 ^ -22 is not. (The reach is about the open balance, and B its root.)
abbrev pub nearly : Reported
nearly = report (fin false 774056185954305 (negsuc 45) ∷ fin false 11 (pos 0) ∷ +0 ∷ []) (1' ∷ []) (+0 ∷ +0 ∷ 1' ∷ [])

abbrev pub NearlyIsNear : Type 0
NearlyIsNear = leℚ (reach day nearly) (squared (value (fin false 1 (negsuc 20)))) ≡ true

abbrev pub NearlyNoNearer : Type 0
NearlyNoNearer = leℚ (reach day nearly) (squared (value (fin false 1 (negsuc 21)))) ≡ false

-- the example meets what the claims ask for, so by the claims whatever is as good as 11, 11, 0 is 11, 11, 0
abbrev pub NoOther : Type 0
NoOther = (x' : ℕ → ℚ) → AsGood day best.x x' → (i : ℕ) → i < 3 → absℚ (best.x i -ℚ x' i) ≤ℚ whole 0
