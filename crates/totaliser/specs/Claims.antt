-- What is shown of the volume between two readings. Definitions only.
use Rattle.std.specs.Prelude.{ℕ, ◌+◌, ◌-◌, ◌%◌, ◌<◌, ◌≤◌, ◌≡◌}
use Rattle.totaliser.specs.Volume.{largest, volume}

-- it is one of the readings: at most 999,999
abbrev pub Bounded : Type 0
Bounded = (old new : ℕ) → old ≤ largest → new ≤ largest → volume old new ≤ largest

-- of a totaliser that did not roll over it is the difference; equal readings give 0
abbrev pub Difference : Type 0
Difference = (old new : ℕ) → old ≤ new → volume old new ≡ new - old

-- of one that did, the difference, which is below zero, plus 1,000,000
abbrev pub RolledOver : Type 0
RolledOver = (old new : ℕ) → old ≤ largest → new < old → volume old new + (old - new) ≡ 1000000

-- the old reading and the volume give the new reading, modulo 1,000,000
abbrev pub Closes : Type 0
Closes = (old new : ℕ) → old ≤ largest → new ≤ largest → (old + volume old new) % 1000000 ≡ new

-- and no other number of at most 999,999 does: a full turn cannot be seen
abbrev pub Only : Type 0
Only = (old new v : ℕ) → old ≤ largest → new ≤ largest → v ≤ largest → (old + v) % 1000000 ≡ new → v ≡ volume old new
