-- `floor_root` meets its contract. The loop's invariant is the definition: after pass k, a quarter of `trial` is `floor_root` of the first 2 * k digits.
use mathlib.Core.Path.{◌≡◌}
use Prim.Native.Nat.{ℕ, ◌+◌, ◌*◌, ◌/◌, ◌%◌, ◌^◌, ◌≤◌, ◌<◌}
use mir.Syntax.{w64}
use mir.Val.{of_z}
use Rattle.numbers.specs.Root.{floor_root}
use Rattle.numbers.proofs.floor_root.Given as goal

-- the first 2 * k of the 108 digits of m * 2 ^ 54 are those of m * 4 ^ k above its lowest 54 places; `below` is what stands in these
abbrev pub Passed : (m k root rest below : ℕ) → Type 0
Passed m k root rest below =
    let n = m * 4 ^ k / 2 ^ 54 in
    (root ≡ floor_root k n) × (root * root + rest ≡ n) × (below ≡ m * 4 ^ k % 2 ^ 54) × (rest ≤ 2 * root) × (root < 2 ^ k)

-- `trial` is four times the root so far, plus one
abbrev pub Carried : (m k trial rest below : ℕ) → Type 0
Carried m k trial rest below = (k ≤ 54) × ((trial % 4 ≡ 1) × Passed m k (trial / 4) rest below)

abbrev pub invariant-loop : goal.invariant-loop
invariant-loop l = Carried l.m l.counter (of_z w64 l.trial) (of_z w64 l.rest) l.below
