-- What is shown of a float's value; `proofs/Values.antt` proves it. Definitions only.
use Rattle.std.specs.Prelude.{ℕ, ◌^◌, ◌<◌, ◌≡◌, true, false, ◌↔◌}
use Rattle.std.proofs.Common.{pow_pos}
use lib.Ieee.{Float, lt, le, neg}
use Rattle.std.specs.Float.Ieee.Exact.{HasValue}
use Rattle.numbers.specs.Rounded.{IsUnits}
use Rattle.exact.specs.Exact.{ℚ, ◌≤ℚ◌, ◌<ℚ◌, ◌≈ℚ◌, over, negℚ, Finite, value}

-- Comparing two finite floats compares their values.
abbrev pub LessIsLess : Type 0
LessIsLess = (x y : Float) → Finite x → Finite y → (lt x y ≡ true) ↔ (value x <ℚ value y)

abbrev pub NotLessIsAtLeast : Type 0
NotLessIsAtLeast = (x y : Float) → Finite x → Finite y → (lt x y ≡ false) ↔ (value y ≤ℚ value x)

abbrev pub AtMostIsAtMost : Type 0
AtMostIsAtMost = (x y : Float) → Finite x → Finite y → (le x y ≡ true) ↔ (value x ≤ℚ value y)

-- A float that is a / c in size, with a clear sign or a set one (lib.Ieee.Exact), has that value.
abbrev pub SizeIsValue : Type 0
SizeIsValue = (x : Float) (a c : ℕ) (p : 0 < c) → (HasValue x false a c → value x ≈ℚ over a c p) × (HasValue x true a c → value x ≈ℚ negℚ (over a c p))

-- So what `numbers` says in units of 2 ^ -1074 is said of this value.
abbrev pub UnitsAreValue : Type 0
UnitsAreValue = (x : Float) (n : ℕ) → IsUnits x n → value x ≈ℚ over n (2 ^ 1074) (pow_pos 1074)

-- The sign turned is the value's.
abbrev pub NegIsNeg : Type 0
NegIsNeg = (x : Float) → Finite x → value (neg x) ≈ℚ negℚ (value x)
