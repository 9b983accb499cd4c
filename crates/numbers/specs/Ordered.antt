-- The root keeps the order on every float, and sets clearly larger numbers apart. `proofs/Monotone.antt` and `proofs/Apart.antt` prove it. Definitions only.
-- So a search for the strictly largest norm needs few roots. (`lt` is false where a NaN stands, and the root of what is below zero is a NaN: neither breaks a law.)
use Rattle.std.specs.Prelude.{◌≡◌, true, false, T, negsuc, Float}
use Rattle.std.specs.Float.{fin, binary64}
use Rattle.std.specs.Float.Ieee.{fits, lt}
use Rattle.numbers.specs.Numbers.{◌⊗◌, -1}
use Rattle.numbers.specs.Root.{sqrt_of}

-- where x is not below y, the root of x is not below that of y
abbrev pub KeepsOrder : Type 0
KeepsOrder = (x y : Float) → lt x y ≡ false → lt (sqrt_of x) (sqrt_of y) ≡ false

-- 1 + 2 ^ -47
abbrev pub gap : Float
gap = fin false 140737488355329 (negsuc 46)

-- A y that is above x, and by more than that factor, has a strictly larger root. (x has a root, so it is not below zero.)
abbrev pub SetsApart : Type 0
SetsApart = (x y : Float) → T (fits binary64 y) → lt -1 (sqrt_of x) ≡ true → lt x y ≡ true → lt (x ⊗ gap) y ≡ true → lt (sqrt_of x) (sqrt_of y) ≡ true
