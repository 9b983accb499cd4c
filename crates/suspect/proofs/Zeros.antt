-- A meter whose coefficients are all zero is in no balance: a finite spread times zero is zero.
use mathlib.Core.Path.{◌≡◌, refl}
use mathlib.Core.Bool.{Bool, true, false, cond}
use mathlib.Core.Logic.{⊎_elim}
use Prim.Native.Nat.{ℕ, zero, suc, ◌*◌, zero-le, compare, Ordering}
use native.Mathlib.Nat.{zero-div, zero-mod, zero-mul, mul-zero}
use native.Mathlib.Bridge.{IsLe}
use native.Mathlib.Decide.{compare_of_le}
use native.Mathlib.Omega.{arith}
use lib.Dec.{eqb}
use lib.IntN.{ℤ, pos}
use lib.Ieee.{Float, fin, binary64, unlike, nearest, mul, eq, round, units, odd, size, span, climb}
use Rattle.numbers.specs.Numbers.{+0, -0, nth, entry, ◌⊗◌}
use Rattle.suspect.specs.Suspect.{weight, is_outside}
use Rattle.suspect.specs.Claims.{IsZero, ZeroInNone}

nearest-none : (o : Ordering) → IsLe o → nearest 0 o ≡ 0
unfolding IsLe
nearest-none Ordering.lt h = refl
nearest-none Ordering.eq h = refl
nearest-none Ordering.gt h = absurd h

round-none : (s : Bool) (d : ℕ) → round binary64 s 0 d ≡ fin s 0 (pos 0)
unfolding round units odd size span climb
round-none s d = rw (zero-div d, zero-div (d * 1), zero-mod (d * 1), nearest-none (compare 0 (d * 1)) (compare_of_le 0 (d * 1) zero-le))

-- either zero
is_zero : (s : Bool) → eq (fin s 0 (pos 0)) +0 ≡ true
unfolding eq
is_zero true = refl
is_zero false = refl

times_none : (s t : Bool) (m : ℕ) (e : ℤ) → eq (fin s m e ⊗ fin t 0 (pos 0)) +0 ≡ true
unfolding mul
times_none s t m e = rw (zero-mul, mul-zero, round-none) (is_zero (unlike s t))

weightless : (z m : ℕ) (s : Bool) (e : ℤ) (x : Float) → IsZero x → eq (weight z (fin s m e) x) +0 ≡ true
weightless z m s e x h = either (eqb z 1)
  where
    product : eq (fin s m e ⊗ x) +0 ≡ true
    product = ⊎_elim (λ (q : x ≡ +0). rw q (times_none s false m e)) (λ (q : x ≡ -0). rw q (times_none s true m e)) h

    either : (b : Bool) → eq (cond b +0 (fin s m e ⊗ x)) +0 ≡ true
    either true = is_zero false
    either false = product

pub zero-in-none : ZeroInNone
unfolding is_outside
zero-in-none n zero s c z i sign k e h g = refl
zero-in-none n (suc m) s c z i sign k e h g =
    rw (zero-in-none n m s c z i sign k e h (λ j l. g j (omega arith)), h) (weightless (nth z i) k sign e (entry n c m i) (g m (omega arith)))
