-- A product of two f64s does not depend on their order.
use mathlib.Core.Path.{◌≡◌, refl, ap}
use mathlib.Core.Bool.{Bool, true, false}
use Prim.Native.Nat.{◌*◌}
use native.Mathlib.Nat.{mul_comm}
use lib.Ieee.{Float, nan, inf, fin, mul, unlike, up, down}
use Rattle.numbers.specs.Numbers.{◌⊗◌}

unlike-comm : (s t : Bool) → unlike s t ≡ unlike t s
unlike-comm true true = refl
unlike-comm true false = refl
unlike-comm false true = refl
unlike-comm false false = refl

pub ⊗-comm : (x y : Float) → x ⊗ y ≡ y ⊗ x
unfolding mul
⊗-comm nan nan = refl
⊗-comm nan (inf t) = refl
⊗-comm nan (fin t n d) = refl
⊗-comm (inf s) nan = refl
⊗-comm (inf s) (inf t) = ap inf (unlike-comm s t)
⊗-comm (inf s) (fin t n d) = rw (unlike-comm s t)
⊗-comm (fin s m e) nan = refl
⊗-comm (fin s m e) (inf t) = rw (unlike-comm s t)
⊗-comm (fin s m e) (fin t n d) = rw (unlike-comm s t, mul_comm (m * up e) (n * up d), mul_comm (down e) (down d))
