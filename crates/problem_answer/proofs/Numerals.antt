-- Floats as text, by the digits that `io` makes of them.
use mathlib.Core.Path.{◌≡◌, refl, sym, ap, ◌∙◌, subst}
use mathlib.Core.Logic.{⊎_elim}
use mathlib.Core.Bool.{Bool, true, false, not}
use mathlib.Core.List.{List, [], ◌∷◌, ◌++◌}
use Prim.Native.Nat.{ℕ, zero, suc, ◌-◌, ◌*◌, ◌/◌, ◌%◌, ◌^◌, ◌≤◌, ◌<◌}
use native.Mathlib.Nat.{pow-le-pow_right}
use native.Mathlib.Omega.{arith}
use lib.Dec.{T}
use lib.Ieee.{Float, nan, inf, fin, binary64, fits, is_nan, ne, to_bits}
use lib.Ieee.Bits.{to_bits-lt}
use lib.Ieee.Compare.{differs_from_itself}
use Rattle.io.specs.Digits.{last_digits, IsDigitCount}
use Rattle.numbers.specs.Numbers.{tab}
use Rattle.problem_read.proofs.Bytes.{not-nan}
use Rattle.numbers.proofs.Cases.{lt-or-ge}
use Rattle.ascii.specs.Text.{ascii}
use Rattle.problem_answer.specs.Text.{float_text}

-- 16 digits hold every u64
pub hex-places : (r b : ℕ) → IsDigitCount 16 16 b r → b < 2 ^ 64 → r ≡ 16
hex-places r b f h =
    ⊎_elim (λ (s : r < 17). omega (arith, f.0))
    (λ (s : 17 ≤ r). let p : 16 ^ 16 ≤ 16 ^ (r - 1) = pow-le-pow_right {n = 16} (omega arith) {i = 16} {j = r - 1} (omega arith) in let q = f.2 (omega arith) in absurd (omega (arith, p, q)))
    (lt-or-ge r 17)

pub hex-is : (r b : ℕ) → r ≡ 16 → last_digits 16 r b ≡ last_digits 16 16 b
hex-is r b e = rw e

pub bits-lt : (x : Float) → fits binary64 x ≡ true → to_bits binary64 x < 2 ^ 64
bits-lt x e = to_bits-lt binary64 x (subst T (sym e) tt)

pub float-nan : (x : Float) → ne x x ≡ true → 110 ∷ 97 ∷ 110 ∷ [] ≡ float_text x
unfolding float_text is_nan ascii tab
float-nan x e = rw (differs_from_itself x (subst T (sym e) tt))

pub float-hex : (x : Float) → ne x x ≡ false → last_digits 16 16 (to_bits binary64 x) ≡ float_text x
unfolding float_text
float-hex x e = rw (not-nan x e)
