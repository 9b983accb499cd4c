-- What is shown of numbers written with three decimals: Rounding and Back of proofs/ prove it. Definitions only.
use Rattle.std.specs.Prelude.{◌≡◌, Bool, false, ◌&&◌, List, [], ◌++◌, ℕ, ◌+◌, ◌*◌, ◌/◌, ◌^◌, ◌<◌, ltb, ℤ, length}
use Rattle.std.specs.Float.{fin}
use Rattle.std.specs.Float.Ieee.{up, down}
use Rattle.io.specs.Digits.{last_digits}
use Rattle.ascii.specs.Text.{decimal_text}
use Rattle.decimals.specs.Decimal.{number, numeral, digits_of, value_of, within, decimal_at}
use Rattle.decimals.specs.Claims.{HalfAway}
use Rattle.decimals.specs.Fixed.{thousandths, signed_text, is_tiny, fixed_text}

-- The printed thousandths are the nearest to 1000 |x|, with |x| = m * up e / down e, and no other number is.
abbrev pub Nearest : Type 0
Nearest = (s : Bool) (m : ℕ) (e : ℤ) → HalfAway (1000 * (m * up e)) (down e) (thousandths (fin s m e))

abbrev pub NoOther : Type 0
NoOther = (s : Bool) (m : ℕ) (e : ℤ) (t : ℕ) → HalfAway (1000 * (m * up e)) (down e) t → t ≡ thousandths (fin s m e)

-- The digits before and after the point, read as one number, are the thousandths.
abbrev pub ReadsBack : Type 0
ReadsBack = (t : ℕ) → numeral (decimal_text (t / 1000) ++ last_digits 10 3 t) ≡ t

-- What was written with three decimals is read as its thousandths over 1000, wherever it stands, if no digit follows.
abbrev pub ReadsWritten : Type 0
ReadsWritten =
    (front rest : List ℕ) (s : Bool) (t : ℕ)
    → digits_of rest ≡ []
    → decimal_at (front ++ (signed_text s t ++ rest)) (length front) ≡ within (s && ltb 0 t) t 3 (length front) (length front + length (signed_text s t))

-- A number below 10 ^ 12, but not one that is not zero and would read as zero, comes back from its text within half a unit of the last place: what is read is t / 1000 rounded once, and t is at most half away from 1000 |x|.
pub record Back (s : Bool) (m : ℕ) (e : ℤ) (front rest : List ℕ) : Type 0 where
  pub t : ℕ
  pub near : HalfAway (1000 * (m * up e)) (down e) t
  pub read : decimal_at (front ++ (fixed_text (fin s m e) ++ rest)) (length front) ≡ number (value_of (s && ltb 0 t) t 3) (length front + length (fixed_text (fin s m e)))

abbrev pub ComesBack : Type 0
ComesBack = (s : Bool) (m : ℕ) (e : ℤ) (front rest : List ℕ) → thousandths (fin s m e) < 10 ^ 15 → is_tiny m (thousandths (fin s m e)) ≡ false → digits_of rest ≡ [] → Back s m e front rest
