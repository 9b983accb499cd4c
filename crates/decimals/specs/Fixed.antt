-- A float as text with three decimals, rounded once from its exact value. Definitions only.
use Rattle.std.specs.Prelude.{Bool, cond, ◌&&◌, List, ◌++◌, ℕ, ◌*◌, ◌/◌, ◌^◌, ltb, eqb, Float}
use Rattle.std.specs.Float.{nan, inf, fin}
use Rattle.std.specs.Float.Ieee.{up, down}
use Rattle.std.specs.Float.Ieee.Nearest.{closest}
use Rattle.io.specs.Digits.{last_digits}
use Rattle.ascii.specs.Text.{ascii, decimal_text}
use Rattle.decimals.specs.Decimal.{minus_text}

-- The thousandths of a finite number's size: the whole number nearest to 1000 |x|, and of two as near the even one. 2 ^ e is up e / down e.
unfoldable pub thousandths : Float → ℕ
thousandths nan = 0
thousandths (inf s) = 0
thousandths (fin s m e) = closest (1000 * (m * up e)) (down e)

-- t thousandths: the whole part, a point, three digits
unfoldable pub thousandths_text : ℕ → List ℕ
thousandths_text t = decimal_text (t / 1000) ++ (ascii "." ++ last_digits 10 3 t)

-- with its sign, which zero has not
unfoldable pub signed_text : Bool → ℕ → List ℕ
signed_text s t = minus_text (s && ltb 0 t) ++ thousandths_text t

-- what is not zero and would read as zero: it is said to be below, or above
unfoldable pub tiny_text : Bool → List ℕ
tiny_text s = cond s (ascii ">-0.001") (ascii "<0.001")

-- m is 0 for zero alone, and t are the thousandths
abbrev pub is_tiny : (m t : ℕ) → Bool
is_tiny m t = eqb t 0 && ltb 0 m

unfoldable pub small_text : Bool → (m t : ℕ) → List ℕ
small_text s m t = cond (is_tiny m t) (tiny_text s) (signed_text s t)

-- a number below 2 ^ 53 in size by its thousandths, and words for what is no such number
unfoldable pub fixed_text : Float → List ℕ
fixed_text nan = ascii "nan"
fixed_text (inf s) = minus_text s ++ ascii "inf"
fixed_text (fin s m e) = cond (ltb (m * up e) (2 ^ 53 * down e)) (small_text s m (thousandths (fin s m e))) (minus_text s ++ ascii "large")
