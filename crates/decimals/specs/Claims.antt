-- What is shown of decimals that are read: Grammar, OnlyThese and LastPlace of proofs/ prove it. Definitions only.
use Rattle.std.specs.Prelude.{◌≡◌, Bool, true, ◌&&◌, List, [], ◌∷◌, ◌++◌, ℕ, ◌+◌, ◌*◌, ◌%◌, ◌^◌, ◌≤◌, ◌<◌, length, drop, get_or, Float}
use Rattle.std.specs.Float.Ieee.Exact.{HasValue}
use Rattle.decimals.specs.Decimal.{number, numeral, minus_text, is_digit, digits_of, value_of, within, decimal_at}

-- ---- what is read

unfoldable pub are_digits : List ℕ → Bool
are_digits [] = true
are_digits (c ∷ cs) = is_digit c && are_digits cs

-- `-` or not, digits, a point, digits, and then no digit: the digits as one number, over as many tens as there are digits after the point
abbrev pub ReadsPoint : Type 0
ReadsPoint =
    (front w p rest : List ℕ) (s : Bool)
    → are_digits w ≡ true
    → 0 < length w
    → are_digits p ≡ true
    → 0 < length p
    → digits_of rest ≡ []
    → decimal_at (front ++ (minus_text s ++ (w ++ (46 ∷ (p ++ rest))))) (length front) ≡ within s (numeral (w ++ p)) (length p) (length front) (length front + length (minus_text s) + length w + 1 + length p)

-- the same with no point after the digits
abbrev pub ReadsWhole : Type 0
ReadsWhole =
    (front w rest : List ℕ) (s : Bool)
    → are_digits w ≡ true
    → 0 < length w
    → digits_of rest ≡ []
    → (get_or rest 0 0 ≡ 46 → ⊥)
    → decimal_at (front ++ (minus_text s ++ (w ++ rest))) (length front) ≡ within s (numeral w) 0 (length front) (length front + length (minus_text s) + length w)

-- Nothing else is read: where a number is answered, such a text stands there, of few enough digits and places, and the number is its value.
unfoldable pub point_text : List ℕ → List ℕ
point_text [] = []
point_text (c ∷ cs) = 46 ∷ (c ∷ cs)

pub record IsDecimal (bytes : List ℕ) (at next : ℕ) (x : Float) : Type 0 where
  pub s : Bool
  pub w : List ℕ
  pub p : List ℕ
  pub text : drop at bytes ≡ minus_text s ++ (w ++ (point_text p ++ drop next bytes))
  pub until : next ≡ at + length (minus_text s) + length w + length (point_text p)
  pub w_digits : are_digits w ≡ true
  pub w_some : 0 < length w
  pub p_digits : are_digits p ≡ true
  pub all_read : digits_of (drop next bytes) ≡ []
  pub few_digits : numeral (w ++ p) < 10 ^ 15
  pub few_places : length p ≤ 22
  pub value : x ≡ value_of s (numeral (w ++ p)) (length p)

abbrev pub OnlyDecimals : Type 0
OnlyDecimals = (bytes : List ℕ) (at next : ℕ) (x : Float) → decimal_at bytes at ≡ number x next → IsDecimal bytes at next x

-- t is at most half away from a / b, and even where it is exactly half away
pub record HalfAway (a b t : ℕ) : Type 0 where
  pub above : 2 * (t * b) ≤ 2 * a + b
  pub below : 2 * a ≤ 2 * (t * b) + b
  pub even_above : 2 * (t * b) ≡ 2 * a + b → t % 2 ≡ 0
  pub even_below : 2 * a ≡ 2 * (t * b) + b → t % 2 ≡ 0

-- The f64 of a decimal is ±a / b rounded once, with b = 10 ^ k. In units of 2 ^ -1074, the smallest f64, it is c places of 2 ^ j, and c is the nearest to the exact
-- number of places. c has 53 binary digits, or is 2 ^ 53, unless the place is the smallest there is.
pub record RoundedOnce (s : Bool) (a b : ℕ) (x : Float) : Type 0 where
  pub c : ℕ
  pub j : ℕ
  pub value : HasValue x s (c * 2 ^ j) (2 ^ 1074)
  pub half : HalfAway (a * 2 ^ 1074) (b * 2 ^ j) c
  pub few : c ≤ 2 ^ 53
  pub full : 0 < j → 2 ^ 52 ≤ c

abbrev pub ValueRoundedOnce : Type 0
ValueRoundedOnce = (s : Bool) (a k : ℕ) → a < 10 ^ 15 → RoundedOnce s a (10 ^ k) (value_of s a k)
