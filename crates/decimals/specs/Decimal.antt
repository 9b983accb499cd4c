-- A decimal number in a text, `[-]digits[.digits]`, and the f64 that it stands for. Definitions only.
use Rattle.std.specs.Prelude.{Err, Result, Ok, Bool, true, false, cond, ◌&&◌, List, [], ◌∷◌, ◌++◌, ℕ, ◌+◌, ◌-◌, ◌*◌, ◌^◌, leb, ltb, eqb, length, drop, get_or, Float}
use Rattle.std.specs.Float.{binary64}
use Rattle.std.specs.Float.Ieee.{round}
use Rattle.ascii.specs.Text.{ascii}
use Rattle.decimals.specs.declared.Decimal.{Decimal}

abbrev pub is_digit : ℕ → Bool
is_digit c = leb 48 c && leb c 57

-- the number that digits stand for, after digits that stand for a
unfoldable pub numeral_from : ℕ → List ℕ → ℕ
numeral_from a [] = a
numeral_from a (c ∷ cs) = numeral_from (10 * a + (c - 48)) cs

abbrev pub numeral : List ℕ → ℕ
numeral cs = numeral_from 0 cs

-- a minus, or nothing
unfoldable pub minus_text : Bool → List ℕ
minus_text s = cond s (ascii "-") []

-- the digits at the front of a text
unfoldable pub digits_of : List ℕ → List ℕ
digits_of [] = []
digits_of (c ∷ cs) = cond (is_digit c) (c ∷ digits_of cs) []

-- ±a / 10 ^ k, to the nearest f64: -0 where a is 0 and the sign is set
unfoldable pub value_of : Bool → (a k : ℕ) → Float
value_of negative a k = round binary64 negative a (10 ^ k)

-- a number with the place after it; else `Err` with the place of what is no number
abbrev pub number : Float → ℕ → Result Decimal ℕ
number x end = Ok (record { value = x; end = end })

abbrev pub choose : Bool → Result Decimal ℕ → Result Decimal ℕ → Result Decimal ℕ
choose true r q = r
choose false r q = q

-- At most 15 digits, leading zeros not counted, and at most 22 places after the point. A number beyond that is refused at its first byte.
unfoldable pub within : Bool → (a k at next : ℕ) → Result Decimal ℕ
within negative a k at next = choose (ltb a (10 ^ 15) && leb k 22) (number (value_of negative a k) next) (Err at)

-- The number's sign and the place of its first digit are known. Where a digit is missing, its place is the fault. All bytes are read that can be.
unfoldable pub unsigned_at : (bytes : List ℕ) (negative : Bool) (at start : ℕ) → Result Decimal ℕ
unsigned_at bytes negative at start =
    let whole = digits_of (drop start bytes) in
    let end = start + length whole in
    let part = digits_of (drop (end + 1) bytes) in
    choose (eqb end start) (Err start)
    (choose (eqb (get_or bytes end 0) 46)
    (choose (eqb (end + 1 + length part) (end + 1)) (Err (end + 1)) (within negative (numeral (whole ++ part)) (length part) at (end + 1 + length part)))
    (within negative (numeral whole) 0 at end))

-- the number at a place of a text, and the place after it; past the text's end stands a 0, which is no part of a number
unfoldable pub decimal_at : (bytes : List ℕ) (at : ℕ) → Result Decimal ℕ
decimal_at bytes at = let negative = eqb (get_or bytes at 0) 45 in unsigned_at bytes negative at (cond negative (at + 1) at)
