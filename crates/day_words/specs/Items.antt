-- What a word of the sheet may be: a name, a reading, a decimal number. Definitions only.
use Rattle.std.specs.Prelude.{Result, Ok, Err, Option, Some, None, Bool, cond, ◌&&◌, List, ◌++◌, ℕ, ◌-◌, leb, ltb, eqb, length, replicate, Float}
use Rattle.numbers.specs.Numbers.{+0}
use Rattle.decimals.specs.declared.Decimal.{Decimal}
use Rattle.decimals.specs.Decimal.{numeral, decimal_at}
use Rattle.decimals.specs.Claims.{are_digits}

-- ---- names: bytes from 33 to 126

abbrev pub is_printable : ℕ → Bool
is_printable c = leb 33 c && leb c 126

-- a name filled up with blanks to 16 bytes
unfoldable pub filled : List ℕ → List ℕ
filled w = w ++ replicate (16 - length w) 32

-- ---- readings: one to six digits

unfoldable pub reading_of : List ℕ → Option ℕ
reading_of w = cond (ltb 0 (length w) && (leb (length w) 6 && are_digits w)) (Some (numeral w)) None

-- ---- decimals: the whole word is one

abbrev pub wholly : Result Decimal ℕ → ℕ → Option Float
wholly (Ok d) n = cond (eqb d.end n) (Some d.value) None
wholly (Err p) n = None

unfoldable pub decimal_of : List ℕ → Option Float
decimal_of w = wholly (decimal_at w 0) (length w)

-- its value, where it is one
abbrev pub value_in : Option Float → Float
value_in (Some x) = x
value_in None = +0
