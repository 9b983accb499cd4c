-- Floats and lines as bytes (docs/RULES.md, "The record program"). Definitions only.
use Rattle.std.specs.Prelude.{cond, List, [], ◌∷◌, ◌++◌, ℕ, ◌+◌, Float}
use Rattle.std.specs.Float.{binary64}
use Rattle.std.specs.Float.Ieee.{is_nan, to_bits}
use Rattle.io.specs.Digits.{last_digits}
use Rattle.ascii.specs.Text.{ascii, decimal_text}

-- H: 16 lower-case hexadecimal digits of the bits, or `nan`
unfoldable pub float_text : Float → List ℕ
float_text x = cond (is_nan x) (ascii "nan") (last_digits 16 16 (to_bits binary64 x))

-- `d I H` or `m J H`
unfoldable pub line_text : (tag i : ℕ) → Float → List ℕ
line_text tag i x = tag ∷ (ascii " " ++ (decimal_text i ++ (ascii " " ++ (float_text x ++ ascii "\n"))))

-- a line for each number, the first at index i
unfoldable pub lines_text : (tag i : ℕ) → List Float → List ℕ
lines_text tag i [] = []
lines_text tag i (x ∷ xs) = line_text tag i x ++ lines_text tag (i + 1) xs
