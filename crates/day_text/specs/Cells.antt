-- The cells of the tables. Definitions only.
use Rattle.std.specs.Prelude.{cond, List, ◌++◌, ℕ, eqb, Float}
use Rattle.ascii.specs.Text.{ascii, padded}
use Rattle.decimals.specs.Fixed.{fixed_text}

-- a blank and a word, right-aligned in 12 bytes: a longer one pushes the row
abbrev pub cell : List ℕ → List ℕ
cell t = ascii " " ++ padded 12 t

abbrev pub number_cell : Float → List ℕ
number_cell x = cell (fixed_text x)

-- the last cell of a balance and of a limit, after two blanks
abbrev pub within_text : ℕ → List ℕ
within_text within = cond (eqb within 1) (ascii "  yes\n") (ascii "  no\n")
