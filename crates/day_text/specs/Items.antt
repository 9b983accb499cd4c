-- A row of the table of items: meters, lines and stocks. Definitions only.
use Rattle.std.specs.Prelude.{Bool, cond, not, ◌&&◌, List, [], ◌∷◌, ◌++◌, ℕ, ◌^◌, ltb, eqb, Float}
use Rattle.std.specs.Float.Ieee.{lt, le}
use Rattle.io.specs.Digits.{last_digits}
use Rattle.numbers.specs.Numbers.{+0, near, ◌⊖◌, ◌⊗◌, ◌⊘◌}
use Rattle.ascii.specs.Text.{ascii}
use Rattle.day_text.specs.Places.{name_cell, old_reading, new_reading, kind_of, spread_of, content_before, content_after, value_of, corrected_of, new_spread_of, test_of, share_of, mark_of}
use Rattle.day_text.specs.Cells.{cell, number_cell}

-- ---- kinds

abbrev pub is_meter : ℕ → Bool
is_meter kind = eqb kind 0

abbrev pub is_line : ℕ → Bool
is_line kind = eqb kind 1

-- a meter or a line: its volume is not below zero
abbrev pub has_floor : ℕ → Bool
has_floor kind = ltb kind 2

-- filled up with blanks to 5 bytes
unfoldable pub kind_text : ℕ → List ℕ
kind_text kind = cond (is_meter kind) (ascii "meter") (cond (is_line kind) (ascii "line ") (ascii "stock"))

-- ---- old and new: a meter's reading with six digits, a stock's content, and of a line nothing

unfoldable pub state_cell : (kind reading : ℕ) (content : Float) → List ℕ
state_cell kind reading content = cond (is_meter kind) (cell (last_digits 10 6 reading)) (cond (is_line kind) (cell (ascii "-")) (number_cell content))

-- ---- volumes

-- volume, corrected, new spread, correction, correction in spreads: one rounded difference and one rounded division
unfoldable pub volumes_text : (value corrected new_spread spread : Float) → List ℕ
volumes_text value corrected new_spread spread =
    let correction = corrected ⊖ value in
    number_cell value ++ (number_cell corrected ++ (number_cell new_spread ++ (number_cell correction ++ number_cell (correction ⊘ spread))))

-- ---- marks

-- 2 ^ -20
abbrev pub tiny : Float
tiny = near 1 (2 ^ 20)

abbrev pub is_rolled : (kind old new : ℕ) → Bool
is_rolled kind old new = is_meter kind && ltb new old

abbrev pub is_below_zero : (kind : ℕ) (corrected : Float) → Bool
is_below_zero kind corrected = has_floor kind && not (le +0 corrected)

abbrev pub is_at_floor : (kind : ℕ) (corrected spread : Float) → Bool
is_at_floor kind corrected spread = has_floor kind && (le +0 corrected && le corrected (tiny ⊗ spread))

abbrev pub is_at_capacity : (kind : ℕ) (corrected capacity : Float) → Bool
is_at_capacity kind corrected capacity = is_line kind && le (capacity ⊖ tiny ⊗ capacity) corrected

abbrev pub is_unchecked : Float → Bool
is_unchecked share = lt share tiny

-- a mark, where it is set, after two blanks
unfoldable pub mark_text : Bool → List ℕ → List ℕ
mark_text set word = cond set (ascii "  " ++ word) []

-- what the volume says
unfoldable pub volume_marks : (kind old new : ℕ) (corrected spread : Float) → List ℕ
volume_marks kind old new corrected spread =
    mark_text (is_rolled kind old new) (ascii "rolled")
    ++ (mark_text (is_below_zero kind corrected) (ascii "below zero")
    ++ (mark_text (is_at_floor kind corrected spread) (ascii "at its floor") ++ mark_text (is_at_capacity kind corrected spread) (ascii "at its capacity")))

-- what the tests say
unfoldable pub test_marks : (share : Float) (mark : ℕ) → List ℕ
test_marks share mark = mark_text (is_unchecked share) (ascii "unchecked") ++ (mark_text (eqb mark 2) (ascii "look here") ++ mark_text (eqb mark 1) (ascii "suspected"))

-- a dash where there is none
unfoldable pub or_dash : List ℕ → List ℕ
or_dash [] = ascii "  -"
or_dash (c ∷ cs) = c ∷ cs

-- ---- the row of item i

unfoldable pub who_text : (i : ℕ) (texts wholes : List ℕ) → List ℕ
who_text i texts wholes = name_cell texts i ++ (ascii " " ++ kind_text (kind_of wholes i))

unfoldable pub states_text : (i : ℕ) (wholes : List ℕ) (numbers : List Float) → List ℕ
states_text i wholes numbers = state_cell (kind_of wholes i) (old_reading wholes i) (content_before numbers i) ++ state_cell (kind_of wholes i) (new_reading wholes i) (content_after numbers i)

unfoldable pub figures_text : (i : ℕ) (numbers figures : List Float) → List ℕ
figures_text i numbers figures = volumes_text (value_of figures i) (corrected_of figures i) (new_spread_of figures i) (spread_of numbers i) ++ number_cell (test_of figures i)

unfoldable pub marks_text : (i : ℕ) (wholes : List ℕ) (numbers figures : List Float) (signs : List ℕ) → List ℕ
marks_text i wholes numbers figures signs =
    or_dash
    (volume_marks (kind_of wholes i) (old_reading wholes i) (new_reading wholes i) (corrected_of figures i) (spread_of numbers i)
    ++ test_marks (share_of figures i) (mark_of signs i))

unfoldable pub item_row : (i : ℕ) (texts wholes : List ℕ) (numbers figures : List Float) (signs : List ℕ) → List ℕ
item_row i texts wholes numbers figures signs =
    who_text i texts wholes ++ (states_text i wholes numbers ++ (figures_text i numbers figures ++ (marks_text i wholes numbers figures signs ++ ascii "\n")))
