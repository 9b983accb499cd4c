-- How records are told apart in the two tables: the place that each names, its mark, and what a place holds that no record gives.
-- proofs/Agreement.antt shows that it is what specs/Input.antt says. Definitions only.
use Rattle.std.specs.Prelude.{Bool, true, false, not, cond, ◌&&◌, ◌||◌, List, ℕ, ◌+◌, ◌*◌, ◌/◌, ◌%◌, ltb, eqb, get_or, replicate, Float, Option, None, Some}
use Rattle.std.specs.Float.{inf}
use Rattle.numbers.specs.Numbers.{+0, one, tab}
use Rattle.problem_read.specs.declared.Area.{Area}
use Rattle.problem_read.specs.Input.{is}
use Rattle.problem_read.specs.Tables.{GRADIENT, VALUES, JACOBIAN, LOWER, UPPER, WIDTHS, PLACES}

-- ---- the place of an entry

abbrev pub area : ℕ → ℕ → ℕ → Area
area base rows cols = record { base = base; rows = rows; cols = cols }

abbrev pub either : Bool → Area → Area → Area
either true a b = a
either false a b = b

-- the area that a tag names: where it starts, its rows and columns
unfoldable pub area_of : (m n tag : ℕ) → Area
area_of m n tag =
    either (is "L" tag) (area 0 n n)
    (either (is "G" tag) (area GRADIENT 1 n)
    (either (is "E" tag) (area VALUES m 1)
    (either (is "I" tag) (area VALUES m 1)
    (either (is "W" tag) (area WIDTHS m 1)
    (either (is "A" tag) (area JACOBIAN m n)
    (either (is "B" tag) (area LOWER 1 n)
    (either (is "T" tag) (area UPPER 1 n)
    (area 0 0 0))))))))

abbrev pub if_spot : Bool → Option ℕ → Option ℕ
if_spot true s = s
if_spot false s = None

-- the place of (row, column) in an area, or outside
unfoldable pub spot_in : Area → (row column : ℕ) → Option ℕ
spot_in b row col = if_spot (ltb row b.rows) (if_spot (ltb col b.cols) (Some (b.base + (row * b.cols + col))))

-- an `L` above the diagonal is outside too
unfoldable pub spot_of : (m n tag row column : ℕ) → Option ℕ
spot_of m n tag row col = if_spot (not (is "L" tag && ltb row col)) (spot_in (area_of m n tag) row col)

-- `I` marks a place with 2, and any other tag with 1
unfoldable pub tag_mark : ℕ → ℕ
tag_mark tag = cond (is "I" tag) 2 1

-- ---- the tables before the second record

unfoldable pub no_marks : List ℕ
no_marks = replicate PLACES 0

-- what a place holds that no record gives
unfoldable pub default_at : (n place : ℕ) → Float
default_at n p =
    cond (ltb p GRADIENT) (cond (eqb (p / n) (p % n)) one +0)
    (cond (ltb p LOWER) +0
    (cond (ltb p UPPER) (inf true)
    (cond (ltb p WIDTHS) (inf false) +0)))

unfoldable pub default_values : ℕ → List Float
default_values n = tab PLACES (default_at n)

-- ---- whole constraints

-- its value is marked, and its width only beside an inequality's
abbrev pub are_whole : (value width : ℕ) → Bool
are_whole v w = not (eqb v 0) && (eqb w 0 || eqb v 2)

unfoldable pub whole_at : List ℕ → ℕ → Bool
whole_at marks i = are_whole (get_or marks (VALUES + i) 0) (get_or marks (WIDTHS + i) 0)
