-- What the record program reads (docs/RULES.md, "The record program"): 16-byte records, to the first fault, to sizes outside the table, or to a problem.
-- Definitions only.
use Rattle.std.specs.Prelude.{Bool, true, false, not, cond, ◌&&◌, ◌||◌, List, [], ◌∷◌, ◌++◌, ℕ, zero, suc, ◌+◌, ◌-◌, ◌*◌, ◌/◌, ◌%◌, ltb, leb, eqb, length, get_or, take, drop}
use Rattle.std.proofs.Math.Option.{Option, none, some}
use Prim.Native.Char.{Char, code}
use Rattle.numbers.specs.Numbers.{tab}
use Rattle.endian.specs.Little.{number_at}
use Rattle.workspace.specs.Tables.{is_dimension, is_constraints}
use Rattle.step_rows.specs.Problem.{Problem}
use Rattle.problem_read.specs.Bits.{ConstraintBits, equality, floor, band, Bits, numbers_of, one_bits, low_bits, high_bits}

-- ---- one record: byte 0 tag, byte 1 zero, bytes 2-3 row, 4-5 column, 6-7 zero, 8-15 the value's bits; numbers little-endian

abbrev pub record_tag : List ℕ → ℕ
record_tag r = get_or r 0 0

abbrev pub record_row : List ℕ → ℕ
record_row r = number_at 2 2 r

abbrev pub record_column : List ℕ → ℕ
record_column r = number_at 2 4 r

abbrev pub record_bits : List ℕ → ℕ
record_bits r = number_at 8 8 r

unfoldable pub spare_zero : List ℕ → Bool
spare_zero r = eqb (get_or r 1 0) 0 && (eqb (get_or r 6 0) 0 && eqb (get_or r 7 0) 0)

-- record k of the input
abbrev pub record_at : List ℕ → ℕ → List ℕ
record_at bs k = take 16 (drop (16 * k) bs)

-- ---- what a record gives, in a problem of m constraints and n variables

-- t is the letter c
abbrev pub is : Char → ℕ → Bool
is c t = eqb t (code c)

-- The index lies where the tag t wants it: `L` factor, row >= column; `G` gradient; `E` or `I` a constraint's value; `W` its width; `A` Jacobian; `B` lower, `T` upper bound.
-- For any other tag, a later `D` among them, every index is outside.
unfoldable pub is_inside : (m n t row column : ℕ) → Bool
is_inside m n t row column =
    cond (is "L" t) (ltb row n && leb column row)
    (cond (is "G" t) (eqb row 0 && ltb column n)
    (cond (is "E" t || is "I" t || is "W" t) (ltb row m && eqb column 0)
    (cond (is "A" t) (ltb row m && ltb column n)
    (cond (is "B" t || is "T" t) (eqb row 0 && ltb column n) false))))

-- `E` and `I` give the same: the value of a constraint
abbrev pub field : ℕ → ℕ
field t = cond (is "I" t) (code "E") t

-- the record r gives the entry of tag t at (row, column)
abbrev pub gives : List ℕ → (t row column : ℕ) → Bool
gives r t row column = eqb (field (record_tag r)) (field t) && (eqb (record_row r) row && eqb (record_column r) column)

-- the one among some records that gives an entry
unfoldable pub given : List (List ℕ) → (t row column : ℕ) → Option (List ℕ)
given [] t row column = none
given (r ∷ rs) t row column = cond (gives r t row column) (some r) (given rs t row column)

abbrev pub is_some : Option (List ℕ) → Bool
is_some none = false
is_some (some r) = true

-- ---- the faults of a record after the first, where rs are those before it

-- a repeated entry, or `E` and `I` for one row
abbrev pub repeats : List (List ℕ) → List ℕ → Bool
repeats rs r = is_some (given rs (record_tag r) (record_row r) (record_column r))

-- a bad tag or an index outside, a nonzero spare byte, a repeated entry
unfoldable pub is_sound : (m n : ℕ) → List (List ℕ) → List ℕ → Bool
is_sound m n rs r = is_inside m n (record_tag r) (record_row r) (record_column r) && (spare_zero r && not (repeats rs r))

-- ---- the problem that some records give, bit for bit

-- the bits that were given, or what a missing entry is
abbrev pub or_else : Option (List ℕ) → ℕ → ℕ
or_else none v = v
or_else (some r) v = record_bits r

-- by its value's record and its width's: an `I` with a width is a band
abbrev pub constraint_of : (value width : Option (List ℕ)) → ConstraintBits
constraint_of none w = equality 0
constraint_of (some r) none = cond (is "I" (record_tag r)) (floor (record_bits r)) (equality (record_bits r))
constraint_of (some r) (some v) = band (record_bits r) (record_bits v)

-- the m by n list of f i j, by row
unfoldable pub table : {A : Type 0} → ℕ → ℕ → (ℕ → ℕ → A) → List A
table zero n f = []
table (suc m) n f = tab n (f zero) ++ table m n (λ i. f (suc i))

-- missing: 1 on the factor's diagonal, +0 elsewhere, -infinity for a lower bound, +infinity for an upper
unfoldable pub given_bits : (m n : ℕ) → List (List ℕ) → Bits
given_bits m n rs = record {
  n = n;
  m = m;
  factor = table n n (λ i j. or_else (given rs (code "L") i j) (cond (eqb i j) one_bits 0));
  gradient = tab n (λ j. or_else (given rs (code "G") 0 j) 0);
  constraints = tab m (λ i. constraint_of (given rs (code "E") i 0) (given rs (code "W") i 0));
  jacobian = table m n (λ i j. or_else (given rs (code "A") i j) 0);
  lower = tab n (λ j. or_else (given rs (code "B") 0 j) low_bits);
  upper = tab n (λ j. or_else (given rs (code "T") 0 j) high_bits);
}

-- a constraint's value may not be missing, and a width has its `I`, before or after it
abbrev pub is_whole : (value width : Option (List ℕ)) → Bool
is_whole none w = false
is_whole (some r) none = true
is_whole (some r) (some v) = is "I" (record_tag r)

-- f holds of every number below m
unfoldable pub all_below : ℕ → (ℕ → Bool) → Bool
all_below zero f = true
all_below (suc m) f = all_below m f && f m

unfoldable pub is_complete : ℕ → List (List ℕ) → Bool
is_complete m rs = all_below m (λ i. is_whole (given rs (code "E") i 0) (given rs (code "W") i 0))

-- ---- the whole input

-- a fault at a record; sizes outside the table; or a problem, in bits or in numbers
pub data Decoded (A : Type 0) : Type 0 where
  fault : ℕ → Decoded A
  too_large : Decoded A
  problem : A → Decoded A

-- From record k on, of which `left` more are whole; rs are those before it, the last first.
-- Behind them a short record is a fault, and so, last, is a missing constraint, and a width with no `I`.
unfoldable pub walk : (m n : ℕ) → List ℕ → (left k : ℕ) → List (List ℕ) → Decoded Bits
walk m n bs zero k rs = cond (eqb (length bs % 16) 0 && is_complete m rs) (problem (given_bits m n rs)) (fault k)
walk m n bs (suc left) k rs =
    let r = record_at bs k in
    cond (is_sound m n rs r) (walk m n bs left (k + 1) (r ∷ rs)) (fault k)

-- the first record is `D`, with value bits 0: row constraints, column variables
unfoldable pub is_head : List ℕ → Bool
is_head r = is "D" (record_tag r) && (spare_zero r && eqb (record_bits r) 0)

-- nothing after a sound first record is read where its sizes are outside the table
unfoldable pub decode : List ℕ → Decoded Bits
decode bs =
    let r = record_at bs 0 in
    let m = record_row r in
    let n = record_column r in
    cond (leb 16 (length bs) && is_head r) (cond (is_dimension n && is_constraints m) (walk m n bs (length bs / 16 - 1) 1 []) too_large) (fault 0)

-- the same in numbers
abbrev pub in_numbers : Decoded Bits → Decoded Problem
in_numbers (fault k) = fault k
in_numbers too_large = too_large
in_numbers (problem b) = problem (numbers_of b)

unfoldable pub read_numbers : List ℕ → Decoded Problem
read_numbers bs = in_numbers (decode bs)
