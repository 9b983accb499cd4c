-- How the tables are filled, record by record. Definitions only.
use Rattle.std.specs.Prelude.{◌≡◌, Bool, true, false, ◌&&◌, List, ℕ, zero, suc, ◌+◌, ◌-◌, ◌/◌, ◌%◌, ltb, eqb, length, get_or, take, set, Float, Option, None, Some, Result, Ok, Err}
use Rattle.workspace.specs.Tables.{is_dimension, is_constraints}
use Rattle.step_rows.specs.Problem.{Problem}
use Rattle.problem_read.specs.Input.{record_tag, record_row, record_column, record_bits, spare_zero, record_at, is_head, all_below, Decoded}
use Rattle.problem_read.specs.Bits.{number}
use Rattle.problem_read.specs.Promise.{Decodes}
use Rattle.problem_read.specs.Tables.{decoded_in}
use Rattle.problem_read.specs.inner.Spots.{if_spot, spot_of, tag_mark, no_marks, default_values, whole_at}
use Rattle.problem_read.specs.declared.Sizes.{Sizes}
use Rattle.problem_read.specs.declared.Unread.{Unread}
use Rattle.problem_read.specs.declared.Unread.TheVariants.{Fault, Large}

-- ---- one record after the first

-- the place that a record names: none if a spare byte is not zero
unfoldable pub entry_of : (m n : ℕ) → List ℕ → Option ℕ
entry_of m n r = if_spot (spare_zero r) (spot_of m n (record_tag r) (record_row r) (record_column r))

-- the tables after it: as they were if it is at fault, or with its entry
pub data Entered : Type 0 where
  kept : List ℕ → List Float → Entered
  added : List ℕ → List Float → Entered

abbrev pub if_entered : Bool → Entered → Entered → Entered
if_entered true a b = a
if_entered false a b = b

-- a place that is marked already is given already
unfoldable pub put_at : Option ℕ → ℕ → Float → List ℕ → List Float → Entered
put_at None mark v marks vals = kept marks vals
put_at (Some p) mark v marks vals = if_entered (eqb (get_or marks p 0) 0) (added (set marks p mark) (set vals p v)) (kept marks vals)

unfoldable pub entered : (m n : ℕ) → List ℕ → List ℕ → List Float → Entered
entered m n r marks vals = put_at (entry_of m n r) (tag_mark (record_tag r)) (number (record_bits r)) marks vals

-- the code's answer, with the tables that it leaves
abbrev pub entered_by : Bool → List ℕ → List Float → Entered
entered_by true marks vals = added marks vals
entered_by false marks vals = kept marks vals

-- ---- the first record

abbrev pub sized : (m n : ℕ) → Sizes
sized m n = record { constraints = m; variables = n }

abbrev pub if_head : Bool → Result Sizes Unread → Result Sizes Unread → Result Sizes Unread
if_head true a b = a
if_head false a b = b

unfoldable pub sizes_of : (m n : ℕ) → Result Sizes Unread
sizes_of m n = if_head (is_dimension n && is_constraints m) (Ok (sized m n)) (Err Large)

unfoldable pub head_of : List ℕ → Result Sizes Unread
head_of r = if_head (is_head r) (sizes_of (record_row r) (record_column r)) (Err (Fault 0))

-- ---- the whole input

-- what is answered, and the tables that are left
pub record Filling : Type 0 where
  pub answer : Result Sizes Unread
  pub marks : List ℕ
  pub vals : List Float

abbrev pub filling : Result Sizes Unread → List ℕ → List Float → Filling
filling r marks vals = record { answer = r; marks = marks; vals = vals }

-- what it says
abbrev pub stated : Filling → Decoded Problem
stated f = decoded_in f.answer f.marks f.vals

abbrev pub if_filling : Bool → Filling → Filling → Filling
if_filling true a b = a
if_filling false a b = b

abbrev pub on_entered : Entered → ℕ → (List ℕ → List Float → Filling) → Filling
on_entered (kept marks vals) k f = filling (Err (Fault k)) marks vals
on_entered (added marks vals) k f = f marks vals

-- without sizes the tables stay as they were
abbrev pub on_head : Result Sizes Unread → List ℕ → List Float → ((m n : ℕ) → Filling) → Filling
on_head (Err e) marks vals f = filling (Err e) marks vals
on_head (Ok s) marks vals f = f s.constraints s.variables

-- after k whole records: a short record, a constraint with no value, or a width with no `I` is at fault at k
unfoldable pub closing : (m n : ℕ) → List ℕ → ℕ → List ℕ → List Float → Filling
closing m n bs k marks vals =
    if_filling (eqb (length bs % 16) 0 && all_below m (whole_at marks)) (filling (Ok (sized m n)) marks vals) (filling (Err (Fault k)) marks vals)

-- the records from index k on, of which `left` are whole
unfoldable pub walk_tables : (m n : ℕ) → List ℕ → (left k : ℕ) → List ℕ → List Float → Filling
walk_tables m n bs zero k marks vals = closing m n bs k marks vals
walk_tables m n bs (suc left) k marks vals =
    on_entered (entered m n (record_at bs k) marks vals) k (λ marks' vals'. walk_tables m n bs left (k + 1) marks' vals')

-- Without a sound first record, or with sizes outside the table, the tables stay as they were.
unfoldable pub decode_tables : List ℕ → List ℕ → List Float → Filling
decode_tables bs marks vals =
    if_filling (ltb (length bs) 16) (filling (Err (Fault 0)) marks vals)
    (on_head (head_of (take 16 bs)) marks vals
    (λ m n. walk_tables m n bs (length bs / 16 - 1) 1 no_marks (default_values n)))

-- Nothing is left open: after a fault, too, the tables hold what the records before it gave.
pub record Fills (bs : List ℕ) (r : Result Sizes Unread) (marks marks' : List ℕ) (vals vals' : List Float) : Type 0 where
  pub promise : Decodes bs r marks marks' vals vals'
  pub tables : filling r marks' vals' ≡ decode_tables bs marks vals
