-- What the functions need and leave: records at a place of the output. Definitions only.
use Rattle.std.specs.Prelude.{◌≡◌, List, ℕ, zero, suc, ◌+◌, ◌*◌, ◌≤◌, ◌<◌, length}
use Rattle.numbers.specs.Numbers.{nth}
use Rattle.endian.specs.Little.{placed}
use Rattle.step_rows.specs.Problem.{by_kind}
use Rattle.problem_write.specs.File.{entry_of, each, row_length, constraint_records, joined}
use Rattle.problem_write.specs.Lent.{Lent, constraint_in}

-- they fit from a place on
abbrev pub Room : (at : ℕ) → List (List ℕ) → (out : List ℕ) → Type 0
Room at rs out = at + length (joined rs) ≤ length out

-- the place after them, and the output before and, primed, afterwards: what is not theirs stays
pub record Wrote (at : ℕ) (rs : List (List ℕ)) (r : ℕ) (out out' : List ℕ) : Type 0 where
  pub the_place : r ≡ at + length (joined rs)
  pub the_bytes : out' ≡ placed at (joined rs) out

-- one row, whose entries stand in xs from a place on
unfoldable pub row_entries : (tag row k from : ℕ) → List ℕ → List (List ℕ)
row_entries tag row k from xs = each k (λ j. entry_of tag row j (nth xs (from + j)))

-- all constraints
unfoldable pub all_constraints : (m : ℕ) (kinds values widths : List ℕ) → List (List ℕ)
all_constraints m kinds values widths = each m (λ i. constraint_records i (constraint_in (nth kinds i) (nth values i) (nth widths i)))

-- how many records they are, by their kinds
abbrev pub records_of_kind : ℕ → ℕ
records_of_kind k = by_kind k 1 1 2

unfoldable pub records_of_kinds : (m : ℕ) (kinds : List ℕ) → ℕ
records_of_kinds zero kinds = 0
records_of_kinds (suc m) kinds = records_of_kinds m kinds + records_of_kind (nth kinds m)

-- a table of rows has its entries
pub record Table (tag rows columns : ℕ) (xs : List ℕ) : Type 0 where
  pub few_rows : rows ≤ 16
  pub few_columns : columns ≤ 16
  pub narrow : (i : ℕ) → i < rows → row_length tag i columns ≤ columns
  pub whole : length xs ≡ rows * columns

-- a problem whose sizes and lengths are right
pub record Sized (p : Lent) : Type 0 where
  pub some_variables : 1 ≤ p.n
  pub variables : p.n ≤ 16
  pub constraints : p.m ≤ 16
  pub the_factor : length p.factor ≡ p.n * p.n
  pub the_gradient : length p.gradient ≡ p.n
  pub the_kinds : length p.kinds ≡ p.m
  pub the_values : length p.values ≡ p.m
  pub the_widths : length p.widths ≡ p.m
  pub the_jacobian : length p.jacobian ≡ p.m * p.n
  pub the_lower : length p.lower ≡ p.n
  pub the_upper : length p.upper ≡ p.n
