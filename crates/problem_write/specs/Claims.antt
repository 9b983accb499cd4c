-- What is shown of problem files: a record goes both ways, a file reads back, equal files are equal problems, and how long a file is. Definitions only.
use Rattle.std.specs.Prelude.{ℕ, ◌+◌, ◌*◌, ◌^◌, ◌<◌, ◌≤◌, ◌≡◌, true, List, ◌↔◌, length}
use Rattle.numbers.specs.Numbers.{nth}
use Rattle.endian.specs.Claims.{AreBytes}
use Rattle.problem_read.specs.Bits.{ConstraintBits, equality, floor, band, Bits}
use Rattle.problem_read.specs.Input.{record_tag, record_row, record_column, record_bits, spare_zero, problem, decode}
use Rattle.problem_write.specs.File.{record_of, constraint_at, file}

-- ---- one record

-- the parts of what was written
pub record ReadsBack (tag row column bits : ℕ) : Type 0 where
  pub the_size : length (record_of tag row column bits) ≡ 16
  pub the_tag : record_tag (record_of tag row column bits) ≡ tag
  pub the_row : row < 2 ^ 16 → record_row (record_of tag row column bits) ≡ row
  pub the_column : column < 2 ^ 16 → record_column (record_of tag row column bits) ≡ column
  pub the_bits : bits < 2 ^ 64 → record_bits (record_of tag row column bits) ≡ bits
  pub the_spare : spare_zero (record_of tag row column bits) ≡ true

-- and what was read, written again: the same 16 bytes
abbrev pub WritesAgain : List ℕ → Type 0
WritesAgain r = length r ≡ 16 → AreBytes r → spare_zero r ≡ true → record_of (record_tag r) (record_row r) (record_column r) (record_bits r) ≡ r

abbrev pub RecordBothWays : Type 0
RecordBothWays = ((tag row column bits : ℕ) → ReadsBack tag row column bits) × ((r : List ℕ) → WritesAgain r)

-- ---- files

-- 64 bits each
abbrev pub Patterns : List ℕ → Type 0
Patterns xs = (i : ℕ) → nth xs i < 2 ^ 64

abbrev pub Pattern : ConstraintBits → Type 0
Pattern (equality v) = v < 2 ^ 64
Pattern (floor v) = v < 2 ^ 64
Pattern (band v w) = (v < 2 ^ 64) × (w < 2 ^ 64)

-- a problem that the writer takes: sizes, lengths, patterns, and +0 above the factor's diagonal
pub record Writable (p : Bits) : Type 0 where
  pub some_variables : 1 ≤ p.n
  pub variables : p.n ≤ 16
  pub some_constraints : p.m ≤ 16
  pub the_factor : length p.factor ≡ p.n * p.n
  pub the_gradient : length p.gradient ≡ p.n
  pub the_constraints : length p.constraints ≡ p.m
  pub the_jacobian : length p.jacobian ≡ p.m * p.n
  pub the_lower : length p.lower ≡ p.n
  pub the_upper : length p.upper ≡ p.n
  pub factor_bits : Patterns p.factor
  pub gradient_bits : Patterns p.gradient
  pub constraint_bits : (i : ℕ) → Pattern (constraint_at p i)
  pub jacobian_bits : Patterns p.jacobian
  pub lower_bits : Patterns p.lower
  pub upper_bits : Patterns p.upper
  pub above : (i j : ℕ) → i < j → j < p.n → nth p.factor (i * p.n + j) ≡ 0

-- reading back gives the problem again, bit for bit
abbrev pub RoundTrip : Type 0
RoundTrip = (p : Bits) → Writable p → decode (file p) ≡ problem p

-- two problems are equal bit for bit exactly when their files are
abbrev pub SameFiles : Type 0
SameFiles = (p q : Bits) → Writable p → Writable q → (p ≡ q) ↔ (file p ≡ file q)

-- a file has at most 473 records, of 16 bytes
abbrev pub FewRecords : Type 0
FewRecords = (p : Bits) → p.n ≤ 16 → p.m ≤ 16 → length (file p) ≤ 7568
