-- What is shown of the report: what it rests on where it says that the day closes, over exact numbers; that it holds the sheet; which bytes decide it; and that the promise of `respond` allows one answer only. Definitions only.
use Rattle.std.specs.Prelude.{◌≡◌, true, List, ◌++◌, ℕ, length, Float}
use Rattle.std.specs.Float.Ieee.{le}
use Rattle.exact.specs.Exact.{Finite, value}
use Rattle.certain.specs.Day.{WithinTolerance, exactly}
use Rattle.workspace.specs.Tables.{done}
use Rattle.settle.specs.Settle.{Settled, is_kept, settled}
use Rattle.settle.specs.Claims.{in_numbers, Near}
use Rattle.sheet.specs.Sheet.{whole, sheet_of}
use Rattle.day_volumes.specs.Posed.{tolerance_of, posed}
use Rattle.day_volumes.specs.Found.{Found, tested, found}
use Rattle.day_text.specs.Verdict.{certain_enough}
use Rattle.day_text.specs.Claims.{BeginsCloses}
use Rattle.day_report.specs.Report.{day_report}
use Rattle.day_report.specs.Promise.{Reports}

-- ---- the verdict

-- What a report that says `closes` rests on. A sheet was read whole, and what it poses is settled:
pub record Closed (bytes : List ℕ) : Type 0 where
  pub n : ℕ
  pub m : ℕ
  pub q : ℕ
  pub d : ℕ
  pub texts : List ℕ
  pub wholes : List ℕ
  pub numbers : List Float
  pub s : Settled
  pub read : sheet_of bytes ≡ whole n m q d texts wholes numbers
  pub volumes : settled (posed n m q wholes numbers) (tolerance_of numbers) ≡ done s
  -- by intervals every balance is within the tolerance, which is finite, and every floor, ceiling, zero and capacity is kept within it;
  pub finite : Finite (tolerance_of numbers)
  pub kept : is_kept (posed n m q wholes numbers) (tolerance_of numbers) s ≡ true
  -- so they are in exact numbers;
  pub within : WithinTolerance (in_numbers (posed n m q wholes numbers)) (exactly s.x) (value (tolerance_of numbers))
  -- the bound is at most 2 ^ -10 spreads, and no volumes that are as good lie farther off;
  pub certain : le s.far certain_enough ≡ true
  pub near : Near (posed n m q wholes numbers) s.x s.far
  -- and the meters agree.
  pub agree : (tested wholes (posed n m q wholes numbers) s).tests.finding.agree ≡ true

-- the report begins with the line `closes`
abbrev pub SaysCloses : List ℕ → Type 0
SaysCloses bytes = BeginsCloses (day_report bytes)

-- It does so exactly there.
pub record ClosesExactly : Type 0 where
  pub only : (bytes : List ℕ) → SaysCloses bytes → Closed bytes
  pub all : (bytes : List ℕ) → Closed bytes → SaysCloses bytes

-- ---- the sheet inside: where volumes are found, the report ends with the bytes that were read

abbrev pub HoldsSheet : Type 0
HoldsSheet = (bytes : List ℕ) (n m q d : ℕ) (texts wholes : List ℕ) (numbers : List Float) (r : Found) → sheet_of bytes ≡ whole n m q d texts wholes numbers → found n m q wholes numbers ≡ done r
    → (head : List ℕ) × (day_report bytes ≡ head ++ bytes)

-- ---- the bytes that decide

abbrev pub FirstBytesDecide : Type 0
FirstBytesDecide = (p q : List ℕ) → length p ≡ 65537 → day_report (p ++ q) ≡ day_report p

-- ---- one answer only: two calls on the same bytes and buffer answer and leave the same

abbrev pub OneReport : Type 0
OneReport = (bytes : List ℕ) (r q : ℕ) (out out₁ out₂ : List ℕ) → Reports bytes r out out₁ → Reports bytes q out out₂ → (r ≡ q) × (out₁ ≡ out₂)
