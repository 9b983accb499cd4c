-- What the C function that writes a day's report promises, and that it allows one answer only. Definitions only.
use Rattle.std.specs.Prelude.{◌≡◌, Bool, cond, List, ◌++◌, ℕ, leb, length, drop}
use Rattle.day_report.specs.Report.{day_report}

-- a buffer has room for every report
abbrev pub has_room : List ℕ → Bool
has_room out = leb 81920 (length out)

-- From a sheet's bytes: the number k, and what the count and the buffer hold before and, primed, afterwards: the report, and then what stood there. Without room, 2, and all is as it was.
pub record ReportLeaves (bytes : List ℕ) (k count count' : ℕ) (out out' : List ℕ) : Type 0 where
  pub the_number : k ≡ cond (has_room out) 0 2
  pub the_count : count' ≡ cond (has_room out) (length (day_report bytes)) count
  pub the_report : out' ≡ cond (has_room out) (day_report bytes ++ drop (length (day_report bytes)) out) out

abbrev pub OneReport : Type 0
OneReport = (bytes : List ℕ) (k l n n' n'' : ℕ) (out out' out'' : List ℕ) → ReportLeaves bytes k n n' out out' → ReportLeaves bytes l n n'' out out'' → (k ≡ l) × (n' ≡ n'') × (out' ≡ out'')
