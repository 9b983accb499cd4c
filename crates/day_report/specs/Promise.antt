-- What a call of `respond` answers and leaves. Definitions only.
use Rattle.std.specs.Prelude.{◌≡◌, List, ◌++◌, ℕ, length, drop}
use Rattle.day_report.specs.Report.{day_report}

-- From the bytes read: the count r, and what the buffer holds before and, primed, afterwards: the report, and then what stood there.
pub record Reports (bytes : List ℕ) (r : ℕ) (out out' : List ℕ) : Type 0 where
  pub the_count : r ≡ length (day_report bytes)
  pub the_buffer : out' ≡ day_report bytes ++ drop r out
