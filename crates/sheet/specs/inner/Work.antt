-- What the inner functions tell. Definitions only.
use Rattle.std.specs.Prelude.{Result, ◌≡◌, false, List, ℕ, Float}
use Rattle.sheet_lines.specs.declared.Counts.{Counts}
use Rattle.sheet_lines.specs.inner.Work.{state}
use Rattle.sheet.specs.declared.Sizes.{Sizes}
use Rattle.sheet.specs.declared.Unread.{Unread}
use Rattle.sheet.specs.Sheet.{sheet_end}
use Rattle.sheet.specs.Promise.{told, Fits}

abbrev pub no_counts : Counts
no_counts = record { items = 0; balances = 0; limits = 0; doubts = 0; titled = false; metered = false; toleranced = false }

abbrev pub IsEnd : (line : ℕ) → Counts → Result Sizes Unread → Type 0
IsEnd line s r = (bytes texts wholes : List ℕ) (numbers : List Float) → told bytes r texts wholes numbers ≡ sheet_end line (state s texts wholes numbers)

abbrev pub FitsAnywhere : Result Sizes Unread → Type 0
FitsAnywhere r = (bytes : List ℕ) → Fits bytes r
