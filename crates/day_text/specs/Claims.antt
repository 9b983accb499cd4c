-- What is shown of the report: it begins with the line `closes` exactly where the verdict is so. Definitions only.
use Rattle.std.specs.Prelude.{◌≡◌, List, ◌++◌, ℕ, Float}
use Rattle.workspace.specs.declared.Refusal.{Refusal}
use Rattle.ascii.specs.Text.{ascii}
use Rattle.sheet_words.specs.declared.Expected.{Expected}
use Rattle.day_text.specs.Verdict.{Verdict, closes, verdict_of, verdict_text}
use Rattle.day_text.specs.Report.{report_text}
use Rattle.day_text.specs.Refusals.{fault_text, long_text, refusal_text}

-- a text begins with the line `closes`
abbrev pub BeginsCloses : List ℕ → Type 0
BeginsCloses text = (t : List ℕ) × (text ≡ ascii "closes\n" ++ t)

-- of the verdicts only one
pub record ClosesLine : Type 0 where
  pub only : (v : Verdict) (n : ℕ) (texts signs rest : List ℕ) → BeginsCloses (verdict_text v n texts signs ++ (ascii "\n" ++ rest)) → v ≡ closes
  pub all : (n : ℕ) (texts signs rest : List ℕ) → BeginsCloses (verdict_text closes n texts signs ++ (ascii "\n" ++ rest))

-- and of the reports those with this verdict; no refusal does
pub record ClosesReport : Type 0 where
  pub only : (n m q d : ℕ) (texts wholes : List ℕ) (numbers figures : List Float) (signs sheet : List ℕ) → BeginsCloses (report_text n m q d texts wholes numbers figures signs sheet) → verdict_of figures signs ≡ closes
  pub all : (n m q d : ℕ) (texts wholes : List ℕ) (numbers figures : List Float) (signs sheet : List ℕ) → verdict_of figures signs ≡ closes → BeginsCloses (report_text n m q d texts wholes numbers figures signs sheet)
  pub no_fault : (line : ℕ) (e : Expected) (word : List ℕ) → BeginsCloses (fault_text line e word) → ⊥
  pub not_long : BeginsCloses long_text → ⊥
  pub no_refusal : (texts : List ℕ) (why : Refusal) → BeginsCloses (refusal_text texts why) → ⊥
