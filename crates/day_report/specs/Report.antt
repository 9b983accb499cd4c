-- The day's report: the bytes written for the bytes read (docs/RULES.md, "The day's report"). Definitions only.
use Rattle.std.specs.Prelude.{List, ℕ, Float}
use Rattle.workspace.specs.Tables.{Answer, done, refused}
use Rattle.sheet.specs.Sheet.{Outcome, whole, fault, long, sheet_of}
use Rattle.day_volumes.specs.Found.{Found, found, figures, signs}
use Rattle.day_text.specs.Report.{report_text}
use Rattle.day_text.specs.Refusals.{fault_text, long_text, refusal_text}

-- of a sheet with n items, m balances, q floors and ceilings and d doubts: what is found of its day, or why nothing is
abbrev pub answer_text : (n m q d : ℕ) (texts wholes : List ℕ) (numbers : List Float) (sheet : List ℕ) → Answer Found → List ℕ
answer_text n m q d texts wholes numbers sheet (done r) = report_text n m q d texts wholes numbers (figures m q numbers r) (signs m q numbers r) sheet
answer_text n m q d texts wholes numbers sheet (refused why) = refusal_text texts why

abbrev pub outcome_text : (sheet : List ℕ) → Outcome → List ℕ
outcome_text sheet (whole n m q d texts wholes numbers) = answer_text n m q d texts wholes numbers sheet (found n m q wholes numbers)
outcome_text sheet (fault line e word) = fault_text line e word
outcome_text sheet long = long_text

unfoldable pub day_report : List ℕ → List ℕ
day_report bytes = outcome_text bytes (sheet_of bytes)
