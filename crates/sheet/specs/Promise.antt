-- What reading a sheet promises. Definitions only.
use Rattle.std.specs.Prelude.{Result, Ok, Err, ◌≡◌, List, ℕ, ◌≤◌, ◌<◌, Float}
use Rattle.sheet_words.specs.Lines.{found, FoundIn}
use Rattle.sheet.specs.declared.Sizes.{Sizes}
use Rattle.sheet.specs.declared.Unread.{Unread}
use Rattle.sheet.specs.declared.Unread.TheVariants.{Fault, Long}
use Rattle.sheet.specs.Sheet.{Outcome, whole, fault, long, blank_texts, blank_wholes, blank_numbers, sheet_of}

-- what is told, with the tables that are left; the word of a fault is told by its places in the bytes
abbrev pub told : (bytes : List ℕ) → Result Sizes Unread → (texts wholes : List ℕ) (numbers : List Float) → Outcome
told bytes (Ok n) texts wholes numbers = whole n.items n.balances n.limits n.doubts texts wholes numbers
told bytes (Err (Fault line w)) texts wholes numbers = fault line w.expected (found bytes w)
told bytes (Err Long) texts wholes numbers = long

-- where the sheet is not whole, the tables are blank
abbrev pub BlankUnlessWhole : Result Sizes Unread → (texts wholes : List ℕ) (numbers : List Float) → Type 0
BlankUnlessWhole (Ok n) texts wholes numbers = Unit
BlankUnlessWhole (Err u) texts wholes numbers = (texts ≡ blank_texts) × (wholes ≡ blank_wholes) × (numbers ≡ blank_numbers)

-- there is no more than there is room for, and the word of a fault stands in the bytes
abbrev pub Fits : (bytes : List ℕ) → Result Sizes Unread → Type 0
Fits bytes (Ok n) = (0 < n.items) × (n.items ≤ 16) × (0 < n.balances) × (n.balances ≤ 16) × (n.limits ≤ 16) × (n.doubts ≤ 16)
Fits bytes (Err (Fault line w)) = FoundIn bytes w
Fits bytes (Err Long) = Unit

pub record Reads (bytes : List ℕ) (r : Result Sizes Unread) (texts wholes : List ℕ) (numbers : List Float) : Type 0 where
  pub answer : told bytes r texts wholes numbers ≡ sheet_of bytes
  pub blank : BlankUnlessWhole r texts wholes numbers
  pub fits : Fits bytes r
