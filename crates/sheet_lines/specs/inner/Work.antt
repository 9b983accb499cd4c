-- What the functions tell. Definitions only.
use Rattle.std.specs.Prelude.{Result, Ok, Err, ◌≡◌, true, List, ℕ, ◌≤◌, ◌<◌, Float}
use Rattle.sheet_words.specs.declared.Wrong.{Wrong}
use Rattle.sheet_words.specs.Lines.{found, FoundIn}
use Rattle.sheet_parts.specs.Parts.{named}
use Rattle.sheet_lines.specs.declared.Counts.{Counts}
use Rattle.sheet_lines.specs.Lines.{State, Line, taken, wrong, title_line, doubt_line, item_named, balance_line, limit_named, tolerance_line}

-- the counts with the tables
abbrev pub state : Counts → (texts wholes : List ℕ) (numbers : List Float) → State
state s texts wholes numbers = record {
  items = s.items;
  balances = s.balances;
  limits = s.limits;
  doubts = s.doubts;
  titled = s.titled;
  metered = s.metered;
  toleranced = s.toleranced;
  texts = texts;
  wholes = wholes;
  numbers = numbers;
}

abbrev pub line_told : (line : List ℕ) → Result Counts Wrong → (texts wholes : List ℕ) (numbers : List Float) → Line
line_told line (Ok s) texts wholes numbers = taken (state s texts wholes numbers)
line_told line (Err w) texts wholes numbers = wrong w.expected (found line w)

-- no more than there is room for, and something where there is a meter
abbrev pub Few : Counts → Type 0
Few s = (s.items ≤ 16) × (s.balances ≤ 16) × (s.limits ≤ 16) × (s.doubts ≤ 16) × (s.metered ≡ true → 0 < s.items)

abbrev pub Sound : (line : List ℕ) → Result Counts Wrong → Type 0
Sound line (Ok s) = Few s
Sound line (Err w) = FoundIn line w

-- ---- what functions tell that are not handed all of the tables: whatever the others are

abbrev pub IsTitle : (line kind text : List ℕ) → Counts → (texts : List ℕ) → Result Counts Wrong → (texts' : List ℕ) → Type 0
IsTitle line kind text s texts r texts' = (wholes : List ℕ) (numbers : List Float) → line_told line r texts' wholes numbers ≡ title_line kind text (state s texts wholes numbers)

abbrev pub IsDoubt : (line kind text : List ℕ) → Counts → (texts : List ℕ) → Result Counts Wrong → (texts' : List ℕ) → Type 0
IsDoubt line kind text s texts r texts' = (wholes : List ℕ) (numbers : List Float) → line_told line r texts' wholes numbers ≡ doubt_line kind text (state s texts wholes numbers)

abbrev pub TakesItem : (line : List ℕ) (k : ℕ) (text : List ℕ) → Counts → (wholes : List ℕ) (numbers : List Float) → Result Counts Wrong → (wholes' : List ℕ) (numbers' : List Float) → Type 0
TakesItem line k text s wholes numbers r wholes' numbers' = (texts old : List ℕ) → line_told line r texts wholes' numbers' ≡ item_named k (named text texts) (state s old wholes numbers)

abbrev pub TakesLimit : (line : List ℕ) (ceiling : ℕ) (text : List ℕ) → Counts → (texts wholes : List ℕ) (numbers : List Float) → Result Counts Wrong → (wholes' : List ℕ) (numbers' : List Float) → Type 0
TakesLimit line ceiling text s texts wholes numbers r wholes' numbers' = (old : List ℕ) → line_told line r texts wholes' numbers' ≡ limit_named ceiling (named text texts) (state s old wholes numbers)

abbrev pub IsBalance : (line kind text : List ℕ) → Counts → (texts : List ℕ) (numbers : List Float) → Result Counts Wrong → (texts' : List ℕ) (numbers' : List Float) → Type 0
IsBalance line kind text s texts numbers r texts' numbers' = (wholes : List ℕ) → line_told line r texts' wholes numbers' ≡ balance_line kind text (state s texts wholes numbers)

abbrev pub IsTolerance : (line kind text : List ℕ) → Counts → (numbers : List Float) → Result Counts Wrong → (numbers' : List Float) → Type 0
IsTolerance line kind text s numbers r numbers' = (texts wholes : List ℕ) → line_told line r texts wholes numbers' ≡ tolerance_line kind text (state s texts wholes numbers)
