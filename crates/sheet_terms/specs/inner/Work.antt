-- What the inner functions tell. Definitions only.
use Rattle.std.specs.Prelude.{Result, Ok, Err, ◌≡◌, Bool, List, ℕ, ◌<◌, Float}
use Rattle.sheet_words.specs.declared.Expected.{Expected}
use Rattle.sheet_words.specs.declared.Wrong.{Wrong}
use Rattle.sheet_words.specs.Lines.{found, FoundIn}
use Rattle.sheet_terms.specs.declared.Term.{Term}
use Rattle.sheet_terms.specs.declared.Term.TheVariants.{Sign, Times, Names}
use Rattle.sheet_terms.specs.declared.Turn as declared
use Rattle.sheet_terms.specs.Terms.{Turn, Turned, next, stopped, Listed, listed, unlisted, terms_end}

abbrev pub NamesInside : Result Term Expected → Type 0
NamesInside (Ok (Names k)) = k < 16
NamesInside (Ok Sign) = Unit
NamesInside (Ok (Times x)) = Unit
NamesInside (Err e) = Unit

abbrev pub turn : declared.Turn → List Float → Turn
turn t numbers = record { equals = t.equals; here = t.here; pending = t.pending; numbers = numbers }

abbrev pub turn_told : Result declared.Turn Expected → List Float → Turned
turn_told (Ok t) numbers = next (turn t numbers)
turn_told (Err e) numbers = stopped e

abbrev pub row_told : (line : List ℕ) → Result Unit Wrong → List Float → Listed
row_told line (Ok u) numbers = listed numbers
row_told line (Err w) numbers = unlisted w.expected (found line w)

abbrev pub IsEnd : (balance : Bool) → declared.Turn → (at : ℕ) → Result Unit Wrong → Type 0
IsEnd balance t at r = (line : List ℕ) (numbers : List Float) → row_told line r numbers ≡ terms_end balance (turn t numbers)

-- the word of a fault stands in the line
abbrev pub RowInside : (line : List ℕ) → Result Unit Wrong → Type 0
RowInside line (Ok u) = Unit
RowInside line (Err w) = FoundIn line w

abbrev pub EndsAt : (at : ℕ) → Result Unit Wrong → Type 0
EndsAt at (Ok u) = Unit
EndsAt at (Err w) = (w.word.start ≡ at) × (w.word.end ≡ at)
