-- What is shown of a sheet's reading: the fault told is the first, one answer only, 65,537 bytes decide, names are given once. Definitions only.
use Rattle.std.specs.Prelude.{Result, Ok, Err, ◌≡◌, List, false, ℕ, ◌*◌, ◌≤◌, ◌<◌, length, take, drop, Float}
use Rattle.endian.specs.Little.{placed}
use Rattle.day_words.specs.Words.{lines_of, word}
use Rattle.day_words.specs.Items.{filled}
use Rattle.sheet_words.specs.declared.Expected.{Expected}
use Rattle.sheet_words.specs.Names.{same_small}
use Rattle.sheet_words.specs.Lines.{after_mark, found}
use Rattle.sheet_parts.specs.Parts.{named, name_at}
use Rattle.sheet.specs.declared.Sizes.{Sizes}
use Rattle.sheet.specs.declared.Unread.{Unread}
use Rattle.sheet.specs.declared.Unread.TheVariants.{Fault, Long}
use Rattle.sheet.specs.Sheet.{Outcome, whole, fault, long, lines_read, at_start, sheet_of}
use Rattle.sheet.specs.Promise.{Reads}

-- ---- the first fault

-- no fault at one of k lines: at most something is missing after them
abbrev pub NoneWithin : ℕ → Outcome → Type 0
NoneWithin k (whole i b l d texts wholes numbers) = Unit
NoneWithin k (fault line e w) = k < line
NoneWithin k long = Unit

pub record First (ls : List (List ℕ)) (line : ℕ) (e : Expected) (w : List ℕ) : Type 0 where
  -- the lines before it, read alone, tell no fault at a line of theirs
  pub before : (k : ℕ) → k < line → NoneWithin k (lines_read (take k ls) 0 at_start)
  -- what comes after it does not matter
  pub after : line ≤ length ls → (ms : List (List ℕ)) → take line ms ≡ take line ls → lines_read ms 0 at_start ≡ fault line e w

abbrev pub FirstFault : Type 0
FirstFault = (bytes : List ℕ) (line : ℕ) (e : Expected) (w : List ℕ) → sheet_of bytes ≡ fault line e w → First (lines_of (after_mark bytes)) line e w

-- ---- one answer only

-- the same counts, or the same line, expectation and word
abbrev pub SameAnswer : (bytes : List ℕ) → (r q : Result Sizes Unread) → Type 0
SameAnswer bytes (Ok n) (Ok m) = (n.items ≡ m.items) × (n.balances ≡ m.balances) × (n.limits ≡ m.limits) × (n.doubts ≡ m.doubts)
SameAnswer bytes (Err (Fault line w)) (Err (Fault line' w')) = (line ≡ line') × (w.expected ≡ w'.expected) × (found bytes w ≡ found bytes w')
SameAnswer bytes (Err Long) (Err Long) = Unit
SameAnswer bytes (Ok n) (Err u) = ⊥
SameAnswer bytes (Err u) (Ok n) = ⊥
SameAnswer bytes (Err (Fault line w)) (Err Long) = ⊥
SameAnswer bytes (Err Long) (Err (Fault line w)) = ⊥

pub record Same (bytes : List ℕ) (r q : Result Sizes Unread) (texts wholes : List ℕ) (numbers : List Float) (texts' wholes' : List ℕ) (numbers' : List Float) : Type 0 where
  pub answer : SameAnswer bytes r q
  pub same_texts : texts ≡ texts'
  pub same_wholes : wholes ≡ wholes'
  pub same_numbers : numbers ≡ numbers'

abbrev pub OneAnswer : Type 0
OneAnswer = (bytes : List ℕ) (r q : Result Sizes Unread) (texts wholes : List ℕ) (numbers : List Float) (texts' wholes' : List ℕ) (numbers' : List Float)
    → Reads bytes r texts wholes numbers → Reads bytes q texts' wholes' numbers'
    → Same bytes r q texts wholes numbers texts' wholes' numbers'

-- ---- bytes enough

abbrev pub EnoughBytes : Type 0
EnoughBytes = (bytes : List ℕ) → sheet_of bytes ≡ sheet_of (take 65537 bytes)

-- ---- names are given once

-- a name that is taken at place k: it stands at none of the 48 places yet, in capitals or not, and then at its own
pub record GivenOnce (k : ℕ) (name texts texts' : List ℕ) : Type 0 where
  pub others : (j : ℕ) → j < 48 → same_small (take 16 (drop (16 * j) texts)) name ≡ false
  pub stands : texts' ≡ placed (16 * k) name texts

abbrev pub NamesOnce : Type 0
NamesOnce = (k : ℕ) (text texts t texts' : List ℕ) → name_at k text texts ≡ named t texts' → GivenOnce k (filled (word text)) texts texts'
