-- What the functions tell. Definitions only.
use Rattle.std.specs.Prelude.{Result, Ok, Err, ◌≡◌, List, ℕ, ◌≤◌, length, drop}
use Rattle.day_words.specs.declared.Word.{Word}
use Rattle.sheet_words.specs.Lines.{between, found, FoundIn}
use Rattle.sheet_words.specs.declared.Wrong.{Wrong}
use Rattle.sheet_parts.specs.declared.Item.{Item}
use Rattle.sheet_parts.specs.Texts.{text_in}
use Rattle.sheet_parts.specs.Parts.{Named, named, unnamed, Texted, texted, untexted, Itemed, itemed, unitemed}

-- w is the text of the line from a place on
pub record IsText (line : List ℕ) (from : ℕ) (w : Word) : Type 0 where
  pub low : w.start ≤ w.end
  pub high : w.end ≤ length line
  pub text : between w.start w.end line ≡ text_in (drop from line)

abbrev pub name_told : (line : List ℕ) → Result ℕ Wrong → (texts : List ℕ) → Named
name_told line (Ok p) texts = named (drop p line) texts
name_told line (Err w) texts = unnamed w.expected (found line w)

abbrev pub text_told : (line : List ℕ) → Result ℕ Wrong → (texts : List ℕ) → Texted
text_told line (Ok p) texts = texted texts
text_told line (Err w) texts = untexted w.expected (found line w)

abbrev pub item_told : (line : List ℕ) → Result Item Wrong → Itemed
item_told line (Ok i) = itemed i.old i.new i.spread i.before i.after
item_told line (Err w) = unitemed w.expected (found line w)

-- the place after a part, and the word of a fault, stand in the line
abbrev pub Inside : (line : List ℕ) → Result ℕ Wrong → Type 0
Inside line (Ok p) = p ≤ length line
Inside line (Err w) = FoundIn line w

abbrev pub ItemInside : (line : List ℕ) → Result Item Wrong → Type 0
ItemInside line (Ok i) = Unit
ItemInside line (Err w) = FoundIn line w
