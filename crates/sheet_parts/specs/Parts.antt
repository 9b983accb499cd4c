-- The parts of a line: a name, a text, what stands after an item's name. Definitions only.
use Rattle.std.specs.Prelude.{Option, Some, None, Result, Ok, Err, cond, List, [], ◌∷◌, ℕ, ◌*◌, ltb, eqb, length, drop, Float}
use Rattle.numbers.specs.Numbers.{+0}
use Rattle.endian.specs.Little.{placed}
use Rattle.day_words.specs.Words.{word, rest}
use Rattle.day_words.specs.Items.{filled, reading_of, decimal_of}
use Rattle.sheet_words.specs.declared.Expected.{Expected}
use Rattle.sheet_words.specs.declared.Expected.TheVariants.{Text, OneName, Reading, Decimal, Above, End}
use Rattle.sheet_words.specs.Names.{begins_letter, name_judged, above_zero}
use Rattle.sheet_parts.specs.Texts.{sound_part}

-- ---- a name that is new, in the table, and the text after it

pub data Named : Type 0 where
  named : (text texts : List ℕ) → Named
  unnamed : Expected → (word : List ℕ) → Named

abbrev pub named_by : Result Unit Expected → (k : ℕ) (text texts : List ℕ) → Named
named_by (Ok u) k text texts = named (rest text) (placed (16 * k) (filled (word text)) texts)
named_by (Err e) k text texts = unnamed e (word text)

unfoldable pub name_at : (k : ℕ) (text texts : List ℕ) → Named
name_at k text texts = named_by (name_judged (word text) texts) k text texts

-- ---- a text

-- the text into its place, or where it goes wrong
pub data Texted : Type 0 where
  texted : (texts : List ℕ) → Texted
  untexted : Expected → (word : List ℕ) → Texted

unfoldable pub text_at : (p : ℕ) (t texts : List ℕ) → Texted
text_at p t texts =
    cond (eqb (length t) 0) (untexted Text [])
    (cond (ltb (length (sound_part t)) (length t)) (untexted Text (drop (length (sound_part t)) t))
    (texted (placed p t texts)))

-- ---- an item

-- what stands after the name: readings, spread or capacity, content before and after
pub data Itemed : Type 0 where
  itemed : (old new : ℕ) (spread before after : Float) → Itemed
  unitemed : Expected → (word : List ℕ) → Itemed

abbrev pub only_item : (after : List ℕ) → Itemed → Itemed
only_item [] i = i
only_item (c ∷ cs) i = unitemed End (c ∷ cs)

-- meter NAME OLD NEW SPREAD
unfoldable pub meter_read : (old new : Option ℕ) (spread : Option Float) → (a b c after : List ℕ) → Itemed
meter_read None new spread a b c after = unitemed Reading a
meter_read (Some old) None spread a b c after = unitemed Reading b
meter_read (Some old) (Some new) None a b c after = unitemed Above c
meter_read (Some old) (Some new) (Some x) a b c after = only_item after (itemed old new x +0 +0)

-- line NAME CAPACITY
unfoldable pub line_read : (capacity : Option Float) → (a after : List ℕ) → Itemed
line_read None a after = unitemed Above a
line_read (Some x) a after = only_item after (itemed 0 0 x +0 +0)

-- stock NAME BEFORE AFTER SPREAD
unfoldable pub stock_read : (before next spread : Option Float) → (a b c after : List ℕ) → Itemed
stock_read None next spread a b c after = unitemed Decimal a
stock_read (Some x) None spread a b c after = unitemed Decimal b
stock_read (Some x) (Some y) None a b c after = unitemed Above c
stock_read (Some x) (Some y) (Some z) a b c after = only_item after (itemed 0 0 z x y)

-- the same, of a text: k is 0 for a meter, 1 for a line, 2 for a stock
unfoldable pub meter_of : List ℕ → Itemed
meter_of t = meter_read (reading_of (word t)) (reading_of (word (rest t))) (above_zero (word (rest (rest t)))) (word t) (word (rest t)) (word (rest (rest t))) (word (rest (rest (rest t))))

unfoldable pub line_of : List ℕ → Itemed
line_of t = line_read (above_zero (word t)) (word t) (word (rest t))

unfoldable pub stock_of : List ℕ → Itemed
stock_of t = stock_read (decimal_of (word t)) (decimal_of (word (rest t))) (above_zero (word (rest (rest t)))) (word t) (word (rest t)) (word (rest (rest t))) (word (rest (rest (rest t))))

unfoldable pub item_of : (k : ℕ) → List ℕ → Itemed
item_of k t =
    cond (begins_letter (word t)) (unitemed OneName (word t))
    (cond (eqb k 0) (meter_of t)
    (cond (eqb k 1) (line_of t)
    (stock_of t)))
