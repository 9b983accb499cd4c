-- What is shown of every sheet that is written: how it reads back, whose volumes it has, that no record is passed over, that its doubts can stand and what they count; and how much of the files decides. Definitions only.
use Rattle.std.specs.Prelude.{◌≡◌, Bool, true, cond, ◌⊎◌, List, [], ◌∷◌, ◌++◌, map, ℕ, ◌+◌, ◌*◌, ◌≤◌, ◌<◌, leb, ltb, Float, length, take, drop, get_or, Result, Ok, Err}
use Rattle.numbers.specs.Numbers.{+0}
use Rattle.endian.specs.Little.{placed}
use Rattle.endian.specs.Claims.{AreBytes}
use Rattle.ascii.specs.Text.{ascii}
use Rattle.totaliser.specs.Volume.{volume}
use Rattle.day_words.specs.Words.{lines_of, without_return}
use Rattle.day_words.specs.Items.{filled, value_in}
use Rattle.sheet_words.specs.declared.Expected.TheVariants.{Late, FewItems, FewDoubts}
use Rattle.sheet_words.specs.Names.{name_judged, above_zero}
use Rattle.sheet_words.specs.Lines.{after_mark}
use Rattle.sheet_parts.specs.Texts.{is_plain}
use Rattle.sheet_lines.specs.Lines as read
use Rattle.sheet.specs.Sheet.{line_read, Outcome, sheet_end, onward, at_start, sheet_of}
use Rattle.mend.specs.Mend.{Bytes, meter_of, reading_of, records_of, of_meter, is_there, mend}
use Rattle.mend.specs.Claims.{end_of}
use Rattle.logged.specs.Meters.{seen, shown}
use Rattle.logged.specs.Claims.{longest}
use Rattle.plant.specs.Lines.{Meter, Line, copied, metered, wrong, line_of, Lines, sound, fault, lines_from}
use Rattle.plant.specs.Texts.{minutes_text, stranger_text}
use Rattle.plant.specs.Plant.{sheet, written, day_start, day_end, doubts_from, plant_sheet}
use Rattle.sheet_words.specs.declared.Expected.{Expected}

-- ---- what a plant file and kept records give

abbrev pub meters_in : Lines → List Meter
meters_in (sound ms) = ms
meters_in (fault line e w) = []

-- the meters of a plant file
unfoldable pub meters_of : (plant : List ℕ) → List Meter
meters_of plant = meters_in (lines_from (lines_of (after_mark plant)) 0 [])

-- OLD and NEW: the readings of the first and of the last of a meter's records
abbrev pub old_of : List Bytes → ℕ
old_of [] = 0
old_of (r ∷ qs) = reading_of r

abbrev pub new_of : List Bytes → ℕ
new_of [] = 0
new_of (r ∷ qs) = reading_of (end_of r qs)

-- the day's first and last minute
abbrev pub day_from : (kept plant : List ℕ) → ℕ
day_from kept plant = day_start (meters_of plant) (records_of kept)

abbrev pub day_to : (kept plant : List ℕ) → ℕ
day_to kept plant = day_end (meters_of plant) (records_of kept)

abbrev pub doubt_lines : (kept plant : List ℕ) → List (List ℕ)
doubt_lines kept plant = lines_of (doubts_from 16 0 (meters_of plant) (day_from kept plant) (day_to kept plant) (records_of kept))

-- the doubts: what stands after `doubt `
abbrev pub doubts_of : (kept plant : List ℕ) → List (List ℕ)
doubts_of kept plant = map (drop 6) (doubt_lines kept plant)

-- ---- the sheet reads back

-- an item more, with two readings; or its name cannot stand
abbrev pub with_meter : Result Unit Expected → (name : List ℕ) (spread : Float) (old new : ℕ) → read.State → read.Line
with_meter (Ok u) name spread old new st = read.taken (read.with_item 0 old new spread +0 +0 (placed (16 * st.items) (filled name) st.texts) st)
with_meter (Err e) name spread old new st = read.wrong e name

-- what a sheet's reader makes of a meter after some lines
unfoldable pub meter_taken : (name : List ℕ) (spread : Float) (old new : ℕ) → read.State → read.Line
meter_taken name spread old new st =
    cond (ltb 0 (st.balances + st.limits)) (read.wrong Late (ascii "meter"))
    (cond (leb 16 st.items) (read.wrong FewItems (ascii "meter"))
    (with_meter (name_judged name st.texts) name spread old new st))

-- and of a doubt: its text at its place
unfoldable pub doubt_taken : (text : List ℕ) → read.State → read.Line
doubt_taken text st = cond (leb 16 st.doubts) (read.wrong FewDoubts (ascii "doubt")) (read.taken (read.with_doubt st (placed (840 + 72 * st.doubts) text st.texts)))

-- of a line of the plant file: name and spread of its meter with the readings of the records; every other line says what it says
abbrev pub plant_line : Line → (l : List ℕ) → (rs : List Bytes) → read.State → read.Line
plant_line (metered m) l rs st = meter_taken m.name (value_in (above_zero m.spread)) (old_of (of_meter m.number rs)) (new_of (of_meter m.number rs)) st
plant_line copied l rs st = line_read (without_return l) st
plant_line (wrong e w) l rs st = line_read (without_return l) st

unfoldable pub doubts_read : List (List ℕ) → (k : ℕ) → read.State → Outcome
doubts_read [] k st = sheet_end (k + 1) st
doubts_read (d ∷ ds) k st = onward (k + 1) (doubt_taken d st) (doubts_read ds (k + 1))

-- the lines of a plant file after the first k, then a line that says nothing, then doubts
unfoldable pub plant_read : List (List ℕ) → (rs : List Bytes) (doubts : List (List ℕ)) → (k : ℕ) → read.State → Outcome
plant_read [] rs ds k st = doubts_read ds (k + 1) st
plant_read (l ∷ ls) rs ds k st = onward (k + 1) (plant_line (line_of (without_return l) []) l rs st) (plant_read ls rs ds (k + 1))

pub record Back (kept plant text : List ℕ) : Type 0 where
  -- its lines are those of the plant file, each as it is written, the line of minutes, and the doubts
  pub lines : lines_of (after_mark text) ≡ map (λ l. written l (records_of kept)) (lines_of (after_mark plant)) ++ (minutes_text (day_from kept plant) (day_to kept plant) ∷ doubt_lines kept plant)
  pub reads : sheet_of text ≡ plant_read (lines_of (after_mark plant)) (records_of kept) (doubts_of kept plant) 0 at_start

abbrev pub ReadsBack : Type 0
ReadsBack = (kept plant text : List ℕ) → AreBytes kept → plant_sheet kept plant ≡ sheet text → Back kept plant text

-- ---- of each meter there are records, and the volume between OLD and NEW is the total that the mending tells

-- line k of a text, from 0
abbrev pub line_at : (k : ℕ) → List ℕ → List ℕ
line_at k text = get_or (lines_of (after_mark text)) k []

pub record Measured (kept : List ℕ) (m : ℕ) : Type 0 where
  pub has_records : is_there (of_meter m (records_of kept)) ≡ true
  pub total_is : volume (old_of (of_meter m (records_of kept))) (new_of (of_meter m (records_of kept))) ≡ get_or (mend kept).totals m 0

abbrev pub SameVolume : Type 0
SameVolume = (kept plant text : List ℕ) (k : ℕ) (m : Meter) → plant_sheet kept plant ≡ sheet text → line_of (without_return (line_at k plant)) [] ≡ metered m → Measured kept m.number

-- ---- no record is passed over: its meter has a line in the sheet, or a doubt that names its number

-- line k is that of a meter with the number m, and it is written
pub record HasLine (kept plant text : List ℕ) (m k : ℕ) : Type 0 where
  pub meter : Meter
  pub is_meter_holds : line_of (without_return (line_at k plant)) [] ≡ metered meter
  pub number_is : meter.number ≡ m
  pub is_written : line_at k text ≡ written (line_at k plant) (records_of kept)

abbrev pub Told : (kept plant text : List ℕ) (m : ℕ) → Type 0
Told kept plant text m = ((k : ℕ) × HasLine kept plant text m k) ⊎ ((k : ℕ) × (line_at k text ++ (10 ∷ []) ≡ stranger_text m))

abbrev pub NoneLost : Type 0
NoneLost = (kept plant text : List ℕ) (i : ℕ) → plant_sheet kept plant ≡ sheet text → i < length (records_of kept) → Told kept plant text (meter_of (get_or (records_of kept) i []))

-- ---- the doubts are at most 16, each of 1 to 72 bytes from 32 to 126

abbrev pub Each : (ℕ → Bool) → List ℕ → Type 0
Each p [] = Unit
Each p (c ∷ cs) = (p c ≡ true) × Each p cs

pub record Short (text : List ℕ) : Type 0 where
  pub some : 0 < length text
  pub fits : length text ≤ 72
  pub plain : Each is_plain text

abbrev pub AreShort : List (List ℕ) → Type 0
AreShort [] = Unit
AreShort (t ∷ ts) = Short t × AreShort ts

abbrev pub ShortDoubts : Type 0
ShortDoubts = (kept plant text : List ℕ) → AreBytes kept → plant_sheet kept plant ≡ sheet text → (length (doubts_of kept plant) ≤ 16) × AreShort (doubts_of kept plant)

-- ---- K of a doubt is the longest time between two of the meter's records such that all its readings from the one to the other are equal

abbrev pub StillFor : Type 0
StillFor = (kept plant text : List ℕ) (m : ℕ) → plant_sheet kept plant ≡ sheet text → (shown m (records_of kept)).still ≡ longest (of_meter m (records_of kept))

-- ---- bytes enough: those that the program reads decide

abbrev pub EnoughBytes : Type 0
EnoughBytes = (kept plant : List ℕ) → plant_sheet kept plant ≡ plant_sheet (take 524289 kept) (take 65537 plant)
