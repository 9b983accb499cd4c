-- The whole sheet reads back, and its doubts can stand.
use mathlib.Core.Path.{◌≡◌, refl, sym, ap, ◌∙◌, subst}
use mathlib.Core.List.{List, [], ◌∷◌, ◌++◌, map}
use Prim.Native.Nat.{ℕ, ◌+◌, ◌≤◌}
use native.Mathlib.Omega.{arith}
use lib.Ieee.{Float}
use lib.ListN.{length, drop}
use borrow.Author.Tests.{le-ltb}
use Rattle.numbers.specs.Numbers.{tab}
use Rattle.endian.specs.Claims.{AreBytes}
use Rattle.ascii.specs.Text.{ascii, decimal_text}
use Rattle.ascii.proofs.Numerals.{decimal-short}
use Rattle.day_words.specs.Words.{up_to, lines_of, without_return, skip_blanks, word, rest}
use Rattle.day_words.specs.Items.{value_in}
use Rattle.sheet_words.specs.Names.{above_zero}
use Rattle.sheet_words.specs.Lines.{after_mark}
use Rattle.sheet_lines.specs.Lines as read
use Rattle.sheet.specs.Sheet.{line_read, Outcome, onward, lines_read, at_start, sheet_of}
use Rattle.mend.specs.Mend.{Bytes, records_of, of_meter}
use Rattle.logged.specs.Meters.{seen, shown}
use Rattle.plant.specs.Lines.{Meter, Line, copied, metered, wrong, line_of, remark_of}
use Rattle.plant.specs.Texts.{minutes_text, meter_text}
use Rattle.plant.specs.Plant.{written_by, written, day_start, day_end, doubts_from, sheet_text}
use Rattle.plant.specs.Claims.{meters_of, old_of, new_of, day_from, day_to, doubt_lines, doubts_of, meter_taken, doubt_taken, plant_line, doubts_read, plant_read, ReadsBack, ShortDoubts, Each, AreShort}
use Rattle.plant.proofs.Each.{each-return, no_feed}
use Rattle.plant.proofs.Taken.{Sound, meters-sound}
use Rattle.plant.proofs.Back.{return-after, reads-back}
use Rattle.plant.proofs.Kept.{SoundRecords, none_dropped, readings-small, seen-is, still-small}
use Rattle.plant.proofs.Lines.{EachLine, each-lines, lines-first, free-minutes, lines-text, after-mark-is}
use Rattle.plant.proofs.Doubts.{doubt_with, AllDoubts, Doubts, doubts-are, drop-doubts, are-short, reads-doubt}
use Rattle.plant.proofs.Sheeted.{Sheeted, sheeted, sound-meters}

-- ---- a line

meter-read : (m : Meter) (r : List ℕ) (rs : List Bytes) (st : read.State) → Sound m → SoundRecords rs
    → line_read (without_return (meter_text m.name m.spread r (shown m.number rs))) st
    ≡ meter_taken m.name (value_in (above_zero m.spread)) (old_of (of_meter m.number rs)) (new_of (of_meter m.number rs)) st
meter-read m r rs st s h =
    let n = m.number in
    let e = seen-is n rs in
    let small = readings-small n rs h in
    reads-back m.name m.spread r s.value (shown n rs) st s.name-plain s.spread-plain s.spread-is (rw e.0 small.0) (rw e.1 small.1)
    ∙ ap (λ (x : Float). meter_taken m.name x (shown n rs).first (shown n rs).last st) (sym (ap value_in s.spread-is))
    ∙ ap (λ (k : ℕ). meter_taken m.name (value_in (above_zero m.spread)) k (shown n rs).last st) e.0
    ∙ ap (λ (k : ℕ). meter_taken m.name (value_in (above_zero m.spread)) (old_of (of_meter n rs)) k st) e.1

line_read_lem : (l : List ℕ) (rs : List Bytes) (st : read.State) → Each no_feed l → SoundRecords rs → line_read (without_return (written l rs)) st ≡ plant_line (line_of (without_return l) []) l rs st
unfolding written
line_read_lem l rs st f h = go (line_of (without_return l) []) refl
  where
    go : (x : Line) → line_of (without_return l) [] ≡ x → line_read (without_return (written_by x l rs)) st ≡ plant_line x l rs st
    go copied e = refl
    go (wrong w v) e = refl
    go (metered m) e = meter-read m (remark_of (rest (without_return l))) rs st (meters-sound (without_return l) [] m (each-return no_feed l f) e) h

remark-read : (t : List ℕ) (st : read.State) → line_read (35 ∷ t) st ≡ read.taken st
unfolding line_read word skip_blanks up_to
remark-read t st = refl

minutes-read : (from to : ℕ) (st : read.State) → line_read (without_return (minutes_text from to)) st ≡ read.taken st
unfolding minutes_text ascii tab
minutes-read from to st =
    let t : List ℕ = ascii " minutes " ++ (decimal_text from ++ (ascii " to " ++ decimal_text to)) in
    ap (λ (l : List ℕ). line_read l st) (return-after [] t) ∙ remark-read (without_return t) st

-- ---- all lines

onward-same : (line : ℕ) (x y : read.Line) (f g : read.State → Outcome) → x ≡ y → ((s : read.State) → f s ≡ g s) → onward line x f ≡ onward line y g
onward-same line x y f g e h = ap (λ (z : read.Line). onward line z f) e ∙ by y
  where
    by : (z : read.Line) → onward line z f ≡ onward line z g
    by (read.taken s) = h s
    by (read.wrong w v) = refl

doubts-read : (ts : List (List ℕ)) (k : ℕ) (st : read.State) → AllDoubts ts → lines_read (map doubt_with ts) k st ≡ doubts_read ts k st
unfolding lines_read doubts_read
doubts-read [] k st h = refl
doubts-read (t ∷ ts) k st h =
    onward-same (k + 1) (line_read (without_return (doubt_with t)) st) (doubt_taken t st) (lines_read (map doubt_with ts) (k + 1)) (doubts_read ts (k + 1)) (reads-doubt t st h.0) (λ s. doubts-read ts (k + 1) s h.1)

lines-read : (ls : List (List ℕ)) (rs : List Bytes) (from to : ℕ) (ts : List (List ℕ)) (k : ℕ) (st : read.State) → EachLine ls → SoundRecords rs → AllDoubts ts
    → lines_read (map (λ l. written l rs) ls ++ (minutes_text from to ∷ map doubt_with ts)) k st ≡ plant_read ls rs ts k st
unfolding lines_read plant_read
lines-read [] rs from to ts k st f h d =
    onward-same (k + 1) (line_read (without_return (minutes_text from to)) st) (read.taken st) (lines_read (map doubt_with ts) (k + 1)) (doubts_read ts (k + 1)) (minutes-read from to st) (λ s. doubts-read ts (k + 1) s d)
lines-read (l ∷ ls) rs from to ts k st f h d =
    onward-same (k + 1) (line_read (without_return (written l rs)) st) (plant_line (line_of (without_return l) []) l rs st)
    (lines_read (map (λ x. written x rs) ls ++ (minutes_text from to ∷ map doubt_with ts)) (k + 1)) (plant_read ls rs ts (k + 1)) (line_read_lem l rs st f.0 h) (λ s. lines-read ls rs from to ts (k + 1) s f.1 h d)

-- ---- the sheet

text-lines : (plant : List ℕ) (ms : List Meter) (rs : List Bytes)
    → lines_of (after_mark (sheet_text plant ms rs)) ≡ map (λ l. written l rs) (lines_of (after_mark plant)) ++ (minutes_text (day_start ms rs) (day_end ms rs) ∷ lines_of (doubts_from 16 0 ms (day_start ms rs) (day_end ms rs) rs))
unfolding sheet_text minutes_text ascii tab
text-lines plant ms rs =
    let from = day_start ms rs in
    let to = day_end ms rs in
    let doubts = doubts_from 16 0 ms from to rs in
    let ls = lines_of (after_mark plant) in
    let t : List ℕ = (ascii " minutes " ++ (decimal_text from ++ (ascii " to " ++ decimal_text to))) ++ (10 ∷ doubts) in
    ap lines_of (after-mark-is plant rs t)
    ∙ lines-text ls rs (minutes_text from to ++ (10 ∷ doubts)) (each-lines (after_mark plant))
    ∙ ap (λ (x : List (List ℕ)). map (λ l. written l rs) ls ++ x) (lines-first (minutes_text from to) doubts (free-minutes from to))

pub sheet-lines : (kept plant text : List ℕ) → Sheeted kept plant text
    → lines_of (after_mark text) ≡ map (λ l. written l (records_of kept)) (lines_of (after_mark plant)) ++ (minutes_text (day_from kept plant) (day_to kept plant) ∷ doubt_lines kept plant)
sheet-lines kept plant text s = ap (λ (t : List ℕ). lines_of (after_mark t)) s.text-is ∙ text-lines plant (meters_of plant) (records_of kept)

module _ (kept plant text : List ℕ) (bytes : AreBytes kept) where
  doubts-of : Sheeted kept plant text → Doubts 16 (doubts_from 16 0 (meters_of plant) (day_from kept plant) (day_to kept plant) (records_of kept))
  doubts-of s =
      doubts-are 16 0 (meters_of plant) (day_from kept plant) (day_to kept plant) (records_of kept) (sound-meters plant (meters_of plant) s.sound-lines) (λ m. decimal-short 9 (shown m (records_of kept)).still (let h = still-small m kept bytes in omega (arith, h))) (omega arith)

pub reads-back-whole : ReadsBack
unfolding sheet_of
reads-back-whole kept plant text bytes e =
    let s = sheeted kept plant text e in
    let d = doubts-of kept plant text bytes s in
    let rs = records_of kept in
    let ls = lines_of (after_mark plant) in
    let lines = sheet-lines kept plant text s in
    let same : doubts_of kept plant ≡ d.texts = ap (map (drop 6)) d.lines ∙ drop-doubts d.texts in
    record {
      lines = lines;
      reads = rw (le-ltb 65536 (length text) s.fits)
          (ap (λ (x : List (List ℕ)). lines_read x 0 at_start) (lines ∙ ap (λ (x : List (List ℕ)). map (λ l. written l rs) ls ++ (minutes_text (day_from kept plant) (day_to kept plant) ∷ x)) d.lines)
          ∙ lines-read ls rs (day_from kept plant) (day_to kept plant) d.texts 0 at_start (each-lines (after_mark plant)) (none_dropped kept s.kept-all).all_sound d.all
          ∙ ap (λ (x : List (List ℕ)). plant_read ls rs x 0 at_start) (sym same));
    }

pub short-doubts : ShortDoubts
short-doubts kept plant text bytes e =
    let d = doubts-of kept plant text bytes (sheeted kept plant text e) in
    let same : doubts_of kept plant ≡ d.texts = ap (map (drop 6)) d.lines ∙ drop-doubts d.texts in
    subst (λ (x : List (List ℕ)). (length x ≤ 16) × AreShort x) (sym same) (d.few, are-short d.texts d.all)
