-- Where there is a sheet: no record is dropped, every line of the plant file is sound, no meter is amiss, and the sheet fits.
use mathlib.Core.Path.{◌≡◌, refl, sym, ap, ◌∙◌, subst}
use mathlib.Core.Bool.{Bool, true, false, cond, not, false≢true}
use mathlib.Core.Logic.{⊎_elim}
use mathlib.Core.List.{List, [], ◌∷◌, ◌++◌}
use Prim.Native.Nat.{ℕ, zero, suc, ◌+◌, ◌<◌, ◌≤◌}
use native.Mathlib.Omega.{arith}
use lib.Dec.{leb, ltb, eqb}
use lib.ListN.{length, get_or}
use borrow.Author.Tests.{ltb-false, eqb-true, eqb-false}
use Rattle.numbers.specs.Numbers.{tab}
use Rattle.numbers.proofs.Cases.{lt-or-ge}
use Rattle.ascii.specs.Text.{ascii}
use Rattle.totaliser.specs.Volume.{largest}
use Rattle.day_words.specs.Words.{lines_of, without_return}
use Rattle.sheet_words.specs.Lines.{after_mark}
use Rattle.mend.specs.Mend.{Bytes, records_of, Dropped, dropped, mend}
use Rattle.logged.specs.Meters.{seen}
use Rattle.plant.specs.declared.Wanted.{Wanted}
use Rattle.plant.specs.Lines.{Meter, Found, none, one, find, is_one, is_given, Line, copied, metered, wrong, line_of, Lines, sound, fault, lines_end, onward, lines_from}
use Rattle.plant.specs.Texts.{missing_text, turned_text, no_day_text}
use Rattle.plant.specs.Plant.{Answer, sheet, refused, day_start, day_end, sheet_text, amiss_by, first_of, amiss_from, fitted, by_day, unless_amiss, by_lines, by_dropped, plant_sheet}
use Rattle.plant.specs.Claims.{meters_in, meters_of}
use Rattle.plant.proofs.Each.{each-return, no_feed}
use Rattle.plant.proofs.Taken.{Sound, meters-sound}
use Rattle.plant.proofs.Lines.{EachLine, each-lines}
use Rattle.plant.proofs.Doubts.{SoundMeters}
use Rattle.std.specs.Option.{is_some as is_seen}

-- ---- each test in turn

abbrev is_sheet : Answer → Bool
is_sheet (sheet t) = true
is_sheet (refused t) = false

abbrev text_of : Answer → List ℕ
text_of (sheet t) = t
text_of (refused t) = t

not-refused : {A : Type 0} (t text : List ℕ) → refused t ≡ sheet text → A
not-refused t text e = absurd (false≢true (ap is_sheet e))

passed : (b : Bool) (t : List ℕ) (a : Answer) (text : List ℕ) → cond b (refused t) a ≡ sheet text → (b ≡ false) × (a ≡ sheet text)
passed true t a text e = not-refused t text e
passed false t a text e = (refl, e)

pub record Sheeted (kept plant text : List ℕ) : Type 0 where
  pub kept-all : dropped 0 (mend kept).told ≡ []
  pub sound-lines : lines_from (lines_of (after_mark plant)) 0 [] ≡ sound (meters_of plant)
  pub none-amiss : amiss_from 16 0 (meters_of plant) (mend kept).totals (records_of kept) ≡ []
  pub text-is : text ≡ sheet_text plant (meters_of plant) (records_of kept)
  pub fits : length text ≤ 65536

module _ (kept plant text : List ℕ) where
  from-fit : (t : List ℕ) → fitted t ≡ sheet text → (text ≡ t) × (length text ≤ 65536)
  from-fit t e =
      let p = passed (ltb 65536 (length t)) (ascii "refused: expected a sheet of at most 65536 bytes\n") (sheet t) text e in
      let same : text ≡ t = sym (ap text_of p.1) in
      (same, rw same (ltb-false 65536 (length t) p.0))

  from-amiss : (ts : List ℕ) (a : Answer) → unless_amiss ts a ≡ sheet text → (ts ≡ []) × (a ≡ sheet text)
  from-amiss [] a e = (refl, e)
  from-amiss (c ∷ cs) a e = not-refused (c ∷ cs) text e

  from-lines : dropped 0 (mend kept).told ≡ [] → (ls : Lines) → lines_from (lines_of (after_mark plant)) 0 [] ≡ ls → by_lines ls kept plant ≡ sheet text → Sheeted kept plant text
  unfolding meters_of
  from-lines d (fault line x w) f e = not-refused _ text e
  from-lines d (sound ms) f e =
      let own : meters_of plant ≡ ms = ap meters_in f in
      let a = from-amiss (amiss_from 16 0 ms (mend kept).totals (records_of kept)) (by_day plant ms (records_of kept)) e in
      let b = passed (leb (day_end ms (records_of kept)) (day_start ms (records_of kept))) (no_day_text (day_start ms (records_of kept)) (day_end ms (records_of kept))) (fitted (sheet_text plant ms (records_of kept))) text a.1 in
      let c = from-fit (sheet_text plant ms (records_of kept)) b.1 in
      record {
        kept-all = d;
        sound-lines = f ∙ ap sound (sym own);
        none-amiss = ap (λ (z : List Meter). amiss_from 16 0 z (mend kept).totals (records_of kept)) own ∙ a.0;
        text-is = c.0 ∙ ap (λ (z : List Meter). sheet_text plant z (records_of kept)) (sym own);
        fits = c.1;
      }

  from-dropped : (ds : List Dropped) → dropped 0 (mend kept).told ≡ ds → by_dropped ds kept plant ≡ sheet text → Sheeted kept plant text
  from-dropped [] d e = from-lines d (lines_from (lines_of (after_mark plant)) 0 []) refl e
  from-dropped (x ∷ xs) d e = not-refused _ text e

  pub sheeted : plant_sheet kept plant ≡ sheet text → Sheeted kept plant text
  unfolding plant_sheet
  sheeted e =
      let a = passed (ltb 524288 (length kept)) _ _ text e in
      let b = passed (ltb 65536 (length plant)) _ _ text a.1 in
      from-dropped (dropped 0 (mend kept).told) refl b.1

-- ---- the meters of sound lines

abbrev is_sound : Lines → Bool
is_sound (sound ms) = true
is_sound (fault line e w) = false

pub not-fault : {A : Type 0} (line : ℕ) (e : Wanted) (w : List ℕ) (ms : List Meter) → fault line e w ≡ sound ms → A
not-fault line e w ms f = absurd (false≢true (ap is_sound f))

pub lines_end_lem : (k : ℕ) (acc ms : List Meter) → lines_end k acc ≡ sound ms → acc ≡ ms
lines_end_lem k [] ms e = not-fault _ _ _ ms e
lines_end_lem k (m ∷ acc) ms e = ap meters_in e

sound_more : (ms : List Meter) (m : Meter) → SoundMeters ms → Sound m → SoundMeters (ms ++ (m ∷ []))
sound_more [] m h s = (s, tt)
sound_more (x ∷ xs) m h s = (h.0, sound_more xs m h.1 s)

all_sound : (ls : List (List ℕ)) (k : ℕ) (acc ms : List Meter) → EachLine ls → SoundMeters acc → lines_from ls k acc ≡ sound ms → SoundMeters ms
unfolding lines_from
all_sound [] k acc ms f h e = subst (λ (z : List Meter). SoundMeters z) (lines_end_lem k acc ms e) h
all_sound (l ∷ ls) k acc ms f h e = go (line_of (without_return l) acc) refl e (all_sound ls (k + 1) acc ms f.1 h) (λ m s. all_sound ls (k + 1) (acc ++ (m ∷ [])) ms f.1 (sound_more acc m h s))
  where
    go : (x : Line) → line_of (without_return l) acc ≡ x → onward k x acc (lines_from ls (k + 1)) ≡ sound ms → (lines_from ls (k + 1) acc ≡ sound ms → SoundMeters ms)
        → ((m : Meter) → Sound m → lines_from ls (k + 1) (acc ++ (m ∷ [])) ≡ sound ms → SoundMeters ms) → SoundMeters ms
    go copied g e i j = i e
    go (metered m) g e i j = j m (meters-sound (without_return l) acc m (each-return no_feed l f.0) g) e
    go (wrong w v) g e i j = not-fault _ _ _ ms e

pub sound-meters : (plant : List ℕ) (ms : List Meter) → lines_from (lines_of (after_mark plant)) 0 [] ≡ sound ms → SoundMeters ms
sound-meters plant ms e = all_sound (lines_of (after_mark plant)) 0 [] ms (each-lines (after_mark plant)) tt e

-- ---- a given meter is not amiss

pub number_small : (n : ℕ) (ms : List Meter) → SoundMeters ms → is_given n ms ≡ true → n < 16
unfolding find
number_small n [] h g = absurd (false≢true g)
number_small n (m ∷ ms) h g = go (eqb m.number n) refl g (number_small n ms h.1)
  where
    go : (b : Bool) → eqb m.number n ≡ b → is_one (cond b (one m) (find n ms)) ≡ true → (is_given n ms ≡ true → n < 16) → n < 16
    go true e g i = let s = h.0.number_small in let z : m.number ≡ n = eqb-true m.number n e in omega (arith, s, z)
    go false e g i = i g

first-none : (t others : List ℕ) → first_of t others ≡ [] → (t ≡ []) × (others ≡ [])
first-none [] others e = (refl, e)
first-none (c ∷ cs) others e = absurd (let z : suc (length cs) ≡ 0 = ap length e in omega (arith, z))

pub past : (m n : ℕ) → m ≤ n → (n ≡ m → ⊥) → m + 1 ≤ n
past m n a z = ⊎_elim (λ (h : n < m + 1). absurd (z (omega (arith, a, h)))) (λ (h : m + 1 ≤ n). h) (lt-or-ge n (m + 1))

amiss-none : (left m : ℕ) (ms : List Meter) (totals : List ℕ) (rs : List Bytes) → amiss_from left m ms totals rs ≡ [] → (n : ℕ) → m ≤ n → n < left + m → amiss_by (find n ms) n (is_seen (seen n rs)) (get_or totals n 0) ≡ []
unfolding amiss_from
amiss-none zero m ms totals rs e n a b = absurd (omega (arith, a, b))
amiss-none (suc left) m ms totals rs e n a b =
    let p = first-none (amiss_by (find m ms) m (is_seen (seen m rs)) (get_or totals m 0)) (amiss_from left (m + 1) ms totals rs) e in
    go (eqb n m) refl p.0 (amiss-none left (m + 1) ms totals rs p.1 n)
  where
    go : (t : Bool) → eqb n m ≡ t → amiss_by (find m ms) m (is_seen (seen m rs)) (get_or totals m 0) ≡ []
        → (m + 1 ≤ n → n < left + (m + 1) → amiss_by (find n ms) n (is_seen (seen n rs)) (get_or totals n 0) ≡ []) → amiss_by (find n ms) n (is_seen (seen n rs)) (get_or totals n 0) ≡ []
    go true f here later = rw (eqb-true n m f) here
    go false f here later = later (past m n a (eqb-false n m f)) (omega (arith, b))

abbrev is_some : List ℕ → Bool
is_some [] = false
is_some (c ∷ cs) = true

missing-some : (m : ℕ) (name : List ℕ) → missing_text m name ≡ [] → ⊥
unfolding missing_text ascii tab
missing-some m name e = false≢true (sym (ap is_some e))

turned-some : (m : ℕ) (name : List ℕ) → turned_text m name ≡ [] → ⊥
unfolding turned_text ascii tab
turned-some m name e = false≢true (sym (ap is_some e))

not-amiss : (m : ℕ) (name : List ℕ) (there turned : Bool) → cond (not there) (missing_text m name) (cond turned (turned_text m name) []) ≡ [] → (there ≡ true) × (turned ≡ false)
not-amiss m name false turned e = absurd (missing-some m name e)
not-amiss m name true true e = absurd (turned-some m name e)
not-amiss m name true false e = (refl, refl)

given_by : (f : Found) (m : ℕ) (there : Bool) (total : ℕ) → is_one f ≡ true → amiss_by f m there total ≡ [] → (there ≡ true) × (total ≤ largest)
given_by none m there total g e = absurd (false≢true g)
given_by (one x) m there total g e = let p = not-amiss m x.name there (ltb largest total) e in (p.0, ltb-false largest total p.1)

pub given-sound : (m : ℕ) (ms : List Meter) (totals : List ℕ) (rs : List Bytes) → m < 16 → is_given m ms ≡ true → amiss_from 16 0 ms totals rs ≡ [] → (is_seen (seen m rs) ≡ true) × (get_or totals m 0 ≤ largest)
given-sound m ms totals rs l g e = given_by (find m ms) m (is_seen (seen m rs)) (get_or totals m 0) g (amiss-none 16 0 ms totals rs e m (omega arith) (omega (arith, l)))
