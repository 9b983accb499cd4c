-- No record is passed over.
use mathlib.Core.Path.{◌≡◌, refl, ap, ◌∙◌}
use mathlib.Core.Bool.{Bool, true, false, false≢true}
use mathlib.Core.Logic.{inl, inr, ⊎_elim}
use mathlib.Core.List.{List, [], ◌∷◌, ◌++◌, map}
use Prim.Native.Nat.{ℕ, zero, suc, ◌+◌, ◌≤◌, ◌<◌}
use native.Mathlib.Omega.{arith}
use lib.Dec.{eqb}
use lib.ListN.{length, get_or, length-map, get_or-append}
use lib.Seq.{get_or-append-add}
use borrow.Author.Tests.{eqb-true, eqb-false}
use Rattle.ascii.specs.Text.{decimal_text}
use Rattle.day_words.specs.Words.{lines_of}
use Rattle.sheet_words.specs.Lines.{after_mark}
use Rattle.mend.specs.Mend.{Bytes, meter_of, records_of}
use Rattle.logged.specs.Meters.{seen, shown}
use Rattle.plant.specs.Lines.{Meter, Found, none, one, find, is_one, is_given}
use Rattle.plant.specs.Texts.{minutes_text, stranger_text}
use Rattle.plant.specs.Plant.{written, doubt_by, doubts_from}
use Rattle.plant.specs.Claims.{meters_of, day_from, day_to, doubt_lines, line_at, HasLine, Told, NoneLost}
use Rattle.plant.proofs.Kept.{none_dropped, record-there, record-numbered}
use Rattle.plant.proofs.Doubts.{SoundMeters, AtMostOne, no_line, one_line, stranger_with, stranger-is, stranger-doubt, found-sound, one_at, line-more}
use Rattle.plant.proofs.Sheeted.{Sheeted, sheeted, sound-meters, past}
use Rattle.plant.proofs.Given.{Owned, has-line}
use Rattle.plant.proofs.Whole.{sheet-lines}
use Rattle.std.specs.Option.{is_some}

-- ---- a meter that is not given and has a record has a doubt

record Doubted (ls : List (List ℕ)) (n : ℕ) : Type 0 where
  at : ℕ
  is-stranger : get_or ls at [] ++ (10 ∷ []) ≡ stranger_text n

later-in : (s others : List ℕ) (b n : ℕ) → AtMostOne b s → Doubted (lines_of others) n → Doubted (lines_of (s ++ others)) n
later-in s others b n (no_line e) d = record { at = d.at; is-stranger = rw e d.is-stranger }
later-in s others b n (one_line t h e) d = record { at = suc d.at; is-stranger = rw (e, line-more b t others h) d.is-stranger }

here_in : (n : ℕ) (others : List ℕ) → n < 16 → Doubted (lines_of (stranger_text n ++ others)) n
here_in n others h = record { at = 0; is-stranger = rw (stranger-is n, line-more 0 (stranger_with n) others (stranger-doubt 0 n h)) refl }

has-doubt : (left m : ℕ) (ms : List Meter) (start end : ℕ) (rs : List Bytes) (n : ℕ) → SoundMeters ms → left + m ≤ 16 → find n ms ≡ none → is_some (seen n rs) ≡ true → m ≤ n → n < left + m
    → Doubted (lines_of (doubts_from left m ms start end rs)) n
unfolding doubts_from
has-doubt zero m ms start end rs n h l f t a b = absurd (omega (arith, a, b))
has-doubt (suc left) m ms start end rs n h l f t a b = go (eqb n m) refl (has-doubt left (m + 1) ms start end rs n h (omega (arith, l)) f t)
  where
    others : List ℕ
    others = doubts_from left (m + 1) ms start end rs

    go : (q : Bool) → eqb n m ≡ q → (m + 1 ≤ n → n < left + (m + 1) → Doubted (lines_of others) n) → Doubted (lines_of (doubt_by (find m ms) m start end (seen m rs) ++ others)) n
    go true e i = rw (← eqb-true n m e, f, t) (here_in n (doubts_from left (n + 1) ms start end rs) (omega (arith, l, b)))
    go false e i =
        later-in (doubt_by (find m ms) m start end (seen m rs)) others (length (decimal_text (shown m rs).still)) n
        (one_at (length (decimal_text (shown m rs).still)) (find m ms) m start end (seen m rs) (found-sound m ms h) (omega (arith, l)) (omega arith))
        (i (past m n a (eqb-false n m e)) (omega (arith, b)))

-- ---- in the sheet

written_at : (rs : List Bytes) (ls : List (List ℕ)) (k : ℕ) → k < length ls → get_or (map (λ l. written l rs) ls) k [] ≡ written (get_or ls k []) rs
written_at rs [] k h = absurd (omega (arith, h))
written_at rs (l ∷ ls) zero h = refl
written_at rs (l ∷ ls) (suc k) h = written_at rs ls k (omega (arith, h))

module _ (kept plant text : List ℕ) (s : Sheeted kept plant text) (n : ℕ) where
  by-line : Owned (lines_of (after_mark plant)) n → (k : ℕ) × HasLine kept plant text n k
  by-line o =
      let ls = lines_of (after_mark plant) in
      let ws = map (λ l. written l (records_of kept)) ls in
      let size = length-map ls (λ l. written l (records_of kept)) in
      let w = o.within in (
        o.at,
        record {
          meter = o.meter;
          is_meter_holds = o.is_meter_holds;
          number_is = o.number_is;
          is_written = ap (λ (x : List (List ℕ)). get_or x o.at []) (sheet-lines kept plant text s)
              ∙ get_or-append ws (minutes_text (day_from kept plant) (day_to kept plant) ∷ doubt_lines kept plant) [] o.at (omega (arith, size, w))
              ∙ written_at (records_of kept) ls o.at w;
        },
      )

  by-doubt : Doubted (doubt_lines kept plant) n → (k : ℕ) × (line_at k text ++ (10 ∷ []) ≡ stranger_text n)
  by-doubt d =
      let ws = map (λ l. written l (records_of kept)) (lines_of (after_mark plant)) in
      let others = minutes_text (day_from kept plant) (day_to kept plant) ∷ doubt_lines kept plant in (
        length ws + suc d.at,
        ap (λ (x : List (List ℕ)). get_or x (length ws + suc d.at) [] ++ (10 ∷ [])) (sheet-lines kept plant text s)
            ∙ ap (λ (x : List ℕ). x ++ (10 ∷ [])) (get_or-append-add ws others (suc d.at) []) ∙ d.is-stranger,
      )

  told-by : (f : Found) → find n (meters_of plant) ≡ f → n < 16 → is_some (seen n (records_of kept)) ≡ true → Told kept plant text n
  unfolding find
  told-by none f l t =
      inr (by-doubt (has-doubt 16 0 (meters_of plant) (day_from kept plant) (day_to kept plant) (records_of kept) n (sound-meters plant (meters_of plant) s.sound-lines) (omega arith) f t (omega arith) (omega (arith, l))))
  told-by (one m) f l t =
      ⊎_elim (λ (h : is_given n [] ≡ true). absurd (false≢true h)) (λ (o : Owned (lines_of (after_mark plant)) n). inl (by-line o))
      (has-line (lines_of (after_mark plant)) 0 [] (meters_of plant) n s.sound-lines (ap is_one f))

pub none-lost : NoneLost
none-lost kept plant text i e l =
    let s = sheeted kept plant text e in
    let n = meter_of (get_or (records_of kept) i []) in
    told-by kept plant text s n (find n (meters_of plant)) refl (record-numbered (records_of kept) i l (none_dropped kept s.kept-all).all_sound) (record-there (records_of kept) i l)
