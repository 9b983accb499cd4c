-- The doubts: each is a line of its own, with a text that can stand and reads back.
use mathlib.Core.Path.{◌≡◌, refl, sym, ap, ◌∙◌}
use mathlib.Core.Bool.{Bool, true, false, cond}
use mathlib.Core.List.{List, [], ◌∷◌, ◌++◌, map, append_assoc}
use Prim.Native.Nat.{ℕ, zero, suc, ◌+◌, ◌-◌, ◌*◌, ◌<◌, ◌≤◌}
use native.Mathlib.Omega.{arith}
use lib.Dec.{leb, ltb, eqb}
use lib.ListN.{length, drop, length-append, get_or}
use lib.Seq.{take_all}
use borrow.Author.Tests.{leb-true, le-ltb, ne_eqb}
use Rattle.numbers.specs.Numbers.{tab}
use Rattle.endian.specs.Little.{placed}
use Rattle.ascii.specs.Text.{ascii, same_text, decimal_text}
use Rattle.ascii.proofs.Numerals.{decimal-short}
use Rattle.day_words.specs.Words.{up_to, lines_of, without_return, skip_blanks, word, rest}
use Rattle.sheet_parts.specs.Texts.{kept, without_blanks, text_in, is_plain, is_foreign, sound_part}
use Rattle.sheet_parts.specs.Parts.{texted, text_at}
use Rattle.sheet_lines.specs.Lines.{State, doubt_line}
use Rattle.sheet.specs.Sheet.{place_among, kind_of, line_read}
use Rattle.mend.specs.Mend.{Bytes}
use Rattle.logged.specs.declared.Seen.{Seen}
use Rattle.logged.specs.Meters.{seen, shown, seen_or_zero}
use Rattle.plant.specs.Lines.{Meter, Found, none, one, find}
use Rattle.plant.specs.Texts.{also, begins_text, ends_text, still_text, parts, doubt_of, stranger_text}
use Rattle.plant.specs.Plant.{stranger_if, doubt_by, doubts_from}
use Rattle.plant.specs.Claims.{doubt_taken, Each, AreShort}
use Rattle.plant.proofs.Words.{Plain, skip-plain, word-is, rest-is}
use Rattle.plant.proofs.Each.{each_append, each-as, no_feed, plain-no-feed, plain-name-bytes, plain-decimal, plain_known, both}
use Rattle.plant.proofs.Taken.{Sound}
use Rattle.plant.proofs.Lines.{lines-first}
use Rattle.std.specs.Prelude.{Option, Some, None}
use Rattle.std.specs.Option.{is_some}

-- ---- texts with no blank at the end, of at most n bytes

pub record Fit (n : ℕ) (t : List ℕ) : Type 0 where
  pub plain : Each is_plain t
  pub short : length t ≤ n
  pub tidy : without_blanks t ≡ t

fit_none : (n : ℕ) → Fit n []
unfolding without_blanks
fit_none n = record { plain = tt; short = omega arith; tidy = refl }

tidy-after : (s : List ℕ) (c : ℕ) (cs : List ℕ) → without_blanks (c ∷ cs) ≡ c ∷ cs → without_blanks (s ++ (c ∷ cs)) ≡ s ++ (c ∷ cs)
unfolding without_blanks
tidy-after [] c cs h = h
tidy-after (d ∷ s) c cs h = ap (kept d) (tidy-after s c cs h) ∙ kept-some s
  where
    kept-some : (s : List ℕ) → kept d (s ++ (c ∷ cs)) ≡ d ∷ (s ++ (c ∷ cs))
    kept-some [] = refl
    kept-some (e ∷ es) = refl

-- a text behind another
fit-after : (a b : ℕ) (s : List ℕ) (c : ℕ) (cs : List ℕ) → Each is_plain s → length s ≤ a → Fit b (c ∷ cs) → Fit (a + b) (s ++ (c ∷ cs))
fit-after a b s c cs p l f = record {
  plain = each_append is_plain s (c ∷ cs) p f.plain;
  short = let e = length-append s (c ∷ cs) in let k = f.short in omega (arith, e, k, l);
  tidy = tidy-after s c cs f.tidy;
}

append-some : (s : List ℕ) (c : ℕ) (cs : List ℕ) → s ++ (c ∷ cs) ≡ [] → ⊥
append-some s c cs e = let z : length (s ++ (c ∷ cs)) ≡ 0 = ap length e in let y = length-append s (c ∷ cs) in omega (arith, z, y)

fit-behind : (a b : ℕ) (s t : List ℕ) → Each is_plain s → length s ≤ a → Fit b t → (t ≡ [] → ⊥) → Fit (a + b) (s ++ t)
fit-behind a b s [] p l f n = absurd (n refl)
fit-behind a b s (c ∷ cs) p l f n = fit-after a b s c cs p l f

widen : (a b : ℕ) (t : List ℕ) → a ≤ b → Fit a t → Fit b t
widen a b t l f = record { plain = f.plain; short = let k = f.short in omega (arith, k, l); tidy = f.tidy }

fit-also : (a b : ℕ) (s t : List ℕ) → Fit a s → Fit b t → Fit (a + (2 + b)) (also s t)
unfolding ascii tab
fit-also a b [] t f g = record { plain = g.plain; short = let k = g.short in omega (arith, k); tidy = g.tidy }
fit-also a b (c ∷ cs) [] f g = record { plain = f.plain; short = let k = f.short in omega (arith, k); tidy = f.tidy }
fit-also a b (c ∷ cs) (d ∷ ds) f g =
    fit-after a (2 + b) (c ∷ cs) 44 (32 ∷ (d ∷ ds)) f.plain f.short (fit-after 2 b (44 ∷ (32 ∷ [])) d ds (refl, (refl, tt)) (omega arith) g)

-- ---- the parts of a meter's doubt

fit-begins : (start from : ℕ) → Fit 12 (begins_text start from)
unfolding begins_text ascii tab without_blanks
fit-begins start from = go (ltb start from) (ltb from start)
  where
    go : (a b : Bool) → Fit 12 (cond a (ascii "begins late") (cond b (ascii "begins early") []))
    go true b = record { plain = plain_known (ascii "begins late") refl; short = omega arith; tidy = refl }
    go false true = record { plain = plain_known (ascii "begins early") refl; short = omega arith; tidy = refl }
    go false false = fit_none 12

fit-ends : (end to : ℕ) → Fit 10 (ends_text end to)
unfolding ends_text ascii tab without_blanks
fit-ends end to = go (ltb to end) (ltb end to)
  where
    go : (a b : Bool) → Fit 10 (cond a (ascii "ends early") (cond b (ascii "ends late") []))
    go true b = record { plain = plain_known (ascii "ends early") refl; short = omega arith; tidy = refl }
    go false true = record { plain = plain_known (ascii "ends late") refl; short = omega arith; tidy = refl }
    go false false = fit_none 10

fit-minutes : Fit 8 (ascii " minutes")
unfolding ascii tab without_blanks
fit-minutes = record { plain = plain_known (ascii " minutes") refl; short = omega arith; tidy = refl }

fit-still : (n : ℕ) (allowed : Option ℕ) (still : ℕ) → length (decimal_text still) ≤ n → Fit (10 + (n + 8)) (still_text allowed still)
unfolding still_text ascii tab
fit-still n None still h = fit_none (10 + (n + 8))
fit-still n (Some k) still h = go (ltb k still)
  where
    go : (b : Bool) → Fit (10 + (n + 8)) (cond b (ascii "still for " ++ (decimal_text still ++ ascii " minutes")) [])
    go true =
        fit-behind 10 (n + 8) (ascii "still for ") (decimal_text still ++ ascii " minutes") (plain_known (ascii "still for ") refl) (omega arith)
        (fit-after n 8 (decimal_text still) _ _ (plain-decimal still) h fit-minutes) (append-some (decimal_text still) _ _)
    go false = fit_none (10 + (n + 8))

fit_parts : (n start end : ℕ) (allowed : Option ℕ) (s : Seen) → length (decimal_text s.still) ≤ n → Fit (44 + n) (parts start end allowed s)
unfolding parts
fit_parts n start end allowed s h =
    widen (24 + (2 + (10 + (n + 8)))) (44 + n) _ (omega arith)
    (fit-also 24 (10 + (n + 8)) (also (begins_text start s.from) (ends_text end s.to)) (still_text allowed s.still)
    (fit-also 12 10 (begins_text start s.from) (ends_text end s.to) (fit-begins start s.from) (fit-ends end s.to)) (fit-still n allowed s.still h))

-- ---- a doubt, where n bytes suffice for the minutes: its text begins with no blank, so that it is what is read

pub record Doubt (n : ℕ) (t : List ℕ) : Type 0 where
  pub some : 0 < length t
  pub fit : Fit (62 + n) t
  pub begins : skip_blanks t ≡ t

abbrev pub doubt_with : List ℕ → List ℕ
doubt_with t = ascii "doubt " ++ t

-- nothing, or one line
pub data AtMostOne (n : ℕ) : List ℕ → Type 0 where
  no_line : {s : List ℕ} → s ≡ [] → AtMostOne n s
  one_line : {s : List ℕ} (t : List ℕ) → Doubt n t → s ≡ doubt_with t ++ (10 ∷ []) → AtMostOne n s

own-doubt : (n : ℕ) (m : Meter) (ps : List ℕ) → Sound m → Fit (44 + n) ps → AtMostOne n (doubt_of m.name ps)
unfolding ascii tab
own-doubt n m [] h f = no_line refl
own-doubt n m (c ∷ cs) h f =
    one_line (m.name ++ (ascii ": " ++ (c ∷ cs))) (record {
      some = let e = length-append m.name (ascii ": " ++ (c ∷ cs)) in omega (arith, e);
      fit = widen (16 + (2 + (44 + n))) (62 + n) _ (omega arith)
          (fit-after 16 (2 + (44 + n)) m.name 58 (32 ∷ (c ∷ cs)) (plain-name-bytes m.name h.name-bytes) h.name_short
          (fit-after 2 (44 + n) (58 ∷ (32 ∷ [])) c cs (refl, (refl, tt)) (omega arith) f));
      begins = skip-plain m.name (ascii ": " ++ (c ∷ cs)) h.name-plain;
    })
    (ap (λ (l : List ℕ). ascii "doubt " ++ l) (sym (append_assoc m.name (ascii ": " ++ (c ∷ cs)) (10 ∷ []))))

fit-stranger : Fit 51 (ascii " has records, and the plant file has no such meter")
unfolding ascii tab without_blanks
fit-stranger = record { plain = plain_known (ascii " has records, and the plant file has no such meter") refl; short = omega arith; tidy = refl }

abbrev pub stranger_with : ℕ → List ℕ
stranger_with m = ascii "meter " ++ (decimal_text m ++ ascii " has records, and the plant file has no such meter")

pub stranger-is : (m : ℕ) → stranger_text m ≡ doubt_with (stranger_with m) ++ (10 ∷ [])
unfolding stranger_text ascii tab
stranger-is m = ap (λ (l : List ℕ). ascii "doubt meter " ++ l) (sym (append_assoc (decimal_text m) (ascii " has records, and the plant file has no such meter") (10 ∷ [])))

pub stranger-doubt : (n m : ℕ) → m < 16 → Doubt n (stranger_with m)
unfolding ascii tab skip_blanks
stranger-doubt n m h = record {
  some = omega arith;
  fit = widen 59 (62 + n) _ (omega arith)
      (fit-behind 6 53 (ascii "meter ") (decimal_text m ++ ascii " has records, and the plant file has no such meter") (plain_known (ascii "meter ") refl) (omega arith)
      (fit-after 2 51 (decimal_text m) _ _ (plain-decimal m) (decimal-short 1 m (omega (arith, h))) fit-stranger) (append-some (decimal_text m) _ _));
  begins = refl;
}

-- ---- all of them

-- every meter is sound
abbrev pub SoundMeters : List Meter → Type 0
SoundMeters [] = Unit
SoundMeters (m ∷ ms) = Sound m × SoundMeters ms

abbrev pub IfOne : Found → Type 0
IfOne none = Unit
IfOne (one m) = Sound m

pub found-sound : (n : ℕ) (ms : List Meter) → SoundMeters ms → IfOne (find n ms)
unfolding find
found-sound n [] h = tt
found-sound n (m ∷ ms) h = go (eqb m.number n) (found-sound n ms h.1)
  where
    go : (b : Bool) → IfOne (find n ms) → IfOne (cond b (one m) (find n ms))
    go true k = h.0
    go false k = k

pub one_at : (n : ℕ) (f : Found) (m start end : ℕ) (s : Option Seen) → IfOne f → m < 16 → length (decimal_text (seen_or_zero s).still) ≤ n → AtMostOne n (doubt_by f m start end s)
one_at n none m start end s h l k = go (is_some s)
  where
    go : (b : Bool) → AtMostOne n (stranger_if b m)
    go true = one_line (stranger_with m) (stranger-doubt n m l) (stranger-is m)
    go false = no_line refl
one_at n (one x) m start end s h l k = own-doubt n x (parts start end x.allowed (seen_or_zero s)) h (fit_parts n start end x.allowed (seen_or_zero s) k)

-- where ten bytes suffice
abbrev pub AllDoubts : List (List ℕ) → Type 0
AllDoubts [] = Unit
AllDoubts (t ∷ ts) = Doubt 10 t × AllDoubts ts

-- the texts of some lines
pub record Doubts (left : ℕ) (text : List ℕ) : Type 0 where
  pub texts : List (List ℕ)
  pub few : length texts ≤ left
  pub all : AllDoubts texts
  pub lines : lines_of text ≡ map doubt_with texts

plain-with : (n : ℕ) (t : List ℕ) → Doubt n t → Each is_plain (doubt_with t)
unfolding ascii tab
plain-with n t d = each_append is_plain (ascii "doubt ") t (plain_known (ascii "doubt ") refl) d.fit.plain

pub line-more : (n : ℕ) (t others : List ℕ) → Doubt n t → lines_of ((doubt_with t ++ (10 ∷ [])) ++ others) ≡ doubt_with t ∷ lines_of others
line-more n t others d =
    ap lines_of (append_assoc (doubt_with t) (10 ∷ []) others) ∙ lines-first (doubt_with t) others (each-as is_plain no_feed plain-no-feed (doubt_with t) (plain-with n t d))

doubts-more : (left : ℕ) (s others : List ℕ) → AtMostOne 10 s → Doubts left others → Doubts (suc left) (s ++ others)
doubts-more left s others (no_line e) d = record { texts = d.texts; few = let k = d.few in omega (arith, k); all = d.all; lines = rw e d.lines }
doubts-more left s others (one_line t h e) d = record {
  texts = t ∷ d.texts;
  few = let k = d.few in omega (arith, k);
  all = (h, d.all);
  lines = rw e (line-more 10 t others h ∙ ap (λ (ls : List (List ℕ)). doubt_with t ∷ ls) d.lines);
}

pub doubts-are : (left m : ℕ) (ms : List Meter) (start end : ℕ) (rs : List Bytes) → SoundMeters ms → ((k : ℕ) → length (decimal_text (shown k rs).still) ≤ 10) → left + m ≤ 16 → Doubts left (doubts_from left m ms start end rs)
unfolding doubts_from lines_of
doubts-are zero m ms start end rs h k l = record { texts = []; few = omega arith; all = tt; lines = refl }
doubts-are (suc left) m ms start end rs h k l =
    doubts-more left (doubt_by (find m ms) m start end (seen m rs)) (doubts_from left (m + 1) ms start end rs) (one_at 10 (find m ms) m start end (seen m rs) (found-sound m ms h) (omega (arith, l)) (k m))
    (doubts-are left (m + 1) ms start end rs h k (omega (arith, l)))

pub drop-doubts : (ts : List (List ℕ)) → map (drop 6) (map doubt_with ts) ≡ ts
unfolding ascii tab
drop-doubts [] = refl
drop-doubts (t ∷ ts) = ap (λ (x : List (List ℕ)). t ∷ x) (drop-doubts ts)

pub are-short : (ts : List (List ℕ)) → AllDoubts ts → AreShort ts
are-short [] h = tt
are-short (t ∷ ts) h = (record { some = h.0.some; fits = h.0.fit.short; plain = h.0.fit.plain }, are-short ts h.1)

-- ---- as it is read

up-plain : (t : List ℕ) → Each is_plain t → up_to is_foreign t ≡ t
unfolding up_to
up-plain [] h = refl
up-plain (c ∷ cs) h = rw h.0 (ap (λ (l : List ℕ). c ∷ l) (up-plain cs h.1))

text-is : (p : ℕ) (t texts : List ℕ) → Doubt 10 t → text_at p t texts ≡ texted (placed p t texts)
unfolding text_at sound_part
text-is p t texts d =
    let e : length t ≡ 0 → ⊥ = λ z. let s = d.some in omega (arith, z, s) in
    rw (ne_eqb (length t) 0 e, up-plain t d.fit.plain, take_all 72 t d.fit.short, le-ltb (length t) (length t) (omega arith)) refl

text_in_lem : (t : List ℕ) → Doubt 10 t → text_in (32 ∷ t) ≡ t
unfolding skip_blanks
text_in_lem t d = ap without_blanks d.begins ∙ d.fit.tidy

no_return : (t : List ℕ) → Each is_plain t → (i : ℕ) → get_or t i 0 ≡ 13 → ⊥
no_return [] h zero e = absurd (omega (arith, e))
no_return [] h (suc i) e = absurd (omega (arith, e))
no_return (c ∷ cs) h zero e = let l = leb-true 32 c (both (leb 32 c) (leb c 126) h.0).0 in omega (arith, e, l)
no_return (c ∷ cs) h (suc i) e = no_return cs h.1 i e

return-plain : (t : List ℕ) → Each is_plain t → without_return t ≡ t
unfolding without_return
return-plain t h = rw (ne_eqb (get_or t (length t - 1) 0) 13 (no_return t h (length t - 1))) refl

plain-doubt : Plain (ascii "doubt")
unfolding ascii tab
plain-doubt = (refl, refl, (refl, (refl, (refl, (refl, tt)))))

doubt-line : (l t : List ℕ) (st : State) → word l ≡ ascii "doubt" → rest l ≡ 32 ∷ t → Doubt 10 t → line_read l st ≡ doubt_taken t st
unfolding line_read kind_of place_among same_text ascii tab doubt_line doubt_taken
doubt-line l t st e f d = rw (e, f, text_in_lem t d, text-is (840 + 72 * st.doubts) t st.texts d) refl

blank-in : (t : List ℕ) → doubt_with t ≡ ascii "doubt" ++ (32 ∷ t)
unfolding ascii tab
blank-in t = refl

pub reads-doubt : (t : List ℕ) (st : State) → Doubt 10 t → line_read (without_return (doubt_with t)) st ≡ doubt_taken t st
reads-doubt t st d =
    ap (λ (l : List ℕ). line_read l st) (return-plain (doubt_with t) (plain-with 10 t d))
    ∙ doubt-line (doubt_with t) t st (ap word (blank-in t) ∙ word-is (ascii "doubt") t plain-doubt) (ap rest (blank-in t) ∙ rest-is (ascii "doubt") t plain-doubt) d
