-- The lines of the sheet: none has a line feed in it, so they are read as they were written.
use mathlib.Core.Path.{◌≡◌, refl, sym, ap, ◌∙◌, subst}
use mathlib.Core.Bool.{Bool, true, false, cond, not, ◌&&◌, false≢true}
use mathlib.Core.List.{List, [], ◌∷◌, ◌++◌, map, append_assoc}
use Prim.Native.Nat.{ℕ, suc, ◌+◌, ◌-◌}
use native.Mathlib.Omega.{arith}
use lib.Dec.{eqb}
use lib.ListN.{length, take, drop}
use borrow.Author.Tests.{not-true, ne_eqb, eqb-true}
use Rattle.numbers.specs.Numbers.{tab}
use Rattle.io.specs.Digits.{last_digits}
use Rattle.ascii.specs.Text.{ascii, same_text, decimal_text}
use Rattle.day_words.specs.Words.{up_to, is_feed, joined, lines_of, without_return, rest}
use Rattle.day_words.proofs.Words.{lines_more}
use Rattle.sheet_words.specs.Lines.{after_mark, unremarked}
use Rattle.sheet_parts.specs.Texts.{is_plain}
use Rattle.mend.specs.Mend.{Bytes}
use Rattle.logged.specs.declared.Seen.{Seen}
use Rattle.logged.specs.Meters.{seen, shown}
use Rattle.plant.specs.Lines.{Line, copied, metered, wrong, line_of, remark_of}
use Rattle.plant.specs.Texts.{after_blank, minutes_text, meter_text}
use Rattle.plant.specs.Plant.{written_by, written, lines_text, mark_of}
use Rattle.plant.specs.Claims.{Each}
use Rattle.plant.proofs.Words.{six, six-is}
use Rattle.plant.proofs.Each.{each_append, each-drop, each-return, each-rest, each-as, no_feed, plain-no-feed, plain-name-bytes, plain-decimal, plain_known, both}
use Rattle.plant.proofs.Taken.{meters-sound}

-- ---- lines of a text

abbrev pub EachLine : List (List ℕ) → Type 0
EachLine [] = Unit
EachLine (l ∷ ls) = Each no_feed l × EachLine ls

joined-lines : (c : ℕ) (ls : List (List ℕ)) → no_feed c ≡ true → EachLine ls → EachLine (joined c ls)
unfolding joined
joined-lines c [] e h = ((e, tt), tt)
joined-lines c (l ∷ ls) e h = ((e, h.0), h.1)

pub each-lines : (t : List ℕ) → EachLine (lines_of t)
unfolding lines_of
each-lines [] = tt
each-lines (c ∷ cs) = go (is_feed c) refl (each-lines cs)
  where
    go : (b : Bool) → is_feed c ≡ b → EachLine (lines_of cs) → EachLine (cond b ([] ∷ lines_of cs) (joined c (lines_of cs)))
    go true e h = (tt, h)
    go false e h = joined-lines c (lines_of cs) (ap not e) h

pub lines-first : (w t : List ℕ) → Each no_feed w → lines_of (w ++ (10 ∷ t)) ≡ w ∷ lines_of t
unfolding lines_of joined
lines-first [] t h = refl
lines-first (c ∷ w) t h = rw (not-true (is_feed c) h.0) (ap (joined c) (lines-first w t h.1))

-- ---- a written line

no-feeds : (s : List ℕ) → Each is_plain s → Each no_feed s
no-feeds s h = each-as is_plain no_feed plain-no-feed s h

free-six : (a b c d e f : ℕ) → Each no_feed (six a b c d e f)
unfolding six
free-six a b c d e f = (free a, (free b, (free c, (free d, (free e, (free f, tt))))))
  where
    free : (d : ℕ) → no_feed (48 + d) ≡ true
    free d = rw (ne_eqb (48 + d) 10 (λ z. omega (arith, z))) refl

free-digits : (n : ℕ) → Each no_feed (last_digits 10 6 n)
free-digits n = subst (λ (d : List ℕ). Each no_feed d) (sym (six-is n)) (free-six _ _ _ _ _ _)

pub free-minutes : (from to : ℕ) → Each no_feed (minutes_text from to)
unfolding minutes_text ascii tab
free-minutes from to =
    no-feeds (ascii "# minutes " ++ (decimal_text from ++ (ascii " to " ++ decimal_text to)))
    (each_append is_plain (ascii "# minutes ") (decimal_text from ++ (ascii " to " ++ decimal_text to)) (plain_known (ascii "# minutes ") refl)
    (each_append is_plain (decimal_text from) (ascii " to " ++ decimal_text to) (plain-decimal from)
    (each_append is_plain (ascii " to ") (decimal_text to) (plain_known (ascii " to ") refl) (plain-decimal to))))

free-blank : (r : List ℕ) → Each no_feed r → Each no_feed (after_blank r)
free-blank [] h = tt
free-blank (c ∷ cs) h = (refl, h)

-- a blank and a text after another
then : (s t : List ℕ) → Each no_feed s → Each no_feed t → Each no_feed (s ++ (32 ∷ t))
then s t h k = each_append no_feed s (32 ∷ t) h (refl, k)

free-meter : (name spread r : List ℕ) (s : Seen) → Each no_feed name → Each no_feed spread → Each no_feed r → Each no_feed (meter_text name spread r s)
unfolding meter_text ascii tab
free-meter name spread r s a b c =
    let minutes = minutes_text s.from s.to ++ after_blank r in
    each_append no_feed (ascii "meter ") (name ++ (32 ∷ (last_digits 10 6 s.first ++ (32 ∷ (last_digits 10 6 s.last ++ (32 ∷ (spread ++ (32 ∷ minutes)))))))) (no-feeds (ascii "meter ") (plain_known (ascii "meter ") refl))
    (then name (last_digits 10 6 s.first ++ (32 ∷ (last_digits 10 6 s.last ++ (32 ∷ (spread ++ (32 ∷ minutes)))))) a
    (then (last_digits 10 6 s.first) (last_digits 10 6 s.last ++ (32 ∷ (spread ++ (32 ∷ minutes)))) (free-digits s.first)
    (then (last_digits 10 6 s.last) (spread ++ (32 ∷ minutes)) (free-digits s.last)
    (then spread minutes b
    (each_append no_feed (minutes_text s.from s.to) (after_blank r) (free-minutes s.from s.to) (free-blank r c))))))

free-written : (l : List ℕ) (rs : List Bytes) → Each no_feed l → Each no_feed (written l rs)
unfolding written remark_of
free-written l rs h = go (line_of (without_return l) []) refl
  where
    bare : Each no_feed (without_return l)
    bare = each-return no_feed l h

    go : (x : Line) → line_of (without_return l) [] ≡ x → Each no_feed (written_by x l rs)
    go copied e = h
    go (wrong w v) e = h
    go (metered m) e =
        let s = meters-sound (without_return l) [] m bare e in
        free-meter m.name m.spread (remark_of (rest (without_return l))) (shown m.number rs) (no-feeds m.name (plain-name-bytes m.name s.name-bytes)) s.spread-free
        (each-drop no_feed (length (unremarked (rest (without_return l)))) (rest (without_return l)) (each-rest no_feed (without_return l) bare))

pub lines-text : (ls : List (List ℕ)) (rs : List Bytes) (t : List ℕ) → EachLine ls → lines_of (lines_text ls rs ++ t) ≡ map (λ l. written l rs) ls ++ lines_of t
unfolding lines_text
lines-text [] rs t h = refl
lines-text (l ∷ ls) rs t h =
    ap lines_of (append_assoc (written l rs) (10 ∷ lines_text ls rs) t)
    ∙ lines-first (written l rs) (lines_text ls rs ++ t) (free-written l rs h.0)
    ∙ ap (λ (x : List (List ℕ)). written l rs ∷ x) (lines-text ls rs t h.1)

-- ---- the byte order mark

abbrev mark : List ℕ
mark = 239 ∷ (187 ∷ (191 ∷ []))

abbrev marked : List ℕ → Bool
marked s = same_text (take 3 s) mark

feed-first : (d : ℕ) (t ds : List ℕ) → no_feed d ≡ true → same_text (10 ∷ t) (d ∷ ds) ≡ true → ⊥
unfolding same_text
feed-first d t ds f h =
    let e : 10 ≡ d = eqb-true 10 d (both (eqb 10 d) (same_text t ds) h).0 in
    false≢true (ap no_feed e ∙ f)

-- a first line that begins as a text without line feeds does: so does the whole
begins : (m s u : List ℕ) → Each no_feed m → same_text (take (length m) (up_to is_feed s ++ (10 ∷ u))) m ≡ true → same_text (take (length m) s) m ≡ true
unfolding same_text up_to
begins [] s u f h = refl
begins (d ∷ ds) [] u f h = absurd (feed-first d (take (length ds) u) ds f.0 h)
begins (d ∷ ds) (c ∷ cs) u f h = go (is_feed c) h (begins ds cs u f.1)
  where
    more : List ℕ
    more = up_to is_feed cs ++ (10 ∷ u)

    go : (b : Bool) → same_text (take (suc (length ds)) (cond b [] (c ∷ up_to is_feed cs) ++ (10 ∷ u))) (d ∷ ds) ≡ true → (same_text (take (length ds) more) ds ≡ true → same_text (take (length ds) cs) ds ≡ true)
        → (eqb c d && same_text (take (length ds) cs) ds) ≡ true
    go true e i = absurd (feed-first d (take (length ds) u) ds f.0 e)
    go false e i = let a = both (eqb c d) (same_text (take (length ds) more) ds) e in rw a.0 (i a.1)

marked-first : (s u : List ℕ) → marked s ≡ false → marked (up_to is_feed s ++ (10 ∷ u)) ≡ false
marked-first s u e = go (marked (up_to is_feed s ++ (10 ∷ u))) refl
  where
    go : (b : Bool) → marked (up_to is_feed s ++ (10 ∷ u)) ≡ b → b ≡ false
    go true f = absurd (false≢true (sym e ∙ begins mark s u (refl, (refl, (refl, tt))) f))
    go false f = refl

meter-unmarked : (name spread r : List ℕ) (s : Seen) (u : List ℕ) → marked (meter_text name spread r s ++ u) ≡ false
unfolding meter_text ascii tab same_text
meter-unmarked name spread r s u = refl

first-unmarked : (s : List ℕ) (x : Line) (rs : List Bytes) (u : List ℕ) → marked s ≡ false → marked (written_by x (up_to is_feed s) rs ++ (10 ∷ u)) ≡ false
first-unmarked s copied rs u e = marked-first s u e
first-unmarked s (wrong w v) rs u e = marked-first s u e
first-unmarked s (metered m) rs u e = meter-unmarked m.name m.spread (remark_of (rest (without_return (up_to is_feed s)))) (shown m.number rs) (10 ∷ u)

lines-unmarked : (s : List ℕ) (rs : List Bytes) (t : List ℕ) → marked s ≡ false → marked (lines_text (lines_of s) rs ++ (35 ∷ t)) ≡ false
unfolding lines_text lines_of same_text written
lines-unmarked [] rs t e = refl
lines-unmarked (c ∷ cs) rs t e =
    let s : List ℕ = c ∷ cs in
    let l : List ℕ = up_to is_feed s in
    let others : List (List ℕ) = lines_of (drop (length l + 1) s) in
    ap (λ (ls : List (List ℕ)). marked (lines_text ls rs ++ (35 ∷ t))) (lines_more s (omega arith))
    ∙ ap marked (append_assoc (written l rs) (10 ∷ lines_text others rs) (35 ∷ t))
    ∙ first-unmarked s (line_of (without_return l) []) rs (lines_text others rs ++ (35 ∷ t)) e

with-mark : (plant body : List ℕ) → marked plant ≡ true → cond (marked (take (length plant - length (drop 3 plant)) plant ++ body)) (drop 3 (take (length plant - length (drop 3 plant)) plant ++ body)) (take (length plant - length (drop 3 plant)) plant ++ body) ≡ body
unfolding same_text
with-mark [] body e = absurd (false≢true e)
with-mark (a ∷ []) body e = absurd (false≢true (both (eqb a 239) false e).1)
with-mark (a ∷ (b ∷ [])) body e = absurd (false≢true (both (eqb b 187) false (both (eqb a 239) (eqb b 187 && false) e).1).1)
with-mark (a ∷ (b ∷ (c ∷ t))) body e = let z : suc (suc (suc (length t))) - length t ≡ 3 = omega arith in rw (z, e) refl

body-unmarked : (plant : List ℕ) (rs : List Bytes) (t : List ℕ) → marked plant ≡ false → marked (lines_text (lines_of (after_mark plant)) rs ++ (35 ∷ t)) ≡ false
unfolding after_mark
body-unmarked plant rs t e = rw e (lines-unmarked plant rs t e)

-- the mark is in front where the plant file has one
after-mark : (plant body : List ℕ) → (marked plant ≡ false → marked body ≡ false) → after_mark (mark_of plant ++ body) ≡ body
unfolding after_mark mark_of
after-mark plant body h = go (marked plant) refl
  where
    none : marked body ≡ false → cond (marked ([] ++ body)) (drop 3 body) body ≡ body
    none e = rw e refl

    go : (b : Bool) → marked plant ≡ b → cond (marked (take (length plant - length (cond b (drop 3 plant) plant)) plant ++ body)) (drop 3 (take (length plant - length (cond b (drop 3 plant) plant)) plant ++ body)) (take (length plant - length (cond b (drop 3 plant) plant)) plant ++ body) ≡ body
    go true e = with-mark plant body e
    go false e = let z : length plant - length plant ≡ 0 = omega arith in rw z (none (h e))

pub after-mark-is : (plant : List ℕ) (rs : List Bytes) (t : List ℕ) → after_mark (mark_of plant ++ (lines_text (lines_of (after_mark plant)) rs ++ (35 ∷ t))) ≡ lines_text (lines_of (after_mark plant)) rs ++ (35 ∷ t)
after-mark-is plant rs t = after-mark plant (lines_text (lines_of (after_mark plant)) rs ++ (35 ∷ t)) (λ e. body-unmarked plant rs t e)
