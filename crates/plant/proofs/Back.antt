-- A meter's line reads back, whatever its remark.
use mathlib.Core.Path.{◌≡◌, refl, sym, ap, ◌∙◌}
use mathlib.Core.Bool.{Bool, true, false, cond}
use mathlib.Core.List.{List, [], ◌∷◌, ◌++◌, append_assoc}
use Prim.Native.Nat.{ℕ, suc, ◌+◌, ◌-◌, ◌≤◌}
use native.Mathlib.Omega.{arith}
use lib.Dec.{leb, ltb, eqb}
use lib.ListN.{length, take, get_or}
use lib.Ieee.{Float}
use Rattle.numbers.specs.Numbers.{+0, tab}
use Rattle.io.specs.Digits.{last_digits}
use Rattle.ascii.specs.Text.{ascii, same_text, decimal_text}
use Rattle.totaliser.specs.Volume.{largest}
use Rattle.day_words.specs.Words.{up_to, without_return, skip_blanks, word, rest}
use Rattle.sheet_words.specs.declared.Expected.TheVariants.{Late, FewItems}
use Rattle.sheet_words.specs.Names.{name_judged, above_zero}
use Rattle.sheet_words.specs.Lines.{unremarked_from}
use Rattle.sheet_parts.specs.Parts.{named_by, name_at, itemed, meter_read, meter_of, item_of}
use Rattle.sheet_lines.specs.Lines.{State, Line, wrong, item_read, item_named, item_line}
use Rattle.sheet.specs.Sheet.{place_among, kind_of, plain_line, line_read}
use Rattle.logged.specs.declared.Seen.{Seen}
use Rattle.plant.specs.Texts.{after_blank, minutes_text, meter_text}
use Rattle.plant.specs.Claims.{with_meter, meter_taken}
use Rattle.plant.proofs.Words.{Plain, word-is, rest-is, word_blank, rest-blank, bare-word, place, six-is, plain-six, six-no-letter, reading-six}
use Rattle.std.specs.Prelude.{Some, Result, Ok, Err}
use Rattle.sheet_words.specs.declared.Expected.{Expected}

-- ---- what follows the first word, and what of it the remark leaves

abbrev numbers : (old new spread t : List ℕ) → List ℕ
numbers old new spread t = 32 ∷ (old ++ (32 ∷ (new ++ (32 ∷ (spread ++ (32 ∷ t))))))

bare : (name old new spread r : List ℕ) → Plain name → Plain old → Plain new → Plain spread
    → unremarked_from true (32 ∷ (name ++ numbers old new spread (35 ∷ r))) ≡ 32 ∷ (name ++ numbers old new spread [])
unfolding unremarked_from
bare name old new spread r a b c d =
    ap (λ (l : List ℕ). 32 ∷ l)
    (bare-word name _ a ∙ ap (λ (l : List ℕ). name ++ (32 ∷ l))
    (bare-word old _ b ∙ ap (λ (l : List ℕ). old ++ (32 ∷ l))
    (bare-word new _ c ∙ ap (λ (l : List ℕ). new ++ (32 ∷ l))
    (bare-word spread (35 ∷ r) d))))

-- ---- what stands after the name

-- the four words of a text
record Words (t : List ℕ) (a b spread : List ℕ) : Type 0 where
  first : word t ≡ a
  second : word (rest t) ≡ b
  third : word (rest (rest t)) ≡ spread
  none : word (rest (rest (rest t))) ≡ []

last-blank : word (32 ∷ []) ≡ []
unfolding word skip_blanks up_to
last-blank = refl

words_are : (a b spread : List ℕ) → Plain a → Plain b → Plain spread → Words (numbers a b spread []) a b spread
words_are a b spread p q r =
    let t2 : List ℕ = 32 ∷ (spread ++ (32 ∷ [])) in
    let t1 : List ℕ = 32 ∷ (b ++ t2) in
    let r0 : rest (32 ∷ (a ++ t1)) ≡ t1 = rest-blank (a ++ t1) ∙ rest-is a (b ++ t2) p in
    let r1 : rest (rest (32 ∷ (a ++ t1))) ≡ t2 = ap rest r0 ∙ rest-blank (b ++ t2) ∙ rest-is b (spread ++ (32 ∷ [])) q in
    let r2 : rest (rest (rest (32 ∷ (a ++ t1)))) ≡ 32 ∷ [] = ap rest r1 ∙ rest-blank (spread ++ (32 ∷ [])) ∙ rest-is spread [] r in
    record {
      first = word_blank (a ++ t1) ∙ word-is a (b ++ t2) p;
      second = ap word r0 ∙ word_blank (b ++ t2) ∙ word-is b (spread ++ (32 ∷ [])) q;
      third = ap word r1 ∙ word_blank (spread ++ (32 ∷ [])) ∙ word-is spread [] r;
      none = ap word r2 ∙ last-blank;
    }

meter-is : (t spread : List ℕ) (a b : ℕ) (x : Float) → Words t (place a) (place b) spread → a ≤ largest → b ≤ largest → above_zero spread ≡ Some x → meter_of t ≡ itemed a b x +0 +0
unfolding meter_of meter_read
meter-is t spread a b x w h k e = rw (w.first, w.second, w.third, w.none, reading-six a h, reading-six b k, e) refl

item-is : (t spread : List ℕ) (a b : ℕ) (x : Float) → Words t (place a) (place b) spread → a ≤ largest → b ≤ largest → above_zero spread ≡ Some x → item_of 0 t ≡ itemed a b x +0 +0
unfolding item_of
item-is t spread a b x w h k e = rw (w.first, six-no-letter a) (meter-is t spread a b x w h k e)

-- ---- the line, by its first word and then by its name

line-is : (l t : List ℕ) (st : State) → word l ≡ ascii "meter" → unremarked_from true (rest l) ≡ t → line_read l st ≡ item_line 0 (ascii "meter") t st
unfolding line_read kind_of place_among plain_line same_text ascii tab
line-is l t st e f = rw (e, f) refl

named-is : (j : Result Unit Expected) (name t : List ℕ) (x : Float) (old new : ℕ) (st : State) → word t ≡ name → item_of 0 (rest t) ≡ itemed old new x +0 +0
    → item_named 0 (named_by j st.items t st.texts) st ≡ with_meter j name x old new st
unfolding item_named item_read
named-is (Ok u) name t x old new st e f = rw (f, e) refl
named-is (Err j) name t x old new st e f = ap (wrong j) e

item-line : (name t : List ℕ) (x : Float) (old new : ℕ) (st : State) → word t ≡ name → item_of 0 (rest t) ≡ itemed old new x +0 +0
    → item_line 0 (ascii "meter") t st ≡ meter_taken name x old new st
unfolding item_line name_at meter_taken
item-line name t x old new st e f =
    ap (λ (z : Line). cond (ltb 0 (st.balances + st.limits)) (wrong Late (ascii "meter")) (cond (leb 16 st.items) (wrong FewItems (ascii "meter")) z))
    (named-is (name_judged (word t) st.texts) name t x old new st e f ∙ ap (λ (w : List ℕ). with_meter (name_judged w st.texts) name x old new st) e)

-- ---- the line as it is written

plain-kind : Plain (ascii "meter")
unfolding ascii tab
plain-kind = (refl, refl, (refl, (refl, (refl, (refl, tt)))))

-- the line up to its first remark, and what comes after
abbrev pub front : (name spread : List ℕ) (old new : ℕ) → List ℕ
front name spread old new = ascii "meter" ++ (32 ∷ (name ++ (32 ∷ (place old ++ (32 ∷ (place new ++ (32 ∷ (spread ++ (32 ∷ [])))))))))

abbrev line_with : (name spread : List ℕ) (old new : ℕ) (r : List ℕ) → List ℕ
line_with name spread old new r = ascii "meter" ++ (32 ∷ (name ++ numbers (place old) (place new) spread (35 ∷ r)))

reads-with : (name spread r : List ℕ) (x : Float) (old new : ℕ) (st : State) → Plain name → Plain spread → above_zero spread ≡ Some x → old ≤ largest → new ≤ largest
    → line_read (line_with name spread old new r) st ≡ meter_taken name x old new st
reads-with name spread r x old new st p q e h k =
    let a = place old in
    let b = place new in
    let full : List ℕ = name ++ numbers a b spread (35 ∷ r) in
    let short : List ℕ = 32 ∷ (name ++ numbers a b spread []) in
    let left : unremarked_from true (rest (ascii "meter" ++ (32 ∷ full))) ≡ short =
    ap (unremarked_from true) (rest-is (ascii "meter") full plain-kind) ∙ bare name a b spread r p (plain-six old) (plain-six new) q in
    let w : word short ≡ name = word_blank (name ++ numbers a b spread []) ∙ word-is name _ p in
    let n : rest short ≡ numbers a b spread [] = rest-blank (name ++ numbers a b spread []) ∙ rest-is name _ p in
    line-is (ascii "meter" ++ (32 ∷ full)) short st (word-is (ascii "meter") full plain-kind) left
    ∙ item-line name short x old new st w (ap (item_of 0) n ∙ item-is (numbers a b spread []) spread old new x (words_are a b spread (plain-six old) (plain-six new) q) h k e)

-- ---- the line as it is written, with or without a carriage return at the end of its remark

abbrev remark : (from to : ℕ) (r : List ℕ) → List ℕ
remark from to r = (ascii " minutes " ++ (decimal_text from ++ (ascii " to " ++ decimal_text to))) ++ after_blank r

text-is : (name spread r : List ℕ) (s : Seen) → meter_text name spread r s ≡ line_with name spread s.first s.last (remark s.from s.to r)
unfolding meter_text minutes_text ascii tab
text-is name spread r s =
    let tail : List ℕ = 32 ∷ (spread ++ (32 ∷ (minutes_text s.from s.to ++ after_blank r))) in
    ap (λ (d : List ℕ). ascii "meter " ++ (name ++ (32 ∷ (d ++ (32 ∷ (last_digits 10 6 s.last ++ tail)))))) (six-is s.first)
    ∙ ap (λ (d : List ℕ). ascii "meter " ++ (name ++ (32 ∷ (place s.first ++ (32 ∷ (d ++ tail)))))) (six-is s.last)

return_kept : (c d : ℕ) (t : List ℕ) → without_return (c ∷ (d ∷ t)) ≡ c ∷ without_return (d ∷ t)
unfolding without_return
return_kept c d t =
    let n = length t in
    let e : suc (suc n) - 1 ≡ suc n = omega arith in
    let f : suc n - 1 ≡ n = omega arith in
    rw (e, f) (go (eqb (get_or (d ∷ t) n 0) 13))
  where
    go : (b : Bool) → cond b (take (suc (length t)) (c ∷ (d ∷ t))) (c ∷ (d ∷ t)) ≡ c ∷ cond b (take (length t) (d ∷ t)) (d ∷ t)
    go true = refl
    go false = refl

-- a `#` is no carriage return
pub return-after : (s t : List ℕ) → without_return (s ++ (35 ∷ t)) ≡ s ++ (35 ∷ without_return t)
unfolding without_return
return-after [] [] = refl
return-after [] (d ∷ t) = return_kept 35 d t
return-after (c ∷ []) t = return_kept c 35 t ∙ ap (λ (l : List ℕ). c ∷ l) (return-after [] t)
return-after (c ∷ (d ∷ s)) t = return_kept c d (s ++ (35 ∷ t)) ∙ ap (λ (l : List ℕ). c ∷ l) (return-after (d ∷ s) t)

front-is : (name spread r : List ℕ) (old new : ℕ) → line_with name spread old new r ≡ front name spread old new ++ (35 ∷ r)
unfolding ascii tab
front-is name spread r old new =
    let u4 : List ℕ = spread ++ (32 ∷ []) in
    let u3 : List ℕ = place new ++ (32 ∷ u4) in
    let u2 : List ℕ = place old ++ (32 ∷ u3) in
    ap (λ (l : List ℕ). ascii "meter" ++ (32 ∷ l))
    (ap (λ (l : List ℕ). name ++ (32 ∷ (place old ++ (32 ∷ (place new ++ (32 ∷ l)))))) (sym (append_assoc spread (32 ∷ []) (35 ∷ r)))
    ∙ ap (λ (l : List ℕ). name ++ (32 ∷ (place old ++ (32 ∷ l)))) (sym (append_assoc (place new) (32 ∷ u4) (35 ∷ r)))
    ∙ ap (λ (l : List ℕ). name ++ (32 ∷ l)) (sym (append_assoc (place old) (32 ∷ u3) (35 ∷ r)))
    ∙ sym (append_assoc name (32 ∷ u2) (35 ∷ r)))

pub reads-back : (name spread r : List ℕ) (x : Float) (s : Seen) (st : State) → Plain name → Plain spread → above_zero spread ≡ Some x → s.first ≤ largest → s.last ≤ largest
    → line_read (without_return (meter_text name spread r s)) st ≡ meter_taken name x s.first s.last st
reads-back name spread r x s st p q e h k =
    let t = remark s.from s.to r in
    ap (λ (l : List ℕ). line_read (without_return l) st) (text-is name spread r s ∙ front-is name spread t s.first s.last)
    ∙ ap (λ (l : List ℕ). line_read l st) (return-after (front name spread s.first s.last) t ∙ sym (front-is name spread (without_return t) s.first s.last))
    ∙ reads-with name spread (without_return t) x s.first s.last st p q e h k
