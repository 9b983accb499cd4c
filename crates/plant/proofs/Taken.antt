-- A meter's line that is taken: its number is below 16, its words have no blank and begin no remark, its name is short and plain, its spread has no line feed.
use mathlib.Core.Path.{◌≡◌, refl, sym, ap, ◌∙◌, subst}
use mathlib.Core.Bool.{Bool, true, false, cond, not, false≢true}
use mathlib.Core.List.{List, [], ◌∷◌}
use Prim.Native.Nat.{ℕ, ◌≤◌, ◌<◌}
use native.Mathlib.Omega.{arith}
use lib.Dec.{leb, ltb, eqb}
use lib.Ieee.{Float}
use lib.ListN.{length}
use borrow.Author.Tests.{eqb-true, leb-true, ltb-false, not-false}
use Rattle.ascii.specs.Text.{ascii, same_text}
use Rattle.decimals.specs.Decimal.{digits_of, unsigned_at, decimal_at}
use Rattle.day_words.specs.Words.{up_to, is_blank, skip_blanks, word, rest}
use Rattle.day_words.specs.Items.{filled, reading_of, decimal_of}
use Rattle.sheet_words.specs.declared.Expected.{Expected}
use Rattle.sheet_words.specs.declared.Expected.TheVariants.{Name, ShortName, PlainName, NewName}
use Rattle.sheet_words.specs.Names.{begins_letter, are_name_bytes, is_taken, name_judged, above_zero}
use Rattle.sheet_words.specs.Lines.{unremarked}
use Rattle.plant.specs.Lines.{Meter, is_given, Line, copied, metered, wrong, up_to_fifteen, ended, no_names, allowed_by, last_words, spread_by, name_by, number_by, meter_number, meter_line, line_of}
use Rattle.plant.specs.declared.Wanted.TheVariants as wanted
use Rattle.plant.specs.Claims.{Each}
use Rattle.plant.proofs.Words.{NoBlanks, Plain}
use Rattle.plant.proofs.Each.{no_feed, each_word, each-rest, each_bare}
use Rattle.std.specs.Prelude.{Option, Some, None, Result, Ok, Err}

pub record Sound (m : Meter) : Type 0 where
  pub number_small : m.number < 16
  pub name-plain : Plain m.name
  pub name_short : length m.name ≤ 16
  pub name-bytes : are_name_bytes m.name ≡ true
  pub spread-plain : Plain m.spread
  pub spread-free : Each no_feed m.spread
  pub value : Float
  pub spread-is : above_zero m.spread ≡ Some value

-- ---- a word

no-blanks-up : (t : List ℕ) → NoBlanks (up_to is_blank t)
unfolding up_to
no-blanks-up [] = tt
no-blanks-up (c ∷ cs) = go (is_blank c) refl (no-blanks-up cs)
  where
    go : (b : Bool) → is_blank c ≡ b → NoBlanks (up_to is_blank cs) → NoBlanks (cond b [] (c ∷ up_to is_blank cs))
    go true e h = tt
    go false e h = (e, h)

no-blanks-word : (t : List ℕ) → NoBlanks (word t)
unfolding word
no-blanks-word t = no-blanks-up (skip_blanks t)

plain-from : (w : List ℕ) → NoBlanks w → (w ≡ [] → ⊥) → ((cs : List ℕ) → w ≡ 35 ∷ cs → ⊥) → Plain w
plain-from [] h n m = n refl
plain-from (c ∷ cs) h n m = go (eqb c 35) refl
  where
    go : (b : Bool) → eqb c 35 ≡ b → (eqb c 35 ≡ false) × (is_blank c ≡ false) × NoBlanks cs
    go true e = absurd (m cs (ap (λ (z : ℕ). z ∷ cs) (eqb-true c 35 e)))
    go false e = (e, h.0, h.1)

abbrev is_fine : Result Unit Expected → Bool
is_fine (Ok u) = true
is_fine (Err e) = false

no_name : name_judged [] no_names ≡ Ok tt → ⊥
unfolding name_judged
no_name f = false≢true (ap is_fine f)

no-hash : (cs : List ℕ) → name_judged (35 ∷ cs) no_names ≡ Ok tt → ⊥
unfolding name_judged
no-hash cs f = false≢true (ap is_fine f)

plain-name : (t : List ℕ) → name_judged (word t) no_names ≡ Ok tt → Plain (word t)
plain-name t e =
    plain-from (word t) (no-blanks-word t) (λ q. no_name (sym (ap (λ (w : List ℕ). name_judged w no_names) q) ∙ e))
    (λ cs q. no-hash cs (sym (ap (λ (w : List ℕ). name_judged w no_names) q) ∙ e))

-- a reason that does not apply
fine-by : (b : Bool) (e : Expected) (j : Result Unit Expected) → cond b (Err e) j ≡ Ok tt → (b ≡ false) × (j ≡ Ok tt)
fine-by true e j f = absurd (false≢true (ap is_fine f))
fine-by false e j f = (refl, f)

fine-is : (w : List ℕ) → name_judged w no_names ≡ Ok tt → (length w ≤ 16) × (are_name_bytes w ≡ true)
unfolding name_judged
fine-is w f =
    let new = cond (is_taken 48 0 (filled w) no_names) (Err NewName) (Ok tt) in
    let plain = cond (not (are_name_bytes w)) (Err PlainName) new in
    let short = cond (ltb 16 (length w)) (Err ShortName) plain in
    let a = fine-by (not (begins_letter w)) Name short f in
    let b = fine-by (ltb 16 (length w)) ShortName plain a.1 in
    let c = fine-by (not (are_name_bytes w)) PlainName new b.1 in
    (ltb-false 16 (length w) b.0, not-false (are_name_bytes w) c.0)

-- a number, where it is one
abbrev Below : Option ℕ → Type 0
Below (Some n) = n < 16
Below None = Unit

up-to-fifteen : (c : Option ℕ) → Below (up_to_fifteen c)
up-to-fifteen (Some n) = go (leb n 15) refl
  where
    go : (b : Bool) → leb n 15 ≡ b → Below (cond b (Some n) None)
    go true e = let l : n ≤ 15 = leb-true n 15 e in omega (arith, l)
    go false e = tt
up-to-fifteen None = tt

number-below : (w : List ℕ) → Below (meter_number w)
unfolding meter_number
number-below w = go (leb (length w) 2)
  where
    go : (b : Bool) → Below (cond b (up_to_fifteen (reading_of w)) None)
    go true = up-to-fifteen (reading_of w)
    go false = tt

abbrev is_number : Option Float → Bool
is_number (Some x) = true
is_number None = false

no_number : (x : Float) → above_zero [] ≡ Some x → ⊥
unfolding above_zero decimal_of decimal_at unsigned_at digits_of
no_number x f = false≢true (ap is_number f)

hash-number : (cs : List ℕ) (x : Float) → above_zero (35 ∷ cs) ≡ Some x → ⊥
unfolding above_zero decimal_of decimal_at unsigned_at digits_of
hash-number cs x f = false≢true (ap is_number f)

plain-spread : (t : List ℕ) (x : Float) → above_zero (word t) ≡ Some x → Plain (word t)
plain-spread t x e = plain-from (word t) (no-blanks-word t) (λ q. no_number x (sym (ap above_zero q) ∙ e)) (λ cs q. hash-number cs x (sym (ap above_zero q) ∙ e))

-- ---- a line, word by word

abbrev pub is_metered : Line → Bool
is_metered copied = false
is_metered (metered m) = true
is_metered (wrong e w) = false

abbrev meter_in : Meter → Line → Meter
meter_in d copied = d
meter_in d (metered m) = m
meter_in d (wrong e w) = d

module _ (m : Meter) where
  abbrev Takes : Line → Type 0
  Takes l = l ≡ metered m → Sound m

  not-wrong : (l : Line) → is_metered l ≡ false → Takes l
  not-wrong l e q = absurd (false≢true (sym e ∙ ap is_metered q))

  is_meter_holds : (d : Meter) → Sound d → Takes (metered d)
  is_meter_holds d h q = subst Sound (ap (meter_in d) q) h

  module _ (n : ℕ) (name spread : List ℕ) (x : Float) (small : n < 16) (p : Plain name) (fine : (length name ≤ 16) × (are_name_bytes name ≡ true)) (q : Plain spread) (free : Each no_feed spread) (e : above_zero spread ≡ Some x) where
    sound-with : (k : Option ℕ) → Sound (record { number = n; name = name; spread = spread; allowed = k })
    sound-with k =
        record { number_small = small; name-plain = p; name_short = fine.0; name-bytes = fine.1; spread-plain = q; spread-free = free; value = x; spread-is = e }

    from_end : (k : Option ℕ) (after : List ℕ) → Takes (ended after (metered (record { number = n; name = name; spread = spread; allowed = k })))
    from_end k [] = is_meter_holds _ (sound-with k)
    from_end k (c ∷ cs) = not-wrong _ refl

    from-allowed : (k : Option ℕ) (w after : List ℕ) → Takes (allowed_by k w after n name spread)
    from-allowed (Some k) w after = from_end (Some k) after
    from-allowed None w after = not-wrong _ refl

    from_last : (w after : List ℕ) → Takes (last_words w after n name spread)
    unfolding last_words
    from_last [] after = is_meter_holds _ (sound-with None)
    from_last (c ∷ cs) after = from-allowed (reading_of (c ∷ cs)) (c ∷ cs) after

  from-spread : (v : Option Float) (t : List ℕ) (n : ℕ) (name : List ℕ) → Each no_feed t → n < 16 → Plain name → (length name ≤ 16) × (are_name_bytes name ≡ true) → above_zero (word t) ≡ v → Takes (spread_by v t n name)
  from-spread (Some x) t n name h small p fine e = from_last n name (word t) x small p fine (plain-spread t x e) (each_word no_feed t h) e (word (rest t)) (word (rest (rest t)))
  from-spread None t n name h small p fine e = not-wrong _ refl

  from-name : (j : Result Unit Expected) (t : List ℕ) (n : ℕ) → Each no_feed t → n < 16 → name_judged (word t) no_names ≡ j → Takes (name_by j t n)
  from-name (Ok u) t n h small e = from-spread (above_zero (word (rest t))) (rest t) n (word t) (each-rest no_feed t h) small (plain-name t e) (fine-is (word t) e) refl
  from-name (Err j) t n h small e = not-wrong _ refl

  from-number : (k : Option ℕ) (t : List ℕ) (ms : List Meter) → Each no_feed t → Below k → Takes (number_by k t ms)
  from-number (Some n) t ms h small = go (is_given n ms)
    where
      go : (b : Bool) → Takes (cond b (wrong wanted.NewNumber (word t)) (name_by (name_judged (word (rest t)) no_names) (rest t) n))
      go true = not-wrong _ refl
      go false = from-name (name_judged (word (rest t)) no_names) (rest t) n (each-rest no_feed t h) small refl
  from-number None t ms h small = not-wrong _ refl

pub meters-sound : (l : List ℕ) (ms : List Meter) (m : Meter) → Each no_feed l → line_of l ms ≡ metered m → Sound m
unfolding line_of meter_line
meters-sound l ms m h = go (same_text (word l) (ascii "meter"))
  where
    go : (b : Bool) → Takes m (cond b (number_by (meter_number (word (unremarked (rest l)))) (unremarked (rest l)) ms) copied)
    go true = from-number m (meter_number (word (unremarked (rest l)))) (unremarked (rest l)) ms (each_bare no_feed true (rest l) (each-rest no_feed l h)) (number-below (word (unremarked (rest l))))
    go false = not-wrong m copied refl
