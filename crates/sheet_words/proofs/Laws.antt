-- Letters, names and remarks: each way out of the code is one law.
use mathlib.Core.Path.{◌≡◌, refl, sym, ap, ◌∙◌}
use mathlib.Core.Logic.{⊎_elim}
use mathlib.Core.Bool.{Bool, true, false, cond, ◌&&◌, ◌||◌}
use mathlib.Core.List.{List, [], ◌∷◌}
use Prim.Native.Nat.{ℕ, zero, suc, ◌+◌, ◌-◌, ◌*◌, ◌≤◌, ◌<◌}
use native.Mathlib.Omega.{arith}
use borrow.Author.Tests.{lt-ltb, le-ltb, le-leb, lt-leb, eq-eqb, ne_eqb, eqb-true}
use lib.Dec.{leb, eqb}
use lib.ListN.{length, take, drop, get_or, replicate, drop_of_length-le, length-take, length-append}
use lib.Seq.{take_all}
use lib.Ieee.{Float, lt, le, eq}
use Rattle.std.specs.Char.{to_ascii_lowercase}
use Rattle.std.specs.List.{list_any}
use Rattle.std.specs.Prelude.{Result, IsErrAnd, Option, Some, None, Ok, Err, IsTrue, ◌↔◌, map}
use Rattle.numbers.specs.Numbers.{+0}
use Rattle.numbers.proofs.Cases.{lt-or-ge}
use Rattle.ascii.specs.Text.{same_text}
use Rattle.ascii.proofs.Same.{next-byte, other_length}
use Rattle.day_words.specs.declared.Word.{Word}
use Rattle.day_words.specs.Words.{is_blank, up_to, skip_blanks, joined, word, rest}
use Rattle.day_words.specs.Items.{decimal_of, filled}
use Rattle.sheet_words.specs.declared.Expected.{Expected}
use Rattle.sheet_words.specs.declared.Expected.TheVariants.{Name, ShortName, PlainName, NewName}
use Rattle.sheet_words.specs.Names.{is_capital, is_letter, small, same_small, begins_letter, is_numeric, begins_number, has_equals, is_name_byte, are_name_bytes, is_taken, place_of, name_judged, above_zero, not_below_zero, not_zero}
use Rattle.sheet_words.specs.declared.Wrong.{Wrong}
use Rattle.sheet_words.specs.Lines.{Lies, FoundIn, after_mark, unremarked_from, unremarked, words_of}

or-false : (b : Bool) → b ≡ (b || false)
or-false true = refl
or-false false = refl

and-true : (b : Bool) → b ≡ (b && true)
and-true true = refl
and-true false = refl

and-false : (b : Bool) → false ≡ (b && false)
and-false true = refl
and-false false = refl

and_left : (a b : Bool) → (a && b) ≡ true → a ≡ true
and_left true b h = refl
and_left false b h = h

and_right : (a b : Bool) → (a && b) ≡ true → b ≡ true
and_right true b h = h
and_right false b h = absurd (let z : ◌≡◌ {A = ℕ} 0 1 = cc in omega arith)

-- ---- letters

pub capital-low : (c : ℕ) → c < 65 → false ≡ is_capital c
capital-low c h = rw (lt-leb 65 c h)

pub capital-high : (c : ℕ) → 65 ≤ c → leb c 90 ≡ is_capital c
capital-high c h = rw (le-leb 65 c h)

module _ (c : ℕ) (b : Bool) (B : b ≡ is_capital c) where
  pub letter-capital : b ≡ true → true ≡ is_letter c
  letter-capital e = rw (← B, e)

  pub letter-low : b ≡ false → c < 97 → false ≡ is_letter c
  letter-low e h = rw (← B, e, lt-leb 97 c h)

  pub letter-high : b ≡ false → 97 ≤ c → leb c 122 ≡ is_letter c
  letter-high e h = rw (← B, e, le-leb 97 c h)

-- ---- how a word begins

pub letter-none : (w : List ℕ) → length w ≡ 0 → false ≡ begins_letter w
letter-none [] h = refl
letter-none (c ∷ w) h = absurd (omega arith)

pub letter-some : (w : List ℕ) → (length w ≡ 0 → ⊥) → is_letter (get_or w 0 0) ≡ begins_letter w
letter-some [] h = absurd (h refl)
letter-some (c ∷ w) h = refl

pub number-none : (w : List ℕ) → length w ≡ 0 → false ≡ begins_number w
number-none [] h = refl
number-none (c ∷ w) h = absurd (omega arith)

pub number-some : (w : List ℕ) → (length w ≡ 0 → ⊥) → is_numeric (get_or w 0 0) ≡ begins_number w
number-some [] h = absurd (h refl)
number-some (c ∷ w) h = refl

pub numeric-minus : (c : ℕ) → c ≡ 45 → true ≡ is_numeric c
numeric-minus c e = rw e

pub numeric-plus : (c : ℕ) → c ≡ 43 → true ≡ is_numeric c
numeric-plus c e = rw e

pub numeric-point : (c : ℕ) → c ≡ 46 → true ≡ is_numeric c
numeric-point c e = rw e

module _ (c : ℕ) (a : c ≡ 45 → ⊥) (b : c ≡ 43 → ⊥) (d : c ≡ 46 → ⊥) where
  pub numeric-high : 48 ≤ c → leb c 57 ≡ is_numeric c
  numeric-high h = rw (ne_eqb c 45 a, ne_eqb c 43 b, ne_eqb c 46 d, le-leb 48 c h) (or-false (leb c 57))

  pub numeric-low : c < 48 → false ≡ is_numeric c
  numeric-low h = rw (ne_eqb c 45 a, ne_eqb c 43 b, ne_eqb c 46 d, lt-leb 48 c h)

-- ---- bytes of a name

pub name-byte-equals : (c : ℕ) → c ≡ 61 → false ≡ is_name_byte c
name-byte-equals c e = rw e

pub name-byte-high : (c : ℕ) → (c ≡ 61 → ⊥) → 33 ≤ c → leb c 126 ≡ is_name_byte c
name-byte-high c n h = rw (ne_eqb c 61 n, le-leb 33 c h) (and-true (leb c 126))

pub name-byte-low : (c : ℕ) → (c ≡ 61 → ⊥) → c < 33 → false ≡ is_name_byte c
name-byte-low c n h = rw (lt-leb 33 c h)

pub name-bytes-last : (w : List ℕ) (i : ℕ) → length w ≤ i → true ≡ are_name_bytes (drop i w)
unfolding are_name_bytes
name-bytes-last w i h = rw (drop_of_length-le w h)

pub name-bytes-not : (w : List ℕ) (i : ℕ) → i < length w → is_name_byte (get_or w i 0) ≡ false → false ≡ are_name_bytes (drop i w)
unfolding are_name_bytes
name-bytes-not w i h e = rw (next-byte w i h, e)

pub name-bytes-later : (w : List ℕ) (i : ℕ) → i < length w → is_name_byte (get_or w i 0) ≡ true → are_name_bytes (drop i w) ≡ are_name_bytes (drop (i + 1) w)
unfolding are_name_bytes
name-bytes-later w i h e = ap are_name_bytes (next-byte w i h) ∙ rw e

-- ---- `=` in a word

pub any_equals : (w : List ℕ) → list_any (λ c. eqb c 61) w ≡ has_equals w
unfolding has_equals
any_equals [] = refl
any_equals (c ∷ w) = ap (λ (b : Bool). eqb c 61 || b) (any_equals w)

-- ---- the same but for capitals

pub alike-length : (s t : List ℕ) → (length s ≡ length t → ⊥) → false ≡ same_small s t
unfolding same_small
alike-length [] [] h = absurd (h refl)
alike-length [] (d ∷ t) h = refl
alike-length (c ∷ s) [] h = refl
alike-length (c ∷ s) (d ∷ t) h = go (eqb (small c) (small d)) (alike-length s t (λ e. h (ap suc e)))
  where
    go : (b : Bool) → false ≡ same_small s t → false ≡ (b && same_small s t)
    go true e = e
    go false e = refl

lower-small : (c : ℕ) → to_ascii_lowercase c ≡ small c
unfolding small
lower-small c = ⊎_elim
    (λ (l : c < 65). rw (lt-ltb c 65 l, lt-leb 65 c l))
    (λ (l : 65 ≤ c). ⊎_elim
    (λ (k : c < 91). rw (le-ltb c 65 l, le-leb 65 c l, lt-ltb c 91 k, le-leb c 90 (omega arith)))
    (λ (k : 91 ≤ c). rw (le-ltb c 65 l, le-leb 65 c l, le-ltb c 91 k, lt-leb c 90 (omega arith)))
    (lt-or-ge c 91))
    (lt-or-ge c 65)

alike-lower : (s t : List ℕ) → same_small s t ≡ true → map to_ascii_lowercase s ≡ map to_ascii_lowercase t
unfolding same_small
alike-lower [] [] h = refl
alike-lower [] (d ∷ t) h = absurd (let z : ◌≡◌ {A = ℕ} 0 1 = cc in omega arith)
alike-lower (c ∷ s) [] h = absurd (let z : ◌≡◌ {A = ℕ} 0 1 = cc in omega arith)
alike-lower (c ∷ s) (d ∷ t) h =
    let e : small c ≡ small d = eqb-true (small c) (small d) (and_left (eqb (small c) (small d)) (same_small s t) h) in
    let f : to_ascii_lowercase c ≡ to_ascii_lowercase d = lower-small c ∙ e ∙ sym (lower-small d) in
    let g = alike-lower s t (and_right (eqb (small c) (small d)) (same_small s t) h) in
    rw (f, g)

lower-alike : (s t : List ℕ) → map to_ascii_lowercase s ≡ map to_ascii_lowercase t → same_small s t ≡ true
unfolding same_small
lower-alike [] [] h = refl
lower-alike [] (d ∷ t) h = absurd (let z : ◌≡◌ {A = ℕ} 0 1 = cc in omega arith)
lower-alike (c ∷ s) [] h = absurd (let z : ◌≡◌ {A = ℕ} 0 1 = cc in omega arith)
lower-alike (c ∷ s) (d ∷ t) h =
    let f : to_ascii_lowercase c ≡ to_ascii_lowercase d = cc in
    let g : map to_ascii_lowercase s ≡ map to_ascii_lowercase t = cc in
    let e : small c ≡ small d = sym (lower-small c) ∙ f ∙ lower-small d in
    rw (eq-eqb (small c) (small d) e) (lower-alike s t g)

pub alike_is : (s t : List ℕ) (b : Bool) → IsTrue b ↔ (map to_ascii_lowercase s ≡ map to_ascii_lowercase t) → b ≡ same_small s t
alike_is s t true h = sym (lower-alike s t (h.0 refl))
alike_is s t false h = go (same_small s t) refl
  where
    go : (b : Bool) → same_small s t ≡ b → false ≡ b
    go true e = h.1 (alike-lower s t e)
    go false e = refl

-- ---- a name among those of the table

module _ (n : ℕ) (name texts : List ℕ) (k m : ℕ) (e : m ≡ 16) where
  taken_next : k < n → is_taken (n - k) k name texts ≡ (same_small (take m (drop (16 * k) texts)) name || is_taken (n - (k + 1)) (k + 1) name texts)
  unfolding is_taken
  taken_next h =
      let p : n - k ≡ suc (n - (k + 1)) = omega arith in
      let q : suc k ≡ k + 1 = omega arith in
      ap (λ (j : ℕ). is_taken j k name texts) p ∙ ap (λ (j : ℕ). same_small (take 16 (drop (16 * k) texts)) name || is_taken (n - (k + 1)) j name texts) q
      ∙ ap (λ (j : ℕ). same_small (take j (drop (16 * k) texts)) name || is_taken (n - (k + 1)) (k + 1) name texts) (sym e)

  pub taken_here : k < n → same_small (take m (drop (16 * k) texts)) name ≡ true → true ≡ is_taken (n - k) k name texts
  taken_here h s = sym (taken_next h ∙ rw s)

  pub taken-later : k < n → same_small (take m (drop (16 * k) texts)) name ≡ false → is_taken (n - k) k name texts ≡ is_taken (n - (k + 1)) (k + 1) name texts
  taken-later h s = taken_next h ∙ rw s

pub taken-begin : (n : ℕ) (name texts : List ℕ) → is_taken n 0 name texts ≡ is_taken (n - 0) 0 name texts
taken-begin n name texts = let e : n - 0 ≡ n = omega arith in rw e

pub taken_none : (n : ℕ) (name texts : List ℕ) (k : ℕ) → n ≤ k → false ≡ is_taken (n - k) k name texts
unfolding is_taken
taken_none n name texts k h = let e : n - k ≡ 0 = omega arith in rw e

module _ (name texts : List ℕ) (k m : ℕ) (e : m ≡ 16) where
  place-next : k < 16 → place_of (16 - k) k name texts ≡ cond (same_text (take m (drop (16 * k) texts)) name) (Some k) (place_of (16 - (k + 1)) (k + 1) name texts)
  unfolding place_of
  place-next h =
      let p : 16 - k ≡ suc (16 - (k + 1)) = omega arith in
      let q : suc k ≡ k + 1 = omega arith in
      ap (λ (j : ℕ). place_of j k name texts) p ∙ ap (λ (j : ℕ). cond (same_text (take 16 (drop (16 * k) texts)) name) (Some k) (place_of (16 - (k + 1)) j name texts)) q
      ∙ ap (λ (j : ℕ). cond (same_text (take j (drop (16 * k) texts)) name) (Some k) (place_of (16 - (k + 1)) (k + 1) name texts)) (sym e)

  pub place_here : k < 16 → same_text (take m (drop (16 * k) texts)) name ≡ true → Some k ≡ place_of (16 - k) k name texts
  place_here h s = sym (place-next h ∙ rw s)

  pub place-later : k < 16 → same_text (take m (drop (16 * k) texts)) name ≡ false → place_of (16 - k) k name texts ≡ place_of (16 - (k + 1)) (k + 1) name texts
  place-later h s = place-next h ∙ rw s

pub place_none : (name texts : List ℕ) (k : ℕ) → 16 ≤ k → None ≡ place_of (16 - k) k name texts
unfolding place_of
place_none name texts k h = let e : 16 - k ≡ 0 = omega arith in rw e

-- ---- a word that is too long for a name is not in the table

over : (k : ℕ) (w texts : List ℕ) → 16 < length w → length (take 16 (drop k texts)) ≡ length (filled w) → ⊥
unfolding filled
over k w texts h e = let a = length-take 16 (drop k texts) in let b = length-append w (replicate (16 - length w) 32) in omega (arith, e, a, b, h)

pub long-taken : (w texts : List ℕ) → 16 < length w → (left k : ℕ) → is_taken left k (filled w) texts ≡ false
unfolding is_taken
long-taken w texts h zero k = refl
long-taken w texts h (suc left) k = rw (← alike-length (take 16 (drop (16 * k) texts)) (filled w) (over (16 * k) w texts h)) (long-taken w texts h left (suc k))

pub long-place : (w texts : List ℕ) → 16 < length w → (left k : ℕ) → place_of left k (filled w) texts ≡ None
unfolding place_of
long-place w texts h zero k = refl
long-place w texts h (suc left) k = rw (← other_length (take 16 (drop (16 * k) texts)) (filled w) (over (16 * k) w texts h)) (long-place w texts h left (suc k))

-- ---- a word as a name

module _ (w texts : List ℕ) (b : Bool) (B : b ≡ begins_letter w) where
  pub judge-letter : b ≡ false → Err Name ≡ name_judged w texts
  unfolding name_judged
  judge-letter e = rw (← B, e)

  module _ (f : b ≡ true) where
    pub judge-long : 16 < length w → Err ShortName ≡ name_judged w texts
    unfolding name_judged
    judge-long h = rw (← B, f, lt-ltb 16 (length w) h)

    module _ (h : length w ≤ 16) (d : Bool) (D : d ≡ are_name_bytes w) where
      pub judge-plain : d ≡ false → Err PlainName ≡ name_judged w texts
      unfolding name_judged
      judge-plain e = rw (← B, f, le-ltb 16 (length w) h, ← D, e)

      module _ (g : d ≡ true) (n : List ℕ) (N : n ≡ filled w) (t : Bool) (T : t ≡ is_taken 48 0 n texts) where
        pub judge-taken : t ≡ true → Err NewName ≡ name_judged w texts
        unfolding name_judged
        judge-taken e = rw (← B, f, le-ltb 16 (length w) h, ← D, g, ← N, ← T, e)

        pub judge-fine : t ≡ false → (Ok tt) ≡ name_judged w texts
        unfolding name_judged
        judge-fine e = rw (← B, f, le-ltb 16 (length w) h, ← D, g, ← N, ← T, e)

-- ---- decimals of a kind

module _ (w : List ℕ) (n : Option Float) (N : n ≡ decimal_of w) where
  pub above-none : n ≡ None → None ≡ above_zero w
  unfolding above_zero
  above-none e = rw (← N, e)

  pub below_none : n ≡ None → None ≡ not_below_zero w
  unfolding not_below_zero
  below_none e = rw (← N, e)

  pub zero-none : n ≡ None → None ≡ not_zero w
  unfolding not_zero
  zero-none e = rw (← N, e)

  module _ (x : Float) (e : n ≡ Some x) where
    pub above-is : lt +0 x ≡ true → Some x ≡ above_zero w
    unfolding above_zero
    above-is h = rw (← N, e, h)

    pub above-not : lt +0 x ≡ false → None ≡ above_zero w
    unfolding above_zero
    above-not h = rw (← N, e, h)

    pub below-is : le +0 x ≡ true → Some x ≡ not_below_zero w
    unfolding not_below_zero
    below-is h = rw (← N, e, h)

    pub below-not : le +0 x ≡ false → None ≡ not_below_zero w
    unfolding not_below_zero
    below-not h = rw (← N, e, h)

    pub zero_is : eq x +0 ≡ false → Some x ≡ not_zero w
    unfolding not_zero
    zero_is h = rw (← N, e, h)

    pub zero-not : eq x +0 ≡ true → None ≡ not_zero w
    unfolding not_zero
    zero-not h = rw (← N, e, h)

-- ---- the byte order mark

pub mark-short : (bytes : List ℕ) → length bytes < 3 → drop 0 bytes ≡ after_mark bytes
unfolding after_mark
mark-short bytes h =
    let t : take 3 bytes ≡ bytes = take_all 3 bytes (omega arith) in
    let f : same_text (take 3 bytes) (239 ∷ (187 ∷ (191 ∷ []))) ≡ false = sym (other_length (take 3 bytes) (239 ∷ (187 ∷ (191 ∷ []))) (λ z. let y = ap length t in omega arith)) in
    rw f

module _ (bytes : List ℕ) (b : Bool) (B : b ≡ same_text (take 3 bytes) (239 ∷ (187 ∷ (191 ∷ [])))) where
  pub mark-is : b ≡ true → drop 3 bytes ≡ after_mark bytes
  unfolding after_mark
  mark-is e = rw (← B, e)

  pub mark-not : b ≡ false → drop 0 bytes ≡ after_mark bytes
  unfolding after_mark
  mark-not e = rw (← B, e)

-- ---- remarks

pub remark-front : (f : Bool) (t : List ℕ) → take (length (unremarked_from f t)) t ≡ unremarked_from f t
unfolding unremarked_from
remark-front f [] = refl
remark-front f (c ∷ t) = go (f && eqb c 35) (remark-front (is_blank c) t)
  where
    go : (b : Bool) → take (length (unremarked_from (is_blank c) t)) t ≡ unremarked_from (is_blank c) t
        → take (length (cond b [] (c ∷ unremarked_from (is_blank c) t))) (c ∷ t) ≡ cond b [] (c ∷ unremarked_from (is_blank c) t)
    go true e = refl
    go false e = ap (λ (l : List ℕ). c ∷ l) e

remark-none : (f : Bool) (s : List ℕ) (i : ℕ) → length s ≤ i → length (unremarked_from f (drop i s)) ≡ 0
unfolding unremarked_from
remark-none f s i h = rw (drop_of_length-le s h)

module _ (f : Bool) (s : List ℕ) (i : ℕ) (h : i < length s) (b : Bool) (B : b ≡ (f && eqb (get_or s i 0) 35)) where
  remark-stop : b ≡ true → length (unremarked_from f (drop i s)) ≡ 0
  unfolding unremarked_from
  remark-stop e = ap (λ (l : List ℕ). length (unremarked_from f l)) (next-byte s i h) ∙ rw (← B, e)

  remark-more : b ≡ false → (g : Bool) → g ≡ is_blank (get_or s i 0) → length (unremarked_from f (drop i s)) ≡ suc (length (unremarked_from g (drop (i + 1) s)))
  unfolding unremarked_from
  remark-more e g G = ap (λ (l : List ℕ). length (unremarked_from f l)) (next-byte s i h) ∙ rw (← B, e, G)

module _ (s : List ℕ) (i : ℕ) (f : Bool) (I : i + length (unremarked_from f (drop i s)) ≡ length (unremarked s)) where
  at_front : i ≡ length (unremarked s) → take i s ≡ unremarked s
  at_front e = ap (λ (k : ℕ). take k s) e ∙ remark-front true s

  pub remark-last : length s ≤ i → take i s ≡ unremarked s
  remark-last h = at_front (omega (arith, I, remark-none f s i h))

  module _ (h : i < length s) (b : Bool) (B : b ≡ (f && eqb (get_or s i 0) 35)) where
    pub remark-here : b ≡ true → take i s ≡ unremarked s
    remark-here e = at_front (omega (arith, I, remark-stop f s i h b B e))

    pub remark-later : b ≡ false → (g : Bool) → g ≡ is_blank (get_or s i 0) → i + 1 + length (unremarked_from g (drop (i + 1) s)) ≡ length (unremarked s)
    remark-later e g G = omega (arith, I, remark-more f s i h b B e g G)

-- ---- words

-- a word begins here
words-here : (c : ℕ) (s : List ℕ) → is_blank c ≡ false → words_of (c ∷ s) ≡ (c ∷ up_to is_blank s) ∷ words_of (drop (length (up_to is_blank s)) s)
unfolding words_of up_to joined
words-here c [] e = rw e
words-here c (d ∷ s) e = go (is_blank d) refl (words-here d s)
  where
    go : (b : Bool) → is_blank d ≡ b → (is_blank d ≡ false → words_of (d ∷ s) ≡ (d ∷ up_to is_blank s) ∷ words_of (drop (length (up_to is_blank s)) s))
        → words_of (c ∷ (d ∷ s)) ≡ (c ∷ up_to is_blank (d ∷ s)) ∷ words_of (drop (length (up_to is_blank (d ∷ s))) (d ∷ s))
    go true f more = let q : words_of s ≡ words_of (d ∷ s) = rw f in rw (e, f) (ap (λ (l : List (List ℕ)). (c ∷ []) ∷ l) q)
    go false f more = rw (e, f) (rw f at (ap (joined c) (more f)))

words-skip : (s : List ℕ) → words_of s ≡ words_of (skip_blanks s)
unfolding words_of skip_blanks
words-skip [] = refl
words-skip (c ∷ s) = go (is_blank c) refl (words-skip s)
  where
    go : (b : Bool) → is_blank c ≡ b → words_of s ≡ words_of (skip_blanks s) → words_of (c ∷ s) ≡ words_of (cond b (skip_blanks s) (c ∷ s))
    go true f more = rw f more
    go false f more = refl

-- what the blanks are skipped before begins with none
skipped-none : (s : List ℕ) (c : ℕ) (t : List ℕ) → skip_blanks s ≡ c ∷ t → is_blank c ≡ false
unfolding skip_blanks
skipped-none [] c t h = absurd (let z : ◌≡◌ {A = ℕ} 0 1 = cc in omega arith)
skipped-none (d ∷ s) c t h = go (is_blank d) refl (skipped-none s c t) h
  where
    go : (b : Bool) → is_blank d ≡ b → (skip_blanks s ≡ c ∷ t → is_blank c ≡ false) → cond b (skip_blanks s) (d ∷ s) ≡ c ∷ t → is_blank c ≡ false
    go true f more h = more h
    go false f more h = let e : d ≡ c = cc in ap is_blank (sym e) ∙ f

-- no word: no words. A word: it, and the words after it
split : (s u : List ℕ) → skip_blanks s ≡ u → ((length (word s) ≡ 0) → words_of s ≡ []) × ((0 < length (word s)) → words_of s ≡ word s ∷ words_of (rest s))
unfolding word rest up_to words_of
split s [] e = ((λ h. words-skip s ∙ ap words_of e), (λ h. absurd (let z : length (up_to is_blank (skip_blanks s)) ≡ 0 = ap (λ (l : List ℕ). length (up_to is_blank l)) e in omega arith)))
split s (c ∷ u) e = (none, some)
  where
    n : is_blank c ≡ false
    n = skipped-none s c u e

    w : up_to is_blank (c ∷ u) ≡ c ∷ up_to is_blank u
    w = rw n

    none : length (up_to is_blank (skip_blanks s)) ≡ 0 → words_of s ≡ []
    none h = absurd (let z = ap (λ (l : List ℕ). length (up_to is_blank l)) e in let y = ap length w in omega (arith, z, y, h))

    some : 0 < length (up_to is_blank (skip_blanks s)) → words_of s ≡ up_to is_blank (skip_blanks s) ∷ words_of (drop (length (up_to is_blank (skip_blanks s))) (skip_blanks s))
    some h = words-skip s ∙ rw e (words-here c u n ∙ rw w)

pub words-none : (s : List ℕ) → length (word s) ≡ 0 → words_of s ≡ []
words-none s = (split s (skip_blanks s) refl).0

pub words-some : (s : List ℕ) → 0 < length (word s) → words_of s ≡ word s ∷ words_of (rest s)
words-some s = (split s (skip_blanks s) refl).1

-- ---- what stands from a place to a place

pub nothing : (k : ℕ) (s : List ℕ) → take (k - k) s ≡ []
nothing k s = let e : k - k ≡ 0 = omega arith in rw e

pub found-in : (line : List ℕ) (r : Wrong) (e : Expected) (w : Word) → r ≡ record { expected = e; word = w } → Lies w.start w.end line → FoundIn line r
found-in line r e w R h = rw R h

-- an error that `?` hands on as it is
pub err-is : {A E : Type 0} (r : Result A E) (e : E) → IsErrAnd r (λ x. x ≡ e) → r ≡ Err e
err-is (Ok a) e h = absurd h
err-is (Err x) e h = ap Err h
