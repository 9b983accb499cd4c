-- Words that are written with single blanks between them, as they are read.
use mathlib.Core.Path.{◌≡◌, refl, ap, ◌∙◌}
use mathlib.Core.Bool.{true, false}
use mathlib.Core.List.{List, [], ◌∷◌, ◌++◌}
use Prim.Native.Nat.{ℕ, ◌+◌, ◌*◌, ◌/◌, ◌%◌, ◌<◌, ◌≤◌}
use native.Mathlib.Omega.{arith}
use lib.Dec.{eqb}
use lib.ListN.{length}
use lib.Seq.{drop_at}
use borrow.Author.Tests.{lt-ltb, le-leb, lt-leb, ne_eqb}
use Rattle.io.specs.Digits.{hex_digit_ascii, last_digits}
use Rattle.decimals.specs.Decimal.{is_digit, numeral_from}
use Rattle.decimals.specs.Claims.{are_digits}
use Rattle.totaliser.specs.Volume.{largest}
use Rattle.day_words.specs.Words.{up_to, is_blank, skip_blanks, word, rest}
use Rattle.day_words.specs.Items.{reading_of}
use Rattle.sheet_words.specs.Names.{is_letter, begins_letter}
use Rattle.sheet_words.specs.Lines.{unremarked_from}
use Rattle.std.specs.Prelude.{Some}

abbrev pub NoBlanks : List ℕ → Type 0
NoBlanks [] = Unit
NoBlanks (c ∷ cs) = (is_blank c ≡ false) × NoBlanks cs

-- a word that begins no remark
abbrev pub Plain : List ℕ → Type 0
Plain [] = ⊥
Plain (c ∷ cs) = (eqb c 35 ≡ false) × (is_blank c ≡ false) × NoBlanks cs

-- ---- a word before a blank

up_word : (w t : List ℕ) → NoBlanks w → up_to is_blank (w ++ (32 ∷ t)) ≡ w
unfolding up_to
up_word [] t h = refl
up_word (c ∷ cs) t h = rw h.0 (ap (λ (l : List ℕ). c ∷ l) (up_word cs t h.1))

pub skip-plain : (w t : List ℕ) → Plain w → skip_blanks (w ++ t) ≡ w ++ t
unfolding skip_blanks
skip-plain [] t h = absurd h
skip-plain (c ∷ cs) t h = rw h.1 refl

no-blanks : (w : List ℕ) → Plain w → NoBlanks w
no-blanks [] h = absurd h
no-blanks (c ∷ cs) h = (h.1, h.2)

pub word-is : (w t : List ℕ) → Plain w → word (w ++ (32 ∷ t)) ≡ w
unfolding word
word-is w t h = ap (up_to is_blank) (skip-plain w (32 ∷ t) h) ∙ up_word w t (no-blanks w h)

pub rest-is : (w t : List ℕ) → Plain w → rest (w ++ (32 ∷ t)) ≡ 32 ∷ t
unfolding rest
rest-is w t h = rw (word-is w t h, skip-plain w (32 ∷ t) h) (drop_at w (32 ∷ t) (length w) refl)

pub word_blank : (t : List ℕ) → word (32 ∷ t) ≡ word t
unfolding word skip_blanks
word_blank t = refl

pub rest-blank : (t : List ℕ) → rest (32 ∷ t) ≡ rest t
unfolding rest word skip_blanks
rest-blank t = refl

-- ---- no remark begins in a word

bare-rest : (w t : List ℕ) → NoBlanks w → unremarked_from false (w ++ (32 ∷ t)) ≡ w ++ (32 ∷ unremarked_from true t)
unfolding unremarked_from
bare-rest [] t h = refl
bare-rest (c ∷ cs) t h = rw h.0 (ap (λ (l : List ℕ). c ∷ l) (bare-rest cs t h.1))

pub bare-word : (w t : List ℕ) → Plain w → unremarked_from true (w ++ (32 ∷ t)) ≡ w ++ (32 ∷ unremarked_from true t)
unfolding unremarked_from
bare-word [] t h = absurd h
bare-word (c ∷ cs) t h = rw (h.0, h.1) (ap (λ (l : List ℕ). c ∷ l) (bare-rest cs t h.2))

-- ---- six digits

glyph-is : (x : ℕ) → hex_digit_ascii (x % 10) ≡ 48 + x % 10
glyph-is x = rw (lt-ltb (x % 10) 10 (omega arith)) refl

digit-is : (d : ℕ) → d < 10 → is_digit (48 + d) ≡ true
digit-is d h = rw (le-leb 48 (48 + d) (omega arith), le-leb (48 + d) 57 (omega (arith, h))) refl

digit-plain : (d : ℕ) → (eqb (48 + d) 35 ≡ false) × (is_blank (48 + d) ≡ false)
digit-plain d = (ne_eqb (48 + d) 35 (λ e. omega (arith, e)), rw (ne_eqb (48 + d) 32 (λ e. omega (arith, e)), ne_eqb (48 + d) 9 (λ e. omega (arith, e))) refl)

no-letter : (d : ℕ) → d < 10 → is_letter (48 + d) ≡ false
no-letter d h = rw (lt-leb 65 (48 + d) (omega (arith, h)), lt-leb 97 (48 + d) (omega (arith, h))) refl

unfoldable pub six : (a b c d e f : ℕ) → List ℕ
six a b c d e f = (48 + a) ∷ ((48 + b) ∷ ((48 + c) ∷ ((48 + d) ∷ ((48 + e) ∷ ((48 + f) ∷ [])))))

abbrev pub place : (n : ℕ) → List ℕ
place n = six (n / 10 / 10 / 10 / 10 / 10 % 10) (n / 10 / 10 / 10 / 10 % 10) (n / 10 / 10 / 10 % 10) (n / 10 / 10 % 10) (n / 10 % 10) (n % 10)

pub six-is : (n : ℕ) → last_digits 10 6 n ≡ place n
unfolding six
six-is n =
    rw (glyph-is (n / 10 / 10 / 10 / 10 / 10), glyph-is (n / 10 / 10 / 10 / 10), glyph-is (n / 10 / 10 / 10), glyph-is (n / 10 / 10), glyph-is (n / 10), glyph-is n) refl

plain_of : (a b c d e f : ℕ) → Plain (six a b c d e f)
unfolding six
plain_of a b c d e f = ((digit-plain a).0, (digit-plain a).1, ((digit-plain b).1, ((digit-plain c).1, ((digit-plain d).1, ((digit-plain e).1, ((digit-plain f).1, tt))))))

pub plain-six : (n : ℕ) → Plain (place n)
plain-six n = plain_of (n / 10 / 10 / 10 / 10 / 10 % 10) (n / 10 / 10 / 10 / 10 % 10) (n / 10 / 10 / 10 % 10) (n / 10 / 10 % 10) (n / 10 % 10) (n % 10)

pub six-no-letter : (n : ℕ) → begins_letter (place n) ≡ false
unfolding six
six-no-letter n = no-letter (n / 10 / 10 / 10 / 10 / 10 % 10) (omega arith)

six-digits : (a b c d e f : ℕ) → a < 10 → b < 10 → c < 10 → d < 10 → e < 10 → f < 10 → are_digits (six a b c d e f) ≡ true
unfolding six are_digits
six-digits a b c d e f g h i j k l = rw (digit-is a g, digit-is b h, digit-is c i, digit-is d j, digit-is e k, digit-is f l) refl

six-number : (a b c d e f : ℕ) → numeral_from 0 (six a b c d e f) ≡ 100000 * a + 10000 * b + 1000 * c + 100 * d + 10 * e + f
unfolding six numeral_from
six-number a b c d e f = omega arith

pub reading-six : (n : ℕ) → n ≤ largest → reading_of (place n) ≡ Some n
unfolding reading_of six
reading-six n h =
    let q = six-digits (n / 10 / 10 / 10 / 10 / 10 % 10) (n / 10 / 10 / 10 / 10 % 10) (n / 10 / 10 / 10 % 10) (n / 10 / 10 % 10) (n / 10 % 10) (n % 10) (omega arith) (omega arith) (omega arith) (omega arith) (omega arith) (omega arith) in
    let v = six-number (n / 10 / 10 / 10 / 10 / 10 % 10) (n / 10 / 10 / 10 / 10 % 10) (n / 10 / 10 / 10 % 10) (n / 10 / 10 % 10) (n / 10 % 10) (n % 10) in
    let e : numeral_from 0 (place n) ≡ n = omega (arith, v, h) in
    rw q (ap Some e)
