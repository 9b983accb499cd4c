-- What was written with three decimals is read back.
use mathlib.Core.Path.{◌≡◌, refl, sym, ap, ◌∙◌}
use mathlib.Core.Logic.{⊎_elim}
use mathlib.Core.Bool.{Bool, true, false, ◌&&◌}
use mathlib.Core.List.{List, [], ◌∷◌, ◌++◌, append_assoc}
use Prim.Native.Nat.{ℕ, zero, suc, ◌+◌, ◌-◌, ◌*◌, ◌/◌, ◌%◌, ◌^◌, ◌≤◌, ◌<◌}
use native.Mathlib.Nat.{mul-le-mul_right}
use native.Mathlib.Omega.{arith}
use borrow.Author.Tests.{lt-ltb, le-ltb, le-leb}
use lib.Dec.{ltb}
use lib.ListN.{length, length-append}
use lib.Ieee.{fin, up, down}
use lib.Ieee.Fits.{down_pos}
use Rattle.io.specs.Digits.{hex_digit_ascii, last_digits}
use Rattle.numbers.specs.Numbers.{tab}
use Rattle.numbers.proofs.Cases.{lt-or-ge}
use Rattle.ascii.specs.Text.{ascii, decimal_from, decimal_text}
use Rattle.ascii.proofs.Numerals.{glyph-is}
use Rattle.decimals.specs.Decimal.{number, numeral_from, numeral, minus_text, is_digit, value_of, within, decimal_at}
use Rattle.decimals.specs.Claims.{are_digits, HalfAway}
use Rattle.decimals.proofs.Runs.{numeral-append, in-limits}
use Rattle.decimals.proofs.Grammar.{reads-point}
use Rattle.decimals.specs.Fixed.{thousandths, thousandths_text, signed_text, small_text, fixed_text}
use Rattle.decimals.specs.Printed.{ReadsBack, ReadsWritten, ComesBack}
use Rattle.decimals.proofs.Nearby.{is-nearest}

-- ---- digits of numbers
digit-back : (a d : ℕ) → d < 10 → 10 * a + (hex_digit_ascii d - 48) ≡ 10 * a + d
digit-back a d h = rw (glyph-is d h) (omega arith)

numeral-last : (cs : List ℕ) (a d : ℕ) → d < 10 → numeral_from a (cs ++ (hex_digit_ascii d ∷ [])) ≡ 10 * numeral_from a cs + d
unfolding numeral_from
numeral-last cs a d h = numeral-append cs (hex_digit_ascii d ∷ []) a ∙ digit-back (numeral_from a cs) d h

from-few : (left k : ℕ) → k < 10 → decimal_from (suc left) k ≡ [] ++ (hex_digit_ascii k ∷ [])
unfolding decimal_from
from-few left k h = rw (lt-ltb k 10 h)

from-many : (left k : ℕ) → 10 ≤ k → decimal_from (suc left) k ≡ decimal_from left (k / 10) ++ (hex_digit_ascii (k % 10) ∷ [])
unfolding decimal_from
from-many left k h = rw (le-ltb k 10 h)

none_after : (a : ℕ) → numeral_from a [] ≡ a
unfolding numeral_from
none_after a = refl

decimal-back : (left k : ℕ) → k < left → numeral (decimal_from left k) ≡ k
decimal-back zero k h = absurd (omega arith)
decimal-back (suc left) k h =
    ⊎_elim (λ (s : k < 10). ap numeral (from-few left k s) ∙ numeral-last [] 0 k s ∙ ap (λ (x : ℕ). 10 * x + k) (none_after 0) ∙ omega arith)
    (λ (s : 10 ≤ k). ap numeral (from-many left k s)
    ∙ numeral-last (decimal_from left (k / 10)) 0 (k % 10) (omega arith)
    ∙ ap (λ (x : ℕ). 10 * x + k % 10) (decimal-back left (k / 10) (omega arith))
    ∙ omega arith)
    (lt-or-ge k 10)

numeral-decimal : (k : ℕ) → numeral (decimal_text k) ≡ k
unfolding decimal_text
numeral-decimal k = decimal-back (suc k) k (omega arith)

-- the last three digits, after others
three_back : (a t : ℕ) → numeral_from a (last_digits 10 3 t) ≡ 1000 * a + t % 1000
three_back a t =
    numeral-last (last_digits 10 2 (t / 10)) a (t % 10) (omega arith)
    ∙ ap (λ (x : ℕ). 10 * x + t % 10) (numeral-last (last_digits 10 1 (t / 10 / 10)) a (t / 10 % 10) (omega arith) ∙ ap (λ (x : ℕ). 10 * x + t / 10 % 10) (numeral-last [] a (t / 10 / 10 % 10) (omega arith)))
    ∙ sum (numeral_from a []) a t (none_after a)
  where
    sum : (b a t : ℕ) → b ≡ a → 10 * (10 * (10 * b + t / 10 / 10 % 10) + t / 10 % 10) + t % 10 ≡ 1000 * a + t % 1000
    sum b a t e = omega arith

pub reads-back : ReadsBack
reads-back t =
    numeral-append (decimal_text (t / 1000)) (last_digits 10 3 t) 0
    ∙ ap (λ (x : ℕ). numeral_from x (last_digits 10 3 t)) (numeral-decimal (t / 1000))
    ∙ three_back (t / 1000) t
    ∙ omega arith

-- ---- texts of digits
digit-code : (d : ℕ) → d < 10 → is_digit (hex_digit_ascii d) ≡ true
digit-code d h = rw (glyph-is d h, le-leb 48 (48 + d) (omega arith), le-leb (48 + d) 57 (omega arith))

digits-then : (cs ds : List ℕ) → are_digits cs ≡ true → are_digits ds ≡ true → are_digits (cs ++ ds) ≡ true
unfolding are_digits
digits-then [] ds p q = q
digits-then (c ∷ cs) ds p q = go (is_digit c) p (λ (h : are_digits cs ≡ true). digits-then cs ds h q)
  where
    go : (b : Bool) → b && are_digits cs ≡ true → (are_digits cs ≡ true → are_digits (cs ++ ds) ≡ true) → b && are_digits (cs ++ ds) ≡ true
    go true p f = f p
    go false p f = p

one-digit : (d : ℕ) → d < 10 → are_digits (hex_digit_ascii d ∷ []) ≡ true
unfolding are_digits
one-digit d h = rw (digit-code d h)

digits_last : (cs : List ℕ) (d : ℕ) → are_digits cs ≡ true → d < 10 → are_digits (cs ++ (hex_digit_ascii d ∷ [])) ≡ true
digits_last cs d p h = digits-then cs (hex_digit_ascii d ∷ []) p (one-digit d h)

no-digits : are_digits [] ≡ true
unfolding are_digits
no-digits = refl

decimal-digits : (left k : ℕ) → k < left → are_digits (decimal_from left k) ≡ true
decimal-digits zero k h = absurd (omega arith)
decimal-digits (suc left) k h =
    ⊎_elim (λ (s : k < 10). ap are_digits (from-few left k s) ∙ digits_last [] k no-digits s)
    (λ (s : 10 ≤ k). ap are_digits (from-many left k s) ∙ digits_last (decimal_from left (k / 10)) (k % 10) (decimal-digits left (k / 10) (omega arith)) (omega arith))
    (lt-or-ge k 10)

decimal-some : (k : ℕ) → 0 < length (decimal_text k)
unfolding decimal_text
decimal-some k =
    ⊎_elim (λ (s : k < 10). rw (from-few k k s) (omega arith))
    (λ (s : 10 ≤ k). rw (from-many k k s) (let l = length-append (decimal_from k (k / 10)) (hex_digit_ascii (k % 10) ∷ []) in omega arith))
    (lt-or-ge k 10)

all-decimal : (k : ℕ) → are_digits (decimal_text k) ≡ true
unfolding decimal_text
all-decimal k = decimal-digits (suc k) k (omega arith)

all_three : (t : ℕ) → are_digits (last_digits 10 3 t) ≡ true
all_three t = digits_last (last_digits 10 2 (t / 10)) (t % 10) (digits_last (last_digits 10 1 (t / 10 / 10)) (t / 10 % 10) (digits_last [] (t / 10 / 10 % 10) no-digits (omega arith)) (omega arith)) (omega arith)

-- ---- what was written
abbrev shown : ℕ → List ℕ
shown t = decimal_text (t / 1000) ++ (46 ∷ last_digits 10 3 t)

signed_is : (s : Bool) (t : ℕ) → signed_text s t ≡ minus_text (s && ltb 0 t) ++ shown t
unfolding signed_text thousandths_text ascii tab
signed_is s t = refl

pub reads-written : ReadsWritten
reads-written front rest s t q =
    let m = minus_text (s && ltb 0 t) in
    let w = decimal_text (t / 1000) in
    let p = last_digits 10 3 t in
    let text : signed_text s t ++ rest ≡ m ++ (w ++ (46 ∷ (p ++ rest))) = ap (λ (l : List ℕ). l ++ rest) (signed_is s t) ∙ append_assoc m (shown t) rest ∙ ap (λ (l : List ℕ). m ++ l) (append_assoc w (46 ∷ p) rest) in
    let long : length front + length m + length w + 1 + length p ≡ length front + length (signed_text s t) =
    let a = length-append m (shown t) in let b = length-append w (46 ∷ p) in let c = ap length (signed_is s t) in omega arith in
    ap (λ (l : List ℕ). decimal_at (front ++ l) (length front)) text
    ∙ reads-point front w p rest (s && ltb 0 t) (all-decimal (t / 1000)) (decimal-some (t / 1000)) (all_three t) (omega arith) q
    ∙ ap (λ (n : ℕ). within (s && ltb 0 t) n 3 (length front) (length front + length m + length w + 1 + length p)) (reads-back t)
    ∙ ap (within (s && ltb 0 t) t 3 (length front)) long

-- below 10 ^ 12 in size, so far below 2 ^ 53
small : (a d t : ℕ) → 0 < d → t < 10 ^ 15 → HalfAway (1000 * a) d t → a < 2 ^ 53 * d
small a d t D h n = let m : t * d ≤ 10 ^ 15 * d = mul-le-mul_right d (omega arith) in omega (arith, n.below)

pub comes_back : ComesBack
unfolding fixed_text small_text
comes_back s m e front rest h z q =
    let t = thousandths (fin s m e) in
    let n = is-nearest s m e in
    let text : fixed_text (fin s m e) ≡ signed_text s t = rw (lt-ltb (m * up e) (2 ^ 53 * down e) (small (m * up e) (down e) t (down_pos e) h n), z) in
    record {
      t = t;
      near = n;
      read =
          ap (λ (l : List ℕ). decimal_at (front ++ (l ++ rest)) (length front)) text
          ∙ reads-written front rest s t q
          ∙ sym (in-limits (s && ltb 0 t) t 3 (length front) (length front + length (signed_text s t)) (value_of (s && ltb 0 t) t 3) h (omega arith) refl)
          ∙ ap (λ (l : List ℕ). number (value_of (s && ltb 0 t) t 3) (length front + length l)) (sym text);
    }
