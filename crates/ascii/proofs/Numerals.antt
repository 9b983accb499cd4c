-- Numbers as text, by the digits that `io` makes of them.
use mathlib.Core.Path.{◌≡◌, sym, ap, ◌∙◌, subst}
use mathlib.Core.Logic.{⊎_elim}
use mathlib.Core.List.{List, [], ◌∷◌, ◌++◌}
use Prim.Native.Nat.{ℕ, zero, suc, ◌+◌, ◌-◌, ◌*◌, ◌/◌, ◌%◌, ◌^◌, ◌≤◌, ◌<◌}
use native.Mathlib.Nat.{pow-succ', one-le-pow, pow-le-pow_right}
use native.Mathlib.Omega.{arith}
use borrow.Author.Tests.{lt-ltb, le-ltb}
use Rattle.io.specs.Digits.{hex_digit_ascii, last_digits, IsDigitCount}
use Rattle.numbers.proofs.Cases.{lt-or-ge}
use lib.ListN.{length, length-append}
use Rattle.ascii.specs.Text.{decimal_from, decimal_text}

-- a digit's code
pub glyph-is : (d : ℕ) → d < 10 → hex_digit_ascii d ≡ 48 + d
glyph-is d h = rw (lt-ltb _ _ h)

-- ---- decimal

-- however many digits are allowed for, if they are enough
enough-left : (a b k : ℕ) → k < a → k < b → decimal_from a k ≡ decimal_from b k
unfolding decimal_from
enough-left zero b k h l = absurd (omega arith)
enough-left (suc a) zero k h l = absurd (omega arith)
enough-left (suc a) (suc b) k h l =
    ⊎_elim (λ (s : k < 10). simp (lt-ltb _ _ s))
    (λ (s : 10 ≤ k). rw (le-ltb _ _ s) (ap (λ (t : List ℕ). t ++ (hex_digit_ascii (k % 10) ∷ [])) (enough-left a b (k / 10) (omega arith) (omega arith))))
    (lt-or-ge k 10)

decimal-one : (k : ℕ) → k < 10 → decimal_text k ≡ hex_digit_ascii k ∷ []
unfolding decimal_text decimal_from
decimal-one k h = rw (lt-ltb _ _ h)

decimal-more : (k : ℕ) → 10 ≤ k → decimal_text k ≡ decimal_text (k / 10) ++ (hex_digit_ascii (k % 10) ∷ [])
unfolding decimal_text decimal_from
decimal-more k h =
    rw (le-ltb _ _ h) (ap (λ (t : List ℕ). t ++ (hex_digit_ascii (k % 10) ∷ [])) (enough-left k (suc (k / 10)) (k / 10) (omega arith) (omega arith)))

-- the fewest digits that hold k
pub decimal-is : (r k : ℕ) → IsDigitCount 10 1 k r → last_digits 10 r k ≡ decimal_text k
decimal-is zero k f = absurd (omega arith)
decimal-is (suc zero) k f = let h : k < 10 = omega (arith, f.1) in let e : k % 10 ≡ k = omega arith in rw e (sym (decimal-one k h))
decimal-is (suc (suc j)) k f =
    let p : 10 ^ suc j ≡ 10 * 10 ^ j = pow-succ' 10 j in
    let q : 10 ^ suc (suc j) ≡ 10 * 10 ^ suc j = pow-succ' 10 (suc j) in
    let e : suc (suc j) - 1 ≡ suc j = omega arith in
    let l : 10 ^ suc j ≤ k = subst (λ (x : ℕ). 10 ^ x ≤ k) e (f.2 (omega arith)) in
    let o : 0 < 10 ^ j = one-le-pow j 10 (omega arith) in
    let h : 10 ≤ k = omega arith in
    let g : IsDigitCount 10 1 (k / 10) (suc j) = (omega arith, omega (arith, f.1), λ s. let z : suc j - 1 ≡ j = omega arith in rw z (omega arith)) in
    ap (λ (t : List ℕ). t ++ (hex_digit_ascii (k % 10) ∷ [])) (decimal-is (suc j) (k / 10) g) ∙ sym (decimal-more k h)

-- a u64 takes at most 20
pub decimal-places : (r k : ℕ) → IsDigitCount 10 1 k r → k < 2 ^ 64 → r ≤ 20
decimal-places r k f h =
    ⊎_elim (λ (s : r < 21). omega arith)
    (λ (s : 21 ≤ r). let p : 10 ^ 20 ≤ 10 ^ (r - 1) = pow-le-pow_right {n = 10} (omega arith) {i = 20} {j = r - 1} (omega arith) in let q = f.2 (omega arith) in absurd (omega (arith, p, q)))
    (lt-or-ge r 21)

-- a number below 10 ^ n takes at most n digits
pub decimal-short : (n k : ℕ) → k < 10 ^ suc n → length (decimal_text k) ≤ suc n
decimal-short zero k h = rw (decimal-one k h) (omega arith)
decimal-short (suc n) k h =
    ⊎_elim (λ (s : k < 10). rw (decimal-one k s) (omega arith))
    (λ (s : 10 ≤ k). let p : 10 ^ suc (suc n) ≡ 10 * 10 ^ suc n = pow-succ' 10 (suc n) in
    let i = decimal-short n (k / 10) (omega arith) in
    let a = length-append (decimal_text (k / 10)) (hex_digit_ascii (k % 10) ∷ []) in
    rw (decimal-more k s) (omega arith))
    (lt-or-ge k 10)
