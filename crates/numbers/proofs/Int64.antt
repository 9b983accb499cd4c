-- An i64 is held as its bits. From 0 to below 2 ^ 63 they are the number itself. So where operands and result lie there, the i64's operations are those of whole numbers.
use mathlib.Core.Path.{◌≡◌, sym, ap, ◌∙◌, subst}
use mathlib.Core.Bool.{Bool, true, false, not, cond, true≢false}
use Prim.Native.Nat.{ℕ, zero, suc, ◌+◌, ◌-◌, ◌*◌, ◌/◌, ◌^◌, ◌≤◌, ◌<◌}
use native.Mathlib.Omega.{arith}
use lib.Dec.{T, leb, leb→le, nleb→lt, leb-zero}
use lib.IntN.{ℤ, pos, negsuc, ◌+ℤ◌, ◌-ℤ◌, ◌*ℤ◌}
use lib.Signed.{le_z, quot_z}
use mir.Syntax.{w64}
use mir.Val.{SFits, to_z, of_z}
use mir.Facts.{to_z-of_z}
use borrow.Author.Tests.{lt-ltb, le-ltb}

pub small-fits : (z : ℤ) (n : ℕ) → z ≡ pos n → n < 2 ^ 63 → SFits w64 z
small-fits z n e h = subst (SFits w64) (sym e) (record { sfits = h })

pub reads : (n : ℕ) → n < 2 ^ 63 → to_z w64 n ≡ pos n
reads n h = to_z-of_z {w = w64} {z = pos n} (record { sfits = h })

-- ---- the operations on bits a and b, which are the numbers m and n
abbrev pub product : ℕ → ℕ → ℤ
product a b = to_z w64 a *ℤ to_z w64 b

abbrev pub total : ℕ → ℕ → ℤ
total a b = to_z w64 a +ℤ to_z w64 b

abbrev pub difference : ℕ → ℕ → ℤ
difference a b = to_z w64 a -ℤ to_z w64 b

abbrev pub quotient : ℕ → ℕ → ℤ
quotient a b = quot_z (to_z w64 a) (to_z w64 b)

minus-ge : (m n : ℕ) → n ≤ m → pos m -ℤ pos n ≡ pos (m - n)
minus-ge m zero h = ap pos (omega arith)
minus-ge m (suc n) h = ap (λ (t : Bool). cond t (negsuc (suc n - suc m)) (pos (m - suc n))) (le-ltb m (suc n) h)

minus-lt : (m n : ℕ) → m < n → pos m -ℤ pos n ≡ negsuc (n - suc m)
minus-lt m zero h = absurd (omega arith)
minus-lt m (suc n) h = ap (λ (t : Bool). cond t (negsuc (suc n - suc m)) (pos (m - suc n))) (lt-ltb m (suc n) h)

module _ (a b m n : ℕ) (e : a ≡ m) (f : b ≡ n) (h : m < 2 ^ 63) (l : n < 2 ^ 63) where
  both : (g : ℤ → ℤ → ℤ) → g (to_z w64 a) (to_z w64 b) ≡ g (pos m) (pos n)
  both g =
      let x : to_z w64 a ≡ pos m = ap (to_z w64) e ∙ reads m h in
      let y : to_z w64 b ≡ pos n = ap (to_z w64) f ∙ reads n l in
      ap (λ (z : ℤ). g z (to_z w64 b)) x ∙ ap (g (pos m)) y

  pub product_is : product a b ≡ pos (m * n)
  product_is = both (λ x y. x *ℤ y)

  pub total_is : total a b ≡ pos (m + n)
  total_is = both (λ x y. x +ℤ y)

  pub quotient_is : quotient a b ≡ pos (m / n)
  quotient_is = both (λ x y. quot_z x y)

  pub difference-is : n ≤ m → difference a b ≡ pos (m - n)
  difference-is g = both (λ x y. x -ℤ y) ∙ minus-ge m n g

  below-zero : m < n → difference a b ≡ negsuc (n - suc m)
  below-zero g = both (λ x y. x -ℤ y) ∙ minus-lt m n g

  -- ---- the sign of a difference says which number is the larger
  by_order : (P : Type 0) → (n ≤ m → P) → (m < n → P) → P
  by_order P p q = go (leb n m) (λ t. p (leb→le n m t)) (λ t. q (nleb→lt n m t))
    where
      go : (t : Bool) → (T t → P) → (T (not t) → P) → P
      go true p q = p tt
      go false p q = q tt

  pub difference-fits : SFits w64 (difference a b)
  difference-fits =
      by_order (SFits w64 (difference a b))
      (λ g. small-fits (difference a b) (m - n) (difference-is g) (omega arith))
      (λ g. subst (SFits w64) (sym (below-zero g)) (record { sfits = omega arith }))

  abbrev not_negative : Bool
  not_negative = le_z (pos 0) (to_z w64 (of_z w64 (difference a b)))

  tested : (z : ℤ) → difference a b ≡ z → not_negative ≡ le_z (pos 0) z
  tested z d = ap (le_z (pos 0)) (to_z-of_z difference-fits ∙ d)

  pub says-ge : not_negative ≡ true → n ≤ m
  says-ge t = by_order (n ≤ m) (λ g. g) (λ g. absurd (true≢false (sym t ∙ tested (negsuc (n - suc m)) (below-zero g))))

  pub says-lt : not_negative ≡ false → m < n
  says-lt t = by_order (m < n) (λ g. absurd (true≢false (sym (tested (pos (m - n)) (difference-is g) ∙ leb-zero (m - n)) ∙ t))) (λ g. g)
