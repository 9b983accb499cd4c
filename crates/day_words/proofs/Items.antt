-- What a word is: a name, a reading, a decimal number.
use mathlib.Core.Path.{◌≡◌, refl, sym, ap, ◌∙◌}
use mathlib.Core.Bool.{Bool, true, false, cond, ◌&&◌}
use mathlib.Core.List.{List, [], ◌∷◌, ◌++◌}
use Prim.Native.Nat.{ℕ, zero, suc, ◌+◌, ◌-◌, ◌*◌, ◌^◌, ◌≤◌, ◌<◌}
use native.Mathlib.Nat.{pow-succ', pow-le-pow_right, mul-le-mul_right}
use native.Mathlib.Omega.{arith}
use borrow.Author.Tests.{lt-ltb, le-ltb, le-leb, lt-leb, eq-eqb, ne_eqb}
use lib.Dec.{eqb}
use lib.ListN.{length, drop, replicate}
use Rattle.std.specs.Prelude.{Result, Ok, Err, Option, Some, None}
use Rattle.std.specs.Result.{result_ok}
use Rattle.endian.specs.Little.{placed}
use Rattle.ascii.specs.inner.Work.{Wrote}
use Rattle.decimals.specs.declared.Run.{Run}
use Rattle.decimals.specs.declared.Decimal.{Decimal}
use Rattle.decimals.specs.Decimal.{numeral_from, numeral, is_digit, digits_of, decimal_at}
use Rattle.decimals.specs.Claims.{are_digits}
use Rattle.decimals.specs.inner.Work.{capped, run_from}
use Rattle.decimals.proofs.Runs.{digit_lt, capped-low}
use Rattle.day_words.specs.Items.{filled, reading_of, wholly, decimal_of}

-- ---- names

drop-replicate : (k n x : ℕ) → drop k (replicate n x) ≡ replicate (n - k) x
drop-replicate zero n x = let e : n - 0 ≡ n = omega arith in rw e
drop-replicate (suc k) zero x = let e : 0 - suc k ≡ 0 = omega arith in rw e
drop-replicate (suc k) (suc n) x = let e : suc n - suc k ≡ n - k = omega arith in drop-replicate k n x ∙ ap (λ (j : ℕ). replicate j x) (sym e)

pub filled_is : (w a : List ℕ) (r : ℕ) → Wrote (replicate 16 32) 0 w a r → a ≡ filled w
unfolding filled placed
filled_is w a r h =
    let e : 0 + length w ≡ length w = omega arith in
    h.held ∙ ap (λ (k : ℕ). w ++ drop k (replicate 16 32)) e ∙ ap (λ (l : List ℕ). w ++ l) (drop-replicate (length w) 16 32)

-- ---- readings

all_digits : (w : List ℕ) → length (digits_of w) ≡ length w → (digits_of w ≡ w) × (are_digits w ≡ true)
unfolding digits_of are_digits
all_digits [] h = (refl, refl)
all_digits (c ∷ w) h = go (is_digit c) (all_digits w) h
  where
    go : (b : Bool) → (length (digits_of w) ≡ length w → (digits_of w ≡ w) × (are_digits w ≡ true)) → length (cond b (c ∷ digits_of w) []) ≡ suc (length w)
        → (cond b (c ∷ digits_of w) [] ≡ c ∷ w) × ((b && are_digits w) ≡ true)
    go true f h = let p = f (omega arith) in (ap (λ (l : List ℕ). c ∷ l) p.0, p.1)
    go false f h = absurd (omega arith)

not-digits : (w : List ℕ) → (length (digits_of w) ≡ length w → ⊥) → are_digits w ≡ false
unfolding digits_of are_digits
not-digits [] h = absurd (h refl)
not-digits (c ∷ w) h = go (is_digit c) (not-digits w) h
  where
    go : (b : Bool) → ((length (digits_of w) ≡ length w → ⊥) → are_digits w ≡ false) → (length (cond b (c ∷ digits_of w) []) ≡ suc (length w) → ⊥) → (b && are_digits w) ≡ false
    go true f h = f (λ e. h (ap suc e))
    go false f h = refl

-- what n digits stand for is below 10 ^ n
numeral-bound : (w : List ℕ) (a : ℕ) → are_digits w ≡ true → numeral_from a w < (a + 1) * 10 ^ length w
unfolding are_digits numeral_from
numeral-bound [] a h = omega arith
numeral-bound (c ∷ w) a h = go (is_digit c) refl h (numeral-bound w (10 * a + (c - 48)))
  where
    wider : (n : ℕ) → c < 58 → numeral_from (10 * a + (c - 48)) w < (10 * a + (c - 48) + 1) * n → numeral_from (10 * a + (c - 48)) w < (a + 1) * (10 * n)
    wider n h l = let m : (10 * a + (c - 48) + 1) * n ≤ (10 * a + 10) * n = mul-le-mul_right n (omega arith) in let e : (10 * a + 10) * n ≡ (a + 1) * (10 * n) = omega arith in omega arith

    go : (b : Bool) → is_digit c ≡ b → (b && are_digits w) ≡ true → (are_digits w ≡ true → numeral_from (10 * a + (c - 48)) w < (10 * a + (c - 48) + 1) * 10 ^ length w)
        → numeral_from (10 * a + (c - 48)) w < (a + 1) * 10 ^ suc (length w)
    go true e h f = rw (pow-succ' 10 (length w)) (wider (10 ^ length w) (digit_lt c e) (f h))
    go false e h f = absurd (let n : ◌≡◌ {A = ℕ} 0 1 = cc in omega arith)

pub reading-none : (w : List ℕ) → length w ≡ 0 → None ≡ reading_of w
unfolding reading_of
reading-none w h = rw (le-ltb 0 (length w) (omega arith))

pub reading-long : (w : List ℕ) → 6 < length w → None ≡ reading_of w
unfolding reading_of
reading-long w h = rw (lt-ltb 0 (length w) (omega arith), lt-leb (length w) 6 h)

module _ (w : List ℕ) (N : length w ≡ 0 → ⊥) (L : length w ≤ 6) (r : Run) (e : r ≡ run_from w 0 0) where
  end_is : r.end ≡ length (digits_of w)
  unfolding run_from
  end_is = rw e (omega arith)

  value-is : r.value ≡ capped (numeral (digits_of w))
  unfolding run_from
  value-is = rw e

  pub reading-not : (r.end ≡ length w → ⊥) → None ≡ reading_of w
  unfolding reading_of
  reading-not h = rw (lt-ltb 0 (length w) (omega (arith, N)), le-leb (length w) 6 L, not-digits w (λ z. h (end_is ∙ z)))

  module _ (h : r.end ≡ length w) where
    digits_are : (digits_of w ≡ w) × (are_digits w ≡ true)
    digits_are = all_digits w (sym end_is ∙ h)

    below : numeral w < 10 ^ 6
    below =
        let b = numeral-bound w 0 digits_are.1 in
        let p : 10 ^ length w ≤ 10 ^ 6 = pow-le-pow_right {n = 10} (omega arith) {i = length w} {j = 6} L in
        omega arith

    shown : r.value ≡ numeral w
    shown = value-is ∙ ap (λ (l : List ℕ). capped (numeral l)) digits_are.0 ∙ capped-low (numeral w) (omega (arith, below))

    pub reading_fits : r.value < 1000000
    reading_fits = omega (arith, shown, below)

    pub reading-is : Some r.value ≡ reading_of w
    unfolding reading_of
    reading-is = rw (lt-ltb 0 (length w) (omega (arith, N)), le-leb (length w) 6 L, digits_are.1, shown)

-- ---- decimals

whole_part : (r : Result Decimal ℕ) (n : ℕ) (d : Decimal) → Some d ≡ result_ok r → cond (eqb d.end n) (Some d.value) None ≡ wholly r n
whole_part (Ok b) n d h = let e : d ≡ b = cc in rw e
whole_part (Err p) n d h = absurd (let z : ◌≡◌ {A = ℕ} 0 1 = cc in omega arith)

no_part : (r : Result Decimal ℕ) (n : ℕ) → ◌≡◌ {A = Option Decimal} None (result_ok r) → None ≡ wholly r n
no_part (Ok b) n h = absurd (let z : ◌≡◌ {A = ℕ} 0 1 = cc in omega arith)
no_part (Err p) n h = refl

module _ (w : List ℕ) (r : Result Decimal ℕ) (e : r ≡ decimal_at w 0) where
  pub number-not : ◌≡◌ {A = Option Decimal} None (result_ok r) → None ≡ decimal_of w
  unfolding decimal_of
  number-not h = rw (← e) (no_part r (length w) h)

  pub number-part : (d : Decimal) → Some d ≡ result_ok r → (d.end ≡ length w → ⊥) → None ≡ decimal_of w
  unfolding decimal_of
  number-part d h n = rw (← e, ← whole_part r (length w) d h, ne_eqb d.end (length w) n)

  pub number-whole : (d : Decimal) → Some d ≡ result_ok r → d.end ≡ length w → Some d.value ≡ decimal_of w
  unfolding decimal_of
  number-whole d h n = rw (← e, ← whole_part r (length w) d h, eq-eqb d.end (length w) n)
