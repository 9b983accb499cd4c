-- The test of a band's width, and of all of them in turn.
use mathlib.Core.Path.{◌≡◌, refl}
use mathlib.Core.Bool.{Bool, true, false, ◌&&◌}
use mathlib.Core.List.{List}
use mathlib.Core.Logic.{⊎_elim}
use Prim.Native.Nat.{ℕ, zero, suc, ◌+◌, ◌≤◌, ◌<◌}
use native.Mathlib.Numerals.{add-one}
use native.Mathlib.Omega.{arith}
use lib.Ieee.{Float, inf, binary64, of_bits, div}
use Rattle.numbers.specs.Numbers.{at, nth}
use Rattle.numbers.proofs.Cases.{eq-or-ne, lt-or-ge}
use Rattle.step_rows.specs.Problem.{constraint_of}
use Rattle.step_call.specs.Promise.{is_width, are_widths}

-- ---- one

-- infinity, as the code writes it
abbrev pub above : Float
above = div binary64 (of_bits binary64 0x3ff0_0000_0000_0000) (of_bits binary64 0)

pub lit-infinity : above ≡ inf false
unfolding div of_bits
lit-infinity = refl

-- ---- in turn

pub widths-none : (ks : List ℕ) (ws : List Float) → are_widths ks ws 0 ≡ true
unfolding are_widths
widths-none ks ws = refl

pub widths-more : (ks : List ℕ) (ws : List Float) (j : ℕ) → are_widths ks ws j ≡ true → is_width (constraint_of (nth ks j) (at ws j)) ≡ true → are_widths ks ws (j + 1) ≡ true
unfolding are_widths
widths-more ks ws j h e = rw (add-one, h, e)

pub widths-bad : (ks : List ℕ) (ws : List Float) (j m : ℕ) → j < m → is_width (constraint_of (nth ks j) (at ws j)) ≡ false → are_widths ks ws m ≡ false
unfolding are_widths
widths-bad ks ws j zero h e = absurd (omega arith)
widths-bad ks ws j (suc m) h e =
    ⊎_elim (λ (q : j ≡ m). rw (← q, e) (and_none (are_widths ks ws j)))
    (λ (q : j ≡ m → ⊥). rw (widths-bad ks ws j m (before q) e))
    (eq-or-ne j m)
  where
    and_none : (a : Bool) → (a && false) ≡ false
    and_none true = refl
    and_none false = refl

    before : (j ≡ m → ⊥) → j < m
    before q = ⊎_elim (λ (a : j < m). a) (λ (a : m ≤ j). absurd (q (omega arith))) (lt-or-ge j m)
