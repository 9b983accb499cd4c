-- The tables before the second record, and the constraints' marks at the end.
use mathlib.Core.Path.{◌≡◌, refl, sym}
use mathlib.Core.Logic.{⊎_elim}
use mathlib.Core.Bool.{Bool, true, false}
use mathlib.Core.List.{List, append-nil}
use Prim.Native.Nat.{ℕ, zero, suc, ◌+◌, ◌≤◌, ◌<◌}
use native.Mathlib.Omega.{arith}
use lib.ListN.{replicate, length, drop_of_length-le}
use Rattle.numbers.proofs.Cases.{lt-or-ge}
use Rattle.workspace.specs.Tables.{cleared}
use Rattle.workspace.proofs.Tests.{and-true}
use Rattle.problem_read.specs.Input.{all_below}
use Rattle.problem_read.specs.inner.Spots.{no_marks}
use Rattle.problem_read.proofs.Bytes.{and-false}

cleared-all : (k : ℕ) (d : List ℕ) → length d ≡ k → cleared 0 k d ≡ replicate k 0
unfolding cleared
cleared-all k d e = let h : length d ≤ k = omega arith in rw (drop_of_length-le d h, append-nil)

pub no-marks : (d : List ℕ) → length d ≡ 592 → cleared 0 592 d ≡ no_marks
unfolding no_marks
no-marks d e = cleared-all 592 d e

-- ---- what holds of every number below m

pub all_none : (f : ℕ → Bool) → all_below 0 f ≡ true
unfolding all_below
all_none f = refl

pub all_more : (i : ℕ) (f : ℕ → Bool) → all_below i f ≡ true → f i ≡ true → all_below (i + 1) f ≡ true
unfolding all_below
all_more i f h e = let z : i + 1 ≡ suc i = omega arith in rw z (rw (h, e))

-- not of one of them
pub all-stop : (m i : ℕ) (f : ℕ → Bool) → i < m → f i ≡ false → false ≡ all_below m f
unfolding all_below
all-stop zero i f h e = absurd (omega arith)
all-stop (suc m) i f h e =
    ⊎_elim (λ (k : i < m). rw (← all-stop m i f k e))
    (λ (k : m ≤ i). let z : i ≡ m = omega arith in let g : f m ≡ false = rw (← z) e in rw g (sym (and-false (all_below m f))))
    (lt-or-ge i m)

pub all_end : (m i : ℕ) (f : ℕ → Bool) → i ≡ m → all_below i f ≡ true → true ≡ all_below m f
all_end m i f e h = rw (← e) (sym h)

pub all_same : (m : ℕ) (f g : ℕ → Bool) → ((i : ℕ) → i < m → f i ≡ g i) → all_below m f ≡ all_below m g
unfolding all_below
all_same zero f g h = refl
all_same (suc m) f g h = rw (all_same m f g (λ i k. h i (omega arith)), h m (omega arith))

-- and of each of them
pub all-at : (m : ℕ) (f : ℕ → Bool) → all_below m f ≡ true → (i : ℕ) → i < m → f i ≡ true
unfolding all_below
all-at zero f h i k = absurd (omega arith)
all-at (suc m) f h i k =
    let b = and-true (all_below m f) (f m) h in
    ⊎_elim (λ (l : i < m). all-at m f b.0 i l) (λ (l : m ≤ i). let z : i ≡ m = omega arith in rw z b.1) (lt-or-ge i m)
