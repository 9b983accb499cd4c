-- Two numbers compared, by cases.
use mathlib.Core.Path.{◌≡◌}
use mathlib.Core.Logic.{⊎_elim, ◌⊎◌, inl, inr}
use Prim.Native.Nat.{ℕ, zero, suc, ◌≤◌, ◌<◌, zero-le, suc-le-suc}
use native.Mathlib.Nat.{le_of_suc-le-suc, eq-or-lt_of_le}
use native.Mathlib.Omega.{arith}

pub lt-or-ge : (i t : ℕ) → (i < t) ⊎ (t ≤ i)
lt-or-ge i zero = inr zero-le
lt-or-ge zero (suc t) = inl (suc-le-suc zero-le)
lt-or-ge (suc i) (suc t) = ⊎_elim (λ h. inl (suc-le-suc h)) (λ h. inr (suc-le-suc h)) (lt-or-ge i t)

pub eq-or-ne : (i t : ℕ) → (i ≡ t) ⊎ (i ≡ t → ⊥)
eq-or-ne i t =
    ⊎_elim (λ (a : i < t). inr (λ e. omega arith))
    (λ (a : t ≤ i). ⊎_elim (λ (b : t < i). inr (λ e. omega arith)) (λ (b : i ≤ t). inl (omega arith)) (lt-or-ge t i))
    (lt-or-ge i t)

-- the last of the first c + 1, or one before it
pub last-or-before : (c j : ℕ) → j < suc c → (j ≡ c) ⊎ (j < c)
last-or-before c j h = eq-or-lt_of_le (le_of_suc-le-suc h)
