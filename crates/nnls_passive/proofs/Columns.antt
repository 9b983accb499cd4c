-- The loop that copies the listed columns side by side.
use mathlib.Core.Path.{◌≡◌, refl, sym, ap, ◌∙◌}
use mathlib.Core.List.{List}
use mathlib.Core.Logic.{⊎_elim}
use Prim.Native.Nat.{ℕ, ◌+◌, ◌*◌, ◌≤◌, ◌<◌}
use native.Mathlib.Omega.{arith}
use lib.Ieee.{Float}
use Rattle.numbers.specs.Numbers.{at, nth, entry, grid}
use Rattle.numbers.proofs.Cases.{lt-or-ge}
use Rattle.workspace.specs.Readings.{mat, Block}
use Rattle.workspace.proofs.Readings.{mat-is, entry-mat}
use Rattle.nnls_passive.specs.inner.Work.{Collected}

pub collected-none : (m : ℕ) (l : List ℕ) (w : List Float) → Collected m 0 l w w
collected-none m l w = record { copied = λ t i h. absurd (omega arith); front = λ x h. refl }

pub collected-more : (m t : ℕ) (l : List ℕ) (w₀ w w' : List Float) → m ≤ 18 → nth l (132 + t) < 66
    → Block (1848 + t * 18) m (λ i. at w (nth l (132 + t) * 18 + i)) w w' → Collected m t l w₀ w → Collected m (t + 1) l w₀ w'
collected-more m t l w₀ w w' m18 j66 r h = record {
  copied = λ q i hq hi.
      ⊎_elim
      (λ (a : q < t). r.before (1848 + q * 18 + i) (omega arith) ∙ h.copied q i a hi)
      (λ (a : t ≤ q).
      let z : q ≡ t = omega arith in
      rw z (r.inside i hi ∙ h.front (nth l (132 + t) * 18 + i) (omega arith)))
      (lt-or-ge q t);
  front = λ x a. r.before x (omega arith) ∙ h.front x a;
}

-- they are then the columns that js names of the matrix at 0
pub collected-mat : (m n c : ℕ) (l js : List ℕ) (w w' : List Float) → ((t : ℕ) → t < c → nth js t < n) → ((t : ℕ) → t < c → nth l (132 + t) ≡ nth js t)
    → Collected m c l w w' → mat 1848 m c w' ≡ grid m c (λ i t. entry n (mat 0 m n w) i (nth js t))
collected-mat m n c l js w w' b s h =
    mat-is 1848 m c w' _
    (λ i t hi ht.
    h.copied t i ht hi ∙ rw (s t ht) (ap (λ (x : ℕ). at w x) (omega arith) ∙ sym (entry-mat 0 m n w i (nth js t) hi (b t ht))))
