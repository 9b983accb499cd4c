-- A move: one column, the loop, and the state afterwards.
use mathlib.Core.Path.{◌≡◌, refl, ap, ◌∙◌}
use mathlib.Core.Bool.{true, false}
use mathlib.Core.List.{List}
use mathlib.Core.Logic.{⊎_elim}
use Prim.Native.Nat.{ℕ, ◌+◌, ◌≤◌, ◌<◌}
use native.Mathlib.Nat.{zero-add}
use native.Mathlib.Omega.{arith}
use lib.ListN.{length, set}
use lib.Seq.{get_or-set_same, get_or-set_other}
use lib.Ieee.{Float, nan}
use borrow.Author.Tests.{eq-eqb, ne_eqb}
use Rattle.numbers.specs.Numbers.{+0, at, nth, ◌⊕◌, ◌⊖◌, ◌⊗◌}
use Rattle.workspace.specs.Readings.{vec, nums}
use Rattle.workspace.proofs.Readings.{vec-is, at-vec, nums-is, nth-front}
use Rattle.numbers.proofs.Cases.{lt-or-ge}
use Rattle.nnls.specs.Nnls.{up_to0, next_x, next_mark, move_x, move_p, step_to}
use Rattle.nnls.specs.inner.State.{read, put}
use Rattle.nnls.specs.inner.Work.{Moved}
use Rattle.nnls.proofs.States.{states, same-a, same-b, same-vec, same-marks}

-- ---- one column

module _ (q j : ℕ) (r x z : Float) (mark : ℕ) where
  pub next-out : mark ≡ 0 → (x ≡ next_x q j r x z mark) × (mark ≡ next_mark q j r x z mark)
  unfolding next_x next_mark
  next-out h = (rw (eq-eqb mark 0 h), rw (eq-eqb mark 0 h))

  pub next-blocks : (mark ≡ 0 → ⊥) → j ≡ q → (+0 ≡ next_x q j r x z mark) × (0 ≡ next_mark q j r x z mark)
  unfolding next_x next_mark
  next-blocks h k = (rw (ne_eqb mark 0 h, eq-eqb j q k), rw (ne_eqb mark 0 h, eq-eqb j q k))

  pub next_down : (mark ≡ 0 → ⊥) → (j ≡ q → ⊥) → up_to0 (x ⊕ r ⊗ (z ⊖ x)) ≡ true → (+0 ≡ next_x q j r x z mark) × (0 ≡ next_mark q j r x z mark)
  unfolding next_x next_mark step_to
  next_down h k d = (rw (ne_eqb mark 0 h, ne_eqb j q k, d), rw (ne_eqb mark 0 h, ne_eqb j q k, d))

  pub next-stays : (mark ≡ 0 → ⊥) → (j ≡ q → ⊥) → up_to0 (x ⊕ r ⊗ (z ⊖ x)) ≡ false → (x ⊕ r ⊗ (z ⊖ x) ≡ next_x q j r x z mark) × (mark ≡ next_mark q j r x z mark)
  unfolding next_x next_mark step_to
  next-stays h k d = (rw (ne_eqb mark 0 h, ne_eqb j q k, d), rw (ne_eqb mark 0 h, ne_eqb j q k, d))

-- ---- the loop: after j turns

pub record Moving (n q : ℕ) (r : Float) (w₀ w : List Float) (l₀ l : List ℕ) (j : ℕ) : Type 0 where
  pub values : (t : ℕ) → t < j → at w (1206 + t) ≡ next_x q t r (at w₀ (1206 + t)) (at w₀ (1272 + t)) (nth l₀ t)
  pub marks : (t : ℕ) → t < j → nth l t ≡ next_mark q t r (at w₀ (1206 + t)) (at w₀ (1272 + t)) (nth l₀ t)
  pub before : (x : ℕ) → x < 1206 → at w x ≡ at w₀ x
  pub after : (x : ℕ) → 1206 + j ≤ x → at w x ≡ at w₀ x
  pub others : (x : ℕ) → j ≤ x → nth l x ≡ nth l₀ x

pub moving-none : (n q : ℕ) (r : Float) (w : List Float) (l : List ℕ) → Moving n q r w w l l 0
moving-none n q r w l = record { values = λ t h. absurd (omega arith); marks = λ t h. absurd (omega arith); before = λ x h. refl; after = λ x h. refl; others = λ x h. refl }

pub moving-more : (n q : ℕ) (r : Float) (w₀ w : List Float) (l₀ l : List ℕ) (j : ℕ) (v : Float) (k : ℕ) → n ≤ 66 → j < n → 3036 ≤ length w → 264 ≤ length l
    → v ≡ next_x q j r (at w (1206 + j)) (at w (1272 + j)) (nth l j) → k ≡ next_mark q j r (at w (1206 + j)) (at w (1272 + j)) (nth l j)
    → Moving n q r w₀ w l₀ l j → Moving n q r w₀ (set w (1206 + j) v) l₀ (set l j k) (j + 1)
moving-more n q r w₀ w l₀ l j v k n66 jn hw hl ev ek h =
    let ex : at w (1206 + j) ≡ at w₀ (1206 + j) = h.after (1206 + j) (omega arith) in
    let ez : at w (1272 + j) ≡ at w₀ (1272 + j) = h.after (1272 + j) (omega arith) in
    let ep : nth l j ≡ nth l₀ j = h.others j (omega arith) in
    record {
      values = λ t a.
          ⊎_elim (λ (b : t < j). get_or-set_other w (1206 + j) (1206 + t) v nan (λ e. omega arith) ∙ h.values t b)
          (λ (b : j ≤ t). let z : t ≡ j = omega arith in rw z (get_or-set_same w (1206 + j) v nan (omega arith) ∙ ev ∙ rw (ex, ez, ep))) (lt-or-ge t j);
      marks = λ t a.
          ⊎_elim (λ (b : t < j). get_or-set_other l j t k 0 (λ e. omega arith) ∙ h.marks t b)
          (λ (b : j ≤ t). let z : t ≡ j = omega arith in rw z (get_or-set_same l j k 0 (omega arith) ∙ ek ∙ rw (ex, ez, ep))) (lt-or-ge t j);
      before = λ x a. get_or-set_other w (1206 + j) x v nan (λ e. omega arith) ∙ h.before x a;
      after = λ x a. get_or-set_other w (1206 + j) x v nan (λ e. omega arith) ∙ h.after x (omega arith);
      others = λ x a. get_or-set_other l j x k 0 (λ e. omega arith) ∙ h.others x (omega arith);
    }

pub moving-done : (n q : ℕ) (r : Float) (w₀ w : List Float) (l₀ l : List ℕ) (j : ℕ) → n ≤ 66 → j ≡ n → Moving n q r w₀ w l₀ l j → Moved n q r w₀ w l₀ l
unfolding move_x move_p
moving-done n q r w₀ w l₀ l j n66 e h =
    record {
      values = vec-is 1206 n w _ (λ i hi. h.values i (omega arith) ∙ rw (at-vec 1206 n w₀ i hi, at-vec 1272 n w₀ i hi, nth-front n i l₀ hi));
      marks =
          nums-is 0 n l _
          (λ i hi. ap (λ (x : ℕ). nth l x) (zero-add i) ∙ h.marks i (omega arith) ∙ rw (at-vec 1206 n w₀ i hi, at-vec 1272 n w₀ i hi, nth-front n i l₀ hi));
      before = h.before;
      after = λ x a. h.after x (omega arith);
      others = λ x a. h.others x (omega arith);
    }

pub read-moved : (m n q : ℕ) (r : Float) (w w' : List Float) (l l' : List ℕ) → m ≤ 18 → n ≤ 66 → Moved n q r w w' l l'
    → read m n w' l' ≡ put (move_x n q r (vec 1206 n w) (vec 1272 n w) (nums 0 n l)) (vec 1272 n w) (vec 1338 n w) (move_p n q r (vec 1206 n w) (vec 1272 n w) (nums 0 n l)) (nums 66 n l) (read m n w l)
read-moved m n q r w w' l l' m18 n66 h =
    states (same-a m n w w' m18 n66 (λ x a. h.before x (omega arith))) (same-b m n w w' m18 n66 (λ x a b. h.before x (omega arith)))
    h.values (same-vec m n w w' m18 n66 1272 (λ x a b. h.after x (omega arith))) (same-vec m n w w' m18 n66 1338 (λ x a b. h.after x (omega arith)))
    h.marks (same-marks n 66 l l' n66 (λ x a b. h.others x (omega arith)))
