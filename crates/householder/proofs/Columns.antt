-- What `swap`, `move_down` and `prepare` rest on: columns exchanged, numbers moved, and a reflector made of a column.
use mathlib.Core.Path.{◌≡◌, refl, ap, ap₂, ◌∙◌}
use mathlib.Core.Bool.{cond}
use mathlib.Core.List.{List}
use mathlib.Core.Logic.{⊎_elim}
use Prim.Native.Nat.{ℕ, ◌+◌, ◌-◌, ◌*◌, ◌≤◌, ◌<◌}
use native.Mathlib.Omega.{arith}
use lib.Dec.{ltb}
use lib.ListN.{length, set, length-set}
use lib.Seq.{get_or-set_same, get_or-set_other}
use lib.Ieee.{Float, nan}
use borrow.Author.Tests.{lt-ltb, le-ltb, eq-eqb, ne_eqb}
use Rattle.numbers.specs.Numbers.{+0, ◌⊖◌, ◌⊗◌, at}
use Rattle.numbers.proofs.Cases.{lt-or-ge, eq-or-ne}
use Rattle.householder.specs.inner.Work.{Unmade, Exchanged, Moved, Prepared, diagonal_of}

set_same : (w : List Float) (i : ℕ) (v : Float) → i < length w → at (set w i v) i ≡ v
set_same w i v h = get_or-set_same w i v nan h

set_other : (w : List Float) (i x : ℕ) (v : Float) → (x ≡ i → ⊥) → at (set w i v) x ≡ at w x
set_other w i x v h = get_or-set_other w i x v nan h

-- ---- `swap`: nothing to do, or the rows, one after the other

pub exchanged_same : (m k p : ℕ) (w : List Float) → k ≡ p → Exchanged m k p w w
exchanged_same m k p w e = record { first = λ i h. rw e; second = λ i h. rw e; others = λ x f g. refl }

pub exchanged-none : (k p : ℕ) (w : List Float) → Exchanged 0 k p w w
exchanged-none k p w = record { first = λ i h. absurd (omega arith); second = λ i h. absurd (omega arith); others = λ x f g. refl }

pub exchanged-more : (t k p : ℕ) (w₀ w : List Float) → t < 18 → 426 + k * 18 + t < length w → 426 + p * 18 + t < length w → Exchanged t k p w₀ w
    → Exchanged (t + 1) k p w₀ (set (set w (426 + k * 18 + t) (at w (426 + p * 18 + t))) (426 + p * 18 + t) (at w (426 + k * 18 + t)))
exchanged-more t k p w₀ w ht lk lp h =
    let a = at w (426 + p * 18 + t) in
    let b = at w (426 + k * 18 + t) in
    let w₁ = set w (426 + k * 18 + t) a in
    let old : (c : ℕ) → at w (426 + c * 18 + t) ≡ at w₀ (426 + c * 18 + t) = λ c. h.others (426 + c * 18 + t) (λ i y e. omega arith) (λ i y e. omega arith) in
    let away : (x : ℕ) → (x ≡ 426 + k * 18 + t → ⊥) → (x ≡ 426 + p * 18 + t → ⊥) → at (set w₁ (426 + p * 18 + t) b) x ≡ at w x =
    λ x f g. set_other w₁ (426 + p * 18 + t) x b g ∙ set_other w (426 + k * 18 + t) x a f in
    record {
      first = λ i l.
          ⊎_elim
          (λ (z : i < t). away (426 + k * 18 + i) (λ e. omega arith) (λ e. omega arith) ∙ h.first i z)
          (λ (z : t ≤ i).
          let e : i ≡ t = omega arith in
          rw e
          (⊎_elim
          (λ (y : k ≡ p). rw y (set_same (set w (426 + p * 18 + t) (at w (426 + p * 18 + t))) (426 + p * 18 + t) (at w (426 + p * 18 + t)) (rw length-set lp) ∙ old p))
          (λ (y : k ≡ p → ⊥).
          set_other w₁ (426 + p * 18 + t) (426 + k * 18 + t) b (λ e. y (omega arith)) ∙ set_same w (426 + k * 18 + t) a lk ∙ old p)
          (eq-or-ne k p)))
          (lt-or-ge i t);
      second = λ i l.
          ⊎_elim
          (λ (z : i < t). away (426 + p * 18 + i) (λ e. omega arith) (λ e. omega arith) ∙ h.second i z)
          (λ (z : t ≤ i). let e : i ≡ t = omega arith in rw e (set_same w₁ (426 + p * 18 + t) b (rw length-set lp) ∙ old k))
          (lt-or-ge i t);
      others = λ x f g. away x (f t (omega arith)) (g t (omega arith)) ∙ h.others x (λ i l. f i (omega arith)) (λ i l. g i (omega arith));
    }

-- ---- `move_down`: the numbers, one after the other

pub moved_none : (p q : ℕ) (w : List Float) → Moved p q 0 w w
moved_none p q w = record { there = λ t h. absurd (omega arith); left = λ t h. absurd (omega arith); others = λ x f g. refl }

pub moved_more : (p q t : ℕ) (w₀ w : List Float) (z : Float) → q + t < p → p + t < length w → z ≡ +0 → Moved p q t w₀ w
    → Moved p q (t + 1) w₀ (set (set w (q + t) (at w (p + t))) (p + t) z)
moved_more p q t w₀ w z qp lp e h =
    let v = at w (p + t) in
    let w₁ = set w (q + t) v in
    let away : (x : ℕ) → (x ≡ q + t → ⊥) → (x ≡ p + t → ⊥) → at (set w₁ (p + t) z) x ≡ at w x =
    λ x f g. set_other w₁ (p + t) x z g ∙ set_other w (q + t) x v f in
    record {
      there = λ i l.
          ⊎_elim
          (λ (y : i < t). away (q + i) (λ a. omega arith) (λ a. omega arith) ∙ h.there i y)
          (λ (y : t ≤ i).
          let k : i ≡ t = omega arith in
          rw k
          (set_other w₁ (p + t) (q + t) z (λ a. omega arith) ∙ set_same w (q + t) v (omega arith) ∙ h.others (p + t) (λ j b a. omega arith) (λ j b a. omega arith)))
          (lt-or-ge i t);
      left = λ i l.
          ⊎_elim
          (λ (y : i < t). away (p + i) (λ a. omega arith) (λ a. omega arith) ∙ h.left i y)
          (λ (y : t ≤ i). let k : i ≡ t = omega arith in rw k (set_same w₁ (p + t) z (rw length-set lp) ∙ e))
          (lt-or-ge i t);
      others = λ x f g. away x (f t (omega arith)) (g t (omega arith)) ∙ h.others x (λ i b. f i (omega arith)) (λ i b. g i (omega arith));
    }

-- ---- `prepare`: what stands below the diagonal of column k is moved into reflector k, which was +0, and three entries are set

module _ (m k : ℕ) (largest : Float) (w w₁ : List Float) (s : Float) (m18 : m ≤ 18) (km : k < m) (long : 426 + k * 18 + 18 ≤ length w₁) (z : Unmade k (k + 1) w)
    (v : Moved (426 + k * 18 + k + 1) (k * 18 + k + 1) (m - (k + 1)) w w₁) (hs : s ≡ diagonal_of k largest w) where
  -- what the move leaves as it was
  stayed : (x : ℕ) → ((i : ℕ) → k < i → i < m → x ≡ k * 18 + i → ⊥) → ((i : ℕ) → k < i → i < m → x ≡ 426 + k * 18 + i → ⊥) → at w₁ x ≡ at w x
  stayed x f g = v.others x (λ t h e. f (k + 1 + t) (omega arith) (omega arith) (omega arith)) (λ t h e. g (k + 1 + t) (omega arith) (omega arith) (omega arith))

  -- reflector k, but for its head
  reflector₁ : (i : ℕ) → i < m → (i ≡ k → ⊥) → at w₁ (k * 18 + i) ≡ cond (ltb i k) +0 (at w (426 + k * 18 + i))
  reflector₁ i hi ne =
      ⊎_elim
      (λ (a : i < k). rw (lt-ltb i k a) (stayed (k * 18 + i) (λ t b c e. omega arith) (λ t b c e. omega arith) ∙ z (k * 18 + i) (omega arith) (omega arith)))
      (λ (a : k ≤ i).
      let b : k < i = ⊎_elim (λ (b : k < i). b) (λ (b : i ≤ k). absurd (ne (omega arith))) (lt-or-ge k i) in
      rw (le-ltb i k a) (ap (λ (x : ℕ). at w₁ x) (omega arith) ∙ v.there (i - (k + 1)) (omega arith) ∙ ap (λ (x : ℕ). at w x) (omega arith)))
      (lt-or-ge i k)

  pub prepared-is : Prepared m k largest w
      (set (set (set w₁ (k * 18 + k) (at w (426 + k * 18 + k) ⊖ s)) (324 + k) (s ⊗ (at w (426 + k * 18 + k) ⊖ s))) (426 + k * 18 + k) s)
  prepared-is =
      let u = at w (426 + k * 18 + k) ⊖ s in
      let b = s ⊗ u in
      let w₂ = set w₁ (k * 18 + k) u in
      let w₃ = set w₂ (324 + k) b in
      let hu : u ≡ at w (426 + k * 18 + k) ⊖ diagonal_of k largest w = ap (λ (x : Float). at w (426 + k * 18 + k) ⊖ x) hs in
      let l₂ : 426 + k * 18 + 18 ≤ length w₂ = rw length-set long in
      let l₃ : 426 + k * 18 + 18 ≤ length w₃ = rw length-set l₂ in
      let pinned : (x : ℕ) → (x ≡ 426 + k * 18 + k → ⊥) → at (set w₃ (426 + k * 18 + k) s) x ≡ at w₃ x = λ x f. set_other w₃ (426 + k * 18 + k) x s f in
      let away : (x : ℕ) → (x ≡ k * 18 + k → ⊥) → (x ≡ 324 + k → ⊥) → at w₃ x ≡ at w₁ x =
      λ x f g. set_other w₂ (324 + k) x b g ∙ set_other w₁ (k * 18 + k) x u f in
      record {
        u = λ i hi.
            pinned (k * 18 + i) (λ e. omega arith)
            ∙ ⊎_elim
            (λ (y : i ≡ k).
            rw (y, le-ltb k k (omega arith), eq-eqb k k refl)
            (set_other w₂ (324 + k) (k * 18 + k) b (λ e. omega arith) ∙ set_same w₁ (k * 18 + k) u (omega arith) ∙ hu))
            (λ (y : i ≡ k → ⊥). rw (ne_eqb i k y) (away (k * 18 + i) (λ e. y (omega arith)) (λ e. omega arith) ∙ reflector₁ i hi y))
            (eq-or-ne i k);
        b = pinned (324 + k) (λ e. omega arith) ∙ set_same w₂ (324 + k) b (omega arith) ∙ ap₂ ◌⊗◌ hs hu;
        diagonal = set_same w₃ (426 + k * 18 + k) s (omega arith) ∙ hs;
        below = λ i a h.
            pinned (426 + k * 18 + i) (λ e. omega arith)
            ∙ away (426 + k * 18 + i) (λ e. omega arith) (λ e. omega arith)
            ∙ ap (λ (x : ℕ). at w₁ x) (omega arith)
            ∙ v.left (i - (k + 1)) (omega arith);
        others = λ x f₁ f₂ f₃.
            pinned x (f₃ k (omega arith) km)
            ∙ away x (f₂ k km) f₁
            ∙ stayed x (λ i a. f₂ i) (λ i a. f₃ i (omega arith));
      }
