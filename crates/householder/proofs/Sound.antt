-- The factors have the matrix's sizes, and their columns are its columns in another order.
use mathlib.Core.Path.{◌≡◌, refl, sym, ap, ◌∙◌}
use mathlib.Core.Bool.{Bool, true, false, cond}
use mathlib.Core.List.{List}
use mathlib.Core.Logic.{⊎_elim}
use Prim.Native.Nat.{ℕ, zero, suc, ◌+◌, ◌-◌, ◌*◌, ◌<◌, min}
use native.Mathlib.Omega.{arith}
use lib.Dec.{eqb}
use lib.ListN.{length, set, length-set, length-replicate}
use lib.Seq.{get_or-set_same, get_or-set_other}
use lib.Ieee.{Float, le}
use borrow.Author.Tests.{eq-eqb, ne_eqb}
use Rattle.numbers.specs.Numbers.{+0, nth, tab, entry, row}
use Rattle.numbers.proofs.Cases.{eq-or-ne}
use Rattle.numbers.proofs.Lists.{length-tab, get_d-tab, length-rows, length-row, length-transposed}
use Rattle.householder.specs.Qr.{Factors, pivot, exchange, swapped, signed, reflector, advance, tolerance, stop_if, steps, start, factor}
use Rattle.householder.specs.Claims.{FactorSound, Permutation, SoundFactors}
use Rattle.householder.specs.declared.Candidate.{Candidate}
use Rattle.householder.proofs.Steps.{pivot-index}
use Rattle.householder.proofs.Sizes.{either-length}

-- ---- an exchange of two entries

exchange-below : (n k p j : ℕ) → k < n → p < n → j < n → exchange k p j < n
exchange-below n k p j kn pn jn =
    ⊎_elim (λ (e : j ≡ k). rw (eq-eqb j k e) pn)
    (λ (e : j ≡ k → ⊥). rw (ne_eqb j k e) (⊎_elim (λ (f : j ≡ p). rw (eq-eqb j p f) kn) (λ (f : j ≡ p → ⊥). rw (ne_eqb j p f) jn) (eq-or-ne j p)))
    (eq-or-ne j k)

-- twice the same exchange is none
exchange-twice : (k p j : ℕ) → exchange k p (exchange k p j) ≡ j
exchange-twice k p j =
    ⊎_elim
    (λ (e : j ≡ k).
    rw (eq-eqb j k e)
    (⊎_elim (λ (g : p ≡ k). rw (eq-eqb p k g) (g ∙ sym e)) (λ (g : p ≡ k → ⊥). rw (ne_eqb p k g, eq-eqb p p refl) (sym e)) (eq-or-ne p k)))
    (λ (e : j ≡ k → ⊥).
    rw (ne_eqb j k e)
    (⊎_elim (λ (f : j ≡ p). rw (eq-eqb j p f, eq-eqb k k refl) (sym f)) (λ (f : j ≡ p → ⊥). rw (ne_eqb j p f, ne_eqb j k e, ne_eqb j p f)) (eq-or-ne j p)))
    (eq-or-ne j k)

-- the entries after it
exchanged-nth : (k p : ℕ) (l : List ℕ) (j : ℕ) → k < length l → p < length l → nth (set (set l k (nth l p)) p (nth l k)) j ≡ nth l (exchange k p j)
exchanged-nth k p l j kn pn =
    ⊎_elim
    (λ (f : j ≡ p).
    rw f
    (get_or-set_same (set l k (nth l p)) p (nth l k) 0 (rw length-set pn)
    ∙ ⊎_elim (λ (g : p ≡ k). rw (eq-eqb p k g) (ap (nth l) (sym g))) (λ (g : p ≡ k → ⊥). rw (ne_eqb p k g, eq-eqb p p refl)) (eq-or-ne p k)))
    (λ (f : j ≡ p → ⊥).
    get_or-set_other (set l k (nth l p)) p j (nth l k) 0 f
    ∙ ⊎_elim (λ (e : j ≡ k). rw (e, eq-eqb k k refl) (get_or-set_same l k (nth l p) 0 kn))
    (λ (e : j ≡ k → ⊥). rw (ne_eqb j k e, ne_eqb j p f) (get_or-set_other l k j (nth l p) 0 e)) (eq-or-ne j k))
    (eq-or-ne j p)

pub permutation-swapped : (n k p : ℕ) (l : List ℕ) → k < n → p < n → Permutation n l → Permutation n (set (set l k (nth l p)) p (nth l k))
permutation-swapped n k p l kn pn h =
    let s = h.size in
    let get : (j : ℕ) → nth (set (set l k (nth l p)) p (nth l k)) j ≡ nth l (exchange k p j) = λ j. exchanged-nth k p l j (omega arith) (omega arith) in
    record {
      size = length-set (set l k (nth l p)) p (nth l k) ∙ length-set l k (nth l p) ∙ s;
      below = λ i hi. rw (get i) (h.below (exchange k p i) (exchange-below n k p i kn pn hi));
      distinct = λ i j hi hj e.
          let x : exchange k p i ≡ exchange k p j =
          h.distinct (exchange k p i) (exchange k p j) (exchange-below n k p i kn pn hi) (exchange-below n k p j kn pn hj) (sym (get i) ∙ e ∙ get j) in
          sym (exchange-twice k p i) ∙ ap (exchange k p) x ∙ exchange-twice k p j;
    }

-- ---- the steps

length-reflector : (m n k : ℕ) (s : Float) (r : List Float) → length (reflector m n k s r) ≡ m
unfolding reflector
length-reflector m n k s r = length-tab m _

advance-sound : (m n k : ℕ) (best : Candidate) (f : Factors) → k < min m n → best.index < n → SoundFactors m n f → SoundFactors m n (advance m n k best f)
unfolding advance
advance-sound m n k best f km pn h = record {
  r = length-transposed n m _;
  perm = permutation-swapped n k best.index f.perm (omega arith) pn h.perm;
  u =
      length-rows (min m n) m _
      (λ i hi. either-length (eqb i k) _ (row m i f.u) m (length-reflector m n k (signed (entry n (swapped m n k best.index f.r) k k) best.norm) (swapped m n k best.index f.r)) (length-row m i f.u));
  b = length-set f.b k _ ∙ h.b;
}

either-sound : (m n : ℕ) (t : Bool) (f g : Factors) → SoundFactors m n f → SoundFactors m n g → SoundFactors m n (stop_if t f g)
either-sound m n true f g a b = a
either-sound m n false f g a b = b

steps-sound : (m n left k : ℕ) (old : Float) (f : Factors) → k + left ≡ min m n → SoundFactors m n f → SoundFactors m n (steps m n left k old f)
unfolding steps
steps-sound m n zero k old f e h = h
steps-sound m n (suc left) k old f e h =
    let best = pivot m n k f.r (n - k) in
    let tol = cond (eqb k 0) (tolerance m n best.norm) old in
    either-sound m n (le best.norm tol) f (steps m n left (k + 1) tol (advance m n k best f)) h
    (steps-sound m n left (k + 1) tol (advance m n k best f) (omega arith)
    (advance-sound m n k best f (omega arith) (pivot-index m n k f.r (n - k) (omega arith) (omega arith)) h))

identity-permutation : (n : ℕ) → Permutation n (tab n (λ j. j))
identity-permutation n =
    let get : (i : ℕ) → i < n → nth (tab n (λ j. j)) i ≡ i = λ i h. get_d-tab n (λ j. j) 0 i h in
    record { size = length-tab n _; below = λ i h. rw (get i h) h; distinct = λ i j hi hj e. sym (get i hi) ∙ e ∙ get j hj }

pub factor-sound : FactorSound
unfolding factor
factor-sound m n a e =
    steps-sound m n (min m n) 0 +0 (start m n a) (omega arith)
    (record { r = e; perm = identity-permutation n; u = length-replicate (min m n * m) +0; b = length-replicate (min m n) +0 })
