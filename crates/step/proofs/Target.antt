-- Laws of the target: forward substitution a turn at a time, and entries negated.
use mathlib.Core.Path.{◌≡◌, refl, sym, ap, ap₂, ◌∙◌}
use mathlib.Core.List.{List, map}
use Prim.Native.Nat.{ℕ, suc, ◌+◌, ◌*◌, ◌≤◌, ◌<◌}
use native.Mathlib.Nat.{zero-add}
use native.Mathlib.Numerals.{add-one}
use native.Mathlib.Omega.{arith}
use lib.ListN.{length, set}
use lib.Ieee.{Float, neg}
use Rattle.numbers.specs.Numbers.{Σ, at, entry, transposed, ◌⊖◌, ◌⊗◌, ◌⊘◌}
use Rattle.numbers.proofs.Lists.{tab-same, by_entries, entry-transposed}
use Rattle.numbers.proofs.Sums.{Σ-same}
use Rattle.workspace.specs.Readings.{vec, Block}
use Rattle.workspace.proofs.Readings.{at-vec, vec-set}
use Rattle.workspace.proofs.Writes.{block-vec}
use Rattle.householder.specs.Qr.{downward}
use Rattle.step_rows.proofs.Coefficients.{map-tab}

pub forward-none : (n : ℕ) (r y : List Float) → y ≡ downward n r 0 y
unfolding downward
forward-none n r y = refl

-- entry i of a vector at the front
at_front : (n i : ℕ) (w : List Float) → i < n → at w i ≡ at (vec 0 n w) i
at_front n i w h = ap (λ (x : ℕ). at w x) (sym (zero-add i)) ∙ sym (at-vec 0 n w i h)

-- the new entry, over the transposed factor
entry-is : (n : ℕ) (l w : List Float) (i : ℕ) → i < n
    → (at w i ⊖ Σ i (λ j. at l (i * n + j * 1) ⊗ at w (0 + j * 1))) ⊘ at l (i * n + i)
    ≡ (at (vec 0 n w) i ⊖ Σ i (λ j. entry n (transposed n n l) j i ⊗ at (vec 0 n w) j)) ⊘ entry n (transposed n n l) i i
entry-is n l w i h =
    ap₂ ◌⊘◌
    (ap₂ ◌⊖◌ (at_front n i w h)
    (Σ-same i _ _
    (λ j k.
    ap₂ ◌⊗◌
    (ap (λ (x : ℕ). at l x) (let e : i * n + j * 1 ≡ i * n + j = omega arith in e) ∙ sym (entry-transposed n n l j i (omega arith) h))
    (ap (λ (x : ℕ). at w x) (let e : 0 + j * 1 ≡ j = omega arith in e) ∙ at_front n j w (omega arith)))))
    (sym (entry-transposed n n l i i h h))

set_front : (n i : ℕ) (w : List Float) (v : Float) → i < n → n ≤ length w → vec 0 n (set w i v) ≡ set (vec 0 n w) i v
set_front n i w v h k = ap (λ (x : ℕ). vec 0 n (set w x v)) (sym (zero-add i)) ∙ vec-set 0 n i w v h (omega arith)

forward-suc : (n : ℕ) (r : List Float) (i : ℕ) (y : List Float)
    → downward n r (suc i) y ≡ set (downward n r i y) i ((at (downward n r i y) i ⊖ Σ i (λ j. entry n r j i ⊗ at (downward n r i y) j)) ⊘ entry n r i i)
unfolding downward
forward-suc n r i y = refl

pub forward-more : (n : ℕ) (l w₀ w : List Float) (i : ℕ) (v : Float) → i < n → n ≤ length w
    → vec 0 n w ≡ downward n (transposed n n l) i (vec 0 n w₀)
    → v ≡ (at w i ⊖ Σ i (λ j. at l (i * n + j * 1) ⊗ at w (0 + j * 1))) ⊘ at l (i * n + i)
    → vec 0 n (set w i v) ≡ downward n (transposed n n l) (i + 1) (vec 0 n w₀)
forward-more n l w₀ w i v h k e q =
    let r = transposed n n l in
    set_front n i w v h k
    ∙ ap (λ (x : Float). set (vec 0 n w) i x) (q ∙ entry-is n l w i h)
    ∙ ap (λ (z : List Float). set z i ((at z i ⊖ Σ i (λ j. entry n r j i ⊗ at z j)) ⊘ entry n r i i)) e
    ∙ sym (forward-suc n r i (vec 0 n w₀))
    ∙ ap (λ (x : ℕ). downward n r x (vec 0 n w₀)) (sym (add-one i))

pub negated-front : (n : ℕ) (w w' : List Float) → Block 0 n (λ t. neg (at w t)) w w' → vec 0 n w' ≡ map neg (vec 0 n w)
unfolding vec
negated-front n w w' b =
    block-vec 0 n _ w w' b ∙ tab-same n _ _ (λ i h. ap (λ (x : ℕ). neg (at w x)) (sym (zero-add i))) ∙ map-tab n (λ i. at w (0 + i))

pub loaded-front : (n : ℕ) (v w w' : List Float) → length v ≡ n → Block 0 n (λ t. at v t) w w' → vec 0 n w' ≡ v
loaded-front n v w w' e b = block-vec 0 n _ w w' b ∙ sym (by_entries n v e)
