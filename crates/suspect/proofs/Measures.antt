-- Laws of the numbers of each meter, as the code sums and writes them.
use mathlib.Core.Path.{◌≡◌, sym, ap, ap₂, ◌∙◌}
use mathlib.Core.List.{List}
use Prim.Native.Nat.{ℕ, ◌+◌, ◌-◌, ◌*◌, ◌≤◌, ◌<◌}
use native.Mathlib.Omega.{arith}
use lib.Ieee.{Float}
use Rattle.numbers.specs.Numbers.{at, tab, dot, Σ, ◌⊗◌}
use Rattle.numbers.proofs.Sums.{Σ-same}
use Rattle.workspace.specs.Readings.{vec, stack, Block}
use Rattle.workspace.proofs.Readings.{at-vec, vec-same, stack_same, entry_stack}
use Rattle.workspace.proofs.Writes.{block-vec}
use Rattle.suspect.specs.Suspect.{overlap, unseen, correction, shares, new_spreads, tests}
use Rattle.suspect.specs.inner.Work.{VectorWritten, Measured}

pub overlap-in : (n r i j : ℕ) (w : List Float) → r ≤ n → i < n → j < n → Σ r (λ k. at w (732 + i * 18 + k) ⊗ at w (732 + j * 18 + k)) ≡ overlap n r (stack 732 n n w) i j
unfolding overlap
overlap-in n r i j w rn hi hj = Σ-same r _ _ (λ k h. ap₂ ◌⊗◌ (sym (entry_stack 732 n n w i k hi (omega arith))) (sym (entry_stack 732 n n w j k hj (omega arith))))

pub unseen-in : (n r i : ℕ) (w : List Float) → r ≤ n → i < n → Σ (n - r) (λ k. at w (732 + i * 18 + r + k) ⊗ at w (732 + i * 18 + r + k)) ≡ unseen n r (stack 732 n n w) i
unfolding unseen
unseen-in n r i w rn hi =
    let one : (k : ℕ) → k < n - r → at w (732 + i * 18 + r + k) ≡ at (stack 732 n n w) (i * n + (r + k)) =
    λ k h. ap (λ (x : ℕ). at w x) (let e : 732 + i * 18 + r + k ≡ 732 + i * 18 + (r + k) = omega arith in e) ∙ sym (entry_stack 732 n n w i (r + k) hi (omega arith)) in
    Σ-same (n - r) _ _ (λ k h. ap₂ ◌⊗◌ (one k h) (one k h))

pub lean-in : (n r i : ℕ) (w : List Float) → r ≤ n → i < n → Σ r (λ k. at w (732 + i * 18 + k) ⊗ at w (714 + k)) ≡ correction n r (stack 732 n n w) (vec 714 r w) i
unfolding correction
lean-in n r i w rn hi = Σ-same r _ _ (λ k h. ap₂ ◌⊗◌ (sym (entry_stack 732 n n w i k hi (omega arith))) (sym (at-vec 714 r w k h)))

pub misfit-in : (r : ℕ) (w : List Float) → Σ r (λ k. at w (714 + k) ⊗ at w (714 + k)) ≡ dot r (vec 714 r w) (vec 714 r w)
unfolding dot
misfit-in r w = Σ-same r _ _ (λ k h. ap₂ ◌⊗◌ (sym (at-vec 714 r w k h)) (sym (at-vec 714 r w k h)))

-- what is written from 1020 on leaves the directions and y
pub directions-stay : (n : ℕ) (w w' : List Float) → n ≤ 16 → ((x : ℕ) → x < 1020 → at w' x ≡ at w x) → stack 732 n n w' ≡ stack 732 n n w
directions-stay n w w' h e = stack_same 732 n n w w' (λ k i hk hi. e (732 + k * 18 + i) (omega arith))

pub gaps-stay : (r : ℕ) (w w' : List Float) → r ≤ 16 → ((x : ℕ) → x < 1020 → at w' x ≡ at w x) → vec 714 r w' ≡ vec 714 r w
gaps-stay r w w' h e = vec-same 714 r w w' (λ k hk. e (714 + k) (omega arith))

pub vector-written : (o n : ℕ) (f : ℕ → Float) (w w' : List Float) → Block o n f w w' → VectorWritten o n (tab n f) w w'
vector-written o n f w w' b = record { value = block-vec o n f w w' b; before = b.before }

pub measured : (n m r : ℕ) (s c : List Float) (z : List ℕ) (w w₁ w₂ w₃ : List Float) → n ≤ 16 → r ≤ n → VectorWritten 1020 n (shares n m r s c z (stack 732 n n w)) w w₁
    → VectorWritten 1038 n (new_spreads n r s z (stack 732 n n w₁)) w₁ w₂ → VectorWritten 1056 n (tests n r (stack 732 n n w₂) (vec 714 r w₂) (vec 1020 n w₂)) w₂ w₃ → Measured n m r s c z w w₃
measured n m r s c z w w₁ w₂ w₃ n16 rn A B C =
    let d₁ = directions-stay n w w₁ n16 A.before in
    let d₂ = directions-stay n w w₂ n16 (λ x h. B.before x (omega arith) ∙ A.before x h) in
    let p₂ = gaps-stay r w w₂ (omega arith) (λ x h. B.before x (omega arith) ∙ A.before x h) in
    let h₂ : vec 1020 n w₂ ≡ shares n m r s c z (stack 732 n n w) = vec-same 1020 n w₁ w₂ (λ k hk. B.before (1020 + k) (omega arith)) ∙ A.value in
    record {
      share = vec-same 1020 n w₂ w₃ (λ k hk. C.before (1020 + k) (omega arith)) ∙ h₂;
      spread = vec-same 1038 n w₂ w₃ (λ k hk. C.before (1038 + k) (omega arith)) ∙ B.value ∙ rw d₁;
      test = C.value ∙ rw (d₂, p₂, h₂);
      before = λ x h. C.before x (omega arith) ∙ B.before x (omega arith) ∙ A.before x h;
    }
