-- Laws of clearing.
use mathlib.Core.Path.{◌≡◌, refl, ap, ◌∙◌}
use mathlib.Core.List.{List, [], ◌∷◌, ◌++◌}
use Prim.Native.Nat.{ℕ, zero, suc, ◌+◌, ◌-◌, ◌≤◌, ◌<◌}
use native.Mathlib.Nat.{not-suc-le-zero, le_of_suc-le-suc}
use native.Mathlib.Numerals.{add-one}
use native.Mathlib.Omega.{arith}
use lib.ListN.{length, take, drop, set, length-set, replicate}
use lib.Seq.{length-take-le, drop-drop, drop-append-add}
use Rattle.workspace.specs.Tables.{cleared}

-- ---- a loop that writes z over the first entries

wipe-suc : {A : Type 0} (n : ℕ) (z : A) (w : List A) → n < length w → set (replicate n z ++ drop n w) n z ≡ replicate (suc n) z ++ drop (suc n) w
wipe-suc n z [] l = absurd (not-suc-le-zero l)
wipe-suc zero z (x ∷ w) l = refl
wipe-suc {A} (suc n) z (x ∷ w) l = ap (λ (t : List A). z ∷ t) (wipe-suc n z w (le_of_suc-le-suc l))

pub record Wiped {A : Type 0} (i : ℕ) (z : A) (w₀ w : List A) : Type 0 where
  pub size : length w ≡ length w₀
  pub is : w ≡ replicate i z ++ drop i w₀

pub wiped-none : {A : Type 0} (z : A) (w : List A) → Wiped 0 z w w
wiped-none z w = record { size = refl; is = refl }

pub wiped-more : {A : Type 0} {i : ℕ} {z : A} {w₀ w : List A} → Wiped i z w₀ w → i < length w₀ → Wiped (i + 1) z w₀ (set w i z)
wiped-more {A} {i} {z} {w₀} {w} r h = record { size = simp length-set r.size; is = rw (r.is, add-one) (wipe-suc i z w₀ h) }

pub wiped-all : {A : Type 0} {i k : ℕ} {z : A} {w₀ w : List A} → Wiped i z w₀ w → i ≡ k → w ≡ cleared z k w₀
unfolding cleared
wiped-all r e = rw (r.is, e)

-- what was written to the front of a workspace is cleared with it
pub cleared-behind : {A : Type 0} (z : A) (k m : ℕ) (p w : List A) → length p ≡ length (take m w) → m ≤ length w → m ≤ k → cleared z k (p ++ drop m w) ≡ cleared z k w
unfolding cleared
cleared-behind {A} z k m p w e l h =
    let q : length p ≡ m = e ∙ length-take-le m w l in
    let i : k ≡ length p + (k - m) = omega arith in
    let j : m + (k - m) ≡ k = omega arith in
    let d : drop (length p + (k - m)) (p ++ drop m w) ≡ drop k w = drop-append-add p (drop m w) (k - m) ∙ rw (drop-drop, j) in
    ap (λ (t : List A). replicate k z ++ t) (ap (λ (j : ℕ). drop j (p ++ drop m w)) i ∙ d)

-- two workspaces that agree past the first k are cleared to the same
pub cleared-same : {A : Type 0} (z : A) (k : ℕ) (w w' : List A) → drop k w ≡ drop k w' → cleared z k w ≡ cleared z k w'
unfolding cleared
cleared-same {A} z k w w' e = ap (λ (t : List A). replicate k z ++ t) e
