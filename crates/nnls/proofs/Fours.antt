-- Entries written four at a time, and that what is written leaves the entries to come as they are.
use mathlib.Core.Path.{◌≡◌, refl, sym, ap, ap₂, ◌∙◌, subst}
use mathlib.Core.List.{List}
use Prim.Native.Nat.{ℕ, ◌+◌, ◌*◌, ◌≤◌, ◌<◌}
use native.Mathlib.Omega.{arith}
use lib.ListN.{length, set, length-set}
use lib.Ieee.{Float, nan}
use Rattle.numbers.specs.Numbers.{◌⊖◌, ◌⊗◌}
use Rattle.numbers.proofs.Sums.{Σ-same}
use Rattle.workspace.specs.Readings.{Block}
use Rattle.workspace.proofs.Writes.{written-more}
use Rattle.nnls.specs.inner.Dual.{residual_at, dual_at, row_sum, four_of, four_rows, set_four}
use Rattle.householder.specs.declared.Four.{Four}

-- the entries are the same before and after some are written
pub residual-same : (m n : ℕ) (v w : List Float) → m ≤ 18 → n ≤ 66 → (c : ℕ) → c ≤ m → Block 1404 c (residual_at n v) v w → (i : ℕ) → i < m → residual_at n w i ≡ residual_at n v i
unfolding residual_at
residual-same m n v w m18 n66 c l r i h =
    ap₂ ◌⊖◌ (r.before (1188 + i) (omega arith)) (Σ-same n _ _ (λ j hj. ap₂ ◌⊗◌ (r.before (i + j * 18) (omega arith)) (r.before (1206 + j) (omega arith))))

pub dual-same : (m n : ℕ) (v w : List Float) → m ≤ 18 → n ≤ 66 → (c : ℕ) → c ≤ n → Block 1338 c (dual_at m v) v w → (j : ℕ) → j < n → dual_at m w j ≡ dual_at m v j
unfolding dual_at
dual-same m n v w m18 n66 c l r j h = Σ-same m _ _ (λ i hi. ap₂ ◌⊗◌ (r.before (j * 18 + i) (omega arith)) (r.after (1404 + i) (omega arith)))

-- four columns' sums are four entries of the dual
pub dual-four-is : (m j : ℕ) (w : List Float) (s : Four) → s ≡ four_rows (row_sum m 1404 w) (j * 18) → s ≡ four_of (dual_at m w) j
unfolding dual_at row_sum
dual-four-is m j w s e =
    let one : (x i : ℕ) → x ≡ i * 18 → row_sum m 1404 w x ≡ dual_at m w i = λ x i h. ap (row_sum m 1404 w) h in
    e ∙ rw (one (j * 18 + 18) (j + 1) (omega arith), one (j * 18 + 36) (j + 2) (omega arith), one (j * 18 + 54) (j + 3) (omega arith))

-- one entry more, at a place that is written another way
entry_more : (o t x : ℕ) (f : ℕ → Float) (w w' : List Float) (v : Float) → x ≡ o + t → x < length w' → v ≡ f t → Block o t f w w' → Block o (t + 1) f w (set w' x v)
entry_more o t x f w w' v e l h r = subst (λ (y : ℕ). Block o (t + 1) f w (set w' y v)) (sym e) (written-more nan o t f w w' v (omega arith) h r)

set-four : (o t : ℕ) (f : ℕ → Float) (w w' : List Float) (s : Four) → o + t + 4 ≤ length w' → s.a ≡ f t → s.b ≡ f (t + 1) → s.c ≡ f (t + 1 + 1) → s.d ≡ f (t + 1 + 1 + 1) → Block o t f w w'
    → Block o (t + 1 + 1 + 1 + 1) f w (set_four (o + t) s w')
set-four o t f w w' s l ea eb ec ed r =
    let w₁ = set w' (o + t) s.a in
    let w₂ = set w₁ (o + t + 1) s.b in
    let w₃ = set w₂ (o + t + 2) s.c in
    let l₁ : length w₁ ≡ length w' = length-set w' (o + t) s.a in
    let l₂ : length w₂ ≡ length w' = length-set w₁ (o + t + 1) s.b ∙ l₁ in
    let l₃ : length w₃ ≡ length w' = length-set w₂ (o + t + 2) s.c ∙ l₂ in
    let r₁ = entry_more o t (o + t) f w w' s.a refl (omega arith) ea r in
    let r₂ = entry_more o (t + 1) (o + t + 1) f w w₁ s.b (omega arith) (omega (arith, l, l₁)) eb r₁ in
    let r₃ = entry_more o (t + 1 + 1) (o + t + 2) f w w₂ s.c (omega arith) (omega (arith, l, l₂)) ec r₂ in
    entry_more o (t + 1 + 1 + 1) (o + t + 3) f w w₃ s.d (omega arith) (omega (arith, l, l₃)) ed r₃

-- four entries of g, which is the rule f on what is to come
pub fours-more : (o t : ℕ) (f g : ℕ → Float) (w w' w'' : List Float) (s : Four) → o + t + 4 ≤ length w' → (c : ℕ) → t + 4 ≤ c → ((i : ℕ) → i < c → g i ≡ f i) → s ≡ four_of g t → w'' ≡ set_four (o + t) s w'
    → Block o t f w w' → Block o (t + 4) f w w''
fours-more o t f g w w' w'' s l c b h es ew r =
    let at_next : (i j : ℕ) → i ≡ j → i < c → g i ≡ f j = λ i j e k. h i k ∙ ap f e in
    let q : Block o (t + 1 + 1 + 1 + 1) f w (set_four (o + t) s w') =
    set-four o t f w w' s l (ap (λ (u : Four). u.a) es ∙ h t (omega arith)) (ap (λ (u : Four). u.b) es ∙ h (t + 1) (omega arith)) (ap (λ (u : Four). u.c) es ∙ at_next (t + 2) (t + 1 + 1) (omega arith) (omega arith))
    (ap (λ (u : Four). u.d) es ∙ at_next (t + 3) (t + 1 + 1 + 1) (omega arith) (omega arith)) r in
    let e : t + 1 + 1 + 1 + 1 ≡ t + 4 = omega arith in
    subst (Block o (t + 4) f w) (sym ew) (subst (λ (i : ℕ). Block o i f w (set_four (o + t) s w')) e q)
