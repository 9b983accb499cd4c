-- The solve for f and the relaxed problem read only the lower triangle of the factor.
use mathlib.Core.Path.{◌≡◌, refl, sym, ap, ◌∙◌}
use mathlib.Core.Bool.{Bool, true, false, cond, ◌&&◌}
use mathlib.Core.List.{List, [], ◌∷◌, ◌++◌, map}
use Prim.Native.Nat.{ℕ, zero, suc, ◌+◌, ◌<◌, ◌≤◌}
use native.Mathlib.Omega.{arith}
use lib.Dec.{T, leb, ltb, eqb, leb→le, ltb→lt}
use lib.ListN.{length, set}
use lib.Ieee.{Float, neg}
use lib.Ieee.Fits.{and_l, and_r}
use Rattle.numbers.specs.Numbers.{+0, Σ, at, entry, transposed, SameLower, ◌⊖◌, ◌⊗◌, ◌⊘◌}
use Rattle.numbers.proofs.Lists.{grid-same, entry-transposed}
use Rattle.numbers.proofs.Sums.{Σ-same}
use Rattle.householder.specs.Qr.{downward}
use Rattle.nnls.specs.Counted.{and_then}
use Rattle.workspace.specs.Tables.{done}
use Rattle.lsei.specs.Lsei.{lsi}
use Rattle.step_rows.specs.Problem.{Problem, matrix_of, sides_of, bound_rows, relaxed_rows}
use Rattle.step.specs.Step.{target, root_weight, relaxed_matrix, relaxed_step, relaxed}
use Rattle.step_call.specs.Claims.{with_factor, ReadLower}

-- ---- f

-- forward substitution reads entries (j, i) with j <= i
downward-same : (n : ℕ) (r s y : List Float) → ((i j : ℕ) → i < n → j ≤ i → entry n r j i ≡ entry n s j i) → (i : ℕ) → i ≤ n → downward n r i y ≡ downward n s i y
unfolding downward
downward-same n r s y h zero l = refl
downward-same n r s y h (suc i) l =
    let z = downward n s i y in
    ap (λ (v : List Float). set v i ((at v i ⊖ Σ i (λ j. entry n r j i ⊗ at v j)) ⊘ entry n r i i)) (downward-same n r s y h i (omega arith))
    ∙ ap (λ (x : Float). set z i ((at z i ⊖ x) ⊘ entry n r i i)) (Σ-same i (λ j. entry n r j i ⊗ at z j) (λ j. entry n s j i ⊗ at z j) (λ j k. ap (λ (x : Float). x ⊗ at z j) (h i j l (omega arith))))
    ∙ ap (λ (x : Float). set z i ((at z i ⊖ Σ i (λ j. entry n s j i ⊗ at z j)) ⊘ x)) (h i i l (omega arith))

target-same : (p : Problem) (l : List Float) → SameLower p.n p.factor l → target (with_factor p l) ≡ target p
unfolding target
target-same p l h =
    ap (map neg)
    (downward-same p.n (transposed p.n p.n l) (transposed p.n p.n p.factor) p.gradient
    (λ i j a b. entry-transposed p.n p.n l j i (omega arith) a ∙ sym (h i j a b) ∙ sym (entry-transposed p.n p.n p.factor j i (omega arith) a)) p.n (omega arith))

-- ---- the relaxed problem

matrix-same : (n : ℕ) (r : Float) (k l : List Float) → SameLower n k l → relaxed_matrix n r l ≡ relaxed_matrix n r k
unfolding relaxed_matrix
matrix-same n r k l h =
    grid-same (n + 1) (n + 1) (λ i j. cond (leb i j && ltb j n) (entry n l j i) (cond (eqb i n && eqb j n) r +0))
    (λ i j. cond (leb i j && ltb j n) (entry n k j i) (cond (eqb i n && eqb j n) r +0))
    (λ i j a b. go i j (leb i j && ltb j n) (λ t. leb→le i j (and_l (leb i j) (ltb j n) t)) (λ t. ltb→lt j n (and_r (leb i j) (ltb j n) t)))
  where
    go : (i j : ℕ) (b : Bool) → (T b → i ≤ j) → (T b → j < n)
        → cond b (entry n l j i) (cond (eqb i n && eqb j n) r +0) ≡ cond b (entry n k j i) (cond (eqb i n && eqb j n) r +0)
    go i j true a c = sym (h j i (c tt) (a tt))
    go i j false a c = refl

relaxed-same : (p : Problem) (l f : List Float) → SameLower p.n p.factor l → relaxed (with_factor p l) f ≡ relaxed p f
unfolding relaxed relaxed_rows bound_rows relaxed_step
relaxed-same p l f h =
    let rs = relaxed_rows p in
    ap (λ (e : List Float). and_then (lsi (p.n + 1) (p.n + 1) (length rs) e (f ++ (+0 ∷ [])) (matrix_of rs) (sides_of rs)) (λ s. done (relaxed_step p s))) (matrix-same p.n root_weight p.factor l h)

pub read_lower : ReadLower
read_lower p l f h = (target-same p l h, relaxed-same p l f h)
