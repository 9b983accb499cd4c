-- Of the factor the check reads the lower triangle only.
use mathlib.Core.Path.{◌≡◌, refl, sym, ap}
use mathlib.Core.List.{List}
use Prim.Native.Nat.{ℕ, zero, suc, ◌+◌, ◌-◌, ◌<◌}
use native.Mathlib.Omega.{arith}
use lib.Ieee.{Float}
use Rattle.numbers.specs.Numbers.{at, ◌⊗◌, SameLower}
use Rattle.numbers.proofs.Sums.{Σ-same}
use Rattle.step_rows.specs.Problem.{Problem, each}
use Rattle.step_check.specs.declared.Test.TheVariants.{Stationarity, Residual, Violation, Sign, Product}
use Rattle.step_check.specs.Check.{Pasted, halfway, curved, slope, Margin, slopes, equalities, inequalities, first_failed, ◌or_else◌, verdict}
use Rattle.step_check.specs.Claims.{with_factor, ReadsLower}

same-halfway : (n : ℕ) (a b d : List Float) → SameLower n a b → (k : ℕ) → k < n → halfway n b d k ≡ halfway n a d k
unfolding halfway
same-halfway n a b d h k l = Σ-same (n - k) _ _ (λ t q. ap (λ (x : Float). x ⊗ at d (k + t)) (sym (h (k + t) k (omega arith) (omega arith))))

same-curved : (n : ℕ) (a b d : List Float) → SameLower n a b → (i : ℕ) → i < n → curved n b d i ≡ curved n a d i
unfolding curved
same-curved n a b d h i l = Σ-same (i + 1) _ _ (λ k q. rw (sym (h i k l (omega arith)), same-halfway n a b d h k (omega arith)))

each_same : (n : ℕ) (f g : ℕ → List Margin) → ((i : ℕ) → i < n → f i ≡ g i) → each n f ≡ each n g
unfolding each
each_same zero f g h = refl
each_same (suc n) f g h = rw (h zero (omega arith), each_same n (λ i. f (suc i)) (λ i. g (suc i)) (λ i l. h (suc i) (omega arith)))

same-slopes : (p : Problem) (l : List Float) (s : Pasted) → SameLower p.n p.factor l → slopes (with_factor p l) s ≡ slopes p s
unfolding slopes slope
same-slopes p l s h = each_same p.n _ _ (λ i q. rw (same-curved p.n p.factor l s.d h i q))

pub reads-lower : ReadsLower
unfolding verdict equalities inequalities
reads-lower p l s tol h = ap (λ (rs : List Margin). first_failed Stationarity tol rs or_else first_failed Residual tol (equalities p s) or_else first_failed Violation tol (inequalities p s) or_else first_failed Sign tol (inequalities p s) or_else first_failed Product tol (inequalities p s)) (same-slopes p l s h)
