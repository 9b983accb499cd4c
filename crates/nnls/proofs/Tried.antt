-- A column that was tried: the state where it stays, and where it is turned back.
use mathlib.Core.Path.{◌≡◌, refl, sym, ap, ◌∙◌}
use mathlib.Core.Bool.{Bool, true, false, ◌&&◌, true≢false}
use mathlib.Core.List.{List}
use mathlib.Core.Logic.{inl, inr, ◌⊎◌}
use Prim.Native.Nat.{ℕ, ◌+◌, ◌≤◌, ◌<◌}
use native.Mathlib.Omega.{arith}
use lib.ListN.{length, set, length-set}
use lib.Seq.{get_or-set_other, set-set, set-get_or}
use lib.Ieee.{Float}
use Rattle.numbers.specs.Numbers.{at, nth}
use Rattle.workspace.specs.Readings.{vec, nums}
use Rattle.workspace.proofs.Readings.{at-vec, nums-set, nums-set-front, nth-front}
use Rattle.nnls_passive.specs.inner.Work.{PassiveSolved}
use Rattle.nnls.specs.Nnls.{above0, keeps}
use Rattle.nnls.specs.inner.State.{State, read, put, solve_in}
use Rattle.nnls.specs.inner.Work.{TriedColumn}
use Rattle.nnls.proofs.States.{states, same-marks, read-solve}

module _ (m n t : ℕ) (full : Bool) (w w' : List Float) (l l' : List ℕ) (m18 : m ≤ 18) (n66 : n ≤ 66) (tn : t < n) (hl : 264 ≤ length l)
    (h : PassiveSolved m n full w w' (set l t 1) l') where
  marks₁ : nums 0 n (set l t 1) ≡ set (nums 0 n l) t 1
  marks₁ = nums-set-front n t l 1 tn (omega arith)

  rejected₁ : nums 66 n (set l t 1) ≡ nums 66 n l
  rejected₁ = same-marks n 66 l (set l t 1) n66 (λ x a b. get_or-set_other l t x 1 0 (λ e. omega arith))

  pub read-tried : read m n w' l'
      ≡ put (vec 1206 n w) (solve_in m n (read m n w l) (set (nums 0 n l) t 1)).z (vec 1338 n w) (set (nums 0 n l) t 1) (nums 66 n l) (read m n w l)
  read-tried = read-solve m n full w w' (set l t 1) l' m18 n66 h ∙ rw (marks₁, rejected₁)

  full_is : full ≡ (solve_in m n (read m n w l) (set (nums 0 n l) t 1)).full
  full_is = h.rank ∙ rw marks₁

  value-is : at w' (1272 + t) ≡ at (solve_in m n (read m n w l) (set (nums 0 n l) t 1)).z t
  value-is = sym (at-vec 1272 n w' t tn) ∙ ap (λ (s : State). at s.z t) read-tried

  pub judged : (full && above0 (at w' (1272 + t))) ≡ keeps (solve_in m n (read m n w l) (set (nums 0 n l) t 1)) t
  judged = rw (full_is, value-is)

  pub tried-stays : full ≡ true → above0 (at w' (1272 + t)) ≡ true → TriedColumn m n t true (read m n w l) (read m n w' l')
  tried-stays f u =
      record {
        judged = sym (rw (f, u)) ∙ judged;
        values = λ e. ap (λ (s : State). s.z) read-tried;
        after = read-tried ∙ ap (λ (s : State). put (vec 1206 n w) s.z (vec 1338 n w) (set (nums 0 n l) t 1) (nums 66 n l) (read m n w l)) (sym read-tried);
      }

  off : (x y : Bool) → (x ≡ false) ⊎ (y ≡ false) → (x && y) ≡ false
  off true y (inl e) = absurd (true≢false e)
  off true y (inr e) = e
  off false y e = refl

  pub tried-back : length l' ≡ length (set l t 1) → (full ≡ false) ⊎ (above0 (at w' (1272 + t)) ≡ false) → nth l t ≡ 0
      → TriedColumn m n t false (read m n w l) (read m n w' (set (set l' t 0) (66 + t) 1))
  tried-back long h e =
      let hl' : 264 ≤ length l' = omega (arith, length-set l t 1) in
      record {
        judged = sym (off full (above0 (at w' (1272 + t))) h) ∙ judged;
        values = λ e. absurd (true≢false (sym e));
        after =
            states (ap (λ (s : State). s.a) read-tried) (ap (λ (s : State). s.b) read-tried) (ap (λ (s : State). s.x) read-tried) refl (ap (λ (s : State). s.dual) read-tried)
            (same-marks n 0 (set l' t 0) (set (set l' t 0) (66 + t) 1) n66 (λ x a b. get_or-set_other (set l' t 0) (66 + t) x 1 0 (λ q. omega arith))
            ∙ nums-set-front n t l' 0 tn (omega arith)
            ∙ rw (ap (λ (s : State). s.passive) read-tried)
            (set-set (nums 0 n l) t 1 0 ∙ ap (set (nums 0 n l) t) (sym (nth-front n t l tn ∙ e)) ∙ set-get_or (nums 0 n l) t 0))
            (nums-set 66 n t (set l' t 0) 1 tn (rw length-set (omega arith))
            ∙ ap (λ (q : List ℕ). set q t 1)
            (same-marks n 66 l' (set l' t 0) n66 (λ x a b. get_or-set_other l' t x 0 0 (λ q. omega arith)) ∙ ap (λ (s : State). s.rejected) read-tried));
      }
