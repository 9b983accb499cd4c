-- Laws of the first failed row: of lists one after the other, and of a loop that goes through f 0, f 1, ..
use mathlib.Core.Path.{◌≡◌, refl, sym, ap, ◌∙◌}
use mathlib.Core.Bool.{Bool, true, false, cond}
use mathlib.Core.List.{List, [], ◌∷◌, ◌++◌}
use mathlib.Core.Logic.{⊎_elim}
use Prim.Native.Nat.{ℕ, zero, suc, ◌+◌, ◌≤◌, ◌<◌}
use native.Mathlib.Nat.{le_antisymm}
use native.Mathlib.Numerals.{add-one}
use native.Mathlib.Omega.{arith}
use lib.Ieee.{Float}
use Rattle.numbers.proofs.Cases.{eq-or-ne, lt-or-ge}
use Rattle.step_rows.specs.Problem.{each}
use Rattle.step_rows.proofs.Pushing.{each-suc}
use Rattle.step_check.specs.declared.Test.{Test}
use Rattle.step_check.specs.declared.Part.{Part}
use Rattle.step_check.specs.declared.Failure.{Failure}
use Rattle.std.specs.Prelude.{Err}
use Rattle.step_check.specs.Check.{Margin, margin_of, holds, Verdict, yes, fails, first_failed, ◌or_else◌}

-- ---- one row

pub row-holds : (t : Test) (tol : Float) (p : Part) (i : ℕ) (l v : Float) → holds t tol l v ≡ true → yes ≡ first_failed t tol (margin_of p i l v ∷ [])
unfolding first_failed
row-holds t tol p i l v e = rw e

pub row-fails : (t : Test) (tol : Float) (p : Part) (i : ℕ) (l v : Float) → holds t tol l v ≡ false → fails t p i ≡ first_failed t tol (margin_of p i l v ∷ [])
unfolding first_failed
row-fails t tol p i l v e = rw e

-- ---- one verdict after the other

pub first-join : (t : Test) (tol : Float) (rs ss : List Margin) → first_failed t tol (rs ++ ss) ≡ (first_failed t tol rs or_else first_failed t tol ss)
unfolding first_failed
first-join t tol [] ss = refl
first-join t tol (r ∷ rs) ss = go (holds t tol r.multiplier r.margin) (first_failed t tol (rs ++ ss)) (first_failed t tol rs) (first_failed t tol ss) (first-join t tol rs ss)
  where
    go : (b : Bool) (u v w : Verdict) → u ≡ (v or_else w) → cond b u (fails t r.part r.index) ≡ (cond b v (fails t r.part r.index) or_else w)
    go true u v w e = e
    go false u v w e = refl

pub none-fails : (t : Test) (tol : Float) → yes ≡ first_failed t tol []
unfolding first_failed
none-fails t tol = refl

-- what the first says where it fails, and else what the next says
pub says_first : (v u w : Verdict) (f : Failure) → v ≡ u → v ≡ Err f → Err f ≡ (u or_else w)
says_first v u w f e h = rw (← e, h)

pub says-next : (v v' u w : Verdict) → v ≡ u → v ≡ yes → v' ≡ w → v' ≡ (u or_else w)
says-next v v' u w e h k = rw (← e, h) k

pub join_first : (t : Test) (tol : Float) (rs ss : List Margin) (v : Verdict) (f : Failure) → v ≡ first_failed t tol rs → v ≡ Err f → Err f ≡ first_failed t tol (rs ++ ss)
join_first t tol rs ss v f e h = says_first v (first_failed t tol rs) (first_failed t tol ss) f e h ∙ sym (first-join t tol rs ss)

pub join-next : (t : Test) (tol : Float) (rs ss : List Margin) (v v' : Verdict) → v ≡ first_failed t tol rs → v ≡ yes → v' ≡ first_failed t tol ss → v' ≡ first_failed t tol (rs ++ ss)
join-next t tol rs ss v v' e h k = says-next v v' (first_failed t tol rs) (first_failed t tol ss) e h k ∙ sym (first-join t tol rs ss)

-- ---- a loop

module _ (t : Test) (tol : Float) (f : ℕ → List Margin) where
  pub first-none : first_failed t tol (each 0 f) ≡ yes
  unfolding each first_failed
  first-none = refl

  first-suc : (j : ℕ) → first_failed t tol (each (suc j) f) ≡ (first_failed t tol (each j f) or_else first_failed t tol (f j))
  first-suc j = ap (first_failed t tol) (each-suc j f) ∙ first-join t tol (each j f) (f j)

  pub first_more : (j : ℕ) → first_failed t tol (each j f) ≡ yes → first_failed t tol (f j) ≡ yes → first_failed t tol (each (j + 1) f) ≡ yes
  first_more j e h = rw (add-one, first-suc j, e, h)

  pub first_out : (j m : ℕ) (g : Failure) → j < m → first_failed t tol (each j f) ≡ yes → first_failed t tol (f j) ≡ Err g
      → first_failed t tol (each m f) ≡ Err g
  first_out j zero g l e h = absurd (omega arith)
  first_out j (suc m) g l e h =
      ⊎_elim (λ (q : j ≡ m). rw (first-suc m, ← q, e, h))
      (λ (q : j ≡ m → ⊥). rw (first-suc m, first_out j m g (before q) e h))
      (eq-or-ne j m)
    where
      before : (j ≡ m → ⊥) → j < m
      before q = ⊎_elim (λ (a : j < m). a) (λ (a : m ≤ j). absurd (q (omega arith))) (lt-or-ge j m)

  pub first-all : (j m : ℕ) → j ≤ m → m ≤ j → first_failed t tol (each j f) ≡ yes → yes ≡ first_failed t tol (each m f)
  first-all j m h k e = sym (ap (λ (x : ℕ). first_failed t tol (each x f)) (sym (le_antisymm h k)) ∙ e)
