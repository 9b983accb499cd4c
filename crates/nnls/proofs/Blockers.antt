-- The blocking column: its ratio, one against the nearest so far, and the loop.
use mathlib.Core.Path.{◌≡◌, refl, sym, ap, ◌∙◌}
use mathlib.Core.Bool.{Bool, true, false, not, cond, ◌&&◌, true≢false}
use mathlib.Core.List.{List}
use Rattle.std.specs.Prelude.{Option, None, Some}
use Prim.Native.Nat.{ℕ, suc, ◌+◌, ◌<◌}
use native.Mathlib.Numerals.{add-one}
use lib.Dec.{eqb}
use lib.Ieee.{Float, nan, inf, fin, lt, is_nan, ne}
use borrow.Author.Tests.{eq-eqb, ne_eqb}
use Rattle.numbers.specs.Numbers.{+0, at, nth, ◌⊖◌, ◌⊘◌}
use Rattle.workspace.specs.Readings.{vec, nums}
use Rattle.workspace.proofs.Readings.{at-vec, nth-front}
use Rattle.nnls.specs.Nnls.{above0, up_to0, ratio_of, ranks_before, free, block, sooner, blocking}
use Rattle.nnls.specs.inner.Work.{obstacle_of, nearer_of}
use Rattle.nnls.specs.declared.Nearest.{Nearest}
use Rattle.nnls.proofs.Signs.{true→T, and-false}
use lib.Ieee.Compare.{differs_from_itself, nan_differs}

-- ---- the ratio, and its rank

pub ratio-gap : (x z : Float) → above0 (x ⊖ z) ≡ true → x ⊘ (x ⊖ z) ≡ ratio_of x z
unfolding ratio_of
ratio-gap x z h = rw h

pub ratio-none : (x z : Float) → above0 (x ⊖ z) ≡ false → +0 ≡ ratio_of x z
unfolding ratio_of
ratio-none x z h = rw h

-- a NaN, and nothing else, differs from itself
is-nan : (x : Float) → ne x x ≡ true → is_nan x ≡ true
unfolding is_nan
is-nan x h = ap is_nan (differs_from_itself x (true→T (ne x x) h))

no_nan : (x : Float) → ne x x ≡ false → is_nan x ≡ false
unfolding is_nan
no_nan nan h = absurd (true≢false (sym nan_differs ∙ h))
no_nan (inf s) h = refl
no_nan (fin s m e) h = refl

pub ranks-nan : (r s : Float) → ne r r ≡ true → false ≡ ranks_before r s
unfolding ranks_before
ranks-nan r s h = rw (is-nan r h)

pub ranks-over-nan : (r s : Float) → ne r r ≡ false → ne s s ≡ true → true ≡ ranks_before r s
unfolding ranks_before
ranks-over-nan r s h k = rw (no_nan r h, is-nan s k)

pub ranks-numbers : (r s : Float) → ne r r ≡ false → ne s s ≡ false → lt r s ≡ ranks_before r s
unfolding ranks_before
ranks-numbers r s h k = rw (no_nan r h, no_nan s k)

-- ---- one column against the nearest so far, by the way out

module _ (c : Option Nearest) (j : ℕ) (x z : Float) (m : ℕ) where
  off : (not (eqb m 0) && (up_to0 z && sooner (ratio_of x z) (obstacle_of c))) ≡ false → c ≡ nearer_of c j x z m
  unfolding nearer_of
  off e = rw e

  pub stays_out : m ≡ 0 → c ≡ nearer_of c j x z m
  stays_out h = off (rw (eq-eqb m 0 h))

  pub stays_up : up_to0 z ≡ false → c ≡ nearer_of c j x z m
  stays_up h = off (and-false (not (eqb m 0)) _ (rw h))

  pub stays-later : (r : Float) → r ≡ ratio_of x z → (b : Nearest) → c ≡ Some b → (s : Bool) → s ≡ ranks_before r b.ratio → s ≡ false → c ≡ nearer_of c j x z m
  stays-later r e b is s t n =
      let k : sooner (ratio_of x z) (obstacle_of c) ≡ false =
      ap (λ (o : Option Nearest). sooner (ratio_of x z) (obstacle_of o)) is ∙ ap (λ (v : Float). ranks_before v b.ratio) (sym e) ∙ sym t ∙ n in
      off (and-false (not (eqb m 0)) _ (and-false (up_to0 z) _ k))

  on : (r : Float) → r ≡ ratio_of x z → (m ≡ 0 → ⊥) → up_to0 z ≡ true → sooner (ratio_of x z) (obstacle_of c) ≡ true
      → Some (record { index = j; ratio = r }) ≡ nearer_of c j x z m
  unfolding nearer_of
  on r e h d l = rw (e, ne_eqb m 0 h, d, l)

  pub takes-sooner : (r : Float) → r ≡ ratio_of x z → (m ≡ 0 → ⊥) → up_to0 z ≡ true → (b : Nearest) → c ≡ Some b → (s : Bool) → s ≡ ranks_before r b.ratio → s ≡ true
      → Some (record { index = j; ratio = r }) ≡ nearer_of c j x z m
  takes-sooner r e h d b is s t n =
      on r e h d (ap (λ (o : Option Nearest). sooner (ratio_of x z) (obstacle_of o)) is ∙ ap (λ (v : Float). ranks_before v b.ratio) (sym e) ∙ sym t ∙ n)

  pub takes_first : (r : Float) → r ≡ ratio_of x z → (m ≡ 0 → ⊥) → up_to0 z ≡ true → c ≡ None → Some (record { index = j; ratio = r }) ≡ nearer_of c j x z m
  takes_first r e h d is = on r e h d (ap (λ (o : Option Nearest). sooner (ratio_of x z) (obstacle_of o)) is)

-- ---- the loop

module _ (x z : List Float) (p : List ℕ) (j : ℕ) (c : Option Nearest) where
  same_test : (t : Bool) (r : Float) → obstacle_of (cond t (Some (record { index = j; ratio = r })) c) ≡ cond t (block j r) (obstacle_of c)
  same_test true r = refl
  same_test false r = refl

  step : obstacle_of c ≡ blocking x z p j → obstacle_of (nearer_of c j (at x j) (at z j) (nth p j)) ≡ blocking x z p (suc j)
  unfolding nearer_of blocking
  step s =
      same_test (not (eqb (nth p j) 0) && (up_to0 (at z j) && sooner (ratio_of (at x j) (at z j)) (obstacle_of c))) (ratio_of (at x j) (at z j))
      ∙ rw s

again : (x z : List Float) (p : List ℕ) (j : ℕ) (c r : Option Nearest) → obstacle_of c ≡ blocking x z p j → r ≡ nearer_of c j (at x j) (at z j) (nth p j) → obstacle_of r ≡ blocking x z p (j + 1)
again x z p j c r s e = ap obstacle_of e ∙ rw add-one (step x z p j c s)

pub nearest-none : (x z : List Float) (p : List ℕ) → free ≡ blocking x z p 0
unfolding blocking
nearest-none x z p = refl

-- a turn, as the kernel reads its workspaces
pub nearest-more : (n : ℕ) (w : List Float) (l : List ℕ) (j : ℕ) (c r : Option Nearest) → j < n → obstacle_of c ≡ blocking (vec 1206 n w) (vec 1272 n w) (nums 0 n l) j
    → r ≡ nearer_of c j (at w (1206 + j)) (at w (1272 + j)) (nth l j) → obstacle_of r ≡ blocking (vec 1206 n w) (vec 1272 n w) (nums 0 n l) (j + 1)
nearest-more n w l j c r h s e =
    again (vec 1206 n w) (vec 1272 n w) (nums 0 n l) j c r s (e ∙ rw (at-vec 1206 n w j h, at-vec 1272 n w j h, nth-front n j l h))
