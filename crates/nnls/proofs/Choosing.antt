-- The column to try: one against the best so far, and the loop.
use mathlib.Core.Path.{◌≡◌, refl, sym, ap, ◌∙◌, subst}
use mathlib.Core.Bool.{Bool, true, false, not, cond, ◌&&◌}
use mathlib.Core.List.{List}
use Rattle.std.specs.Prelude.{Option, None, Some, IfSome}
use Prim.Native.Nat.{ℕ, suc, ◌+◌, ◌<◌}
use native.Mathlib.Numerals.{add-one}
use lib.Dec.{eqb}
use lib.Ieee.{Float, lt}
use borrow.Author.Tests.{eq-eqb, ne_eqb}
use Rattle.numbers.specs.Numbers.{at, nth}
use Rattle.workspace.specs.Readings.{vec, nums}
use Rattle.workspace.proofs.Readings.{at-vec, nth-nums, nth-front}
use Rattle.nnls.specs.Nnls.{above0, beats, choose}
use Rattle.nnls.specs.inner.Work.{column_of, leads, better_of}
use Rattle.nnls.proofs.Signs.{and-false}
use Rattle.nnls.specs.declared.Candidate.{Candidate}

-- ---- one column against the best so far, by the way out

module _ (c : Option Candidate) (j : ℕ) (v : Float) (p rej : ℕ) where
  off : (eqb p 0 && (eqb rej 0 && (above0 v && not (leads c v)))) ≡ false → c ≡ better_of c j v p rej
  unfolding better_of
  off e = rw e

  pub stays-passive : (p ≡ 0 → ⊥) → c ≡ better_of c j v p rej
  stays-passive h = off (rw (ne_eqb p 0 h))

  pub stays-rejected : (rej ≡ 0 → ⊥) → c ≡ better_of c j v p rej
  stays-rejected h = off (and-false (eqb p 0) _ (rw (ne_eqb rej 0 h)))

  pub stays-not-above : above0 v ≡ false → c ≡ better_of c j v p rej
  stays-not-above h = off (and-false (eqb p 0) _ (and-false (eqb rej 0) _ (rw h)))

  pub stays-above : leads c v ≡ true → c ≡ better_of c j v p rej
  stays-above h = off (and-false (eqb p 0) _ (and-false (eqb rej 0) _ (and-false (above0 v) _ (rw h))))

  pub wins : p ≡ 0 → rej ≡ 0 → above0 v ≡ true → leads c v ≡ false → Some (record { index = j; dual = v }) ≡ better_of c j v p rej
  unfolding better_of
  wins a b u l = rw (eq-eqb p 0 a, eq-eqb rej 0 b, u, l)

-- ---- the loop

-- the best so far is that of the first i columns
pub record Stands (w : List Float) (p rej : List ℕ) (i : ℕ) (c : Option Candidate) : Type 0 where
  pub column : column_of c ≡ choose w p rej i
  pub dual : IfSome c (λ b. b.dual ≡ at w b.index)

module _ (w : List Float) (p rej : List ℕ) (i : ℕ) (c : Option Candidate) where
  same_test : (a b u l : Bool) → column_of (cond (a && (b && (u && l))) (Some (record { index = i; dual = at w i })) c) ≡ cond ((not (not a) && (not (not b) && u)) && l) (Some i) (column_of c)
  same_test true true true true = refl
  same_test true true true false = refl
  same_test true true false l = refl
  same_test true false u l = refl
  same_test false b u l = refl

  keeps-dual : (t : Bool) → IfSome c (λ b. b.dual ≡ at w b.index) → IfSome (cond t (Some (record { index = i; dual = at w i })) c) (λ b. b.dual ≡ at w b.index)
  keeps-dual true h = refl
  keeps-dual false h = h

beats-is : (w : List Float) (i : ℕ) (c : Option Candidate) → IfSome c (λ b. b.dual ≡ at w b.index) → not (leads c (at w i)) ≡ beats w i (column_of c)
beats-is w i None h = refl
beats-is w i (Some b) h = ap (λ (x : Float). not (lt (at w i) x)) h

step : (w : List Float) (p rej : List ℕ) (i : ℕ) (c : Option Candidate) → Stands w p rej i c → Stands w p rej (suc i) (better_of c i (at w i) (nth p i) (nth rej i))
unfolding better_of choose
step w p rej i c s = record {
  column =
      same_test w p rej i c (eqb (nth p i) 0) (eqb (nth rej i) 0) (above0 (at w i)) (not (leads c (at w i)))
      ∙ rw (beats-is w i c s.dual, s.column);
  dual = keeps-dual w p rej i c (eqb (nth p i) 0 && (eqb (nth rej i) 0 && (above0 (at w i) && not (leads c (at w i))))) s.dual;
}

pub stands-none : (w : List Float) (p rej : List ℕ) → Stands w p rej 0 None
unfolding choose
stands-none w p rej = record { column = refl; dual = tt }

again : (w : List Float) (p rej : List ℕ) (i : ℕ) (c r : Option Candidate) → Stands w p rej i c → r ≡ better_of c i (at w i) (nth p i) (nth rej i) → Stands w p rej (i + 1) r
again w p rej i c r s e = subst (λ (r : Option Candidate). Stands w p rej (i + 1) r) (sym e) (rw add-one (step w p rej i c s))

-- a turn, as the kernel reads its workspaces
pub chosen_more : (n : ℕ) (w : List Float) (l : List ℕ) (i : ℕ) (c r : Option Candidate) → i < n → Stands (vec 1338 n w) (nums 0 n l) (nums 66 n l) i c
    → r ≡ better_of c i (at w (1338 + i)) (nth l i) (nth l (66 + i)) → Stands (vec 1338 n w) (nums 0 n l) (nums 66 n l) (i + 1) r
chosen_more n w l i c r h s e =
    again (vec 1338 n w) (nums 0 n l) (nums 66 n l) i c r s (e ∙ rw (at-vec 1338 n w i h, nth-front n i l h, nth-nums 66 n l i h))
