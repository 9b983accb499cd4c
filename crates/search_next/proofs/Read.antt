-- What is read of the slices is as long as it is to be, and as many as n and m say.
use Prim.Native.Nat.{ℕ, suc, ◌*◌}
use mathlib.Core.Path.{refl, ap, ◌∙◌, subst}
use mathlib.Core.Bool.{Bool, true, false, cond}
use mathlib.Core.List.{List}
use native.Mathlib.Omega.{arith}
use lib.Dec.{eqb}
use lib.Ieee.{Float}
use Rattle.numbers.specs.Numbers.{nth}
use Rattle.workspace.specs.Readings.{nums}
use Rattle.workspace.proofs.Readings.{length-vec}
use Rattle.search.specs.Setup.{are_kinds}
use Rattle.search.specs.Turn.{Iterate}
use Rattle.search.specs.Written.{begun, taken, report_for}
use Rattle.search.specs.Layout.{setup_in, new_in, iterate_in, goal_in, FitsPoint, FitsIterate, FitsGoal}
use Rattle.search.specs.inner.Work.{Ready}
use Rattle.search.proofs.Sizes.{report-for}
use Rattle.search.proofs.Turns.{FitsReport}

pub fits-new : (n m : ℕ) (f : List Float) → FitsPoint n m (new_in n m f)
fits-new n m f = record { x = length-vec 112 n f; values = length-vec 152 (suc m) f }

pub fits-iterate : (n m : ℕ) (f : List Float) (u : List ℕ) → FitsIterate n m (iterate_in n m f u)
fits-iterate n m f u =
    record {
      point = record { x = length-vec 48 n f; values = length-vec 128 (suc m) f };
      slopes = length-vec 176 (suc m * n) f;
      b = length-vec 720 (n * n) f;
      penalty = length-vec 80 m f;
      multipliers = length-vec 96 m f;
    }

fits-either : (n m : ℕ) (t : Bool) (s : Iterate) → FitsIterate n m s → FitsGoal n m (cond t begun (taken s))
fits-either n m true s h = tt
fits-either n m false s h = h

pub fits-goal : (n m : ℕ) (f : List Float) (u : List ℕ) → FitsGoal n m (goal_in n m f u)
fits-goal n m f u = fits-either n m (eqb (nth u 4) 0) (iterate_in n m f u) (fits-iterate n m f u)

pub fits-report : (f : List Float) (u : List ℕ) → FitsReport (nth u 8) (nth u 9) (report_for (setup_in f u) (goal_in (nth u 8) (nth u 9) f u) (new_in (nth u 8) (nth u 9) f))
fits-report f u = report-for (setup_in f u) (goal_in (nth u 8) (nth u 9) f u) _ (fits-goal (nth u 8) (nth u 9) f u) (fits-new (nth u 8) (nth u 9) f)

-- n and m are what the words say
pub as_read : (P : ℕ → ℕ → Type 0) (n m : ℕ) (f : List Float) (u : List ℕ) → Ready n m f u → (Ready (nth u 8) (nth u 9) f u → P (nth u 8) (nth u 9)) → P n m
as_read P n m f u h k =
    let a = h.variables in
    let b = h.functions in
    let r : Ready (nth u 8) (nth u 9) f u = record {
      floats = h.floats;
      words = h.words;
      some = omega (arith, h.some);
      few = omega (arith, h.few);
      constraints = omega (arith, h.constraints);
      variables = refl;
      functions = refl;
      kinds = ap (λ (t : ℕ). are_kinds (nums 16 t u)) b ∙ h.kinds;
      fresh = h.fresh;
    } in
    subst (λ (t : ℕ). P t m) a (subst (λ (t : ℕ). P (nth u 8) t) b (k r))
