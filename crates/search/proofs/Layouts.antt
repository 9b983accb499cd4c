-- A machine that is written into its slices is read again, with its problem.
use Prim.Native.Nat.{ℕ, suc, ◌+◌, ◌-◌, ◌*◌, ◌≤◌, ◌<◌}
use mathlib.Core.Path.{◌≡◌, refl, sym, ap, ap₂, ◌∙◌, subst}
use mathlib.Core.Bool.{Bool, true, false, cond, ◌&&◌}
use mathlib.Core.List.{List, [], ◌∷◌}
use mathlib.Core.Option.{Option, none, some}
use native.Mathlib.Nat.{suc-mul, mul-le-mul_left, mul-le-mul_right}
use native.Mathlib.Omega.{arith}
use lib.Dec.{T, leb, eqb, le→leb, leb→le}
use lib.ListN.{length, set, replicate, length-set, length-replicate}
use lib.Ieee.{Float, nan}
use Rattle.numbers.specs.Numbers.{+0, at, nth}
use Rattle.numbers.proofs.Lists.{length-tab}
use Rattle.nnls.proofs.Signs.{T→true}
use Rattle.search.proofs.Laying.{size, laid_in, laid-below, laid-above, vec-below, vec-above, vec_laid, nums-above, nums-here}
use Rattle.search.proofs.Reported.{report-read}
use Rattle.workspace.specs.Tables.{is_dimension, is_constraints}
use Rattle.workspace.specs.Readings.{vec, nums}
use Rattle.search.specs.Setup.{Setup, is_budget, is_scheme, are_kinds, Scheme, told, forward, central, Point, Report, Ending, converged, infeasible, exhausted, nonfinite}
use Rattle.search.specs.Turn.{Iterate, Line, backtracks, along, raise, lower}
use Rattle.search.specs.Written.{Goal, begun, taken}
use Rattle.search.specs.Machine.{Machine, ended, starting, trying, sloping, raised, lowered, report_now}
use Rattle.search.specs.Layout.{scheme_of, scheme_number, ending_number, bit, setup_in, goal_in, report_in, known, state_in, are_words, machine_in, laid, setup_floats, setup_words, emptied, iterate_floats, report_floats, goal_floats, machine_floats, is_taken, is_fresh, seven, machine_words, FitsPoint, FitsIterate, FitsGoal, Fits, Posed, Holds, Begun, Kept}

-- ---- an iterate

module _ (n m : ℕ) (l : n ≤ 16) (k : m ≤ 16) (B₁ : suc m * n ≤ 272) (B₂ : n * n ≤ 256) where
  pub iterate-size : (s : Iterate) (f : List Float) → length f ≡ 1024 → length (iterate_floats s f) ≡ 1024
  iterate-size s f e = (size _ _ _ _ (size _ _ _ _ (size _ _ _ _ (size _ _ _ _ (size _ _ _ _ (size _ _ _ _ e))))))

  pub iterate-SL : (s : Iterate) (f : List Float) → FitsIterate n m s → length f ≡ 1024 → vec 176 (suc m * n) (iterate_floats s f) ≡ s.slopes
  iterate-SL s f h e =
      vec_laid 176 (suc m * n) _ _ 1024 h.slopes (size _ _ _ _ (size _ _ _ _ (size _ _ _ _ (size _ _ _ _ (size _ _ _ _ e))))) (omega arith)

  pub iterate-B : (s : Iterate) (f : List Float) → FitsIterate n m s → length f ≡ 1024 → vec 720 (n * n) (iterate_floats s f) ≡ s.b
  iterate-B s f h e =
      vec-above 720 (n * n) 176 _ _ (omega arith)
      ∙ vec_laid 720 (n * n) _ _ 1024 h.b (size _ _ _ _ (size _ _ _ _ (size _ _ _ _ (size _ _ _ _ e)))) (omega arith)

  pub iterate-PE : (s : Iterate) (f : List Float) → FitsIterate n m s → length f ≡ 1024 → vec 80 m (iterate_floats s f) ≡ s.penalty
  iterate-PE s f h e =
      vec-below 80 m 176 _ _ (omega arith)
      ∙ vec-below 80 m 720 _ _ (omega arith)
      ∙ vec_laid 80 m _ _ 1024 h.penalty (size _ _ _ _ (size _ _ _ _ (size _ _ _ _ e))) (omega arith)

  pub iterate-MU : (s : Iterate) (f : List Float) → FitsIterate n m s → length f ≡ 1024 → vec 96 m (iterate_floats s f) ≡ s.multipliers
  iterate-MU s f h e =
      vec-below 96 m 176 _ _ (omega arith)
      ∙ vec-below 96 m 720 _ _ (omega arith)
      ∙ vec-above 96 m 80 _ _ (omega arith)
      ∙ vec_laid 96 m _ _ 1024 h.multipliers (size _ _ _ _ (size _ _ _ _ e)) (omega arith)

  pub iterate-PX : (s : Iterate) (f : List Float) → FitsIterate n m s → length f ≡ 1024 → vec 48 n (iterate_floats s f) ≡ s.point.x
  iterate-PX s f h e =
      vec-below 48 n 176 _ _ (omega arith)
      ∙ vec-below 48 n 720 _ _ (omega arith)
      ∙ vec-below 48 n 80 _ _ (omega arith)
      ∙ vec-below 48 n 96 _ _ (omega arith)
      ∙ vec_laid 48 n _ _ 1024 h.point.x (size _ _ _ _ e) (omega arith)

  pub iterate-PV : (s : Iterate) (f : List Float) → FitsIterate n m s → length f ≡ 1024 → vec 128 (suc m) (iterate_floats s f) ≡ s.point.values
  iterate-PV s f h e =
      vec-below 128 (suc m) 176 _ _ (omega arith)
      ∙ vec-below 128 (suc m) 720 _ _ (omega arith)
      ∙ vec-above 128 (suc m) 80 _ _ (omega arith)
      ∙ vec-above 128 (suc m) 96 _ _ (omega arith)
      ∙ vec-above 128 (suc m) 48 _ _ (omega arith)
      ∙ vec_laid 128 (suc m) _ _ 1024 h.point.values e (omega arith)

  pub iterate-lower : (s : Iterate) (f : List Float) → FitsIterate n m s → length f ≡ 1024 → vec 16 n (iterate_floats s f) ≡ vec 16 n f
  iterate-lower s f h e =
      vec-below 16 n 176 _ _ (omega arith)
      ∙ vec-below 16 n 720 _ _ (omega arith)
      ∙ vec-below 16 n 80 _ _ (omega arith)
      ∙ vec-below 16 n 96 _ _ (omega arith)
      ∙ vec-below 16 n 48 _ _ (omega arith)
      ∙ vec-below 16 n 128 _ _ (omega arith)

  pub iterate-upper : (s : Iterate) (f : List Float) → FitsIterate n m s → length f ≡ 1024 → vec 32 n (iterate_floats s f) ≡ vec 32 n f
  iterate-upper s f h e =
      vec-below 32 n 176 _ _ (omega arith)
      ∙ vec-below 32 n 720 _ _ (omega arith)
      ∙ vec-below 32 n 80 _ _ (omega arith)
      ∙ vec-below 32 n 96 _ _ (omega arith)
      ∙ vec-below 32 n 48 _ _ (omega arith)
      ∙ vec-below 32 n 128 _ _ (omega arith)

  pub iterate-ftol : (s : Iterate) (f : List Float) → FitsIterate n m s → length f ≡ 1024 → at (iterate_floats s f) 0 ≡ at f 0
  iterate-ftol s f h e =
      laid-below 176 _ _ 0 nan (omega arith)
      ∙ laid-below 720 _ _ 0 nan (omega arith)
      ∙ laid-below 80 _ _ 0 nan (omega arith)
      ∙ laid-below 96 _ _ 0 nan (omega arith)
      ∙ laid-below 48 _ _ 0 nan (omega arith)
      ∙ laid-below 128 _ _ 0 nan (omega arith)

  -- what slopes are for
  goal-size : (p : Setup) (goal : Goal) (q : Point) (f : List Float) → length f ≡ 1024 → length (goal_floats p goal q f) ≡ 1024
  goal-size p begun q f e = size _ _ _ _ (size _ _ _ _ (size _ _ _ _ e))
  goal-size p (taken s) q f e = iterate-size s f e

  goal-lower : (p : Setup) (goal : Goal) (q : Point) (f : List Float) → FitsGoal n m goal → length f ≡ 1024 → vec 16 n (goal_floats p goal q f) ≡ vec 16 n f
  goal-lower p begun q f h e = vec-below 16 n 96 _ _ (omega arith) ∙ vec-below 16 n 48 _ _ (omega arith) ∙ vec-below 16 n 128 _ _ (omega arith)
  goal-lower p (taken s) q f h e = iterate-lower s f h e

  goal-upper : (p : Setup) (goal : Goal) (q : Point) (f : List Float) → FitsGoal n m goal → length f ≡ 1024 → vec 32 n (goal_floats p goal q f) ≡ vec 32 n f
  goal-upper p begun q f h e = vec-below 32 n 96 _ _ (omega arith) ∙ vec-below 32 n 48 _ _ (omega arith) ∙ vec-below 32 n 128 _ _ (omega arith)
  goal-upper p (taken s) q f h e = iterate-upper s f h e

  goal-ftol : (p : Setup) (goal : Goal) (q : Point) (f : List Float) → FitsGoal n m goal → length f ≡ 1024 → at (goal_floats p goal q f) 0 ≡ at f 0
  goal-ftol p begun q f h e = laid-below 96 _ _ 0 nan (omega arith) ∙ laid-below 48 _ _ 0 nan (omega arith) ∙ laid-below 128 _ _ 0 nan (omega arith)
  goal-ftol p (taken s) q f h e = iterate-ftol s f h e

  pub is_one : (t : Bool) → eqb (bit t) 1 ≡ t
  is_one true = refl
  is_one false = refl

  -- a trial
  trying-lower : (s : Iterate) (line : Line) (α : Float) (x f : List Float) → FitsIterate n m s → length line.d ≡ n → length x ≡ n → length f ≡ 1024 → vec 16 n (laid 976 x (laid 1 (α ∷ line.merit ∷ line.slope ∷ []) (laid 64 line.d (iterate_floats s f)))) ≡ vec 16 n f
  trying-lower s line α x f h hd hx e =
      vec-below 16 n 976 _ _ (omega arith)
      ∙ vec-above 16 n 1 _ _ (omega arith)
      ∙ vec-below 16 n 64 _ _ (omega arith)
      ∙ iterate-lower s f h e

  trying-upper : (s : Iterate) (line : Line) (α : Float) (x f : List Float) → FitsIterate n m s → length line.d ≡ n → length x ≡ n → length f ≡ 1024 → vec 32 n (laid 976 x (laid 1 (α ∷ line.merit ∷ line.slope ∷ []) (laid 64 line.d (iterate_floats s f)))) ≡ vec 32 n f
  trying-upper s line α x f h hd hx e =
      vec-below 32 n 976 _ _ (omega arith)
      ∙ vec-above 32 n 1 _ _ (omega arith)
      ∙ vec-below 32 n 64 _ _ (omega arith)
      ∙ iterate-upper s f h e

  trying-ftol : (s : Iterate) (line : Line) (α : Float) (x f : List Float) → FitsIterate n m s → length line.d ≡ n → length x ≡ n → length f ≡ 1024 → at (laid 976 x (laid 1 (α ∷ line.merit ∷ line.slope ∷ []) (laid 64 line.d (iterate_floats s f)))) 0 ≡ at f 0
  trying-ftol s line α x f h hd hx e =
      laid-below 976 _ _ 0 nan (omega arith)
      ∙ laid-below 1 _ _ 0 nan (omega arith)
      ∙ laid-below 64 _ _ 0 nan (omega arith)
      ∙ iterate-ftol s f h e

  trying-SL : (s : Iterate) (line : Line) (α : Float) (x f : List Float) → FitsIterate n m s → length line.d ≡ n → length x ≡ n → length f ≡ 1024 → vec 176 (suc m * n) (laid 976 x (laid 1 (α ∷ line.merit ∷ line.slope ∷ []) (laid 64 line.d (iterate_floats s f)))) ≡ s.slopes
  trying-SL s line α x f h hd hx e =
      vec-below 176 (suc m * n) 976 _ _ (omega arith)
      ∙ vec-above 176 (suc m * n) 1 _ _ (omega arith)
      ∙ vec-above 176 (suc m * n) 64 _ _ (omega arith)
      ∙ iterate-SL s f h e

  trying-B : (s : Iterate) (line : Line) (α : Float) (x f : List Float) → FitsIterate n m s → length line.d ≡ n → length x ≡ n → length f ≡ 1024 → vec 720 (n * n) (laid 976 x (laid 1 (α ∷ line.merit ∷ line.slope ∷ []) (laid 64 line.d (iterate_floats s f)))) ≡ s.b
  trying-B s line α x f h hd hx e =
      vec-below 720 (n * n) 976 _ _ (omega arith)
      ∙ vec-above 720 (n * n) 1 _ _ (omega arith)
      ∙ vec-above 720 (n * n) 64 _ _ (omega arith)
      ∙ iterate-B s f h e

  trying-PE : (s : Iterate) (line : Line) (α : Float) (x f : List Float) → FitsIterate n m s → length line.d ≡ n → length x ≡ n → length f ≡ 1024 → vec 80 m (laid 976 x (laid 1 (α ∷ line.merit ∷ line.slope ∷ []) (laid 64 line.d (iterate_floats s f)))) ≡ s.penalty
  trying-PE s line α x f h hd hx e =
      vec-below 80 m 976 _ _ (omega arith)
      ∙ vec-above 80 m 1 _ _ (omega arith)
      ∙ vec-above 80 m 64 _ _ (omega arith)
      ∙ iterate-PE s f h e

  trying-MU : (s : Iterate) (line : Line) (α : Float) (x f : List Float) → FitsIterate n m s → length line.d ≡ n → length x ≡ n → length f ≡ 1024 → vec 96 m (laid 976 x (laid 1 (α ∷ line.merit ∷ line.slope ∷ []) (laid 64 line.d (iterate_floats s f)))) ≡ s.multipliers
  trying-MU s line α x f h hd hx e =
      vec-below 96 m 976 _ _ (omega arith)
      ∙ vec-above 96 m 1 _ _ (omega arith)
      ∙ vec-above 96 m 64 _ _ (omega arith)
      ∙ iterate-MU s f h e

  trying-PX : (s : Iterate) (line : Line) (α : Float) (x f : List Float) → FitsIterate n m s → length line.d ≡ n → length x ≡ n → length f ≡ 1024 → vec 48 n (laid 976 x (laid 1 (α ∷ line.merit ∷ line.slope ∷ []) (laid 64 line.d (iterate_floats s f)))) ≡ s.point.x
  trying-PX s line α x f h hd hx e =
      vec-below 48 n 976 _ _ (omega arith)
      ∙ vec-above 48 n 1 _ _ (omega arith)
      ∙ vec-below 48 n 64 _ _ (omega arith)
      ∙ iterate-PX s f h e

  trying-PV : (s : Iterate) (line : Line) (α : Float) (x f : List Float) → FitsIterate n m s → length line.d ≡ n → length x ≡ n → length f ≡ 1024 → vec 128 (suc m) (laid 976 x (laid 1 (α ∷ line.merit ∷ line.slope ∷ []) (laid 64 line.d (iterate_floats s f)))) ≡ s.point.values
  trying-PV s line α x f h hd hx e =
      vec-below 128 (suc m) 976 _ _ (omega arith)
      ∙ vec-above 128 (suc m) 1 _ _ (omega arith)
      ∙ vec-above 128 (suc m) 64 _ _ (omega arith)
      ∙ iterate-PV s f h e

  trying-D : (s : Iterate) (line : Line) (α : Float) (x f : List Float) → FitsIterate n m s → length line.d ≡ n → length x ≡ n → length f ≡ 1024 → vec 64 n (laid 976 x (laid 1 (α ∷ line.merit ∷ line.slope ∷ []) (laid 64 line.d (iterate_floats s f)))) ≡ line.d
  trying-D s line α x f h hd hx e =
      vec-below 64 n 976 _ _ (omega arith)
      ∙ vec-above 64 n 1 _ _ (omega arith)
      ∙ vec_laid 64 n _ _ 1024 (hd) (iterate-size s f e) (omega arith)

  trying-1 : (s : Iterate) (line : Line) (α : Float) (x f : List Float) → FitsIterate n m s → length line.d ≡ n → length x ≡ n → length f ≡ 1024 → at (laid 976 x (laid 1 (α ∷ line.merit ∷ line.slope ∷ []) (laid 64 line.d (iterate_floats s f)))) 1 ≡ α
  trying-1 s line α x f h hd hx e =
      let z : length (laid 64 line.d (iterate_floats s f)) ≡ 1024 = size _ _ _ _ (iterate-size s f e) in
      laid-below 976 _ _ 1 nan (omega arith)
      ∙ laid_in 1 (α ∷ line.merit ∷ line.slope ∷ []) (laid 64 line.d (iterate_floats s f)) 0 nan (omega arith) (omega arith)

  trying-2 : (s : Iterate) (line : Line) (α : Float) (x f : List Float) → FitsIterate n m s → length line.d ≡ n → length x ≡ n → length f ≡ 1024 → at (laid 976 x (laid 1 (α ∷ line.merit ∷ line.slope ∷ []) (laid 64 line.d (iterate_floats s f)))) 2 ≡ line.merit
  trying-2 s line α x f h hd hx e =
      let z : length (laid 64 line.d (iterate_floats s f)) ≡ 1024 = size _ _ _ _ (iterate-size s f e) in
      laid-below 976 _ _ 2 nan (omega arith)
      ∙ laid_in 1 (α ∷ line.merit ∷ line.slope ∷ []) (laid 64 line.d (iterate_floats s f)) 1 nan (omega arith) (omega arith)

  trying-3 : (s : Iterate) (line : Line) (α : Float) (x f : List Float) → FitsIterate n m s → length line.d ≡ n → length x ≡ n → length f ≡ 1024 → at (laid 976 x (laid 1 (α ∷ line.merit ∷ line.slope ∷ []) (laid 64 line.d (iterate_floats s f)))) 3 ≡ line.slope
  trying-3 s line α x f h hd hx e =
      let z : length (laid 64 line.d (iterate_floats s f)) ≡ 1024 = size _ _ _ _ (iterate-size s f e) in
      laid-below 976 _ _ 3 nan (omega arith)
      ∙ laid_in 1 (α ∷ line.merit ∷ line.slope ∷ []) (laid 64 line.d (iterate_floats s f)) 2 nan (omega arith) (omega arith)

  -- slopes are asked for
  sloping-lower : (p : Setup) (goal : Goal) (q : Point) (x f : List Float) → FitsGoal n m goal → FitsPoint n m q → length x ≡ n → length f ≡ 1024 → vec 16 n (laid 976 x (laid 112 q.x (laid 152 q.values (goal_floats p goal q f)))) ≡ vec 16 n f
  sloping-lower p goal q x f h hq hx e =
      vec-below 16 n 976 _ _ (omega arith)
      ∙ vec-below 16 n 112 _ _ (omega arith)
      ∙ vec-below 16 n 152 _ _ (omega arith)
      ∙ goal-lower p goal q f h e

  sloping-upper : (p : Setup) (goal : Goal) (q : Point) (x f : List Float) → FitsGoal n m goal → FitsPoint n m q → length x ≡ n → length f ≡ 1024 → vec 32 n (laid 976 x (laid 112 q.x (laid 152 q.values (goal_floats p goal q f)))) ≡ vec 32 n f
  sloping-upper p goal q x f h hq hx e =
      vec-below 32 n 976 _ _ (omega arith)
      ∙ vec-below 32 n 112 _ _ (omega arith)
      ∙ vec-below 32 n 152 _ _ (omega arith)
      ∙ goal-upper p goal q f h e

  sloping-ftol : (p : Setup) (goal : Goal) (q : Point) (x f : List Float) → FitsGoal n m goal → FitsPoint n m q → length x ≡ n → length f ≡ 1024 → at (laid 976 x (laid 112 q.x (laid 152 q.values (goal_floats p goal q f)))) 0 ≡ at f 0
  sloping-ftol p goal q x f h hq hx e =
      laid-below 976 _ _ 0 nan (omega arith)
      ∙ laid-below 112 _ _ 0 nan (omega arith)
      ∙ laid-below 152 _ _ 0 nan (omega arith)
      ∙ goal-ftol p goal q f h e

  sloping-NX : (p : Setup) (goal : Goal) (q : Point) (x f : List Float) → FitsGoal n m goal → FitsPoint n m q → length x ≡ n → length f ≡ 1024 → vec 112 n (laid 976 x (laid 112 q.x (laid 152 q.values (goal_floats p goal q f)))) ≡ q.x
  sloping-NX p goal q x f h hq hx e =
      vec-below 112 n 976 _ _ (omega arith)
      ∙ vec_laid 112 n _ _ 1024 hq.x (size _ _ _ _ (goal-size p goal q f e)) (omega arith)

  sloping-NV : (p : Setup) (goal : Goal) (q : Point) (x f : List Float) → FitsGoal n m goal → FitsPoint n m q → length x ≡ n → length f ≡ 1024 → vec 152 (suc m) (laid 976 x (laid 112 q.x (laid 152 q.values (goal_floats p goal q f)))) ≡ q.values
  sloping-NV p goal q x f h hq hx e =
      vec-below 152 (suc m) 976 _ _ (omega arith)
      ∙ vec-above 152 (suc m) 112 _ _ (omega arith)
      ∙ vec_laid 152 (suc m) _ _ 1024 hq.values (goal-size p goal q f e) (omega arith)

  sloping-SL : (s : Iterate) (q : Point) (x f : List Float) → FitsIterate n m s → FitsPoint n m q → length x ≡ n → length f ≡ 1024 → vec 176 (suc m * n) (laid 976 x (laid 112 q.x (laid 152 q.values (iterate_floats s f)))) ≡ s.slopes
  sloping-SL s q x f h hq hx e =
      vec-below 176 (suc m * n) 976 _ _ (omega arith)
      ∙ vec-above 176 (suc m * n) 112 _ _ (omega arith)
      ∙ vec-above 176 (suc m * n) 152 _ _ (omega arith)
      ∙ iterate-SL s f h e

  sloping-B : (s : Iterate) (q : Point) (x f : List Float) → FitsIterate n m s → FitsPoint n m q → length x ≡ n → length f ≡ 1024 → vec 720 (n * n) (laid 976 x (laid 112 q.x (laid 152 q.values (iterate_floats s f)))) ≡ s.b
  sloping-B s q x f h hq hx e =
      vec-below 720 (n * n) 976 _ _ (omega arith)
      ∙ vec-above 720 (n * n) 112 _ _ (omega arith)
      ∙ vec-above 720 (n * n) 152 _ _ (omega arith)
      ∙ iterate-B s f h e

  sloping-PE : (s : Iterate) (q : Point) (x f : List Float) → FitsIterate n m s → FitsPoint n m q → length x ≡ n → length f ≡ 1024 → vec 80 m (laid 976 x (laid 112 q.x (laid 152 q.values (iterate_floats s f)))) ≡ s.penalty
  sloping-PE s q x f h hq hx e =
      vec-below 80 m 976 _ _ (omega arith)
      ∙ vec-below 80 m 112 _ _ (omega arith)
      ∙ vec-below 80 m 152 _ _ (omega arith)
      ∙ iterate-PE s f h e

  sloping-MU : (s : Iterate) (q : Point) (x f : List Float) → FitsIterate n m s → FitsPoint n m q → length x ≡ n → length f ≡ 1024 → vec 96 m (laid 976 x (laid 112 q.x (laid 152 q.values (iterate_floats s f)))) ≡ s.multipliers
  sloping-MU s q x f h hq hx e =
      vec-below 96 m 976 _ _ (omega arith)
      ∙ vec-below 96 m 112 _ _ (omega arith)
      ∙ vec-below 96 m 152 _ _ (omega arith)
      ∙ iterate-MU s f h e

  sloping-PX : (s : Iterate) (q : Point) (x f : List Float) → FitsIterate n m s → FitsPoint n m q → length x ≡ n → length f ≡ 1024 → vec 48 n (laid 976 x (laid 112 q.x (laid 152 q.values (iterate_floats s f)))) ≡ s.point.x
  sloping-PX s q x f h hq hx e =
      vec-below 48 n 976 _ _ (omega arith)
      ∙ vec-below 48 n 112 _ _ (omega arith)
      ∙ vec-below 48 n 152 _ _ (omega arith)
      ∙ iterate-PX s f h e

  sloping-PV : (s : Iterate) (q : Point) (x f : List Float) → FitsIterate n m s → FitsPoint n m q → length x ≡ n → length f ≡ 1024 → vec 128 (suc m) (laid 976 x (laid 112 q.x (laid 152 q.values (iterate_floats s f)))) ≡ s.point.values
  sloping-PV s q x f h hq hx e =
      vec-below 128 (suc m) 976 _ _ (omega arith)
      ∙ vec-above 128 (suc m) 112 _ _ (omega arith)
      ∙ vec-below 128 (suc m) 152 _ _ (omega arith)
      ∙ iterate-PV s f h e

  sloping-goal : (p : Setup) (goal : Goal) (q : Point) (x f : List Float) → FitsGoal n m goal → FitsPoint n m q → length x ≡ n → length f ≡ 1024 → (u : List ℕ) → nth u 3 ≡ bit (is_fresh goal) → nth u 4 ≡ bit (is_taken goal) → goal_in n m (laid 976 x (laid 112 q.x (laid 152 q.values (goal_floats p goal q f)))) u ≡ goal
  sloping-goal p begun q x f h hq hx e u e₃ e₄ = rw e₄ refl
  sloping-goal p (taken s) q x f h hq hx e u e₃ e₄ =
      rw (e₄, e₃) (λ i. taken (record {
        point = record { x = sloping-PX s q x f h hq hx e i; values = sloping-PV s q x f h hq hx e i };
        slopes = sloping-SL s q x f h hq hx e i;
        b = sloping-B s q x f h hq hx e i;
        fresh = is_one s.fresh i;
        penalty = sloping-PE s q x f h hq hx e i;
        multipliers = sloping-MU s q x f h hq hx e i;
      }))

  -- a value at a moved point is
  raised-lower : (p : Setup) (goal : Goal) (q : Point) (c : ℕ) (g : List Float) (x f : List Float) → FitsGoal n m goal → FitsPoint n m q → length g ≡ c → c ≤ 272 → length x ≡ n → length f ≡ 1024 → vec 16 n (laid 976 x (laid 448 g (laid 112 q.x (laid 152 q.values (goal_floats p goal q f))))) ≡ vec 16 n f
  raised-lower p goal q c g x f h hq hg hc hx e =
      vec-below 16 n 976 _ _ (omega arith)
      ∙ vec-below 16 n 448 _ _ (omega arith)
      ∙ vec-below 16 n 112 _ _ (omega arith)
      ∙ vec-below 16 n 152 _ _ (omega arith)
      ∙ goal-lower p goal q f h e

  raised-upper : (p : Setup) (goal : Goal) (q : Point) (c : ℕ) (g : List Float) (x f : List Float) → FitsGoal n m goal → FitsPoint n m q → length g ≡ c → c ≤ 272 → length x ≡ n → length f ≡ 1024 → vec 32 n (laid 976 x (laid 448 g (laid 112 q.x (laid 152 q.values (goal_floats p goal q f))))) ≡ vec 32 n f
  raised-upper p goal q c g x f h hq hg hc hx e =
      vec-below 32 n 976 _ _ (omega arith)
      ∙ vec-below 32 n 448 _ _ (omega arith)
      ∙ vec-below 32 n 112 _ _ (omega arith)
      ∙ vec-below 32 n 152 _ _ (omega arith)
      ∙ goal-upper p goal q f h e

  raised-ftol : (p : Setup) (goal : Goal) (q : Point) (c : ℕ) (g : List Float) (x f : List Float) → FitsGoal n m goal → FitsPoint n m q → length g ≡ c → c ≤ 272 → length x ≡ n → length f ≡ 1024 → at (laid 976 x (laid 448 g (laid 112 q.x (laid 152 q.values (goal_floats p goal q f))))) 0 ≡ at f 0
  raised-ftol p goal q c g x f h hq hg hc hx e =
      laid-below 976 _ _ 0 nan (omega arith)
      ∙ laid-below 448 _ _ 0 nan (omega arith)
      ∙ laid-below 112 _ _ 0 nan (omega arith)
      ∙ laid-below 152 _ _ 0 nan (omega arith)
      ∙ goal-ftol p goal q f h e

  raised-NX : (p : Setup) (goal : Goal) (q : Point) (c : ℕ) (g : List Float) (x f : List Float) → FitsGoal n m goal → FitsPoint n m q → length g ≡ c → c ≤ 272 → length x ≡ n → length f ≡ 1024 → vec 112 n (laid 976 x (laid 448 g (laid 112 q.x (laid 152 q.values (goal_floats p goal q f))))) ≡ q.x
  raised-NX p goal q c g x f h hq hg hc hx e =
      vec-below 112 n 976 _ _ (omega arith)
      ∙ vec-below 112 n 448 _ _ (omega arith)
      ∙ vec_laid 112 n _ _ 1024 hq.x (size _ _ _ _ (goal-size p goal q f e)) (omega arith)

  raised-NV : (p : Setup) (goal : Goal) (q : Point) (c : ℕ) (g : List Float) (x f : List Float) → FitsGoal n m goal → FitsPoint n m q → length g ≡ c → c ≤ 272 → length x ≡ n → length f ≡ 1024 → vec 152 (suc m) (laid 976 x (laid 448 g (laid 112 q.x (laid 152 q.values (goal_floats p goal q f))))) ≡ q.values
  raised-NV p goal q c g x f h hq hg hc hx e =
      vec-below 152 (suc m) 976 _ _ (omega arith)
      ∙ vec-below 152 (suc m) 448 _ _ (omega arith)
      ∙ vec-above 152 (suc m) 112 _ _ (omega arith)
      ∙ vec_laid 152 (suc m) _ _ 1024 hq.values (goal-size p goal q f e) (omega arith)

  raised-G : (p : Setup) (goal : Goal) (q : Point) (c : ℕ) (g : List Float) (x f : List Float) → FitsGoal n m goal → FitsPoint n m q → length g ≡ c → c ≤ 272 → length x ≡ n → length f ≡ 1024 → vec 448 c (laid 976 x (laid 448 g (laid 112 q.x (laid 152 q.values (goal_floats p goal q f))))) ≡ g
  raised-G p goal q c g x f h hq hg hc hx e =
      vec-below 448 c 976 _ _ (omega arith)
      ∙ vec_laid 448 c _ _ 1024 (hg) (size _ _ _ _ (size _ _ _ _ (goal-size p goal q f e))) (omega arith)

  raised-SL : (s : Iterate) (q : Point) (c : ℕ) (g : List Float) (x f : List Float) → FitsIterate n m s → FitsPoint n m q → length g ≡ c → c ≤ 272 → length x ≡ n → length f ≡ 1024 → vec 176 (suc m * n) (laid 976 x (laid 448 g (laid 112 q.x (laid 152 q.values (iterate_floats s f))))) ≡ s.slopes
  raised-SL s q c g x f h hq hg hc hx e =
      vec-below 176 (suc m * n) 976 _ _ (omega arith)
      ∙ vec-below 176 (suc m * n) 448 _ _ (omega arith)
      ∙ vec-above 176 (suc m * n) 112 _ _ (omega arith)
      ∙ vec-above 176 (suc m * n) 152 _ _ (omega arith)
      ∙ iterate-SL s f h e

  raised-B : (s : Iterate) (q : Point) (c : ℕ) (g : List Float) (x f : List Float) → FitsIterate n m s → FitsPoint n m q → length g ≡ c → c ≤ 272 → length x ≡ n → length f ≡ 1024 → vec 720 (n * n) (laid 976 x (laid 448 g (laid 112 q.x (laid 152 q.values (iterate_floats s f))))) ≡ s.b
  raised-B s q c g x f h hq hg hc hx e =
      vec-below 720 (n * n) 976 _ _ (omega arith)
      ∙ vec-above 720 (n * n) 448 _ _ (omega arith)
      ∙ vec-above 720 (n * n) 112 _ _ (omega arith)
      ∙ vec-above 720 (n * n) 152 _ _ (omega arith)
      ∙ iterate-B s f h e

  raised-PE : (s : Iterate) (q : Point) (c : ℕ) (g : List Float) (x f : List Float) → FitsIterate n m s → FitsPoint n m q → length g ≡ c → c ≤ 272 → length x ≡ n → length f ≡ 1024 → vec 80 m (laid 976 x (laid 448 g (laid 112 q.x (laid 152 q.values (iterate_floats s f))))) ≡ s.penalty
  raised-PE s q c g x f h hq hg hc hx e =
      vec-below 80 m 976 _ _ (omega arith)
      ∙ vec-below 80 m 448 _ _ (omega arith)
      ∙ vec-below 80 m 112 _ _ (omega arith)
      ∙ vec-below 80 m 152 _ _ (omega arith)
      ∙ iterate-PE s f h e

  raised-MU : (s : Iterate) (q : Point) (c : ℕ) (g : List Float) (x f : List Float) → FitsIterate n m s → FitsPoint n m q → length g ≡ c → c ≤ 272 → length x ≡ n → length f ≡ 1024 → vec 96 m (laid 976 x (laid 448 g (laid 112 q.x (laid 152 q.values (iterate_floats s f))))) ≡ s.multipliers
  raised-MU s q c g x f h hq hg hc hx e =
      vec-below 96 m 976 _ _ (omega arith)
      ∙ vec-below 96 m 448 _ _ (omega arith)
      ∙ vec-below 96 m 112 _ _ (omega arith)
      ∙ vec-below 96 m 152 _ _ (omega arith)
      ∙ iterate-MU s f h e

  raised-PX : (s : Iterate) (q : Point) (c : ℕ) (g : List Float) (x f : List Float) → FitsIterate n m s → FitsPoint n m q → length g ≡ c → c ≤ 272 → length x ≡ n → length f ≡ 1024 → vec 48 n (laid 976 x (laid 448 g (laid 112 q.x (laid 152 q.values (iterate_floats s f))))) ≡ s.point.x
  raised-PX s q c g x f h hq hg hc hx e =
      vec-below 48 n 976 _ _ (omega arith)
      ∙ vec-below 48 n 448 _ _ (omega arith)
      ∙ vec-below 48 n 112 _ _ (omega arith)
      ∙ vec-below 48 n 152 _ _ (omega arith)
      ∙ iterate-PX s f h e

  raised-PV : (s : Iterate) (q : Point) (c : ℕ) (g : List Float) (x f : List Float) → FitsIterate n m s → FitsPoint n m q → length g ≡ c → c ≤ 272 → length x ≡ n → length f ≡ 1024 → vec 128 (suc m) (laid 976 x (laid 448 g (laid 112 q.x (laid 152 q.values (iterate_floats s f))))) ≡ s.point.values
  raised-PV s q c g x f h hq hg hc hx e =
      vec-below 128 (suc m) 976 _ _ (omega arith)
      ∙ vec-below 128 (suc m) 448 _ _ (omega arith)
      ∙ vec-above 128 (suc m) 112 _ _ (omega arith)
      ∙ vec-below 128 (suc m) 152 _ _ (omega arith)
      ∙ iterate-PV s f h e

  raised-goal : (p : Setup) (goal : Goal) (q : Point) (c : ℕ) (g : List Float) (x f : List Float) → FitsGoal n m goal → FitsPoint n m q → length g ≡ c → c ≤ 272 → length x ≡ n → length f ≡ 1024 → (u : List ℕ) → nth u 3 ≡ bit (is_fresh goal) → nth u 4 ≡ bit (is_taken goal) → goal_in n m (laid 976 x (laid 448 g (laid 112 q.x (laid 152 q.values (goal_floats p goal q f))))) u ≡ goal
  raised-goal p begun q c g x f h hq hg hc hx e u e₃ e₄ = rw e₄ refl
  raised-goal p (taken s) q c g x f h hq hg hc hx e u e₃ e₄ =
      rw (e₄, e₃) (λ i. taken (record {
        point = record { x = raised-PX s q c g x f h hq hg hc hx e i; values = raised-PV s q c g x f h hq hg hc hx e i };
        slopes = raised-SL s q c g x f h hq hg hc hx e i;
        b = raised-B s q c g x f h hq hg hc hx e i;
        fresh = is_one s.fresh i;
        penalty = raised-PE s q c g x f h hq hg hc hx e i;
        multipliers = raised-MU s q c g x f h hq hg hc hx e i;
      }))

  lowered-lower : (p : Setup) (goal : Goal) (q : Point) (c : ℕ) (g : List Float) (v : Float) (x f : List Float) → FitsGoal n m goal → FitsPoint n m q → length g ≡ c → c ≤ 272 → length x ≡ n → length f ≡ 1024 → vec 16 n (laid 976 x (laid 4 (v ∷ []) (laid 448 g (laid 112 q.x (laid 152 q.values (goal_floats p goal q f)))))) ≡ vec 16 n f
  lowered-lower p goal q c g v x f h hq hg hc hx e =
      vec-below 16 n 976 _ _ (omega arith)
      ∙ vec-above 16 n 4 _ _ (omega arith)
      ∙ vec-below 16 n 448 _ _ (omega arith)
      ∙ vec-below 16 n 112 _ _ (omega arith)
      ∙ vec-below 16 n 152 _ _ (omega arith)
      ∙ goal-lower p goal q f h e

  lowered-upper : (p : Setup) (goal : Goal) (q : Point) (c : ℕ) (g : List Float) (v : Float) (x f : List Float) → FitsGoal n m goal → FitsPoint n m q → length g ≡ c → c ≤ 272 → length x ≡ n → length f ≡ 1024 → vec 32 n (laid 976 x (laid 4 (v ∷ []) (laid 448 g (laid 112 q.x (laid 152 q.values (goal_floats p goal q f)))))) ≡ vec 32 n f
  lowered-upper p goal q c g v x f h hq hg hc hx e =
      vec-below 32 n 976 _ _ (omega arith)
      ∙ vec-above 32 n 4 _ _ (omega arith)
      ∙ vec-below 32 n 448 _ _ (omega arith)
      ∙ vec-below 32 n 112 _ _ (omega arith)
      ∙ vec-below 32 n 152 _ _ (omega arith)
      ∙ goal-upper p goal q f h e

  lowered-ftol : (p : Setup) (goal : Goal) (q : Point) (c : ℕ) (g : List Float) (v : Float) (x f : List Float) → FitsGoal n m goal → FitsPoint n m q → length g ≡ c → c ≤ 272 → length x ≡ n → length f ≡ 1024 → at (laid 976 x (laid 4 (v ∷ []) (laid 448 g (laid 112 q.x (laid 152 q.values (goal_floats p goal q f)))))) 0 ≡ at f 0
  lowered-ftol p goal q c g v x f h hq hg hc hx e =
      laid-below 976 _ _ 0 nan (omega arith)
      ∙ laid-below 4 _ _ 0 nan (omega arith)
      ∙ laid-below 448 _ _ 0 nan (omega arith)
      ∙ laid-below 112 _ _ 0 nan (omega arith)
      ∙ laid-below 152 _ _ 0 nan (omega arith)
      ∙ goal-ftol p goal q f h e

  lowered-NX : (p : Setup) (goal : Goal) (q : Point) (c : ℕ) (g : List Float) (v : Float) (x f : List Float) → FitsGoal n m goal → FitsPoint n m q → length g ≡ c → c ≤ 272 → length x ≡ n → length f ≡ 1024 → vec 112 n (laid 976 x (laid 4 (v ∷ []) (laid 448 g (laid 112 q.x (laid 152 q.values (goal_floats p goal q f)))))) ≡ q.x
  lowered-NX p goal q c g v x f h hq hg hc hx e =
      vec-below 112 n 976 _ _ (omega arith)
      ∙ vec-above 112 n 4 _ _ (omega arith)
      ∙ vec-below 112 n 448 _ _ (omega arith)
      ∙ vec_laid 112 n _ _ 1024 hq.x (size _ _ _ _ (goal-size p goal q f e)) (omega arith)

  lowered-NV : (p : Setup) (goal : Goal) (q : Point) (c : ℕ) (g : List Float) (v : Float) (x f : List Float) → FitsGoal n m goal → FitsPoint n m q → length g ≡ c → c ≤ 272 → length x ≡ n → length f ≡ 1024 → vec 152 (suc m) (laid 976 x (laid 4 (v ∷ []) (laid 448 g (laid 112 q.x (laid 152 q.values (goal_floats p goal q f)))))) ≡ q.values
  lowered-NV p goal q c g v x f h hq hg hc hx e =
      vec-below 152 (suc m) 976 _ _ (omega arith)
      ∙ vec-above 152 (suc m) 4 _ _ (omega arith)
      ∙ vec-below 152 (suc m) 448 _ _ (omega arith)
      ∙ vec-above 152 (suc m) 112 _ _ (omega arith)
      ∙ vec_laid 152 (suc m) _ _ 1024 hq.values (goal-size p goal q f e) (omega arith)

  lowered-G : (p : Setup) (goal : Goal) (q : Point) (c : ℕ) (g : List Float) (v : Float) (x f : List Float) → FitsGoal n m goal → FitsPoint n m q → length g ≡ c → c ≤ 272 → length x ≡ n → length f ≡ 1024 → vec 448 c (laid 976 x (laid 4 (v ∷ []) (laid 448 g (laid 112 q.x (laid 152 q.values (goal_floats p goal q f)))))) ≡ g
  lowered-G p goal q c g v x f h hq hg hc hx e =
      vec-below 448 c 976 _ _ (omega arith)
      ∙ vec-above 448 c 4 _ _ (omega arith)
      ∙ vec_laid 448 c _ _ 1024 (hg) (size _ _ _ _ (size _ _ _ _ (goal-size p goal q f e))) (omega arith)

  lowered-4 : (p : Setup) (goal : Goal) (q : Point) (c : ℕ) (g : List Float) (v : Float) (x f : List Float) → FitsGoal n m goal → FitsPoint n m q → length g ≡ c → c ≤ 272 → length x ≡ n → length f ≡ 1024 → at (laid 976 x (laid 4 (v ∷ []) (laid 448 g (laid 112 q.x (laid 152 q.values (goal_floats p goal q f)))))) 4 ≡ v
  lowered-4 p goal q c g v x f h hq hg hc hx e =
      let z : length (laid 448 g (laid 112 q.x (laid 152 q.values (goal_floats p goal q f)))) ≡ 1024 = size _ _ _ _ (size _ _ _ _ (size _ _ _ _ (goal-size p goal q f e))) in
      laid-below 976 _ _ 4 nan (omega arith)
      ∙ laid_in 4 (v ∷ []) (laid 448 g (laid 112 q.x (laid 152 q.values (goal_floats p goal q f)))) 0 nan (omega arith) (omega arith)

  lowered-SL : (s : Iterate) (q : Point) (c : ℕ) (g : List Float) (v : Float) (x f : List Float) → FitsIterate n m s → FitsPoint n m q → length g ≡ c → c ≤ 272 → length x ≡ n → length f ≡ 1024 → vec 176 (suc m * n) (laid 976 x (laid 4 (v ∷ []) (laid 448 g (laid 112 q.x (laid 152 q.values (iterate_floats s f)))))) ≡ s.slopes
  lowered-SL s q c g v x f h hq hg hc hx e =
      vec-below 176 (suc m * n) 976 _ _ (omega arith)
      ∙ vec-above 176 (suc m * n) 4 _ _ (omega arith)
      ∙ vec-below 176 (suc m * n) 448 _ _ (omega arith)
      ∙ vec-above 176 (suc m * n) 112 _ _ (omega arith)
      ∙ vec-above 176 (suc m * n) 152 _ _ (omega arith)
      ∙ iterate-SL s f h e

  lowered-B : (s : Iterate) (q : Point) (c : ℕ) (g : List Float) (v : Float) (x f : List Float) → FitsIterate n m s → FitsPoint n m q → length g ≡ c → c ≤ 272 → length x ≡ n → length f ≡ 1024 → vec 720 (n * n) (laid 976 x (laid 4 (v ∷ []) (laid 448 g (laid 112 q.x (laid 152 q.values (iterate_floats s f)))))) ≡ s.b
  lowered-B s q c g v x f h hq hg hc hx e =
      vec-below 720 (n * n) 976 _ _ (omega arith)
      ∙ vec-above 720 (n * n) 4 _ _ (omega arith)
      ∙ vec-above 720 (n * n) 448 _ _ (omega arith)
      ∙ vec-above 720 (n * n) 112 _ _ (omega arith)
      ∙ vec-above 720 (n * n) 152 _ _ (omega arith)
      ∙ iterate-B s f h e

  lowered-PE : (s : Iterate) (q : Point) (c : ℕ) (g : List Float) (v : Float) (x f : List Float) → FitsIterate n m s → FitsPoint n m q → length g ≡ c → c ≤ 272 → length x ≡ n → length f ≡ 1024 → vec 80 m (laid 976 x (laid 4 (v ∷ []) (laid 448 g (laid 112 q.x (laid 152 q.values (iterate_floats s f)))))) ≡ s.penalty
  lowered-PE s q c g v x f h hq hg hc hx e =
      vec-below 80 m 976 _ _ (omega arith)
      ∙ vec-above 80 m 4 _ _ (omega arith)
      ∙ vec-below 80 m 448 _ _ (omega arith)
      ∙ vec-below 80 m 112 _ _ (omega arith)
      ∙ vec-below 80 m 152 _ _ (omega arith)
      ∙ iterate-PE s f h e

  lowered-MU : (s : Iterate) (q : Point) (c : ℕ) (g : List Float) (v : Float) (x f : List Float) → FitsIterate n m s → FitsPoint n m q → length g ≡ c → c ≤ 272 → length x ≡ n → length f ≡ 1024 → vec 96 m (laid 976 x (laid 4 (v ∷ []) (laid 448 g (laid 112 q.x (laid 152 q.values (iterate_floats s f)))))) ≡ s.multipliers
  lowered-MU s q c g v x f h hq hg hc hx e =
      vec-below 96 m 976 _ _ (omega arith)
      ∙ vec-above 96 m 4 _ _ (omega arith)
      ∙ vec-below 96 m 448 _ _ (omega arith)
      ∙ vec-below 96 m 112 _ _ (omega arith)
      ∙ vec-below 96 m 152 _ _ (omega arith)
      ∙ iterate-MU s f h e

  lowered-PX : (s : Iterate) (q : Point) (c : ℕ) (g : List Float) (v : Float) (x f : List Float) → FitsIterate n m s → FitsPoint n m q → length g ≡ c → c ≤ 272 → length x ≡ n → length f ≡ 1024 → vec 48 n (laid 976 x (laid 4 (v ∷ []) (laid 448 g (laid 112 q.x (laid 152 q.values (iterate_floats s f)))))) ≡ s.point.x
  lowered-PX s q c g v x f h hq hg hc hx e =
      vec-below 48 n 976 _ _ (omega arith)
      ∙ vec-above 48 n 4 _ _ (omega arith)
      ∙ vec-below 48 n 448 _ _ (omega arith)
      ∙ vec-below 48 n 112 _ _ (omega arith)
      ∙ vec-below 48 n 152 _ _ (omega arith)
      ∙ iterate-PX s f h e

  lowered-PV : (s : Iterate) (q : Point) (c : ℕ) (g : List Float) (v : Float) (x f : List Float) → FitsIterate n m s → FitsPoint n m q → length g ≡ c → c ≤ 272 → length x ≡ n → length f ≡ 1024 → vec 128 (suc m) (laid 976 x (laid 4 (v ∷ []) (laid 448 g (laid 112 q.x (laid 152 q.values (iterate_floats s f)))))) ≡ s.point.values
  lowered-PV s q c g v x f h hq hg hc hx e =
      vec-below 128 (suc m) 976 _ _ (omega arith)
      ∙ vec-above 128 (suc m) 4 _ _ (omega arith)
      ∙ vec-below 128 (suc m) 448 _ _ (omega arith)
      ∙ vec-above 128 (suc m) 112 _ _ (omega arith)
      ∙ vec-below 128 (suc m) 152 _ _ (omega arith)
      ∙ iterate-PV s f h e

  lowered-goal : (p : Setup) (goal : Goal) (q : Point) (c : ℕ) (g : List Float) (v : Float) (x f : List Float) → FitsGoal n m goal → FitsPoint n m q → length g ≡ c → c ≤ 272 → length x ≡ n → length f ≡ 1024 → (u : List ℕ) → nth u 3 ≡ bit (is_fresh goal) → nth u 4 ≡ bit (is_taken goal) → goal_in n m (laid 976 x (laid 4 (v ∷ []) (laid 448 g (laid 112 q.x (laid 152 q.values (goal_floats p goal q f)))))) u ≡ goal
  lowered-goal p begun q c g v x f h hq hg hc hx e u e₃ e₄ = rw e₄ refl
  lowered-goal p (taken s) q c g v x f h hq hg hc hx e u e₃ e₄ =
      rw (e₄, e₃) (λ i. taken (record {
        point = record { x = lowered-PX s q c g v x f h hq hg hc hx e i; values = lowered-PV s q c g v x f h hq hg hc hx e i };
        slopes = lowered-SL s q c g v x f h hq hg hc hx e i;
        b = lowered-B s q c g v x f h hq hg hc hx e i;
        fresh = is_one s.fresh i;
        penalty = lowered-PE s q c g v x f h hq hg hc hx e i;
        multipliers = lowered-MU s q c g v x f h hq hg hc hx e i;
      }))

  -- the start, over what is reported
  starting-lower : (r : Report) (x f : List Float) → length x ≡ n → length f ≡ 1024 → vec 16 n (laid 976 x (laid 112 x (report_floats r f))) ≡ vec 16 n f
  starting-lower r x f hx e =
      vec-below 16 n 976 _ _ (omega arith)
      ∙ vec-below 16 n 112 _ _ (omega arith)
      ∙ vec-below 16 n 96 _ _ (omega arith)
      ∙ vec-below 16 n 48 _ _ (omega arith)
      ∙ vec-below 16 n 128 _ _ (omega arith)

  starting-upper : (r : Report) (x f : List Float) → length x ≡ n → length f ≡ 1024 → vec 32 n (laid 976 x (laid 112 x (report_floats r f))) ≡ vec 32 n f
  starting-upper r x f hx e =
      vec-below 32 n 976 _ _ (omega arith)
      ∙ vec-below 32 n 112 _ _ (omega arith)
      ∙ vec-below 32 n 96 _ _ (omega arith)
      ∙ vec-below 32 n 48 _ _ (omega arith)
      ∙ vec-below 32 n 128 _ _ (omega arith)

  starting-ftol : (r : Report) (x f : List Float) → length x ≡ n → length f ≡ 1024 → at (laid 976 x (laid 112 x (report_floats r f))) 0 ≡ at f 0
  starting-ftol r x f hx e =
      laid-below 976 _ _ 0 nan (omega arith)
      ∙ laid-below 112 _ _ 0 nan (omega arith)
      ∙ laid-below 96 _ _ 0 nan (omega arith)
      ∙ laid-below 48 _ _ 0 nan (omega arith)
      ∙ laid-below 128 _ _ 0 nan (omega arith)

  starting-NX : (r : Report) (x f : List Float) → length x ≡ n → length f ≡ 1024 → vec 112 n (laid 976 x (laid 112 x (report_floats r f))) ≡ x
  starting-NX r x f hx e =
      vec-below 112 n 976 _ _ (omega arith)
      ∙ vec_laid 112 n _ _ 1024 (hx) (size _ _ _ _ (size _ _ _ _ (size _ _ _ _ e))) (omega arith)

  -- the end
  ended-lower : (r : Report) (f : List Float) → FitsPoint n m r.point → length r.multipliers ≡ m → length f ≡ 1024 → vec 16 n (laid 96 r.multipliers (laid 48 r.point.x (laid 128 r.point.values f))) ≡ vec 16 n f
  ended-lower r f hq hm e =
      vec-below 16 n 96 _ _ (omega arith)
      ∙ vec-below 16 n 48 _ _ (omega arith)
      ∙ vec-below 16 n 128 _ _ (omega arith)

  ended-upper : (r : Report) (f : List Float) → FitsPoint n m r.point → length r.multipliers ≡ m → length f ≡ 1024 → vec 32 n (laid 96 r.multipliers (laid 48 r.point.x (laid 128 r.point.values f))) ≡ vec 32 n f
  ended-upper r f hq hm e =
      vec-below 32 n 96 _ _ (omega arith)
      ∙ vec-below 32 n 48 _ _ (omega arith)
      ∙ vec-below 32 n 128 _ _ (omega arith)

  ended-ftol : (r : Report) (f : List Float) → FitsPoint n m r.point → length r.multipliers ≡ m → length f ≡ 1024 → at (laid 96 r.multipliers (laid 48 r.point.x (laid 128 r.point.values f))) 0 ≡ at f 0
  ended-ftol r f hq hm e =
      laid-below 96 _ _ 0 nan (omega arith)
      ∙ laid-below 48 _ _ 0 nan (omega arith)
      ∙ laid-below 128 _ _ 0 nan (omega arith)

  ended-MU : (r : Report) (f : List Float) → FitsPoint n m r.point → length r.multipliers ≡ m → length f ≡ 1024 → vec 96 m (laid 96 r.multipliers (laid 48 r.point.x (laid 128 r.point.values f))) ≡ r.multipliers
  ended-MU r f hq hm e =
      vec_laid 96 m _ _ 1024 (hm) (size _ _ _ _ (size _ _ _ _ e)) (omega arith)

  ended-PX : (r : Report) (f : List Float) → FitsPoint n m r.point → length r.multipliers ≡ m → length f ≡ 1024 → vec 48 n (laid 96 r.multipliers (laid 48 r.point.x (laid 128 r.point.values f))) ≡ r.point.x
  ended-PX r f hq hm e =
      vec-below 48 n 96 _ _ (omega arith)
      ∙ vec_laid 48 n _ _ 1024 hq.x (size _ _ _ _ e) (omega arith)

  ended-PV : (r : Report) (f : List Float) → FitsPoint n m r.point → length r.multipliers ≡ m → length f ≡ 1024 → vec 128 (suc m) (laid 96 r.multipliers (laid 48 r.point.x (laid 128 r.point.values f))) ≡ r.point.values
  ended-PV r f hq hm e =
      vec-above 128 (suc m) 96 _ _ (omega arith)
      ∙ vec-above 128 (suc m) 48 _ _ (omega arith)
      ∙ vec_laid 128 (suc m) _ _ 1024 hq.values e (omega arith)

-- ---- the words

pub seven-length : (M : Machine) → length (seven M) ≡ 7
seven-length (ended e r) = refl
seven-length (starting b x) = refl
seven-length (trying b s line α again) = refl
seven-length (sloping b goal q) = refl
seven-length (raised b goal q rows cols g) = refl
seven-length (lowered b goal q rows cols g v) = refl

word : (M : Machine) (u : List ℕ) (i : ℕ) → length u ≡ 32 → i < 7 → nth (machine_words M u) (0 + i) ≡ nth (seven M) i
unfolding machine_words
word M u i e h = let z = seven-length M in laid_in 0 (seven M) u i 0 (omega arith) (omega arith)

word_kept : (M : Machine) (u : List ℕ) (i : ℕ) → 7 ≤ i → nth (machine_words M u) i ≡ nth u i
unfolding machine_words
word_kept M u i h = let z = seven-length M in laid-above 0 (seven M) u i 0 (omega arith)

kinds_kept : (M : Machine) (u : List ℕ) (m : ℕ) → nums 16 m (machine_words M u) ≡ nums 16 m u
unfolding machine_words
kinds_kept M u m = let z = seven-length M in nums-above 16 m 0 (seven M) u (omega arith)

leb-true : (a b : ℕ) → a ≤ b → leb a b ≡ true
leb-true a b h = T→true (leb a b) (le→leb a b h)

words-good : (n m s b a x y rows cols : ℕ) (t : Bool) → 1 ≤ n → n ≤ 16 → m ≤ 16 → s ≤ 2 → b ≤ 10000 → a ≤ backtracks → x ≤ 1 → y ≤ 1 → rows ≤ m → cols < n → t ≡ true
    → (is_dimension n && is_constraints m && is_scheme s && is_budget b && leb a backtracks && leb x 1 && leb y 1 && leb rows m && leb (suc cols) n && t) ≡ true
words-good n m s b a x y rows cols t h₁ h₂ h₃ h₄ h₅ h₆ h₇ h₈ h₉ h₁₀ h₁₁ =
    rw (leb-true 1 n h₁, leb-true n 16 h₂, leb-true m 16 h₃, leb-true s 2 h₄, leb-true b 10000 h₅, leb-true a backtracks h₆, leb-true x 1 h₇, leb-true y 1 h₈, leb-true rows m h₉, leb-true (suc cols) n h₁₀, h₁₁) refl

-- what a state's words say
budget_of : Machine → ℕ
budget_of M = nth (seven M) 1

trials_of : Machine → ℕ
trials_of M = nth (seven M) 2

fresh_of : Machine → ℕ
fresh_of M = nth (seven M) 3

goal_of : Machine → ℕ
goal_of M = nth (seven M) 4

rows_of : Machine → ℕ
rows_of M = nth (seven M) 5

cols_of : Machine → ℕ
cols_of M = nth (seven M) 6

pub bit-few : (t : Bool) → bit t ≤ 1
bit-few true = omega arith
bit-few false = omega arith

fits-words : (n m : ℕ) (M : Machine) → 1 ≤ n → Fits n m M → (budget_of M ≤ 10000) × (trials_of M ≤ backtracks) × (fresh_of M ≤ 1) × (goal_of M ≤ 1) × (rows_of M ≤ m) × (cols_of M < n)
unfolding budget_of trials_of fresh_of goal_of rows_of cols_of
fits-words n m (ended e r) l h = (omega arith, omega arith, omega arith, omega arith, omega arith, omega arith)
fits-words n m (starting b x) l h = (h.1, omega arith, omega arith, omega arith, omega arith, omega arith)
fits-words n m (trying b s line α again) l h = (h.2, h.3, bit-few s.fresh, omega arith, omega arith, omega arith)
fits-words n m (sloping b goal q) l h = (h.2, omega arith, bit-few (is_fresh goal), bit-few (is_taken goal), omega arith, omega arith)
fits-words n m (raised b goal q rows cols g) l h = (h.2, omega arith, bit-few (is_fresh goal), bit-few (is_taken goal), h.3, h.4)
fits-words n m (lowered b goal q rows cols g v) l h = (h.2, omega arith, bit-few (is_fresh goal), bit-few (is_taken goal), h.3, h.4)

good : (M : Machine) (f : List Float) (u : List ℕ) → Posed (setup_in f u) → nth u 10 ≤ 2 → Fits (nth u 8) (nth u 9) M → length u ≡ 32 → are_words (machine_words M u) ≡ true
unfolding budget_of trials_of fresh_of goal_of rows_of cols_of
good M f u p s h e =
    let t = fits-words (nth u 8) (nth u 9) M p.some h in
    rw (word_kept M u 8 (omega arith), word_kept M u 9 (omega arith), word_kept M u 10 (omega arith), kinds_kept M u (nth u 9), word M u 1 e (omega arith), word M u 2 e (omega arith), word M u 3 e (omega arith), word M u 4 e (omega arith), word M u 5 e (omega arith), word M u 6 e (omega arith))
    (words-good (nth u 8) (nth u 9) (nth u 10) (budget_of M) (trials_of M) (fresh_of M) (goal_of M) (rows_of M) (cols_of M) _ p.some p.few p.constraints s t.0 t.1 t.2 t.3 t.4 t.5 p.two)

-- ---- all of it

pub bounds : (n m : ℕ) → n ≤ 16 → m ≤ 16 → (suc m * n ≤ 272) × (n * n ≤ 256)
bounds n m l k = (
  let a : suc m * n ≤ 17 * n = mul-le-mul_right n (omega arith) in let b : 17 * n ≤ 17 * 16 = mul-le-mul_left 17 l in omega arith,
  let a : n * n ≤ 16 * n = mul-le-mul_right n l in let b : 16 * n ≤ 16 * 16 = mul-le-mul_left 16 l in omega arith,
)

pub known-few : (n m rows cols : ℕ) → suc m * n ≤ 272 → known n m rows cols ≤ 272
known-few n m rows cols h =
    let a : (m - rows) * n ≤ m * n = mul-le-mul_right n (omega arith) in let b : suc m * n ≡ m * n + n = suc-mul m n in omega arith

-- the problem is read as it was, from what is read of its three parts
problem-again : (M : Machine) (f f' : List Float) (u : List ℕ) → vec 16 (nth u 8) f' ≡ vec 16 (nth u 8) f → vec 32 (nth u 8) f' ≡ vec 32 (nth u 8) f → at f' 0 ≡ at f 0
    → setup_in f' (machine_words M u) ≡ setup_in f u
problem-again M f f' u a b c =
    let e₈ = word_kept M u 8 (omega arith) in
    let e₉ = word_kept M u 9 (omega arith) in
    let e₁₀ = word_kept M u 10 (omega arith) in
    let k : nums 16 (nth (machine_words M u) 9) (machine_words M u) ≡ nums 16 (nth u 9) u = ap (λ t. nums 16 t (machine_words M u)) e₉ ∙ kinds_kept M u (nth u 9) in
    let x : vec 16 (nth (machine_words M u) 8) f' ≡ vec 16 (nth u 8) f = ap (λ t. vec 16 t f') e₈ ∙ a in
    let y : vec 32 (nth (machine_words M u) 8) f' ≡ vec 32 (nth u 8) f = ap (λ t. vec 32 t f') e₈ ∙ b in
    λ i. record { n = e₈ i; m = e₉ i; kinds = k i; lower = x i; upper = y i; ftol = c i; scheme = scheme_of (e₁₀ i) }

-- the machine is read, from what is read of its state
machine-again : (M : Machine) (f f' : List Float) (u : List ℕ) → Posed (setup_in f u) → nth u 10 ≤ 2 → Fits (nth u 8) (nth u 9) M → length u ≡ 32
    → state_in (nth (seven M) 0) (nth u 8) (nth u 9) f' (machine_words M u) ≡ some M → machine_in f' (machine_words M u) ≡ some M
unfolding machine_in
machine-again M f f' u p s h e g =
    rw (good M f u p s h e, word M u 0 e (omega arith), word_kept M u 8 (omega arith), word_kept M u 9 (omega arith)) g

pub record Again (M : Machine) (f f' : List Float) (u : List ℕ) : Type 0 where
  pub size : length f' ≡ 1024
  pub lower : vec 16 (nth u 8) f' ≡ vec 16 (nth u 8) f
  pub upper : vec 32 (nth u 8) f' ≡ vec 32 (nth u 8) f
  pub ftol : at f' 0 ≡ at f 0
  pub state : state_in (nth (seven M) 0) (nth u 8) (nth u 9) f' (machine_words M u) ≡ some M

ending-read : (e : Ending) (n m : ℕ) (f : List Float) (u : List ℕ) → state_in (ending_number e) n m f u ≡ some (ended e (report_in n m f))
unfolding state_in
ending-read converged n m f u = refl
ending-read infeasible n m f u = refl
ending-read exhausted n m f u = refl
ending-read nonfinite n m f u = refl

again : (M : Machine) (f : List Float) (u : List ℕ) → Posed (setup_in f u) → Fits (nth u 8) (nth u 9) M → length f ≡ 1024 → length u ≡ 32 → Again M f (machine_floats (setup_in f u) M f) u
unfolding machine_floats state_in along emptied
again (ended e r) f u p h z y =
    let n = nth u 8 in let m = nth u 9 in let B = bounds n m p.few p.constraints in
    let hq = h.0 in let hm = h.1 in
    let zf : length (emptied f) ≡ 1024 = size _ _ _ _ (size _ _ _ _ (size _ _ _ _ (size _ _ _ _ z))) in
    let line : length (replicate 15 +0) ≡ 15 = length-replicate 15 +0 in
    record {
      size = size _ _ _ _ (size _ _ _ _ (size _ _ _ _ zf));
      lower = ended-lower n m p.few p.constraints B.0 B.1 r (emptied f) hq hm zf ∙ vec-above 16 n 1 _ _ (omega arith) ∙ vec-below 16 n 64 _ _ (omega arith) ∙ vec-below 16 n 112 _ _ (omega arith) ∙ vec-below 16 n 152 _ _ (omega arith);
      upper = ended-upper n m p.few p.constraints B.0 B.1 r (emptied f) hq hm zf ∙ vec-above 32 n 1 _ _ (omega arith) ∙ vec-below 32 n 64 _ _ (omega arith) ∙ vec-below 32 n 112 _ _ (omega arith) ∙ vec-below 32 n 152 _ _ (omega arith);
      ftol = ended-ftol n m p.few p.constraints B.0 B.1 r (emptied f) hq hm zf ∙ laid-below 1 _ _ 0 nan (omega arith) ∙ laid-below 64 _ _ 0 nan (omega arith) ∙ laid-below 112 _ _ 0 nan (omega arith) ∙ laid-below 152 _ _ 0 nan (omega arith);
      state = ending-read e n m _ (machine_words (ended e r) u) ∙ (λ i. some (ended e (record {
        point = record { x = ended-PX n m p.few p.constraints B.0 B.1 r (emptied f) hq hm zf i; values = ended-PV n m p.few p.constraints B.0 B.1 r (emptied f) hq hm zf i };
        multipliers = ended-MU n m p.few p.constraints B.0 B.1 r (emptied f) hq hm zf i;
      })));
    }
again (starting b x) f u p h z y =
    let n = nth u 8 in let m = nth u 9 in let B = bounds n m p.few p.constraints in
    let hx = h.0 in
    let M = starting b x in
    let r = report_now (setup_in f u) M in
    record {
      size = (size _ _ _ _ (size _ _ _ _ (size _ _ _ _ (size _ _ _ _ (size _ _ _ _ z)))));
      lower = starting-lower n m p.few p.constraints B.0 B.1 r x f hx z;
      upper = starting-upper n m p.few p.constraints B.0 B.1 r x f hx z;
      ftol = starting-ftol n m p.few p.constraints B.0 B.1 r x f hx z;
      state = λ i. some (starting (word M u 1 y (omega arith) i) (starting-NX n m p.few p.constraints B.0 B.1 r x f hx z i));
    }
again (trying b s line α more) f u p h z y =
    let n = nth u 8 in let m = nth u 9 in let B = bounds n m p.few p.constraints in
    let hs = h.0 in let hd = h.1 in
    let M = trying b s line α more in
    let x = along (setup_in f u) s line α in
    let hx : length x ≡ n = length-tab n _ in
    let fresh : eqb (nth (machine_words M u) 3) 1 ≡ s.fresh = ap (λ t. eqb t 1) (word M u 3 y (omega arith)) ∙ is_one n m p.few p.constraints B.0 B.1 s.fresh in
    record {
      size = (size _ _ _ _ (size _ _ _ _ (size _ _ _ _ (iterate-size n m p.few p.constraints B.0 B.1 s f z))));
      lower = trying-lower n m p.few p.constraints B.0 B.1 s line α x f hs hd hx z;
      upper = trying-upper n m p.few p.constraints B.0 B.1 s line α x f hs hd hx z;
      ftol = trying-ftol n m p.few p.constraints B.0 B.1 s line α x f hs hd hx z;
      state = λ i. some (trying (word M u 1 y (omega arith) i)
          (record {
            point = record {
              x = trying-PX n m p.few p.constraints B.0 B.1 s line α x f hs hd hx z i;
              values = trying-PV n m p.few p.constraints B.0 B.1 s line α x f hs hd hx z i;
            };
            slopes = trying-SL n m p.few p.constraints B.0 B.1 s line α x f hs hd hx z i;
            b = trying-B n m p.few p.constraints B.0 B.1 s line α x f hs hd hx z i;
            fresh = fresh i;
            penalty = trying-PE n m p.few p.constraints B.0 B.1 s line α x f hs hd hx z i;
            multipliers = trying-MU n m p.few p.constraints B.0 B.1 s line α x f hs hd hx z i;
          })
          (record {
            d = trying-D n m p.few p.constraints B.0 B.1 s line α x f hs hd hx z i;
            merit = trying-2 n m p.few p.constraints B.0 B.1 s line α x f hs hd hx z i;
            slope = trying-3 n m p.few p.constraints B.0 B.1 s line α x f hs hd hx z i;
          })
          (trying-1 n m p.few p.constraints B.0 B.1 s line α x f hs hd hx z i) (word M u 2 y (omega arith) i));
    }
again (sloping b goal q) f u p h z y =
    let n = nth u 8 in let m = nth u 9 in let B = bounds n m p.few p.constraints in
    let hgoal = h.0 in let hq = h.1 in
    let M = sloping b goal q in
    let x = q.x in
    let hx : length x ≡ n = hq.x in
    let goals = sloping-goal n m p.few p.constraints B.0 B.1 (setup_in f u) goal q x f hgoal hq hx z (machine_words M u) (word M u 3 y (omega arith)) (word M u 4 y (omega arith)) in
    record {
      size = (size _ _ _ _ (size _ _ _ _ (size _ _ _ _ (goal-size n m p.few p.constraints B.0 B.1 (setup_in f u) goal q f z))));
      lower = sloping-lower n m p.few p.constraints B.0 B.1 (setup_in f u) goal q x f hgoal hq hx z;
      upper = sloping-upper n m p.few p.constraints B.0 B.1 (setup_in f u) goal q x f hgoal hq hx z;
      ftol = sloping-ftol n m p.few p.constraints B.0 B.1 (setup_in f u) goal q x f hgoal hq hx z;
      state = λ i. some (sloping (word M u 1 y (omega arith) i) (goals i) (record { x = sloping-NX n m p.few p.constraints B.0 B.1 (setup_in f u) goal q x f hgoal hq hx z i; values = sloping-NV n m p.few p.constraints B.0 B.1 (setup_in f u) goal q x f hgoal hq hx z i }));
    }
again (raised b goal q rows cols g) f u p h z y =
    let n = nth u 8 in let m = nth u 9 in let B = bounds n m p.few p.constraints in
    let hgoal = h.0 in let hq = h.1 in let hg = h.5 in let hc = known-few n m rows cols B.0 in
    let M = raised b goal q rows cols g in
    let x = set q.x (n - suc cols) (raise (at q.x (n - suc cols))) in
    let hx : length x ≡ n = length-set q.x (n - suc cols) _ ∙ hq.x in
    let goals = raised-goal n m p.few p.constraints B.0 B.1 (setup_in f u) goal q (known n m rows cols) g x f hgoal hq hg hc hx z (machine_words M u) (word M u 3 y (omega arith)) (word M u 4 y (omega arith)) in
    let slopes : vec 448 (known n m (nth (machine_words M u) 5) (nth (machine_words M u) 6)) (machine_floats (setup_in f u) M f) ≡ g =
    ap₂ (λ c d. vec 448 (known n m c d) (machine_floats (setup_in f u) M f)) (word M u 5 y (omega arith)) (word M u 6 y (omega arith)) ∙ raised-G n m p.few p.constraints B.0 B.1 (setup_in f u) goal q (known n m rows cols) g x f hgoal hq hg hc hx z in
    record {
      size = (size _ _ _ _ (size _ _ _ _ (size _ _ _ _ (size _ _ _ _ (goal-size n m p.few p.constraints B.0 B.1 (setup_in f u) goal q f z)))));
      lower = raised-lower n m p.few p.constraints B.0 B.1 (setup_in f u) goal q (known n m rows cols) g x f hgoal hq hg hc hx z;
      upper = raised-upper n m p.few p.constraints B.0 B.1 (setup_in f u) goal q (known n m rows cols) g x f hgoal hq hg hc hx z;
      ftol = raised-ftol n m p.few p.constraints B.0 B.1 (setup_in f u) goal q (known n m rows cols) g x f hgoal hq hg hc hx z;
      state = λ i. some (raised (word M u 1 y (omega arith) i) (goals i) (record { x = raised-NX n m p.few p.constraints B.0 B.1 (setup_in f u) goal q (known n m rows cols) g x f hgoal hq hg hc hx z i; values = raised-NV n m p.few p.constraints B.0 B.1 (setup_in f u) goal q (known n m rows cols) g x f hgoal hq hg hc hx z i }) (word M u 5 y (omega arith) i) (word M u 6 y (omega arith) i) (slopes i));
    }
again (lowered b goal q rows cols g v) f u p h z y =
    let n = nth u 8 in let m = nth u 9 in let B = bounds n m p.few p.constraints in
    let hgoal = h.0 in let hq = h.1 in let hg = h.5 in let hc = known-few n m rows cols B.0 in
    let M = lowered b goal q rows cols g v in
    let x = set q.x (n - suc cols) (lower (at q.x (n - suc cols))) in
    let hx : length x ≡ n = length-set q.x (n - suc cols) _ ∙ hq.x in
    let goals = lowered-goal n m p.few p.constraints B.0 B.1 (setup_in f u) goal q (known n m rows cols) g v x f hgoal hq hg hc hx z (machine_words M u) (word M u 3 y (omega arith)) (word M u 4 y (omega arith)) in
    let slopes : vec 448 (known n m (nth (machine_words M u) 5) (nth (machine_words M u) 6)) (machine_floats (setup_in f u) M f) ≡ g =
    ap₂ (λ c d. vec 448 (known n m c d) (machine_floats (setup_in f u) M f)) (word M u 5 y (omega arith)) (word M u 6 y (omega arith)) ∙ lowered-G n m p.few p.constraints B.0 B.1 (setup_in f u) goal q (known n m rows cols) g v x f hgoal hq hg hc hx z in
    record {
      size = (size _ _ _ _ (size _ _ _ _ (size _ _ _ _ (size _ _ _ _ (size _ _ _ _ (goal-size n m p.few p.constraints B.0 B.1 (setup_in f u) goal q f z))))));
      lower = lowered-lower n m p.few p.constraints B.0 B.1 (setup_in f u) goal q (known n m rows cols) g v x f hgoal hq hg hc hx z;
      upper = lowered-upper n m p.few p.constraints B.0 B.1 (setup_in f u) goal q (known n m rows cols) g v x f hgoal hq hg hc hx z;
      ftol = lowered-ftol n m p.few p.constraints B.0 B.1 (setup_in f u) goal q (known n m rows cols) g v x f hgoal hq hg hc hx z;
      state = λ i. some (lowered (word M u 1 y (omega arith) i) (goals i) (record { x = lowered-NX n m p.few p.constraints B.0 B.1 (setup_in f u) goal q (known n m rows cols) g v x f hgoal hq hg hc hx z i; values = lowered-NV n m p.few p.constraints B.0 B.1 (setup_in f u) goal q (known n m rows cols) g v x f hgoal hq hg hc hx z i }) (word M u 5 y (omega arith) i) (word M u 6 y (omega arith) i) (slopes i) (lowered-4 n m p.few p.constraints B.0 B.1 (setup_in f u) goal q (known n m rows cols) g v x f hgoal hq hg hc hx z i));
    }

stored : (M : Machine) (f : List Float) (u : List ℕ) → Posed (setup_in f u) → nth u 10 ≤ 2 → Fits (nth u 8) (nth u 9) M → length f ≡ 1024 → length u ≡ 32
    → Holds (setup_in f u) M (machine_floats (setup_in f u) M f) (machine_words M u)
unfolding machine_words
stored M f u p s h z y =
    let a = again M f u p h z y in
    record {
      floats = a.size;
      words = size 0 (seven M) u 32 y;
      problem = problem-again M f _ u a.lower a.upper a.ftol;
      machine = machine-again M f _ u p s h y a.state;
      report = report-read (setup_in f u) M f p.few p.constraints h z;
    }

-- the same of a problem that is read
stored-as : (p : Setup) (M : Machine) (f : List Float) (u : List ℕ) → setup_in f u ≡ p → Posed p → nth u 10 ≤ 2 → Fits p.n p.m M → length f ≡ 1024 → length u ≡ 32
    → Holds p M (machine_floats p M f) (machine_words M u)
stored-as p M f u q =
    subst (λ (t : Setup). Posed t → nth u 10 ≤ 2 → Fits t.n t.m M → length f ≡ 1024 → length u ≡ 32 → Holds t M (machine_floats t M f) (machine_words M u)) q
    (λ h s g z y. stored M f u h s g z y)

-- ---- the first time

scheme-again : (s : Scheme) → scheme_of (scheme_number s) ≡ s
scheme-again told = refl
scheme-again forward = refl
scheme-again central = refl

scheme-few : (s : Scheme) → scheme_number s ≤ 2
scheme-few told = omega arith
scheme-few forward = omega arith
scheme-few central = omega arith

zeros : length (replicate 1024 +0) ≡ 1024
zeros = length-replicate 1024 +0

words-zero : length {A = ℕ} (replicate 32 0) ≡ 32
words-zero = length-replicate {A = ℕ} 32 0

posed : (p : Setup) → Posed p → setup_in (setup_floats p) (setup_words p) ≡ p
unfolding setup_floats setup_words
posed p h =
    let c = p.n ∷ p.m ∷ scheme_number p.scheme ∷ [] in
    let w : length (laid 16 p.kinds (replicate 32 0)) ≡ 32 = size _ _ _ _ words-zero in
    let e₈ : nth (setup_words p) 8 ≡ p.n = laid_in 8 c _ 0 0 (omega arith) (omega arith) in
    let e₉ : nth (setup_words p) 9 ≡ p.m = laid_in 8 c _ 1 0 (omega arith) (omega arith) in
    let e₁₀ : nth (setup_words p) 10 ≡ scheme_number p.scheme = laid_in 8 c _ 2 0 (omega arith) (omega arith) in
    let l₀ = h.kinds in let l₁ = h.lower in let l₂ = h.upper in let l₃ = h.constraints in let l₄ = h.few in
    let z₂ : length (laid 32 p.upper (replicate 1024 +0)) ≡ 1024 = size _ _ _ _ zeros in
    let z₁ : length (laid 16 p.lower (laid 32 p.upper (replicate 1024 +0))) ≡ 1024 = size _ _ _ _ z₂ in
    let k : nums 16 (nth (setup_words p) 9) (setup_words p) ≡ p.kinds =
    ap (λ t. nums 16 t (setup_words p)) e₉ ∙ nums-above 16 p.m 8 c _ (omega arith) ∙ nums-here 16 p.m p.kinds (replicate 32 0) h.kinds (let y = words-zero in omega arith) in
    let x : vec 16 (nth (setup_words p) 8) (setup_floats p) ≡ p.lower =
    ap (λ t. vec 16 t (setup_floats p)) e₈ ∙ vec-above 16 p.n 0 _ _ (omega arith) ∙ vec_laid 16 p.n p.lower _ 1024 h.lower z₂ (omega arith) in
    let y : vec 32 (nth (setup_words p) 8) (setup_floats p) ≡ p.upper =
    ap (λ t. vec 32 t (setup_floats p)) e₈ ∙ vec-above 32 p.n 0 _ _ (omega arith) ∙ vec-above 32 p.n 16 _ _ (omega arith) ∙ vec_laid 32 p.n p.upper _ 1024 h.upper zeros (omega arith) in
    let t : at (setup_floats p) 0 ≡ p.ftol = laid_in 0 (p.ftol ∷ []) _ 0 nan (omega arith) (omega arith) in
    let s : scheme_of (nth (setup_words p) 10) ≡ p.scheme = ap scheme_of e₁₀ ∙ scheme-again p.scheme in
    λ i. record { n = e₈ i; m = e₉ i; kinds = k i; lower = x i; upper = y i; ftol = t i; scheme = s i }

pub written-first : Begun
unfolding setup_floats setup_words
written-first p M h g =
    let c = p.n ∷ p.m ∷ scheme_number p.scheme ∷ [] in
    let w : length (laid 16 p.kinds (replicate 32 0)) ≡ 32 = size _ _ _ _ words-zero in
    let e₁₀ : nth (setup_words p) 10 ≡ scheme_number p.scheme = laid_in 8 c _ 2 0 (omega arith) (omega arith) in
    stored-as p M (setup_floats p) (setup_words p) (posed p h) h (subst (λ t. t ≤ 2) (sym e₁₀) (scheme-few p.scheme)) g
    (size _ _ _ _ (size _ _ _ _ (size _ _ _ _ zeros))) (size _ _ _ _ w)

-- ---- again and again

abbrev IsSome : Option Machine → Type 0
IsSome none = ⊥
IsSome (some M) = Unit {0}

third : (a b c d e f g h i j : Bool) (m : Option Machine) (M : Machine) → cond (a && b && c && d && e && f && g && h && i && j) m none ≡ some M → T c
third false b c d e f g h i j m M k = absurd (subst IsSome (sym k) tt)
third true false c d e f g h i j m M k = absurd (subst IsSome (sym k) tt)
third true true false d e f g h i j m M k = absurd (subst IsSome (sym k) tt)
third true true true d e f g h i j m M k = tt

scheme-read : (f : List Float) (u : List ℕ) (M : Machine) → machine_in f u ≡ some M → nth u 10 ≤ 2
unfolding machine_in
scheme-read f u M e =
    leb→le (nth u 10) 2 (third (is_dimension (nth u 8)) (is_constraints (nth u 9)) (is_scheme (nth u 10))
    (is_budget (nth u 1)) (leb (nth u 2) backtracks) (leb (nth u 3) 1) (leb (nth u 4) 1) (leb (nth u 5) (nth u 9)) (leb (suc (nth u 6)) (nth u 8)) (are_kinds (nums 16 (nth u 9) u)) _ M e)

pub written-again : Kept
written-again p M M' f u h g o = stored-as p M' f u o.problem h (scheme-read f u M o.machine) g o.floats o.words
