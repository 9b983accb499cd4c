-- Where a call of the step is done, the multipliers that it leaves come of rows whose own are not negative or -0.
use mathlib.Core.Path.{◌≡◌, refl, sym, ap, subst}
use mathlib.Core.Bool.{Bool, true, false, ◌&&◌}
use mathlib.Core.List.{List}
use mathlib.Core.Logic.{inl, inr}
use Prim.Native.Nat.{ℕ, ◌*◌, ◌<◌}
use native.Mathlib.Omega.{arith}
use lib.ListN.{length}
use lib.Ieee.{Float}
use Rattle.std.specs.Prelude.{Result, Ok, Err}
use borrow.Author.Tests.{eqb-true}
use Rattle.numbers.specs.Numbers.{at}
use Rattle.workspace.specs.Tables.{Answer, done, refused, is_late, call, test, is_dimension, is_constraints, is_room, has}
use Rattle.workspace.specs.declared.Refusal.{Refusal}
use Rattle.workspace.specs.declared.Refusal.TheVariants.{Width}
use Rattle.workspace.proofs.Tests.{and-true}
use Rattle.step_rows.specs.Problem.{Problem}
use Rattle.step.specs.Step.{Step, step, report_of}
use Rattle.step.specs.declared.Report.{Report}
use Rattle.step_call.specs.Claims.{OfRows, StepCallClear, LowestBound, all_bounded, wrong_bound}
use Rattle.step_call.specs.Strict.{bounds}
use Rattle.step_call.specs.Promise.{are_kinds, are_widths, are_lengths, Outcome, stepped, refused_by, Steps}
use Rattle.step_call.proofs.Clear.{ClearStep, step_clear}
use Rattle.step_call.proofs.Strictly.{lowest-variable}

kinds-long : (p : Problem) (d l : List Float) → are_lengths p d l ≡ true → length p.kinds ≡ p.m
kinds-long p d l h =
    let a = has p.factor (p.n * p.n) && has p.gradient p.n in
    let k = has p.kinds p.m in
    let v = has p.values p.m in
    let j = has p.jacobian (p.m * p.n) in
    let x = has p.widths p.m in
    let lo = has p.lower p.n in
    let up = has p.upper p.n in
    let o = has d p.n in
    let h9 = (and-true (a && k && v && j && x && lo && up && o) (has l p.m) h).0 in
    let h8 = (and-true (a && k && v && j && x && lo && up) o h9).0 in
    let h7 = (and-true (a && k && v && j && x && lo) up h8).0 in
    let h6 = (and-true (a && k && v && j && x) lo h7).0 in
    let h5 = (and-true (a && k && v && j) x h6).0 in
    let h4 = (and-true (a && k && v) j h5).0 in
    let h3 = (and-true (a && k) v h4).0 in
    eqb-true (length p.kinds) p.m (and-true a k h3).1

-- of three outcomes: done, failed, or refused by a test
abbrev failed : Result Float Refusal → ℕ
failed (Ok relaxation) = 0
failed (Err r) = 1

abbrev sort : Outcome → ℕ
sort (Ok s) = failed s.relaxation
sort (Err r) = 2

module _ (p : Problem) (relaxation : Float) (t : Report) (d d' l l' w w' : List Float) (iw iw' : List ℕ) where
  never : {A : Type 0} (b : Bool) (r : Refusal) (u : Report) → Ok (stepped (Ok relaxation) t) ≡ refused_by b r u → A
  never false r u e = let z : ◌≡◌ {A = ℕ} 0 2 = ap sort e in absurd (let y : ⊥ = omega arith in y)
  never true r u e = let z : ◌≡◌ {A = ℕ} 0 1 = ap sort e in absurd (let y : ⊥ = omega arith in y)

  from-tests : (s b m k v : Bool) → are_lengths p d l ≡ b → (a : Answer Step) → (length p.kinds ≡ p.m → ClearStep p a)
      → Steps (call s b m k (test v Width a)) (report_of p) (Ok (stepped (Ok relaxation) t)) d d' l l' w w' iw iw' → (j : ℕ) → j < p.m → OfRows p j (at l' j)
  from-tests false b m k v e a c q j h = never false _ (report_of p) q.the_outcome
  from-tests true false m k v e a c q j h = never false _ (report_of p) q.the_outcome
  from-tests true true false k v e a c q j h = never false _ (report_of p) q.the_outcome
  from-tests true true true false v e a c q j h = never false _ (report_of p) q.the_outcome
  from-tests true true true true false e a c q j h = never false _ (report_of p) q.the_outcome
  from-tests true true true true true e (refused n) c q j h = never (is_late n) n (report_of p) q.the_outcome
  from-tests true true true true true e (done s) c q j h = subst (λ (u : List Float). OfRows p j (at u j)) (sym q.the_multipliers) (c (kinds-long p d l e) j h)

-- a step behind one test more is refused or is the step
bounds-clear : (p : Problem) (c : Answer Step) → LowestBound p.lower p.upper p.n (step p).answer c → length p.kinds ≡ p.m → ClearStep p c
bounds-clear p c (all_bounded h e) k = rw e (step_clear p k)
bounds-clear p c (wrong_bound i q h f e) k = rw e tt

pub step-call-clear : StepCallClear
step-call-clear p relaxation t d d' l l' w w' iw iw' (inl q) =
    from-tests p relaxation t d d' l l' w w' iw iw' (is_dimension p.n && is_constraints p.m) (are_lengths p d l) (is_room w iw) (are_kinds p.kinds) (are_widths p.kinds p.widths p.m) refl (step p).answer
    (step_clear p) q
step-call-clear p relaxation t d d' l l' w w' iw iw' (inr q) =
    from-tests p relaxation t d d' l l' w w' iw iw' (is_dimension p.n && is_constraints p.m) (are_lengths p d l) (is_room w iw) (are_kinds p.kinds) (are_widths p.kinds p.widths p.m) refl
    (bounds p.lower p.upper p.n 0 (step p).answer)
    (bounds-clear p (bounds p.lower p.upper p.n 0 (step p).answer) (lowest-variable Step p.lower p.upper p.n (step p).answer)) q
