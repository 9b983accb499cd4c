-- What a step's report and tally hold of its cost.
use mathlib.Core.Path.{◌≡◌, refl, sym, ap, ◌∙◌, subst}
use mathlib.Core.Bool.{Bool, true, false, cond, ◌&&◌}
use mathlib.Core.List.{List, [], ◌∷◌}
use mathlib.Core.Logic.{◌⊎◌, inl, inr}
use Prim.Native.Nat.{ℕ, ◌+◌, ◌-◌, ◌^◌, ◌≤◌, min}
use native.Mathlib.Omega.{arith}
use lib.Dec.{eqb}
use lib.Ieee.{Float}
use Rattle.numbers.specs.Numbers.{nth}
use Rattle.tally.specs.Tally.{saturated}
use Rattle.workspace.specs.Tables.{Answer, refused, place_of, nowhere, number_of, is_late, call, test, is_dimension, is_constraints, is_room, has}
use Rattle.workspace.specs.declared.Refusal.{Refusal}
use Rattle.workspace.specs.declared.Refusal.TheVariants.{Size, Length, Width}
use Rattle.nnls.specs.Counted.{Counted}
use Rattle.step_rows.specs.Problem.{Problem}
use Rattle.step.specs.Step.{Step, step, report_of}
use Rattle.step.specs.declared.Report.{Report}
use Rattle.std.specs.Prelude.{Ok, Err}
use Rattle.step_call.specs.Promise.{Outcome, are_kinds, are_widths, are_lengths, step_call, refused_by, outcome_of, Steps}
use Rattle.step_call.specs.Strict.{bounds, strict_call}
use Rattle.step_call.specs.Claims.{EitherSteps, cost_bound, factorings_told}
use Rattle.step_call.proofs.Costs.{cost-bound, cost-most}
use Rattle.gritstrut.specs.Interface.{bound_entries, report_left, tally_left, Tells, StepLeaves}
use Rattle.gritstrut.specs.Claims.{Costs, CostTold}

-- ---- of an outcome

raised-most : (a b f most : ℕ) → f ≤ most → min (a + f) b ≤ a + most
raised-most a b f most h = omega (arith, h)

bound-told : (b : Bool) (r : List ℕ) (number place most : ℕ) → let e = cond b r (number ∷ place ∷ 0 ∷ nowhere ∷ 0 ∷ 0 ∷ []) in (e ≡ r) ⊎ (nth e 5 ≤ most)
bound-told true r number place most = inl refl
bound-told false r number place most = inr (omega arith)

told : (o : Outcome) (most : ℕ) (r y : List ℕ) → factorings_told o ≤ most → Costs most r (report_left o r) y (tally_left o y)
told (Ok s) most r y h = (inr h, raised-most (nth y 1) (2 ^ 64 - 1) s.report.factorings most h)
told (Err k) most r y h = (bound-told (eqb (place_of k) nowhere) r (number_of k) (place_of k) most, omega arith)

-- ---- of a call

-- a report of another length refuses, and else it is the call without one
same-or-early : (s l h x k : Bool) (a : Answer Step) → (call s (l && h) x k a ≡ call s l x k a) ⊎ ((r : Refusal) × (is_late r ≡ false) × (call s (l && h) x k a ≡ refused r))
same-or-early false l h x k a = inl refl
same-or-early true false h x k a = inl refl
same-or-early true true true x k a = inl refl
same-or-early true true false x k a = inr (Length, refl, refl)

early-told : (r : Refusal) (t : Report) → is_late r ≡ false → factorings_told (outcome_of (refused r) t) ≡ 0
early-told r t e = ap (λ (b : Bool). factorings_told (refused_by b r t)) e

module _ (p : Problem) (d d' l l' w w' : List Float) (iw iw' : List ℕ) where
  -- in both ways
  most-of : (c : Answer Step) → EitherSteps p (outcome_of c (report_of p)) d d' l l' w w' iw iw' → (factorings_told (outcome_of c (report_of p)) ≤ cost_bound p) × (factorings_told (outcome_of c (report_of p)) ≤ 25879)
  most-of c h = (cost-bound p (outcome_of c (report_of p)) d d' l l' w w' iw iw' h, cost-most p (outcome_of c (report_of p)) d d' l l' w w' iw iw' h)

  by-case : (c e : Answer Step) → (c ≡ e) ⊎ ((r : Refusal) × (is_late r ≡ false) × (c ≡ refused r))
      → (Steps e (report_of p) (outcome_of e (report_of p)) d d' l l' w w' iw iw' → EitherSteps p (outcome_of e (report_of p)) d d' l l' w w' iw iw')
      → Steps c (report_of p) (outcome_of c (report_of p)) d d' l l' w w' iw iw' → (factorings_told (outcome_of c (report_of p)) ≤ cost_bound p) × (factorings_told (outcome_of c (report_of p)) ≤ 25879)
  by-case c e (inl z) f q =
      subst (λ (x : Answer Step). (factorings_told (outcome_of x (report_of p)) ≤ cost_bound p) × (factorings_told (outcome_of x (report_of p)) ≤ 25879)) (sym z)
      (most-of e (f (subst (λ (x : Answer Step). Steps x (report_of p) (outcome_of x (report_of p)) d d' l l' w w' iw iw') z q)))
  by-case c e (inr z) f q =
      let y : factorings_told (outcome_of c (report_of p)) ≡ 0 = ap (λ (x : Answer Step). factorings_told (outcome_of x (report_of p))) z.2 ∙ early-told z.0 (report_of p) z.1 in
      (omega (arith, y), omega (arith, y))

  -- from the tests of a call with a report
  of-call : (r : List ℕ) (a : Answer Step)
      → (Steps (call (is_dimension p.n && is_constraints p.m) (are_lengths p d l) (is_room w iw) (are_kinds p.kinds) (test (are_widths p.kinds p.widths p.m) Width a)) (report_of p)
      (outcome_of (call (is_dimension p.n && is_constraints p.m) (are_lengths p d l) (is_room w iw) (are_kinds p.kinds) (test (are_widths p.kinds p.widths p.m) Width a)) (report_of p)) d d' l l' w w' iw iw'
      → EitherSteps p (outcome_of (call (is_dimension p.n && is_constraints p.m) (are_lengths p d l) (is_room w iw) (are_kinds p.kinds) (test (are_widths p.kinds p.widths p.m) Width a)) (report_of p)) d d' l l' w w' iw iw')
      → (k : ℕ) (relaxation relaxation' : Float) (r' y y' : List ℕ)
      → StepLeaves (call (is_dimension p.n && is_constraints p.m) (are_lengths p d l && has r 6) (is_room w iw) (are_kinds p.kinds) (test (are_widths p.kinds p.widths p.m) Width a)) (report_of p) k relaxation relaxation' r r' y y' d d' l l' w w' iw iw'
      → Costs (cost_bound p) r r' y y' × Costs 25879 r r' y y'
  of-call r a f k relaxation relaxation' r' y y' q =
      let s = is_dimension p.n && is_constraints p.m in
      let b = test (are_widths p.kinds p.widths p.m) Width a in
      let c = call s (are_lengths p d l && has r 6) (is_room w iw) (are_kinds p.kinds) b in
      let m = by-case c (call s (are_lengths p d l) (is_room w iw) (are_kinds p.kinds) b) (same-or-early s (are_lengths p d l) (has r 6) (is_room w iw) (are_kinds p.kinds) b) f q.the_call in
      rw (q.told.the_report, q.told.the_tally) (told (outcome_of c (report_of p)) (cost_bound p) r y m.0, told (outcome_of c (report_of p)) 25879 r y m.1)

pub cost-told : CostTold
cost-told p k relaxation relaxation' r r' y y' d d' l l' w w' iw iw' (inl q) = of-call p d d' l l' w w' iw iw' r (step p).answer (λ h. inl h) k relaxation relaxation' r' y y' q
cost-told p k relaxation relaxation' r r' y y' d d' l l' w w' iw iw' (inr q) =
    of-call p d d' l l' w w' iw iw' r (bounds p.lower p.upper p.n 0 (step p).answer) (λ h. inr h) k relaxation relaxation' r' y y' q
