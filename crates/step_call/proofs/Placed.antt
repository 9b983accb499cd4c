-- The places that a step tells, and that it never answers 11.
use mathlib.Core.Path.{◌≡◌, refl, ap, subst, sym, ◌∙◌}
use mathlib.Core.Bool.{Bool, true, false, ◌&&◌, true≢false}
use mathlib.Core.List.{[], ◌∷◌, ◌++◌}
use mathlib.Core.Logic.{inl, inr}
use Prim.Native.Nat.{ℕ, ◌+◌, ◌-◌, ◌*◌}
use native.Mathlib.Omega.{arith}
use lib.ListN.{length}
use Rattle.numbers.specs.Numbers.{+0, transposed}
use Rattle.numbers.proofs.Lists.{length-grid}
use Rattle.workspace.specs.Tables.{Answer, done, refused, number_of, is_late, call, test, is_dimension, is_constraints, is_room}
use Rattle.workspace.specs.declared.Refusal.{Refusal}
use Rattle.workspace.specs.declared.Refusal.TheVariants.{Size, Length, Room, Kind, Width, Bound, Deficient, Dependent}
use Rattle.nnls.specs.Counted.{then}
use Rattle.lsei.specs.Lsei.{Solution}
use Rattle.lsei_call.specs.Claims.{IsNext}
use Rattle.lsei_call.proofs.Places.{lsi-says, lsi-next, lsei-next, rest-next}
use Rattle.step_rows.specs.Problem.{Problem, matrix_of, sides_of, equality_rows, inequality_rows, relaxed_rows}
use Rattle.step.specs.Step.{Step, target, exact_step, exact_solution, exact, root_weight, relaxed_matrix, relaxed_step, relaxed_solution, relaxed, or_relaxed, step, stage_of, reported, report_of}
use Rattle.std.specs.Prelude.{Result, Ok, Err}
use Rattle.step_call.specs.Promise.{are_kinds, are_widths, are_lengths, Outcome, refused_by, outcome_of}
use Rattle.step_call.specs.Strict.{bounds}
use Rattle.step_call.specs.Claims.{of_relaxed, of_equations, of_nullspace, StagePlaces, PlacesTold, StepPlaced, LowestBound, all_bounded, wrong_bound}
use Rattle.step_call.proofs.Strictly.{lowest-variable}

-- ---- refusals

unlike : {A : Type 0} (r k : Refusal) → (number_of r ≡ number_of k → ⊥) → r ≡ k → A
unlike r k h e = absurd (h (ap number_of e))

never-refused : {A : Type 0} (s : Step) (r : Refusal) → done s ≡ refused r → A
never-refused s r e = let z : ◌≡◌ {A = ℕ} 0 1 = cc in absurd (let y : ⊥ = omega (arith, z) in y)

-- a solution's refusal is the step's
solution-refused : (a : Answer Solution) (f : Solution → Step) (r : Refusal) → then a (λ s. done (f s)) ≡ refused r → a ≡ refused r
solution-refused (done s) f r e = never-refused (f s) r e
solution-refused (refused k) f r e = let z : k ≡ r = cc in ap refused z

-- ---- the two stages

module _ (p : Problem) where
  exact-dependent : (place : ℕ) → (exact p (target p)).answer ≡ refused (Dependent place) → IsNext (length (equality_rows p)) (of_equations p) place
  unfolding exact
  exact-dependent place e =
      let eqs = equality_rows p in
      let ineqs = inequality_rows p in
      lsei-next p.n (length eqs) p.n (length ineqs) place (matrix_of eqs) (sides_of eqs) (transposed p.n p.n p.factor) (target p) (matrix_of ineqs) (sides_of ineqs)
      (solution-refused (exact_solution p (target p)).answer (exact_step p (length eqs)) (Dependent place) e)

  exact-deficient : (place : ℕ) → (exact p (target p)).answer ≡ refused (Deficient place)
      → ((of_equations p).rank ≡ length (equality_rows p)) × IsNext (p.n - length (equality_rows p)) (of_nullspace p) place
  unfolding exact
  exact-deficient place e =
      let eqs = equality_rows p in
      let ineqs = inequality_rows p in
      rest-next p.n (length eqs) p.n (length ineqs) place (matrix_of eqs) (sides_of eqs) (transposed p.n p.n p.factor) (target p) (matrix_of ineqs) (sides_of ineqs)
      (solution-refused (exact_solution p (target p)).answer (exact_step p (length eqs)) (Deficient place) e)

  relaxed-size : length (relaxed_matrix p.n root_weight p.factor) ≡ (p.n + 1) * (p.n + 1)
  unfolding relaxed_matrix
  relaxed-size = length-grid (p.n + 1) (p.n + 1) _

  relaxed-deficient : (place : ℕ) → (relaxed p (target p)).answer ≡ refused (Deficient place) → IsNext (p.n + 1) (of_relaxed p) place
  unfolding relaxed
  relaxed-deficient place e =
      let n = p.n in
      let rs = relaxed_rows p in
      lsi-next (n + 1) (n + 1) (length rs) place (relaxed_matrix n root_weight p.factor) (target p ++ (+0 ∷ [])) (matrix_of rs) (sides_of rs) relaxed-size
      (solution-refused (relaxed_solution p (target p)).answer (relaxed_step p) (Deficient place) e)

  relaxed-dependent : (place : ℕ) → (relaxed p (target p)).answer ≡ refused (Dependent place) → ⊥
  unfolding relaxed
  relaxed-dependent place e =
      let n = p.n in
      let rs = relaxed_rows p in
      (lsi-says (n + 1) (n + 1) (length rs) (relaxed_matrix n root_weight p.factor) (target p ++ (+0 ∷ [])) (matrix_of rs) (sides_of rs)).never_eleven place
      (solution-refused (relaxed_solution p (target p)).answer (relaxed_step p) (Dependent place) e)

  -- ---- the report

  passed-not : {A : Type 0} (r : Refusal) → ◌≡◌ {A = Result Unit Refusal} (Ok tt) (Err r) → A
  passed-not r e = absurd (let y : ⊥ = cc in y)

  stage-refused : (a : Answer Step) (r : Refusal) → stage_of a ≡ Err r → a ≡ refused r
  stage-refused (done s) r e = passed-not r e
  stage-refused (refused k) r e = let z : k ≡ r = cc in ap refused z

  report-places : StagePlaces p (report_of p)
  unfolding report_of
  report-places = go (exact p (target p)).answer refl
    where
      go : (a : Answer Step) → (exact p (target p)).answer ≡ a → StagePlaces p (reported a (exact p (target p)) (relaxed p (target p)))
      go (done s) e = record {
        exact_eleven = λ place h. passed-not (Dependent place) h;
        exact_five = λ place h. passed-not (Deficient place) h;
        relaxed_five = λ place h. passed-not (Deficient place) h;
        never_eleven = λ place h. passed-not (Dependent place) h;
      }
      go (refused k) e = record {
        exact_eleven = λ place h. exact-dependent place (e ∙ stage-refused (refused k) (Dependent place) h);
        exact_five = λ place h. exact-deficient place (e ∙ stage-refused (refused k) (Deficient place) h);
        relaxed_five = λ place h. relaxed-deficient place (stage-refused (relaxed p (target p)).answer (Deficient place) h);
        never_eleven = λ place h. relaxed-dependent place (stage-refused (relaxed p (target p)).answer (Dependent place) h);
      }

  -- ---- the answer

  -- a refusal of the step is the relaxed stage's
  step-refused : (r : Refusal) → (step p).answer ≡ refused r → (relaxed p (target p)).answer ≡ refused r
  unfolding step
  step-refused r = go (exact p (target p)).answer refl
    where
      go : (a : Answer Step) → (exact p (target p)).answer ≡ a → (or_relaxed a (exact p (target p)) (relaxed p (target p))).answer ≡ refused r → (relaxed p (target p)).answer ≡ refused r
      go (done s) e h = never-refused s r (sym e ∙ h)
      go (refused k) e h = h

  -- an answer whose places are the relaxed stage's
  abbrev Answered : Answer Step → Type 0
  Answered a = (r : Refusal) → a ≡ refused r → ((place : ℕ) → r ≡ Deficient place → IsNext (p.n + 1) (of_relaxed p) place) × ((place : ℕ) → r ≡ Dependent place → ⊥)

  step-answered : Answered (step p).answer
  step-answered r e = (
    λ place h. relaxed-deficient place (step-refused r e ∙ ap refused h),
    λ place h. relaxed-dependent place (step-refused r e ∙ ap refused h),
  )

  -- a test's number is neither 5 nor 11
  early : (k : Refusal) → (number_of k ≡ 5 → ⊥) → (number_of k ≡ 11 → ⊥) → Answered (refused k)
  early k five eleven r e =
      let z : k ≡ r = cc in
      (λ place h. unlike k (Deficient place) five (z ∙ h), λ place h. unlike k (Dependent place) eleven (z ∙ h))

  bounds-answered : (c : Answer Step) → LowestBound p.lower p.upper p.n (step p).answer c → Answered c
  bounds-answered c (all_bounded h e) = rw e step-answered
  bounds-answered c (wrong_bound i n h b e) = rw e (early (Bound i) (λ z. omega (arith, z)) (λ z. omega (arith, z)))

  tests-answered : (s t r k v : Bool) (a : Answer Step) → Answered a → Answered (call s t r k (test v Width a))
  tests-answered false t r k v a h = early Size (λ z. omega (arith, z)) (λ z. omega (arith, z))
  tests-answered true false r k v a h = early Length (λ z. omega (arith, z)) (λ z. omega (arith, z))
  tests-answered true true false k v a h = early Room (λ z. omega (arith, z)) (λ z. omega (arith, z))
  tests-answered true true true false v a h = early Kind (λ z. omega (arith, z)) (λ z. omega (arith, z))
  tests-answered true true true true false a h = early Width (λ z. omega (arith, z)) (λ z. omega (arith, z))
  tests-answered true true true true true a h = h

  -- ---- the outcome

  late-five : (r : Refusal) (place : ℕ) → is_late r ≡ false → r ≡ Deficient place → ⊥
  late-five r place l e = let z : true ≡ false = sym (ap is_late e) ∙ l in true≢false z

  late-eleven : (r : Refusal) (place : ℕ) → is_late r ≡ false → r ≡ Dependent place → ⊥
  late-eleven r place l e = let z : true ≡ false = sym (ap is_late e) ∙ l in true≢false z

  outcome-places : (a : Answer Step) → Answered a → PlacesTold p (outcome_of a (report_of p))
  outcome-places (done s) h = report-places
  outcome-places (refused r) h = go (is_late r) refl
    where
      go : (b : Bool) → is_late r ≡ b → PlacesTold p (refused_by b r (report_of p))
      go true e = (report-places, (h r refl).0, (h r refl).1)
      go false e = (λ place z. late-five r place e z, λ place z. late-eleven r place e z)

  told : (o : Outcome) (a : Answer Step) → Answered a → o ≡ outcome_of a (report_of p) → PlacesTold p o
  told o a h e = subst (PlacesTold p) (sym e) (outcome-places a h)

pub step-placed : StepPlaced
step-placed p o d d' l l' w w' iw iw' (inl q) =
    told p o _ (tests-answered p (is_dimension p.n && is_constraints p.m) (are_lengths p d l) (is_room w iw) (are_kinds p.kinds) (are_widths p.kinds p.widths p.m) (step p).answer (step-answered p)) q.the_outcome
step-placed p o d d' l l' w w' iw iw' (inr q) =
    let b = bounds p.lower p.upper p.n 0 (step p).answer in
    told p o _
    (tests-answered p (is_dimension p.n && is_constraints p.m) (are_lengths p d l) (is_room w iw) (are_kinds p.kinds) (are_widths p.kinds p.widths p.m) b
    (bounds-answered p b (lowest-variable Step p.lower p.upper p.n (step p).answer))) q.the_outcome
