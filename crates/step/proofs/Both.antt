-- The step from its two problems.
use mathlib.Core.Path.{◌≡◌, refl, ap, ◌∙◌}
use mathlib.Core.List.{List}
use Prim.Native.Nat.{ℕ, ◌+◌}
use lib.Ieee.{Float}
use Rattle.std.specs.Prelude.{Result, Ok, Err}
use Rattle.workspace.specs.Tables.{Outcome}
use Rattle.workspace.specs.declared.Refusal.{Refusal}
use Rattle.workspace.specs.Readings.{vec}
use Rattle.nnls.specs.Counted.{Counted, after}
use Rattle.step_rows.specs.Problem.{Problem}
use Rattle.step.specs.Step.{Step, target, exact, relaxed, or_relaxed, step, stage_of, reported, report_of}
use Rattle.step.specs.declared.Tried.{Tried}
use Rattle.step.specs.declared.Report.{Report}
use Rattle.step.specs.inner.Work.{answer_of, tried_step, passed_or_failed, unrelaxed, later, Tries, EndsStep}

-- a stage is told alike from its relaxation and from its answer
staged : (r : Result Float Refusal) (d l : List Float) → passed_or_failed r ≡ stage_of (answer_of r d l)
staged (Ok x) d l = refl
staged (Err k) d l = refl

abbrev tried : Result Float Refusal → (rounds factorings : ℕ) → Tried
tried r a b = record { relaxation = r; rounds = a; factorings = b }

module _ (p : Problem) where
  -- the exact problem is done
  step-done : (x : Float) (a b : ℕ) (w w' : List Float) → vec 0 p.n w ≡ target p → Tries (exact p (vec 0 p.n w)) p.n p.m (tried (Ok x) a b) w w'
      → EndsStep p.n p.m (unrelaxed (tried (Ok x) a b)) w' p
  unfolding step report_of unrelaxed
  step-done x a b w w' e t =
      let q : tried_step (tried (Ok x) a b) (vec 18 p.n w') (vec 36 p.m w') ≡ exact p (target p) = t.answer ∙ ap (exact p) e in
      record {
        the_answer = ap (λ (c : Counted Step). (or_relaxed c.answer c (relaxed p (target p))).answer) q;
        the_report = ap (λ (c : Counted Step). reported c.answer c (relaxed p (target p))) q;
        late = tt;
      }

  pub step-first : (r : Result Float Refusal) (a b : ℕ) (x : Float) (w w' : List Float) → r ≡ Ok x → vec 0 p.n w ≡ target p
      → Tries (exact p (vec 0 p.n w)) p.n p.m (tried r a b) w w' → EndsStep p.n p.m (unrelaxed (tried r a b)) w' p
  step-first r a b x w w' h e t = rw h (step-done x a b w w' e (rw h at t))

  -- it fails, and the relaxed one answers
  step-relaxed : (k : Refusal) (a b : ℕ) (u : Tried) (w w' w'' : List Float) → vec 0 p.n w ≡ target p → Tries (exact p (vec 0 p.n w)) p.n p.m (tried (Err k) a b) w w'
      → Tries (relaxed p (vec 0 p.n w')) p.n p.m u w' w'' → EndsStep p.n p.m (later (tried (Err k) a b) u) w'' p
  unfolding step report_of later
  step-relaxed k a b u w w' w'' e t v =
      let first = tried_step (tried (Err k) a b) (vec 18 p.n w') (vec 36 p.m w') in
      let q : first ≡ exact p (target p) = t.answer ∙ ap (exact p) e in
      let s : tried_step u (vec 18 p.n w'') (vec 36 p.m w'') ≡ relaxed p (target p) = v.answer ∙ ap (relaxed p) (t.front ∙ e) in
      record {
        the_answer =
            ap (λ (c : Counted Step). (after first c).answer) s
            ∙ ap (λ (c : Counted Step). (or_relaxed c.answer c (relaxed p (target p))).answer) q;
        the_report =
            ap {B = Report} (λ (o : Outcome). record { exact = Err k; relaxed = o; rounds = a + u.rounds; factorings = b + u.factorings })
            (staged u.relaxation (vec 18 p.n w'') (vec 36 p.m w''))
            ∙ ap (λ (c : Counted Step). reported first.answer first c) s
            ∙ ap (λ (c : Counted Step). reported c.answer c (relaxed p (target p))) q;
        late = v.late;
      }

  pub step-second : (r : Result Float Refusal) (a b : ℕ) (k : Refusal) (u : Tried) (w w' w'' : List Float) → r ≡ Err k → vec 0 p.n w ≡ target p
      → Tries (exact p (vec 0 p.n w)) p.n p.m (tried r a b) w w' → Tries (relaxed p (vec 0 p.n w')) p.n p.m u w' w''
      → EndsStep p.n p.m (later (tried r a b) u) w'' p
  step-second r a b k u w w' w'' h e t v = rw h (step-relaxed k a b u w w' w'' e (rw h at t) v)
