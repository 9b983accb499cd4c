-- The strict step is the step, but for bounds that mean nothing, and the lowest variable with one is told.
use mathlib.Core.Path.{◌≡◌, refl, subst, sym}
use mathlib.Core.Bool.{Bool, true, false, ◌&&◌, true≢false}
use mathlib.Core.List.{List}
use mathlib.Core.Logic.{⊎_elim}
use Prim.Native.Nat.{ℕ, zero, suc, ◌+◌, ◌<◌}
use native.Mathlib.Omega.{arith}
use lib.Ieee.{Float}
use Rattle.numbers.proofs.Cases.{last-or-before}
use Rattle.workspace.specs.Tables.{Answer, refused, call, test, is_dimension, is_constraints, is_room}
use Rattle.workspace.specs.declared.Refusal.TheVariants.{Width, Bound}
use Rattle.step_rows.specs.Problem.{Problem}
use Rattle.step.specs.Step.{Step, step, report_of}
use Rattle.step_call.specs.Promise.{are_lengths, are_kinds, are_widths, step_call, Outcome, Steps}
use Rattle.step_call.specs.Strict.{is_bounded, bounds}
use Rattle.step_call.specs.Claims.{LowestBound, all_bounded, wrong_bound, LowestVariable, Tested, StrictTold, lowest_told, as_step, StrictIsStep}

-- ---- the lowest variable

module _ {A : Type 0} (l u : List Float) (a : Answer A) where
  -- n variables from variable i on, where those before are bounded
  from : (n i : ℕ) → ((j : ℕ) → j < i → is_bounded l u j ≡ true) → LowestBound l u (i + n) a (bounds l u n i a)
  unfolding bounds
  from zero i h = all_bounded (λ j q. h j (omega arith)) refl
  from (suc n) i h = go (is_bounded l u i) refl (λ e. from n (suc i) (λ j q. ⊎_elim (λ (r : j ≡ i). rw r e) (λ (r : j < i). h j r) (last-or-before i j q)))
    where
      go : (b : Bool) → is_bounded l u i ≡ b → (is_bounded l u i ≡ true → LowestBound l u (suc i + n) a (bounds l u n (suc i) a)) → LowestBound l u (i + suc n) a (test b (Bound i) (bounds l u n (suc i) a))
      go true e r = let k : suc i + n ≡ i + suc n = omega arith in subst (λ (t : ℕ). LowestBound l u t a (bounds l u n (suc i) a)) k (r e)
      go false e r = wrong_bound i (omega arith) h e refl

pub lowest-variable : LowestVariable
lowest-variable A l u n a = let k : 0 + n ≡ n = omega arith in subst (λ (t : ℕ). LowestBound l u t a (bounds l u n 0 a)) k (from l u a n 0 (λ j q. absurd (omega arith)))

-- ---- the two calls

module _ (p : Problem) (o : Outcome) (d d' l l' w w' : List Float) (iw iw' : List ℕ) where
  abbrev Left : Answer Step → Type 0
  Left c = Steps c (report_of p) o d d' l l' w w' iw iw'

  abbrev Strict : Type 0
  Strict = StrictTold p o d d' l l' w w' iw iw'

  -- the tests before that of the bounds
  abbrev Before : (s t r k v : Bool) → Type 0
  Before s t r k v = (s ≡ true) × (t ≡ true) × (r ≡ true) × (k ≡ true) × (v ≡ true)

  behind : (a : Answer Step) → LowestBound p.lower p.upper p.n (step p).answer a → Tested p d l w iw → Left a → (Left (step p).answer → Left (step_call p d l w iw)) → Strict
  behind a (all_bounded h e) g q f = as_step (λ _. h) (f (subst Left e q))
  behind a (wrong_bound i n h b e) g q f =
      let z : Left (refused (Bound i)) = subst Left e q in
      lowest_told g i n h b z.the_outcome (z.the_d, z.the_multipliers, z.the_floats, z.the_words)

  -- one of them refuses both calls alike, or none does
  through : (s t r k v : Bool) → (Tested p d l w iw → Before s t r k v) → (Before s t r k v → Tested p d l w iw)
      → (a : Answer Step) → LowestBound p.lower p.upper p.n (step p).answer a → (Left (call s t r k (test v Width (step p).answer)) → Left (step_call p d l w iw))
      → Left (call s t r k (test v Width a)) → Strict
  through false t r k v g g' a b f q = as_step (λ h. absurd (true≢false (sym (g h).0))) (f q)
  through true false r k v g g' a b f q = as_step (λ h. absurd (true≢false (sym (g h).1))) (f q)
  through true true false k v g g' a b f q = as_step (λ h. absurd (true≢false (sym (g h).2))) (f q)
  through true true true false v g g' a b f q = as_step (λ h. absurd (true≢false (sym (g h).3))) (f q)
  through true true true true false g g' a b f q = as_step (λ h. absurd (true≢false (sym (g h).4))) (f q)
  through true true true true true g g' a b f q = behind a b (g' (refl, refl, refl, refl, refl)) q f

pub strict-is-step : StrictIsStep
strict-is-step p o d d' l l' w w' iw iw' q =
    through p o d d' l l' w w' iw iw' (is_dimension p.n && is_constraints p.m) (are_lengths p d l) (is_room w iw) (are_kinds p.kinds) (are_widths p.kinds p.widths p.m) (λ h. h) (λ h. h)
    (bounds p.lower p.upper p.n 0 (step p).answer) (lowest-variable Step p.lower p.upper p.n (step p).answer) (λ h. h) q
