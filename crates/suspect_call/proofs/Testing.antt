-- Laws of the tests of meters: one meter, the next, and what they come to before whatever follows.
use mathlib.Core.Path.{◌≡◌, refl, sym, ap, ◌∙◌}
use mathlib.Core.Bool.{false}
use mathlib.Core.List.{List}
use Prim.Native.Nat.{ℕ, zero, suc, ◌+◌, ◌-◌, ◌<◌, ◌≤◌}
use native.Mathlib.Omega.{arith}
use lib.Ieee.{Float}
use Rattle.numbers.specs.Numbers.{at}
use Rattle.workspace.specs.Tables.{Answer, done, refused, outcome_of, is_late}
use Rattle.workspace.specs.declared.Refusal.{Refusal}
use Rattle.workspace.specs.declared.Refusal.TheVariants.{Reading, Spread}
use Rattle.std.specs.Prelude.{Ok, Err}
use Rattle.reconcile_call.specs.Promise.{is_spread}
use Rattle.reconcile_call.proofs.Testing.{never, passes, stops, first_passes, first_stops}
use Rattle.suspect.specs.Suspect.{is_finite}
use Rattle.suspect_call.specs.Promise.{meter, meters}
use Rattle.suspect_call.specs.inner.Work.{tested_outcome}

-- ---- meter after meter

module _ (v s : List Float) where
  pub tested-none : (n : ℕ) → tested_outcome v s n 0 ≡ tested_outcome v s (n - 0) 0
  tested-none n = let k : n ≡ n - 0 = omega arith in ap (λ (x : ℕ). tested_outcome v s x 0) k

  -- a meter that passes leaves what is still to test
  pub tested-on : (n i : ℕ) → i < n → outcome_of (meter {A = Unit} v s i (done tt)) ≡ Ok tt → tested_outcome v s (n - i) i ≡ tested_outcome v s (n - (i + 1)) (i + 1)
  unfolding meters
  tested-on n i h e =
      let k : n - i ≡ suc (n - (i + 1)) = omega arith in
      let j : suc i ≡ i + 1 = omega arith in
      rw k
      (ap outcome_of (passes (is_finite (at v i)) (is_spread (at s i)) (Reading i) (Spread i) (meters {A = Unit} v s (n - (i + 1)) (suc i) (done tt)) e).2
      ∙ ap (λ (x : ℕ). tested_outcome v s (n - (i + 1)) x) j)

  -- one that does not ends it
  pub tested-out : (n i : ℕ) (k : Refusal) → i < n → outcome_of (meter {A = Unit} v s i (done tt)) ≡ Err k → tested_outcome v s (n - i) i ≡ Err k
  unfolding meters
  tested-out n i k h e =
      let l : n - i ≡ suc (n - (i + 1)) = omega arith in
      rw l (ap outcome_of (stops (is_finite (at v i)) (is_spread (at s i)) (Reading i) (Spread i) k (meters {A = Unit} v s (n - (i + 1)) (suc i) (done tt)) e))

  pub tested-all : (n i : ℕ) → n ≤ i → tested_outcome v s (n - i) i ≡ Ok tt
  unfolding meters
  tested-all n i h = let k : n - i ≡ 0 = omega arith in rw k refl

-- ---- what the tests come to, before whatever follows

module _ (v s : List Float) where
  pub all_pass : {A : Type 0} (n i : ℕ) (x : Answer A) → tested_outcome v s n i ≡ Ok tt → meters v s n i x ≡ x
  unfolding meters
  all_pass zero i x e = refl
  all_pass (suc n) i x e =
      let h = first_passes (is_finite (at v i)) (is_spread (at s i)) (Reading i) (Spread i) (meters {A = Unit} v s n (suc i) (done tt)) e in
      rw (h.0, h.1) (all_pass n (suc i) x h.2)

  -- the workspaces stay as they are
  pub all-stop : {A : Type 0} (n i : ℕ) (k : Refusal) (x : Answer A) → tested_outcome v s n i ≡ Err k → (meters v s n i x ≡ refused k) × (is_late k ≡ false)
  unfolding meters
  all-stop zero i k x e = never k (sym e)
  all-stop (suc n) i k x e =
      first_stops (is_finite (at v i)) (is_spread (at s i)) (Reading i) (Spread i) k (meters {A = Unit} v s n (suc i) (done tt)) (meters v s n (suc i) x) refl refl (all-stop n (suc i) k x) e
