-- The loop of the turns, over states.
use mathlib.Core.Path.{◌≡◌, refl, sym, ap, ap₂, ◌∙◌, subst}
use Prim.Native.Nat.{ℕ, ◌+◌, ◌-◌, ◌≤◌, ◌<◌}
use native.Mathlib.Omega.{arith}
use lib.Ieee.{Float}
use Rattle.nnls.specs.Nnls.{free, block, blocking, move_x, move_p, Settled, turns}
use Rattle.nnls.specs.inner.State.{State, put, solve_in}
use Rattle.nnls.specs.inner.Work.{TurnsTaken}
use Rattle.nnls.proofs.Unroll.{turns-free, turns-out, turns-again}

-- after `count` turns: the dual and the rejected marks are as they were, and what is left of the turns from here is the whole
pub record Turning (m n f : ℕ) (s₀ s : State) (count : ℕ) : Type 0 where
  pub after : s ≡ put s.x s.z s₀.dual s.passive s₀.rejected s₀
  pub within : count ≤ n
  pub rest : turns n (solve_in m n s₀) n s₀.x s₀.z s₀.passive f ≡ turns n (solve_in m n s₀) (n - count) s.x s.z s.passive (f + count)

pub turning-none : (m n f : ℕ) (s : State) → Turning m n f s s 0
turning-none m n f s =
    record {
      after = refl;
      within = omega arith;
      rest = ap₂ (λ (l g : ℕ). turns n (solve_in m n s) l s.x s.z s.passive g) (omega arith) (omega arith);
    }

module _ (m n f : ℕ) (s₀ s : State) (count : ℕ) (g : Turning m n f s₀ s count) where
  turn_end : turns n (solve_in m n s₀) (n - count) s.x s.z s.passive (f + count) ≡ record { x = s.z; passive = s.passive; factorings = f + count }
      → TurnsTaken (turns n (solve_in m n s₀) n s₀.x s₀.z s₀.passive f) (f + n) (f + count) s₀ s
  turn_end e =
      let h = g.rest ∙ e in
      record {
        values = sym (ap (λ (q : Settled). q.x) h);
        marks = sym (ap (λ (q : Settled). q.passive) h);
        counted = sym (ap (λ (q : Settled). q.factorings) h);
        after = g.after;
        few = let i = g.within in omega arith;
      }

  pub turn-free : blocking s.x s.z s.passive n ≡ free → TurnsTaken (turns n (solve_in m n s₀) n s₀.x s₀.z s₀.passive f) (f + n) (f + count) s₀ s
  turn-free e = turn_end (turns-free n (solve_in m n s₀) s.x s.z s.passive (f + count) (n - count) e)

  pub turn-out : n ≤ count → TurnsTaken (turns n (solve_in m n s₀) n s₀.x s₀.z s₀.passive f) (f + n) (f + n) s₀ s
  turn-out l =
      let i = g.within in
      let e : count ≡ n = omega (arith, i, l) in
      subst (λ (i : ℕ). TurnsTaken (turns n (solve_in m n s₀) n s₀.x s₀.z s₀.passive f) (f + n) (f + i) s₀ s) e
      (turn_end (turns-out n (solve_in m n s₀) s.x s.z s.passive (f + count) (n - count) (omega arith)))

  -- s₁ is s moved, s₂ with the solve
  pub turn-again : (q : ℕ) (r : Float) → blocking s.x s.z s.passive n ≡ block q r → count < n → (s₁ s₂ : State)
      → s₁ ≡ put (move_x n q r s.x s.z s.passive) s.z s.dual (move_p n q r s.x s.z s.passive) s.rejected s
      → s₂ ≡ put s₁.x (solve_in m n s₁ s₁.passive).z s₁.dual s₁.passive s₁.rejected s₁
      → Turning m n f s₀ s₂ (count + 1)
  turn-again q r e l s₁ s₂ e₁ e₂ =
      let x' = move_x n q r s.x s.z s.passive in
      let p' = move_p n q r s.x s.z s.passive in
      let ea : s.a ≡ s₀.a = ap (λ (u : State). u.a) g.after in
      let eb : s.b ≡ s₀.b = ap (λ (u : State). u.b) g.after in
      let a : s₂ ≡ put x' (solve_in m n s₀ p').z s₀.dual p' s₀.rejected s₀ =
      e₂ ∙ ap (λ (u : State). put u.x (solve_in m n u u.passive).z u.dual u.passive u.rejected u) e₁
      ∙ ap (λ (u : State). put x' (solve_in m n u p').z u.dual p' u.rejected u) g.after in
      record {
        after = a ∙ ap (λ (u : State). put u.x u.z s₀.dual u.passive s₀.rejected s₀) (sym a);
        within = omega arith;
        rest =
            g.rest
            ∙ turns-again n (solve_in m n s₀) s.x s.z s.passive (f + count) (n - count) (n - (count + 1)) q r (omega arith) e
            ∙ ap₂ (λ (u : State) (i : ℕ). turns n (solve_in m n s₀) (n - (count + 1)) u.x u.z u.passive i) (sym a) (omega arith);
      }
