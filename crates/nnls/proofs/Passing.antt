-- The loop of a pass, over states.
use mathlib.Core.Path.{◌≡◌, refl, sym, ap, ap₂, ◌∙◌, subst}
use mathlib.Core.Bool.{Bool, true, false, not, cond, ◌&&◌, true≢false}
use mathlib.Core.List.{List}
use Rattle.std.specs.Prelude.{None, Some}
use Prim.Native.Nat.{ℕ, ◌+◌, ◌-◌, ◌≤◌, ◌<◌}
use native.Mathlib.Omega.{arith}
use lib.Dec.{T, eqb}
use lib.ListN.{set}
use lib.Ieee.{Float}
use borrow.Author.Tests.{eqb-true}
use Rattle.numbers.specs.Numbers.{at, nth}
use Rattle.nnls_passive.specs.Passive.{is_in}
use Rattle.nnls.specs.Nnls.{above0, choose, PassEnd, kept, ended, tries}
use Rattle.nnls.specs.inner.State.{State, put, solve_in}
use Rattle.nnls.specs.inner.Work.{TriedColumn, Passed}
use lib.Ieee.Fits.{and_l}
use Rattle.nnls.proofs.Picks.{choose-some}
use Rattle.nnls.proofs.Unroll.{tries-none, tries-out, tries-kept, tries-again}

-- what a choice says of the column: it is one, and it is outside
pub can-try : (w : List Float) (p rej : List ℕ) (n t : ℕ) → choose w p rej n ≡ Some t → (t < n) × (nth p t ≡ 0)
can-try w p rej n t e =
    let a = choose-some w p rej n t e in
    (a.0, go (eqb (nth p t) 0) (eqb-true (nth p t) 0) (and_l (not (is_in p t)) (not (is_in rej t) && above0 (at w t)) a.1))
  where
    go : (m : Bool) → (m ≡ true → nth p t ≡ 0) → T (not (not m)) → nth p t ≡ 0
    go true h u = h refl
    go false h u = absurd u

-- ---- a pass

-- after `count` tries: only z and the rejected marks have changed, and what is left of the pass from here is the whole
pub record Trying (m n f : ℕ) (s₀ s : State) (count : ℕ) : Type 0 where
  pub after : s ≡ put s₀.x s.z s₀.dual s₀.passive s.rejected s₀
  pub within : count ≤ n
  pub rest : tries n (solve_in m n s₀) n s₀.dual s₀.passive s₀.rejected f
      ≡ tries n (solve_in m n s₀) (n - count) s₀.dual s₀.passive s.rejected (f + count)

pub trying-none : (m n f : ℕ) (s : State) → Trying m n f s s 0
trying-none m n f s =
    record {
      after = refl;
      within = omega arith;
      rest = ap₂ (λ (l g : ℕ). tries n (solve_in m n s) l s.dual s.passive s.rejected g) (omega arith) (omega arith);
    }

module _ (m n f : ℕ) (s₀ s : State) (count : ℕ) (g : Trying m n f s₀ s count) where
  goal : PassEnd
  goal = tries n (solve_in m n s₀) n s₀.dual s₀.passive s₀.rejected f

  -- the choice, in the words of the start
  choice : choose s.dual s.passive s.rejected n ≡ choose s₀.dual s₀.passive s.rejected n
  choice = ap (λ (q : State). choose q.dual q.passive s.rejected n) g.after

  out : tries n (solve_in m n s₀) (n - count) s₀.dual s₀.passive s.rejected (f + count) ≡ ended s.rejected (f + count)
      → Passed goal (f + n) (record { kept = false; factorings = f + count }) s₀ s
  unfolding goal
  out e =
      record {
        answer = sym (g.rest ∙ e);
        unchanged = λ h. ap (λ (q : State). q.passive) g.after;
        after = g.after ∙ ap₂ (λ (d : List Float) (p : List ℕ). put s₀.x s.z d p s.rejected s₀) (sym (ap (λ (q : State). q.dual) g.after)) (sym (ap (λ (q : State). q.passive) g.after));
        few = let i = g.within in omega arith;
      }

  pub pass-nothing : choose s.dual s.passive s.rejected n ≡ None
      → Passed (tries n (solve_in m n s₀) n s₀.dual s₀.passive s₀.rejected f) (f + n) (record { kept = false; factorings = f + count }) s₀ s
  unfolding goal
  pass-nothing e = out (tries-none n (solve_in m n s₀) s₀.dual s₀.passive s.rejected (f + count) (n - count) (sym choice ∙ e))

  pub pass-out : n ≤ count
      → Passed (tries n (solve_in m n s₀) n s₀.dual s₀.passive s₀.rejected f) (f + n) (record { kept = false; factorings = f + n }) s₀ s
  unfolding goal
  pass-out l =
      let i = g.within in
      let e : count ≡ n = omega (arith, i, l) in
      subst (λ (i : ℕ). Passed (tries n (solve_in m n s₀) n s₀.dual s₀.passive s₀.rejected f) (f + n) (record { kept = false; factorings = f + i }) s₀ s) e
      (out (tries-out n (solve_in m n s₀) s₀.dual s₀.passive s.rejected (f + count) (n - count) (omega arith)))

  module _ (t : ℕ) (e : choose s.dual s.passive s.rejected n ≡ Some t) (l : count < n) (r : Bool) (s' : State) (tr : TriedColumn m n t r s s') where
    e₀ : choose s₀.dual s₀.passive s.rejected n ≡ Some t
    e₀ = sym choice ∙ e

    tr₀ : TriedColumn m n t r (put s₀.x s.z s₀.dual s₀.passive s.rejected s₀) s'
    tr₀ = subst (λ (q : State). TriedColumn m n t r q s') g.after tr

    pub pass-keep : r ≡ true
        → Passed (tries n (solve_in m n s₀) n s₀.dual s₀.passive s₀.rejected f) (f + n) (record { kept = true; factorings = f + (count + 1) }) s₀ s'
    pass-keep h =
        let a : s' ≡ put s₀.x (solve_in m n s₀ (set s₀.passive t 1)).z s₀.dual (set s₀.passive t 1) s.rejected s₀ =
        tr₀.after
        ∙ ap (λ (b : Bool). put s₀.x s'.z s₀.dual (cond b (set s₀.passive t 1) s₀.passive) (cond b s.rejected (set s.rejected t 1)) s₀) h
        ∙ ap (λ (v : List Float). put s₀.x v s₀.dual (set s₀.passive t 1) s.rejected s₀) (tr₀.values h) in
        record {
          answer =
              ap (λ (q : State). kept q.passive q.z (f + (count + 1))) a
              ∙ ap (kept (set s₀.passive t 1) (solve_in m n s₀ (set s₀.passive t 1)).z) (omega arith)
              ∙ sym (g.rest ∙ tries-kept n (solve_in m n s₀) s₀.dual s₀.passive s.rejected (f + count) (n - count) t (omega arith) e₀ (sym tr₀.judged ∙ h));
          unchanged = λ k. absurd (true≢false k);
          after = a ∙ ap (λ (q : State). put s₀.x q.z q.dual q.passive q.rejected s₀) (sym a);
          few = omega arith;
        }

    pub pass-again : r ≡ false → Trying m n f s₀ s' (count + 1)
    pass-again h =
        let a : s' ≡ put s₀.x s'.z s₀.dual s₀.passive (set s.rejected t 1) s₀ =
        tr₀.after ∙ ap (λ (b : Bool). put s₀.x s'.z s₀.dual (cond b (set s₀.passive t 1) s₀.passive) (cond b s.rejected (set s.rejected t 1)) s₀) h in
        record {
          after = a ∙ ap (λ (q : State). put s₀.x s'.z s₀.dual s₀.passive q.rejected s₀) (sym a);
          within = omega arith;
          rest =
              g.rest
              ∙ tries-again n (solve_in m n s₀) s₀.dual s₀.passive s.rejected (f + count) (n - count) (n - (count + 1)) t (omega arith) e₀ (sym tr₀.judged ∙ h)
              ∙ ap₂ (λ (k : List ℕ) (i : ℕ). tries n (solve_in m n s₀) (n - (count + 1)) s₀.dual s₀.passive k i) (sym (ap (λ (q : State). q.rejected) a)) (omega arith);
        }
