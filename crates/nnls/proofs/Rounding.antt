-- One pass, the loop of the rounds, and the whole kernel, over states.
use mathlib.Core.Path.{◌≡◌, refl, sym, ap, ap₂, ◌∙◌, subst}
use mathlib.Core.Bool.{Bool, true, false, cond}
use mathlib.Core.List.{List}
use Prim.Native.Nat.{ℕ, ◌+◌, ◌-◌, ◌*◌, ◌≤◌, ◌<◌}
use native.Mathlib.Nat.{not-suc-le-zero}
use native.Mathlib.Omega.{arith}
use lib.ListN.{length, replicate}
use lib.Ieee.{Float}
use Rattle.numbers.specs.Numbers.{+0, nth}
use Rattle.workspace.specs.Readings.{nums}
use Rattle.workspace.proofs.Readings.{nth-front}
use Rattle.nnls.specs.Nnls.{kept, ended, tries, Settled, turns, accept, pass, rounds, active_set, nnls}
use Rattle.nnls.specs.inner.State.{State, put, solve_in, dual_in, Rounded}
use Rattle.nnls.specs.inner.Work.{pass_end_of, Passed, TurnsTaken}
use Rattle.nnls.specs.inner.Memory.{Digits, MayLook, CameBack, onward, ended, LookedBack, goes_on, came_back}
use Rattle.nnls.specs.declared.memory.Course.{Course}
use Rattle.nnls.proofs.States.{states}
use Rattle.nnls.proofs.Solves.{solver}
use Rattle.nnls.proofs.Cycles.{Leads, leads-once, pass-more, turns_more}
use Rattle.nnls.proofs.Remembered.{Fixed, fixed-none, fixed-again, Trail, all-behind, Outcome, looked}
use Rattle.nnls.specs.declared.Pass.{Pass}
use Rattle.nnls.specs.declared.memory.Counts.{Counts}
use Rattle.std.specs.Prelude.{Result, Ok, Err, ⊤}
use Rattle.nnls.proofs.Unroll.{rounds-ended, rounds-last, rounds-again}

-- s has the problem of s₀
same-problem : (s s₀ : State) → s.a ≡ s₀.a → s.b ≡ s₀.b → s ≡ put s.x s.z s.dual s.passive s.rejected s₀
same-problem s s₀ ea eb = states ea eb refl refl refl refl refl

-- a pass: the tries from the dual at x on, no column rejected
pub pass-whole : (m n f : ℕ) (s s₁ s' : State) (r : Pass) → s₁ ≡ put s.x s.z (dual_in m n s s.x) s.passive (replicate n 0) s
    → Passed (tries n (solve_in m n s₁) n s₁.dual s₁.passive s₁.rejected f) (f + n) r s₁ s'
    → Passed (pass n (dual_in m n s) (solve_in m n s) s.x s.passive f) (f + n) r s s'
unfolding pass
pass-whole m n f s s₁ s' r e p =
    let q = subst (λ (u : State). Passed (tries n (solve_in m n u) n u.dual u.passive u.rejected f) (f + n) r u s') e p in
    record { answer = q.answer; unchanged = q.unchanged; after = q.after; few = q.few }

-- ---- the rounds

-- after `past` rounds: the problem is as it was, x is the solve on the passive set, and what is left of the rounds from here is the whole
pub record Going (m n k : ℕ) (s₀ s : State) (past f : ℕ) : Type 0 where
  pub after : s ≡ put s.x s.z s.dual s.passive s.rejected s₀
  pub fixed : Fixed n (solve_in m n s₀) s.x s.passive
  pub within : past ≤ k
  pub few : f ≤ 132 * past
  pub rest : rounds n (dual_in m n s₀) (solve_in m n s₀) k s₀.x s₀.passive 0 0
      ≡ rounds n (dual_in m n s₀) (solve_in m n s₀) (k - past) s.x s.passive past f

-- the same with the memory
pub record Running (m n k : ℕ) (s₀ s : State) (memory : List ℕ) (c : Course) : Type 0 where
  pub going : Going m n k s₀ s c.past c.factorings
  pub full : c.held ≤ 16
  pub strict : (i : ℕ) → i < c.held → nth memory (5 * i + 2) < c.past
  pub numbers : 4 ≤ c.past → Digits n s.passive c.low c.high
  pub trail : Trail n (dual_in m n s₀) (solve_in m n s₀) s.x s.passive memory c.held c.past c.factorings

pub running_none : (m n k : ℕ) (s : State) (memory : List ℕ) → s.x ≡ replicate n +0 → s.passive ≡ replicate n 0 → Running m n k s s memory (record { past = 0; factorings = 0; held = 0; low = 0; high = 0 })
running_none m n k s memory ex ep =
    let none = fixed-none n (solve_in m n s) (solver m n s.a s.b) in
    let F₀ : Fixed n (solve_in m n s) s.x (replicate n 0) = subst (λ (v : List Float). Fixed n (solve_in m n s) v (replicate n 0)) (sym ex) none in
    record {
      going = record {
        after = refl;
        fixed = subst (Fixed n (solve_in m n s) s.x) (sym ep) F₀;
        within = omega arith;
        few = omega arith;
        rest = ap (λ (l : ℕ). rounds n (dual_in m n s) (solve_in m n s) l s.x s.passive 0 0) (omega arith);
      };
      full = omega arith;
      strict = λ i b. absurd (not-suc-le-zero b);
      numbers = λ b. absurd (not-suc-le-zero b);
      trail = record { each = λ i b. absurd (not-suc-le-zero b); pairs = λ i j b. absurd (not-suc-le-zero b) };
    }

module _ (m n k : ℕ) (s₀ s : State) (past f : ℕ) (n66 : n ≤ 66) (g : Going m n k s₀ s past f) (t : Pass) (s' : State)
    (P : Passed (pass n (dual_in m n s) (solve_in m n s) s.x s.passive f) (f + n) t s s') where
  answer₀ : pass_end_of t s' ≡ pass n (dual_in m n s₀) (solve_in m n s₀) s.x s.passive f
  answer₀ = P.answer ∙ ap (λ (q : State). pass n (dual_in m n q) (solve_in m n q) s.x s.passive f) g.after

  was-ended : t.kept ≡ false → pass n (dual_in m n s₀) (solve_in m n s₀) s.x s.passive f ≡ ended s'.rejected t.factorings
  was-ended h = sym answer₀ ∙ ap (λ (b : Bool). cond b (kept s'.passive s'.z t.factorings) (ended s'.rejected t.factorings)) h

  was-kept : t.kept ≡ true → pass n (dual_in m n s₀) (solve_in m n s₀) s.x s.passive f ≡ kept s'.passive s'.z t.factorings
  was-kept h = sym answer₀ ∙ ap (λ (b : Bool). cond b (kept s'.passive s'.z t.factorings) (ended s'.rejected t.factorings)) h

  x-same : s'.x ≡ s.x
  x-same = ap (λ (q : State). q.x) P.after

  a-same : s'.a ≡ s₀.a
  a-same = ap (λ (q : State). q.a) P.after ∙ ap (λ (q : State). q.a) g.after

  b-same : s'.b ≡ s₀.b
  b-same = ap (λ (q : State). q.b) P.after ∙ ap (λ (q : State). q.b) g.after

  pub round-accept : t.kept ≡ false
      → Rounded (rounds n (dual_in m n s₀) (solve_in m n s₀) k s₀.x s₀.passive 0 0) (Ok (record { past = past; factorings = t.factorings })) s₀ s'
  round-accept h = record {
    answer =
        ap₂ (λ (x : List Float) (q : List ℕ). accept x q s'.rejected past t.factorings) x-same (P.unchanged h)
        ∙ sym (g.rest ∙ rounds-ended n (dual_in m n s₀) (solve_in m n s₀) s.x s.passive past f (k - past) s'.rejected t.factorings (was-ended h));
    after = same-problem s' s₀ a-same b-same;
  }

  pub round-capped : k ≤ past → t.kept ≡ true
      → Rounded (rounds n (dual_in m n s₀) (solve_in m n s₀) k s₀.x s₀.passive 0 0) (Err (record { past = past; factorings = t.factorings })) s₀ s'
  round-capped l h = record {
    answer = sym (g.rest ∙ rounds-last n (dual_in m n s₀) (solve_in m n s₀) s.x s.passive past f (k - past) s'.passive s'.z t.factorings (omega arith) (was-kept h));
    after = same-problem s' s₀ a-same b-same;
  }

  -- s₂ after the turns, s₃ with z in x
  module _ (h : t.kept ≡ true) (l : past < k) (f' : ℕ) (s₂ s₃ : State)
      (T' : TurnsTaken (turns n (solve_in m n s') n s'.x s'.z s'.passive t.factorings) (t.factorings + n) f' s' s₂)
      (e : s₃ ≡ put s₂.z s₂.z s₂.dual s₂.passive s₂.rejected s₂) where
    abbrev end : Settled
    end = turns n (solve_in m n s₀) n s.x s'.z s'.passive t.factorings

    es : turns n (solve_in m n s') n s'.x s'.z s'.passive t.factorings ≡ end
    es =
        ap (λ (q : State). turns n (solve_in m n q) n s'.x s'.z s'.passive t.factorings) (same-problem s' s₀ a-same b-same)
        ∙ ap (λ (x : List Float). turns n (solve_in m n s₀) n x s'.z s'.passive t.factorings) x-same

    ex : s₃.x ≡ end.x
    ex = ap (λ (q : State). q.x) e ∙ T'.values ∙ ap (λ (u : Settled). u.x) es

    ep : s₃.passive ≡ end.passive
    ep = ap (λ (q : State). q.passive) e ∙ T'.marks ∙ ap (λ (u : Settled). u.passive) es

    ef : f' ≡ end.factorings
    ef = T'.counted ∙ ap (λ (u : Settled). u.factorings) es

    pub round-more : f ≤ f'
    round-more =
        omega (
          arith,
          ef,
          pass-more n (dual_in m n s₀) (solve_in m n s₀) s.x s.passive f s'.passive s'.z t.factorings (was-kept h),
          turns_more n (dual_in m n s₀) (solve_in m n s₀) s.x s'.z s'.passive t.factorings,
        )

    pub round-few : f' ≤ f + 132
    round-few = let i = P.few in let j = T'.few in omega (arith, i, j)

    pub round-leads : Leads n (dual_in m n s₀) (solve_in m n s₀) s.x s.passive 1 (f' - f) s₃.x s₃.passive
    round-leads =
        subst (λ (i : ℕ). Leads n (dual_in m n s₀) (solve_in m n s₀) s.x s.passive 1 (i - f) s₃.x s₃.passive) (sym ef)
        (subst (λ (v : List Float). Leads n (dual_in m n s₀) (solve_in m n s₀) s.x s.passive 1 (end.factorings - f) v s₃.passive) (sym ex)
        (subst (λ (q : List ℕ). Leads n (dual_in m n s₀) (solve_in m n s₀) s.x s.passive 1 (end.factorings - f) end.x q) (sym ep)
        (leads-once n (dual_in m n s₀) (solve_in m n s₀) s.x s.passive f s'.passive s'.z t.factorings (was-kept h))))

    pub round-again : Going m n k s₀ s₃ (past + 1) f'
    round-again =
        let i7 = g.few in
        let i8 = round-few in
        record {
          after =
              same-problem s₃ s₀ (ap (λ (q : State). q.a) e ∙ ap (λ (q : State). q.a) T'.after ∙ a-same) (ap (λ (q : State). q.b) e ∙ ap (λ (q : State). q.b) T'.after ∙ b-same);
          fixed =
              subst (λ (v : List Float). Fixed n (solve_in m n s₀) v s₃.passive) (sym ex)
              (subst (Fixed n (solve_in m n s₀) end.x) (sym ep)
              (fixed-again n (solve_in m n s₀) (dual_in m n s₀) s.x s.passive f s'.passive s'.z t.factorings g.fixed (was-kept h)));
          within = omega arith;
          few = omega arith;
          rest =
              g.rest
              ∙ rounds-again n (dual_in m n s₀) (solve_in m n s₀) s.x s.passive past f (k - past) (k - (past + 1)) s'.passive s'.z t.factorings (omega arith) (was-kept h)
              ∙ ap (λ (v : List Float). rounds n (dual_in m n s₀) (solve_in m n s₀) (k - (past + 1)) v end.passive (past + 1) end.factorings) (sym ex)
              ∙ ap₂ (λ (v : List ℕ) (i : ℕ). rounds n (dual_in m n s₀) (solve_in m n s₀) (k - (past + 1)) s₃.x v (past + 1) i) (sym ep) (sym ef);
        }

-- ---- a look back after a round

module _ (m n k : ℕ) (s₀ s : State) (memory : List ℕ) (c : Course) (n66 : n ≤ 66) (R : Running m n k s₀ s memory c) (t : Pass) (s' : State)
    (P : Passed (pass n (dual_in m n s) (solve_in m n s) s.x s.passive c.factorings) (c.factorings + n) t s s') (h : t.kept ≡ true) (l : c.past < k) (f' : ℕ) (s₂ s₃ : State)
    (T' : TurnsTaken (turns n (solve_in m n s') n s'.x s'.z s'.passive t.factorings) (t.factorings + n) f' s' s₂)
    (e : s₃ ≡ put s₂.z s₂.z s₂.dual s₂.passive s₂.rejected s₂) where
  next : Going m n k s₀ s₃ (c.past + 1) f'
  next = round-again m n k s₀ s c.past c.factorings n66 R.going t s' P h l f' s₂ s₃ T' e

  more : c.factorings ≤ f'
  more = round-more m n k s₀ s c.past c.factorings n66 R.going t s' P h l f' s₂ s₃ T' e

  most : f' ≤ c.factorings + 132
  most = round-few m n k s₀ s c.past c.factorings n66 R.going t s' P h l f' s₂ s₃ T' e

  once : Leads n (dual_in m n s₀) (solve_in m n s₀) s.x s.passive 1 (f' - c.factorings) s₃.x s₃.passive
  once = round-leads m n k s₀ s c.past c.factorings n66 R.going t s' P h l f' s₂ s₃ T' e

  tried : t.factorings ≤ c.factorings + 66
  tried = let i = P.few in omega (arith, i, n66)

  pub look-asked : (w : List ℕ) → 264 ≤ length w → k ≤ 198 → s₃.passive ≡ nums 0 n w → 80 ≤ length memory → MayLook n k c t.factorings f' w memory
  look-asked w lw k198 ew lm = record {
    columns = n66;
    room = lw;
    limit = k198;
    within = l;
    places = lm;
    held = R.full;
    few = next.few;
    more = more;
    most = most;
    tried = tried;
    behind = all-behind n (dual_in m n s₀) (solve_in m n s₀) s.x s₃.x s.passive s₃.passive memory c.held c.past c.factorings f' next.fixed R.trail R.full more most once;
    marks = λ j b. subst (λ (v : ℕ). v ≤ 1) (ap (λ (q : List ℕ). nth q j) ew ∙ nth-front n j w b) (next.fixed.low j b);
  }

  outcome : (memory' : List ℕ) (r : Result Course Counts) → LookedBack n k s₃.passive c t.factorings f' memory memory' r → Outcome n (dual_in m n s₀) (solve_in m n s₀) k s₃.x s₃.passive (c.past + 1) f' memory' r
  outcome memory' r L =
      looked n (dual_in m n s₀) (solve_in m n s₀) s.x s₃.x s.passive s₃.passive memory memory' c t.factorings f' R.going.fixed next.fixed R.numbers R.strict R.trail R.full s'.passive s'.z
      (was-kept m n k s₀ s c.past c.factorings n66 R.going t s' P h) tried more most once k l next.few r L

  -- the rounds end here: their limit is reached
  pub look-ended : (memory' : List ℕ) (r : Counts) → LookedBack n k s₃.passive c t.factorings f' memory memory' (Err r)
      → Rounded (rounds n (dual_in m n s₀) (solve_in m n s₀) k s₀.x s₀.passive 0 0) (Err r) s₀ s₃
  look-ended memory' r L = record { answer = sym (next.rest ∙ outcome memory' (Err r) L); after = next.after }

  pub look-again : (memory' : List ℕ) (r : Course) → LookedBack n k s₃.passive c t.factorings f' memory memory' (Ok r) → Running m n k s₀ s₃ memory' r
  look-again memory' r L =
      let K = outcome memory' (Ok r) L in
      let i1 = K.ahead in
      let i2 = K.within in
      let i3 = K.more in
      record {
        going = record {
          after = next.after;
          fixed = next.fixed;
          within = K.within;
          few = K.few;
          rest =
              next.rest
              ∙ ap (λ (v : ℕ). rounds n (dual_in m n s₀) (solve_in m n s₀) v s₃.x s₃.passive (c.past + 1) f') (omega (arith, i1, i2))
              ∙ K.around (k - r.past) (c.past + 1) f'
              ∙ ap₂ (λ (i j : ℕ). rounds n (dual_in m n s₀) (solve_in m n s₀) (k - r.past) s₃.x s₃.passive i j) (omega (arith, i1)) (omega (arith, i3));
        };
        full = K.full;
        strict = K.strict;
        numbers = K.numbers;
        trail = K.trail;
      }

-- where rounds are left to run, no round that is past comes back
abbrev Further : ℕ → Result Course Counts → Type 0
Further past (Ok r) = past ≤ r.past
Further past (Err r) = ⊤

came-further : (h : List ℕ) (held i low high past f k : ℕ) (r : Result Course Counts) → CameBack h held i low high past f k r → Further past r
came-further h held i low high past f k _ (onward r Q) = let e = Q.rounds in omega (arith, e)
came-further h held i low high past f k _ (ended r Q t lt et) = tt

looked-further : (n k : ℕ) (p : List ℕ) (c : Course) (g f : ℕ) (h h' : List ℕ) (r : Result Course Counts) → LookedBack n k p c g f h h' r → Further (c.past + 1) r
looked-further n k p c g f h h' _ (goes_on held R low high E) = omega arith
looked-further n k p c g f h h' _ (came_back held R i l D low high E r came) = came-further h' held i low high (c.past + 1) f k r came

-- it comes further
pub look-further : (n k : ℕ) (p : List ℕ) (c : Course) (g f : ℕ) (h h' : List ℕ) (r : Course) → LookedBack n k p c g f h h' (Ok r) → c.past < r.past
look-further n k p c g f h h' r L = let e : c.past + 1 ≤ r.past = looked-further n k p c g f h h' (Ok r) L in omega (arith, e)

-- ---- the whole

pub nnls-whole : (m n k : ℕ) (s s₁ s' : State) (r : Result Counts Counts) → s₁ ≡ put (replicate n +0) s.z s.dual (replicate n 0) s.rejected s
    → Rounded (rounds n (dual_in m n s₁) (solve_in m n s₁) k s₁.x s₁.passive 0 0) r s₁ s' → Rounded (nnls m n s.a s.b k) r s s'
unfolding nnls active_set
nnls-whole m n k s s₁ s' r e p =
    let q = subst (λ (u : State). Rounded (rounds n (dual_in m n u) (solve_in m n u) k u.x u.passive 0 0) r u s') e p in
    record { answer = q.answer; after = q.after }
