-- The exact problem: what is written for LSEI, and what its answer becomes.
use mathlib.Core.Path.{◌≡◌, sym, ap, ap₂, ◌∙◌}
use mathlib.Core.List.{List, [], ◌++◌}
use Prim.Native.Nat.{ℕ, ◌+◌, ◌*◌, ◌-◌, ◌≤◌, ◌<◌}
use native.Mathlib.Nat.{mul-le-mul}
use native.Mathlib.Omega.{arith}
use lib.ListN.{length}
use lib.Ieee.{Float}
use borrow.Rule.Slice.PartMut.{mid_of, put_mid}
use Rattle.numbers.specs.Numbers.{+0, at, transposed}
use Rattle.workspace.specs.Tables.{is_late}
use Rattle.workspace.specs.declared.Refusal.{Refusal}
use Rattle.std.specs.Prelude.{Ok, Err, ⊤}
use Rattle.workspace.specs.Readings.{vec, stack, Block, Loaded}
use Rattle.workspace.proofs.Readings.{vec-is, vec-same, vec-part, stack_same, stack-part}
use Rattle.workspace.proofs.Writes.{block-vec}
use Rattle.workspace.proofs.Parts.{lent_is}
use Rattle.nnls.specs.Counted.{Counted}
use Rattle.lsei.specs.Lsei.{Solution, lsei}
use Rattle.lsei.proofs.Costs.{lsei-most}
use Rattle.lsei.proofs.Together.{sides-part}
use Rattle.step_rows.specs.Problem.{Problem, matrix_of, sides_of, equality_rows, inequality_rows}
use Rattle.step.specs.Step.{Step, in_order, exact_step, exact}
use Rattle.step_rows.specs.inner.Work.{Pushed, equalities_among, floors_among}
use Rattle.step_rows.proofs.Pushing.{pushed-count, pushed-matrix, pushed-sides}
use Rattle.step_rows.proofs.Among.{all-equal, enough-exact}
use Rattle.lsei.specs.inner.Work.{refusal_of, ended_solution, sides}
use Rattle.lsei_nullspace.specs.inner.Work.{solution_in}
use Rattle.lsei.specs.declared.Ended.{Ended}
use Rattle.lsei.specs.declared.Unsolved.{Unsolved}
use Rattle.step.specs.inner.Work.{ExactIn, Left, Tries}
use Rattle.step.proofs.Counts.{lsei-rounds}
use Rattle.step.proofs.Answers.{tried, refusal-late, refused-is, done-is, rounds-are, factorings-are}
use Rattle.step.proofs.Parts.{stack-mat, vec-back, front-back}

-- ---- what is written: C, d, E, f and G with h, one behind the other

module _ (p : Problem) (c g : ℕ) (w w₁ w₂ w₃ w₄ w₅ : List Float) (n16 : p.n ≤ 16) (m16 : p.m ≤ 16) (few : c ≤ p.m) (g64 : g ≤ 64)
    (C : Pushed 444 p.n 0 c (equality_rows p) w w₁)
    (D : Block 732 c (λ t. at w₁ (444 + t * 18 + p.n)) w₁ w₂)
    (E : Loaded 750 p.n p.n p.factor w₂ w₃)
    (F : Block 1056 p.n (λ t. at w₃ (0 + t)) w₃ w₄)
    (G : Pushed 1074 p.n 0 g (inequality_rows p) w₄ w₅) where
  -- what later writes leave
  before-f : (x : ℕ) → x < 1056 → at w₅ x ≡ at w₃ x
  before-f x h = G.before x (omega arith) ∙ F.before x h

  before-e : (x : ℕ) → x < 750 → at w₅ x ≡ at w₂ x
  before-e x h = before-f x (omega arith) ∙ E.before x h

  before-d : (x : ℕ) → x < 732 → at w₅ x ≡ at w₁ x
  before-d x h = before-e x (omega arith) ∙ D.before x h

  before-c : (x : ℕ) → x < 444 → at w₃ x ≡ at w x
  before-c x h = E.before x (omega arith) ∙ D.before x (omega arith) ∙ C.before x h

  target-kept : vec 0 p.n w₃ ≡ vec 0 p.n w
  target-kept = vec-same 0 p.n w w₃ (λ i h. before-c (0 + i) (omega arith))

  f-copied : vec 1056 p.n w₄ ≡ vec 0 p.n w₃
  unfolding vec
  f-copied = block-vec 1056 p.n _ w₃ w₄ F

  h-pushed : sides 1074 g p.n w₅ ≡ sides_of (inequality_rows p)
  unfolding sides
  h-pushed = pushed-sides 1074 p.n g _ w₄ w₅ G

  pub exact-in : ExactIn p (vec 0 p.n w) (record { equalities = c; inequalities = g }) w₅
  exact-in = record {
    few = omega arith;
    several = g64;
    equalities = pushed-count 444 p.n c _ w w₁ C;
    inequalities = pushed-count 1074 p.n g _ w₄ w₅ G;
    the_c =
        stack_same 444 c p.n w₁ w₅ (λ k i hk hi. before-d (444 + k * 18 + i) (omega arith)) ∙ pushed-matrix 444 p.n c _ w w₁ C;
    the_d =
        vec-is 732 c w₅ (λ t. at w₁ (444 + t * 18 + p.n)) (λ t h. before-e (732 + t) (omega arith) ∙ D.inside t h)
        ∙ pushed-sides 444 p.n c _ w w₁ C;
    the_e =
        stack_same 750 p.n p.n w₃ w₅ (λ k i hk hi. before-f (750 + k * 18 + i) (omega arith)) ∙ stack-mat 750 p.n p.n w₃ ∙ ap (transposed p.n p.n) E.matrix;
    the_f = vec-same 1056 p.n w₄ w₅ (λ i h. G.before (1056 + i) (omega arith)) ∙ f-copied ∙ target-kept;
    the_g = pushed-matrix 1074 p.n g _ w₄ w₅ G;
    the_h = h-pushed;
    front = vec-same 0 p.n w₃ w₅ (λ i h. before-f (0 + i) (omega arith)) ∙ target-kept;
  }

-- ---- LSEI on it

lsei-same : (n me : ℕ) (mc mc' mg mg' : ℕ) (c c' d d' e e' f f' g g' h h' : List Float) → mc ≡ mc' → mg ≡ mg' → c ≡ c' → d ≡ d' → e ≡ e' → f ≡ f' → g ≡ g' → h ≡ h'
    → lsei n mc me mg c d e f g h ≡ lsei n mc' me mg' c' d' e' f' g' h'
lsei-same n me mc mc' mg mg' c c' d d' e e' f f' g g' h h' e₁ e₂ e₃ e₄ e₅ e₆ e₇ e₈ = cc

-- w holds the problem, LSEI answers e and leaves v of its part
module _ (p : Problem) (f : List Float) (c g : ℕ) (w v : List Float) (e : Ended) (n16 : p.n ≤ 16) (h : 18 ≤ length w)
    (X : ExactIn p f (record { equalities = c; inequalities = g }) w)
    (L : ended_solution e (solution_in p.n c g v)
    ≡ lsei p.n c p.n g (stack 426 c p.n (mid_of 18 (length w - 18) w)) (vec 714 c (mid_of 18 (length w - 18) w)) (stack 732 p.n p.n (mid_of 18 (length w - 18) w))
    (vec 1038 p.n (mid_of 18 (length w - 18) w)) (stack 1056 g p.n (mid_of 18 (length w - 18) w)) (sides 1056 g p.n (mid_of 18 (length w - 18) w))) where
  abbrev eqs : Counted Solution
  eqs =
      lsei p.n (length (equality_rows p)) p.n (length (inequality_rows p)) (matrix_of (equality_rows p)) (sides_of (equality_rows p)) (transposed p.n p.n p.factor) f
      (matrix_of (inequality_rows p)) (sides_of (inequality_rows p))

  abbrev left : List Float
  left = put_mid 18 (length w - 18) w v

  solved : ended_solution e (solution_in p.n c g v) ≡ eqs
  solved =
      L
      ∙ ap
      (λ (q : List Float).
      lsei p.n c p.n g (stack 426 c p.n q) (vec 714 c q) (stack 732 p.n p.n q) (vec 1038 p.n q) (stack 1056 g p.n q) (sides 1056 g p.n q))
      (lent_is 18 w v h)
      ∙ lsei-same p.n p.n c _ g _ _ _ _ _ _ _ _ _ _ _ _ _ X.equalities X.inequalities (stack-part 18 426 c p.n w ∙ X.the_c) (vec-part 18 714 c w ∙ X.the_d)
      (stack-part 18 732 p.n p.n w ∙ X.the_e) (vec-part 18 1038 p.n w ∙ X.the_f) (stack-part 18 1056 g p.n w ∙ X.the_g) (sides-part 18 1056 g p.n w ∙ X.the_h)

  few-rounds : e.rounds ≤ 198
  few-rounds =
      let a = rounds-are e (solution_in p.n c g v) eqs (exact_step p (length (equality_rows p))) solved in
      let b = lsei-rounds p.n (length (equality_rows p)) p.n (length (inequality_rows p)) (matrix_of (equality_rows p)) (sides_of (equality_rows p))
      (transposed p.n p.n p.factor) f (matrix_of (inequality_rows p)) (sides_of (inequality_rows p)) in
      omega (arith, a, b, X.inequalities, X.several)

  few-factorings : e.factorings ≤ 13334
  few-factorings =
      let a = factorings-are e (solution_in p.n c g v) eqs (exact_step p (length (equality_rows p))) solved in
      let b = lsei-most p.n (length (equality_rows p)) p.n (length (inequality_rows p)) (matrix_of (equality_rows p)) (sides_of (equality_rows p))
      (transposed p.n p.n p.factor) f (matrix_of (inequality_rows p)) (sides_of (inequality_rows p)) in
      let k : length (inequality_rows p) ≤ 64 = omega (arith, X.inequalities, X.several) in
      omega (arith, a, b, mul-le-mul k k, k)

  front-left : vec 0 p.n left ≡ f
  front-left = front-back w v h p.n (omega arith) ∙ X.front

  pub exact-refused : (w₀ : List Float) (u : Unsolved) (r : Refusal) → f ≡ vec 0 p.n w₀ → e.ending ≡ Err u → r ≡ refusal_of u
      → Tries (exact p f) p.n p.m (tried (Err r) e) w₀ left
  unfolding exact
  exact-refused w₀ u r q i k = record {
    answer = refused-is e (solution_in p.n c g v) eqs (exact_step p (length (equality_rows p))) solved u r [] [] i k;
    front = front-left ∙ q;
    rounds = few-rounds;
    factorings = few-factorings;
    late = ap is_late k ∙ refusal-late u;
  }

  pub exact-done : (w₀ w' : List Float) → f ≡ vec 0 p.n w₀ → {o : ⊤} → e.ending ≡ Ok o
      → Left p.n p.m (vec 732 p.n left) (in_order p.kinds 0 c (vec 378 c left ++ vec 4350 g left)) left w'
      → Tries (exact p f) p.n p.m (tried (Ok +0) e) w₀ w'
  unfolding exact exact_step
  exact-done w₀ w' q o R = record {
    answer =
        done-is e (solution_in p.n c g v) eqs (exact_step p (length (equality_rows p))) solved o +0 _ _
        (ap₂ {C = Step} (λ (d l : List Float). record { d = d; multipliers = l; relaxation = +0 }) (R.the_d ∙ sym (vec-back w v h 714 p.n))
        (R.the_multipliers
        ∙ ap (λ (i : ℕ). in_order p.kinds 0 i (vec 378 c left ++ vec 4350 g left)) X.equalities
        ∙ ap₂ (λ (a b : List Float). in_order p.kinds 0 (length (equality_rows p)) (a ++ b)) (sym (vec-back w v h 360 c)) (sym (vec-back w v h 4332 g))));
    front = R.front ∙ front-left ∙ q;
    rounds = few-rounds;
    factorings = few-factorings;
    late = tt;
  }

-- the kinds, as its answer is read
pub exact-counts : (p : Problem) (f : List Float) (c g : ℕ) (w : List Float) → length p.kinds ≡ p.m → ExactIn p f (record { equalities = c; inequalities = g }) w
    → (c ≡ equalities_among p.kinds) × (floors_among p.kinds ≤ g) × (g ≤ 64)
exact-counts p f c g w e X = (X.equalities ∙ all-equal p e, omega (arith, enough-exact p e, X.inequalities), X.several)
