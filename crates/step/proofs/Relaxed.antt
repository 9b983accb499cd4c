-- The relaxed problem: what is written for LSI, and what its answer becomes.
use mathlib.Core.Path.{◌≡◌, sym, ap, ap₂, ◌∙◌}
use mathlib.Core.List.{List, [], ◌∷◌, ◌++◌}
use Prim.Native.Nat.{ℕ, ◌+◌, ◌*◌, ◌-◌, ◌≤◌}
use native.Mathlib.Nat.{mul-le-mul}
use native.Mathlib.Omega.{arith}
use lib.ListN.{length, take, length-append}
use lib.Ieee.{Float}
use borrow.Rule.Slice.PartMut.{mid_of, put_mid}
use Rattle.numbers.specs.Numbers.{+0, at}
use Rattle.numbers.proofs.Lists.{by_entries}
use Rattle.workspace.specs.Tables.{is_late}
use Rattle.workspace.specs.declared.Refusal.{Refusal}
use Rattle.std.specs.Prelude.{Ok, Err, ⊤}
use Rattle.workspace.specs.Readings.{vec, mat, stack, Block, Loaded}
use Rattle.workspace.proofs.Readings.{length-vec, vec-same, vec-part, mat-same, mat-part, stack-part}
use Rattle.workspace.proofs.Writes.{block-vec}
use Rattle.workspace.proofs.Parts.{lent_is}
use Rattle.nnls.specs.Counted.{Counted}
use Rattle.lsei.specs.Lsei.{Solution, lsi}
use Rattle.lsei.proofs.Costs.{lsi-most}
use Rattle.lsei.proofs.Together.{sides-part}
use Rattle.step_rows.specs.Problem.{Problem, matrix_of, sides_of, relaxed_rows}
use Rattle.step.specs.Step.{Step, root_weight, relaxed_matrix, paired, clamped, relaxed_step, relaxed}
use Rattle.step_rows.specs.inner.Work.{Pushed, relaxed_among}
use Rattle.step_rows.proofs.Pushing.{pushed-count, pushed-matrix, pushed-sides}
use Rattle.step_rows.proofs.Among.{enough-relaxed}
use Rattle.lsei.specs.inner.Work.{refusal_of, ended_solution, sides, squares_in}
use Rattle.lsei.specs.declared.Ended.{Ended}
use Rattle.lsei.specs.declared.Unsolved.{Unsolved}
use Rattle.step.specs.inner.Work.{RelaxedIn, Left, Tries}
use Rattle.step.proofs.Counts.{lsi-rounds}
use Rattle.step.proofs.Answers.{tried, refusal-late, refused-is, done-is, rounds-are, factorings-are}
use Rattle.step.proofs.Parts.{vec-back, front-back}

-- ---- what is written: E, f and G with h, one behind the other

module _ (p : Problem) (g : ℕ) (r : Float) (w w₁ w₂ w₃ : List Float) (n16 : p.n ≤ 16) (g66 : g ≤ 66) (q : r ≡ root_weight)
    (E : Loaded 444 (p.n + 1) (p.n + 1) (relaxed_matrix p.n r p.factor) w w₁)
    (F : Block 750 (p.n + 1) (λ t. at (vec 0 p.n w₁ ++ (+0 ∷ [])) t) w₁ w₂)
    (G : Pushed 768 (p.n + 1) 0 g (relaxed_rows p) w₂ w₃) where
  target-kept : vec 0 p.n w₁ ≡ vec 0 p.n w
  target-kept = vec-same 0 p.n w w₁ (λ i h. E.before (0 + i) (omega arith))

  side-is : vec 750 (p.n + 1) w₂ ≡ vec 0 p.n w₁ ++ (+0 ∷ [])
  side-is =
      block-vec 750 (p.n + 1) _ w₁ w₂ F ∙ sym (by_entries (p.n + 1) (vec 0 p.n w₁ ++ (+0 ∷ [])) (length-append (vec 0 p.n w₁) (+0 ∷ []) ∙ ap (λ (k : ℕ). k + 1) (length-vec 0 p.n w₁)))

  h-pushed : sides 768 g (p.n + 1) w₃ ≡ sides_of (relaxed_rows p)
  unfolding sides
  h-pushed = pushed-sides 768 (p.n + 1) g _ w₂ w₃ G

  pub relaxed-in : RelaxedIn p (vec 0 p.n w) g w₃
  relaxed-in = record {
    several = g66;
    rows = pushed-count 768 (p.n + 1) g _ w₂ w₃ G;
    the_e =
        mat-same 444 (p.n + 1) (p.n + 1) w₁ w₃ (λ i j hi hj. G.before (444 + j * 18 + i) (omega arith) ∙ F.before (444 + j * 18 + i) (omega arith)) ∙ E.matrix ∙ ap (λ (x : Float). relaxed_matrix p.n x p.factor) q;
    the_f =
        vec-same 750 (p.n + 1) w₂ w₃ (λ i h. G.before (750 + i) (omega arith)) ∙ side-is ∙ ap (λ (f : List Float). f ++ (+0 ∷ [])) target-kept;
    the_g = pushed-matrix 768 (p.n + 1) g _ w₂ w₃ G;
    the_h = h-pushed;
    front = vec-same 0 p.n w₁ w₃ (λ i h. G.before (0 + i) (omega arith) ∙ F.before (0 + i) (omega arith)) ∙ target-kept;
  }

-- ---- LSI on it

lsi-same : (n me : ℕ) (mg mg' : ℕ) (e e' f f' g g' h h' : List Float) → mg ≡ mg' → e ≡ e' → f ≡ f' → g ≡ g' → h ≡ h' → lsi n me mg e f g h ≡ lsi n me mg' e' f' g' h'
lsi-same n me mg mg' e e' f f' g g' h h' e₁ e₂ e₃ e₄ e₅ = cc

-- w holds the problem, LSI answers e and leaves v of its part
module _ (p : Problem) (f : List Float) (g : ℕ) (w v : List Float) (e : Ended) (n16 : p.n ≤ 16) (h : 18 ≤ length w) (X : RelaxedIn p f g w)
    (L : ended_solution e (squares_in (p.n + 1) g v)
    ≡ lsi (p.n + 1) (p.n + 1) g (mat 426 (p.n + 1) (p.n + 1) (mid_of 18 (length w - 18) w)) (vec 732 (p.n + 1) (mid_of 18 (length w - 18) w))
    (stack 750 g (p.n + 1) (mid_of 18 (length w - 18) w)) (sides 750 g (p.n + 1) (mid_of 18 (length w - 18) w))) where
  abbrev answer : Counted Solution
  answer = lsi (p.n + 1) (p.n + 1) (length (relaxed_rows p)) (relaxed_matrix p.n root_weight p.factor) (f ++ (+0 ∷ [])) (matrix_of (relaxed_rows p)) (sides_of (relaxed_rows p))

  abbrev left : List Float
  left = put_mid 18 (length w - 18) w v

  solved : ended_solution e (squares_in (p.n + 1) g v) ≡ answer
  solved =
      L
      ∙ ap (λ (q : List Float). lsi (p.n + 1) (p.n + 1) g (mat 426 (p.n + 1) (p.n + 1) q) (vec 732 (p.n + 1) q) (stack 750 g (p.n + 1) q) (sides 750 g (p.n + 1) q))
      (lent_is 18 w v h)
      ∙ lsi-same (p.n + 1) (p.n + 1) g _ _ _ _ _ _ _ _ _ X.rows (mat-part 18 426 (p.n + 1) (p.n + 1) w ∙ X.the_e) (vec-part 18 732 (p.n + 1) w ∙ X.the_f)
      (stack-part 18 750 g (p.n + 1) w ∙ X.the_g) (sides-part 18 750 g (p.n + 1) w ∙ X.the_h)

  few-rounds : e.rounds ≤ 198
  few-rounds =
      let a = rounds-are e (squares_in (p.n + 1) g v) answer (relaxed_step p) solved in
      let b = lsi-rounds (p.n + 1) (p.n + 1) (length (relaxed_rows p)) (relaxed_matrix p.n root_weight p.factor) (f ++ (+0 ∷ [])) (matrix_of (relaxed_rows p)) (sides_of (relaxed_rows p)) in
      omega (arith, a, b, X.rows, X.several)

  few-factorings : e.factorings ≤ 13334
  few-factorings =
      let a = factorings-are e (squares_in (p.n + 1) g v) answer (relaxed_step p) solved in
      let b = lsi-most (p.n + 1) (p.n + 1) (length (relaxed_rows p)) (relaxed_matrix p.n root_weight p.factor) (f ++ (+0 ∷ [])) (matrix_of (relaxed_rows p)) (sides_of (relaxed_rows p)) in
      let k : length (relaxed_rows p) ≤ 66 = omega (arith, X.rows, X.several) in
      omega (arith, a, b, mul-le-mul k k, k)

  front-left : vec 0 p.n left ≡ f
  front-left = front-back w v h p.n (omega arith) ∙ X.front

  pub relaxed-refused : (w₀ : List Float) (u : Unsolved) (r : Refusal) → f ≡ vec 0 p.n w₀ → e.ending ≡ Err u → r ≡ refusal_of u
      → Tries (relaxed p f) p.n p.m (tried (Err r) e) w₀ left
  unfolding relaxed
  relaxed-refused w₀ u r q i k = record {
    answer = refused-is e (squares_in (p.n + 1) g v) answer (relaxed_step p) solved u r [] [] i k;
    front = front-left ∙ q;
    rounds = few-rounds;
    factorings = few-factorings;
    late = ap is_late k ∙ refusal-late u;
  }

  pub relaxed-done : (w₀ w' : List Float) (x : Float) → f ≡ vec 0 p.n w₀ → {o : ⊤} → e.ending ≡ Ok o → x ≡ clamped (at (vec 378 (p.n + 1) left) p.n)
      → Left p.n p.m (take p.n (vec 378 (p.n + 1) left)) (paired p.kinds 0 (vec 2106 g left)) left w'
      → Tries (relaxed p f) p.n p.m (tried (Ok x) e) w₀ w'
  unfolding relaxed relaxed_step
  relaxed-done w₀ w' x q o d R = record {
    answer =
        done-is e (squares_in (p.n + 1) g v) answer (relaxed_step p) solved o x _ _
        (ap (λ (t : Float). record { d = vec 18 p.n w'; multipliers = vec 36 p.m w'; relaxation = t }) d
        ∙ ap₂ {C = Step} (λ (a b : List Float). record { d = a; multipliers = b; relaxation = clamped (at (vec 378 (p.n + 1) left) p.n) }) R.the_d R.the_multipliers
        ∙ ap₂ {C = Step} (λ (a b : List Float). record { d = take p.n a; multipliers = paired p.kinds 0 b; relaxation = clamped (at a p.n) })
        (sym (vec-back w v h 360 (p.n + 1))) (sym (vec-back w v h 2088 g)));
    front = R.front ∙ front-left ∙ q;
    rounds = few-rounds;
    factorings = few-factorings;
    late = tt;
  }

-- the kinds, as its answer is read
pub relaxed-counts : (p : Problem) (f : List Float) (g : ℕ) (w : List Float) → length p.kinds ≡ p.m → RelaxedIn p f g w → relaxed_among p.kinds ≤ g
relaxed-counts p f g w e X = omega (arith, enough-relaxed p e, X.rows)
