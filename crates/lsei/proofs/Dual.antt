-- Laws of LDP: the dual's matrix and right side as they stand in the workspace, its residual, and what is made of it.
use mathlib.Core.Path.{◌≡◌, refl, sym, ap, ap₂, ◌∙◌}
use mathlib.Core.Bool.{Bool, true, false, cond}
use mathlib.Core.List.{List}
use mathlib.Core.Logic.{⊎_elim}
use Prim.Native.Nat.{ℕ, ◌+◌, ◌*◌, ◌<◌, ◌≤◌}
use native.Mathlib.Omega.{arith}
use lib.Count.{count_trailing_zeros}
use lib.Dec.{ltb, T, lt→ltb, ltb→lt}
use lib.ListN.{length, set}
use lib.Ieee.{Float, nan, binary64, of_bits, of_fields, odd, units, size, span, climb, round, le, neg}
use Rattle.numbers.specs.Numbers.{+0, one, at, tab, entry, Σ, ◌⊖◌, ◌⊗◌, ◌⊘◌}
use Rattle.numbers.proofs.Cases.{lt-or-ge}
use Rattle.numbers.proofs.Lists.{get_d-tab}
use Rattle.numbers.proofs.Sums.{Σ-same}
use Rattle.workspace.specs.Tables.{Answer}
use Rattle.workspace.specs.Readings.{vec, mat, stack, Block}
use Rattle.workspace.proofs.Readings.{at-vec, vec-is, entry-mat, mat-is, mat-same, entry_stack}
use Rattle.workspace.proofs.Writes.{written-more, written_as, block-vec}
use Rattle.nnls.specs.Counted.{Counted, and_then}
use Rattle.nnls.specs.Nnls.{Accepted, nnls}
use Rattle.nnls.specs.inner.State.{State, read, ended_answer, Rounded}
use Rattle.lsei.specs.Lsei.{Solution, infeasibility, unless_small, dual_matrix, dual_side, dual_residual, primal, ldp}
use Rattle.lsei.specs.inner.Work.{ending_answer, ended_solution, sides, distance_in}
use Rattle.nnls.specs.declared.memory.Counts.{Counts}
use Rattle.lsei.specs.declared.Unsolved.{Unsolved}
use Rattle.lsei.specs.declared.Unsolved.TheVariants.{Infeasible, Capped}
use Rattle.std.specs.Prelude.{Result, Ok, Err, ⊤}

-- ---- the code's literals

pub lit-infeasibility : of_bits binary64 4417820128217923584 ≡ infeasibility
unfolding of_bits of_fields odd round units size span climb count_trailing_zeros
lit-infeasibility = refl

-- ---- j below n, or not

cond-true : {A : Type 0} (b : Bool) (x y : A) → T b → cond b x y ≡ x
cond-true true x y t = refl
cond-true false x y t = absurd t

cond-false : {A : Type 0} (b : Bool) (x y : A) → (T b → ⊥) → cond b x y ≡ y
cond-false true x y t = absurd (t tt)
cond-false false x y t = refl

below : {A : Type 0} (j n : ℕ) (x y : A) → j < n → cond (ltb j n) x y ≡ x
below j n x y h = cond-true (ltb j n) x y (lt→ltb j n h)

beyond : {A : Type 0} (j n : ℕ) (x y : A) → n ≤ j → cond (ltb j n) x y ≡ y
beyond j n x y h = cond-false (ltb j n) x y (λ t. let l : j < n = ltb→lt j n t in omega arith)

-- ---- the dual's right side

pub side-more : (n : ℕ) (w w' : List Float) (v : Float) → 1188 + n < length w' → v ≡ one → Block 1188 n (λ _. +0) w w'
    → Block 1188 (n + 1) (λ j. cond (ltb j n) +0 one) w (set w' (1188 + n) v)
side-more n w w' v l e b =
    written-more nan 1188 n _ w w' v l (e ∙ sym (beyond n n +0 one (omega arith)))
    (written_as nan 1188 n (λ _. +0) (λ j. cond (ltb j n) +0 one) w w' (λ t h. sym (below t n +0 one h)) b)

pub side-is : (n : ℕ) (w w' : List Float) → Block 1188 (n + 1) (λ j. cond (ltb j n) +0 one) w w' → vec 1188 (n + 1) w' ≡ dual_side n
unfolding dual_side
side-is n w w' b = block-vec 1188 (n + 1) _ w w' b

-- ---- the inequalities, read as the dual's matrix

pub matrix-is : (m n : ℕ) (w : List Float) → mat 0 (n + 1) m w ≡ dual_matrix m n (stack 0 m n w) (sides 0 m n w)
unfolding dual_matrix sides
matrix-is m n w =
    mat-is 0 (n + 1) m w (λ j i. cond (ltb j n) (entry n (stack 0 m n w) i j) (at (tab m (λ t. at w (0 + t * 18 + n))) i))
    (λ j i hj hi.
    ⊎_elim
    (λ (h : j < n). sym (entry_stack 0 m n w i j hi h) ∙ sym (below j n _ _ h))
    (λ (h : n ≤ j). ap (λ (x : ℕ). at w x) (let q : 0 + i * 18 + j ≡ 0 + i * 18 + n = omega arith in q) ∙ sym (get_d-tab m (λ t. at w (0 + t * 18 + n)) nan i hi) ∙ sym (beyond j n _ _ h))
    (lt-or-ge j n))

-- ---- the residual and what is made of it

module _ (m n : ℕ) (w w₁ : List Float) (m66 : m ≤ 66) (n17 : n ≤ 17) (f : vec 1188 (n + 1) w ≡ dual_side n)
    (R : Block 1272 (n + 1) (λ j. Σ m (λ i. at w (j + i * 18) ⊗ at w (1206 + i * 1)) ⊖ at w (1188 + j)) w w₁) where
  abbrev res : List Float
  res = dual_residual m n (mat 0 (n + 1) m w) (vec 1206 m w)

  residual-is : vec 1272 (n + 1) w₁ ≡ res
  unfolding dual_residual
  residual-is =
      vec-is 1272 (n + 1) w₁ _
      (λ j hj.
      R.inside j hj
      ∙ ap₂ ◌⊖◌
      (Σ-same m _ _
      (λ i hi.
      ap₂ ◌⊗◌ (ap (λ (x : ℕ). at w x) (let q : j + i * 18 ≡ 0 + i * 18 + j = omega arith in q) ∙ sym (entry-mat 0 (n + 1) m w j i hj hi))
      (ap (λ (x : ℕ). at w x) (let q : 1206 + i * 1 ≡ 1206 + i = omega arith in q) ∙ sym (at-vec 1206 m w i hi))))
      (sym (at-vec 1188 (n + 1) w j hj) ∙ ap (λ (l : List Float). at l j) f))

  entry-is : (j : ℕ) → j < n + 1 → at w₁ (1272 + j) ≡ at res j
  entry-is j h = sym (at-vec 1272 (n + 1) w₁ j h) ∙ ap (λ (l : List Float). at l j) residual-is

  denominator-is : neg (at w₁ (1272 + n)) ≡ neg (at res n)
  denominator-is = ap neg (entry-is n (omega arith))

  abbrev ratios : Solution
  ratios = record { x = tab n (λ j. at res j ⊘ neg (at res n)); multipliers = tab m (λ i. at (vec 1206 m w) i ⊘ neg (at res n)) }

  tested : (c : Float) (b : Bool) → c ≡ infeasibility → le (neg (at w₁ (1272 + n))) c ≡ b → unless_small b ratios ≡ primal m n (vec 1206 m w) res
  unfolding primal
  tested c b ec h = ap (λ (t : Bool). unless_small t ratios) (sym h ∙ ap₂ le denominator-is ec)

  pub not-finished : (c : Float) → c ≡ infeasibility → le (neg (at w₁ (1272 + n))) c ≡ true → ending_answer (Err Infeasible) (distance_in m n w₁) ≡ primal m n (vec 1206 m w) res
  not-finished c ec h = tested c true ec h

  pub finished : (c : Float) (w₂ w₃ : List Float) → c ≡ infeasibility → le (neg (at w₁ (1272 + n))) c ≡ false
      → Block 1404 n (λ t. at w₁ (1272 + t) ⊘ neg (at w₁ (1272 + n))) w₁ w₂
      → Block 1338 m (λ t. at w₂ (1206 + t) ⊘ neg (at w₁ (1272 + n))) w₂ w₃
      → ending_answer (Ok tt) (distance_in m n w₃) ≡ primal m n (vec 1206 m w) res
  finished c w₂ w₃ ec h X U =
      ap₂ {C = Answer Solution} (λ (x : List Float) (u : List Float). ending_answer (Ok tt) (record { x = x; multipliers = u }))
      (vec-is 1404 n w₃ _ (λ t l. U.after (1404 + t) (omega arith) ∙ X.inside t l ∙ ap₂ ◌⊘◌ (entry-is t (omega arith)) denominator-is))
      (vec-is 1338 m w₃ _
      (λ t l.
      U.inside t l
      ∙ ap₂ ◌⊘◌ (X.before (1206 + t) (omega arith) ∙ R.before (1206 + t) (omega arith) ∙ sym (at-vec 1206 m w t l)) denominator-is))
      ∙ tested c false ec h

-- ---- the whole, from the answer of NNLS

module _ (m n : ℕ) (w w₁ w₂ : List Float) (l l₂ : List ℕ) (e : Result Counts Counts) (m66 : m ≤ 66) (n17 : n ≤ 17) (B : Block 1188 (n + 1) (λ j. cond (ltb j n) +0 one) w w₁)
    (N : Rounded (nnls (n + 1) m (mat 0 (n + 1) m w₁) (vec 1188 (n + 1) w₁) (3 * m)) e (read (n + 1) m w₁ l) (read (n + 1) m w₂ l₂)) where
  abbrev matrix : List Float
  matrix = dual_matrix m n (stack 0 m n w) (sides 0 m n w)

  abbrev onward : List Float → Accepted → Answer Solution
  onward a u = primal m n u.x (dual_residual m n a u.x)

  matrix₁ : mat 0 (n + 1) m w₁ ≡ matrix
  matrix₁ = mat-same 0 (n + 1) m w w₁ (λ i j hi hj. B.before (0 + j * 18 + i) (omega arith)) ∙ matrix-is m n w

  matrix₂ : mat 0 (n + 1) m w₂ ≡ matrix
  matrix₂ = ap (λ (s : State). s.a) N.after ∙ matrix₁

  pub side₂ : vec 1188 (n + 1) w₂ ≡ dual_side n
  side₂ = ap (λ (s : State). s.b) N.after ∙ side-is n w w₁ B

  whole : and_then (ended_answer e (read (n + 1) m w₂ l₂)) (onward (mat 0 (n + 1) m w₂)) ≡ ldp m n (stack 0 m n w) (sides 0 m n w)
  unfolding ldp
  whole =
      ap (λ (c : Counted Accepted). and_then c (onward (mat 0 (n + 1) m w₂)))
      (N.answer ∙ ap₂ (λ (a : List Float) (b : List Float). nnls (n + 1) m a b (3 * m)) matrix₁ (side-is n w w₁ B))
      ∙ ap (λ (a : List Float). and_then (nnls (n + 1) m matrix (dual_side n) (3 * m)) (onward a)) matrix₂

  -- from how NNLS ended
  from-ended : Result Counts Counts → Counted Solution
  from-ended t = and_then (ended_answer t (read (n + 1) m w₂ l₂)) (onward (mat 0 (n + 1) m w₂))

  pub ldp-capped : (t : Counts) → e ≡ Err t → (s : Solution) → ended_solution (record { ending = Err Capped; rounds = t.past; factorings = t.factorings }) s ≡ ldp m n (stack 0 m n w) (sides 0 m n w)
  unfolding from-ended
  ldp-capped t h s = ap from-ended (sym h) ∙ whole

  pub ldp-ended : (t : Counts) → e ≡ Ok t → (o : Result ⊤ Unsolved) (s : Solution)
      → ending_answer o s ≡ primal m n (vec 1206 m w₂) (dual_residual m n (mat 0 (n + 1) m w₂) (vec 1206 m w₂))
      → ended_solution (record { ending = o; rounds = t.past; factorings = t.factorings }) s ≡ ldp m n (stack 0 m n w) (sides 0 m n w)
  unfolding from-ended
  ldp-ended t h o s q = ap (λ (a : Answer Solution). record { answer = a; rounds = t.past; factorings = t.factorings }) q ∙ ap from-ended (sym h) ∙ whole
