-- The multipliers that a step answers come of rows whose own are not negative or -0.
use mathlib.Core.Path.{◌≡◌, refl, ap, subst}
use mathlib.Core.List.{List, [], ◌∷◌, ◌++◌}
use Prim.Native.Nat.{ℕ, zero, suc, ◌+◌, ◌<◌, ◌≤◌}
use native.Mathlib.Nat.{not-suc-le-zero, le_of_suc-le-suc}
use native.Mathlib.Omega.{arith}
use lib.ListN.{length, take}
use lib.Ieee.{Float}
use Rattle.numbers.specs.Numbers.{+0, ◌⊖◌, at, nth, transposed}
use Rattle.workspace.specs.Tables.{Answer, done, refused}
use Rattle.workspace.specs.declared.Refusal.{Refusal}
use Rattle.nnls.specs.Counted.{then}
use Rattle.nnls.specs.Claims.{NotNegative}
use Rattle.lsei.specs.Lsei.{Solution}
use Rattle.lsei_call.specs.Claims.{ClearFrom}
use Rattle.lsei_call.proofs.Clear.{lsi-clear, lsei-clear}
use Rattle.step_rows.specs.Problem.{Problem, constraint_of, matrix_of, sides_of, equality_rows, inequality_rows, relaxed_rows}
use Rattle.step.specs.Step.{Step, target, in_order, exact_step, exact_solution, exact, root_weight, relaxed_matrix, paired, relaxed_step, relaxed_solution, relaxed, or_relaxed, step}
use Rattle.step_call.specs.Claims.{RowsClear, rows_of, Pair, Single, OfExact, OfRelaxed, OfRows, of_exact, of_relaxed_holds}
use Rattle.step_rows.specs.inner.Work.{floors_among, relaxed_among}
use Rattle.step_rows.proofs.Among.{enough-exact, enough-relaxed}

-- none of the n entries of l from place o on is negative or -0
abbrev Clear : ℕ → ℕ → List Float → Type 0
Clear o n l = (t : ℕ) → t < n → NotNegative (at l (o + t))

-- the same from c places further on
later : (o c n : ℕ) (l : List Float) → Clear o (c + n) l → Clear (o + c) n l
later o c n l h t u = let e : o + (c + t) ≡ o + c + t = omega arith in subst (λ (k : ℕ). NotNegative (at l k)) e (h (c + t) (omega arith))

first : (o n : ℕ) (l : List Float) → Clear o n l → 0 < n → NotNegative (at l o)
first o n l h z = let e : o + 0 ≡ o = omega arith in subst (λ (k : ℕ). NotNegative (at l k)) e (h 0 z)

fewer : (o m n : ℕ) (l : List Float) → m ≤ n → Clear o n l → Clear o m l
fewer o m n l h c t u = c t (omega arith)

-- ---- the rows of both problems

pub rows-clear : RowsClear
rows-clear p f =
    let n = p.n in
    let eqs = equality_rows p in
    let ineqs = inequality_rows p in
    let rs = relaxed_rows p in (
      lsei-clear n (length eqs) n (length ineqs) (matrix_of eqs) (sides_of eqs) (transposed n n p.factor) f (matrix_of ineqs) (sides_of ineqs),
      lsi-clear (n + 1) (n + 1) (length rs) (relaxed_matrix n root_weight p.factor) (f ++ (+0 ∷ [])) (matrix_of rs) (sides_of rs),
    )

-- two rows side by side
two-rows : (v : Float) (i n : ℕ) (l : List Float) → v ≡ at l i ⊖ at l (i + 1) → Clear i (2 + n) l → Pair l i v
two-rows v i n l e h = (e, first i (2 + n) l h (omega arith), h 1 (omega arith))

one-row : (v : Float) (i n : ℕ) (l : List Float) → v ≡ at l i → Clear i (1 + n) l → Single l i v
one-row v i n l e h = (e, rw e (first i (1 + n) l h (omega arith)))

-- ---- the exact problem

-- where the rows of constraint j stand, where those before have c of each kind's
order-clear : (ks : List ℕ) (e i : ℕ) (l : List Float) → Clear i (floors_among ks) l → (j : ℕ) → j < length ks → (w : Float) (a c : ℕ) → a ≡ e + rows_of 1 0 0 (take j ks) → c ≡ i + rows_of 0 1 2 (take j ks)
    → OfExact (constraint_of (nth ks j) w) l a c (at (in_order ks e i l) j)
unfolding in_order floors_among rows_of
order-clear [] e i l h j u w a c p q = absurd (not-suc-le-zero u)
order-clear (zero ∷ ks) e i l h zero u w a c p q = let z : a ≡ e = omega (arith, p) in rw z refl
order-clear (zero ∷ ks) e i l h (suc j) u w a c p q =
    order-clear ks (e + 1) i l (fewer i (floors_among ks) (0 + floors_among ks) l (omega arith) h) j (le_of_suc-le-suc u) w a c (omega (arith, p)) (omega (arith, q))
order-clear (suc zero ∷ ks) e i l h zero u w a c p q = let z : c ≡ i = omega (arith, q) in rw z (one-row (at l i) i (floors_among ks) l refl h)
order-clear (suc zero ∷ ks) e i l h (suc j) u w a c p q = order-clear ks e (i + 1) l (later i 1 (floors_among ks) l h) j (le_of_suc-le-suc u) w a c (omega (arith, p)) (omega (arith, q))
order-clear (suc (suc k) ∷ ks) e i l h zero u w a c p q = let z : c ≡ i = omega (arith, q) in rw z (two-rows (at l i ⊖ at l (i + 1)) i (floors_among ks) l refl h)
order-clear (suc (suc k) ∷ ks) e i l h (suc j) u w a c p q = order-clear ks e (i + 2) l (later i 2 (floors_among ks) l h) j (le_of_suc-le-suc u) w a c (omega (arith, p)) (omega (arith, q))

-- of a step: each multiplier is of its constraint's own rows
abbrev pub ClearStep : Problem → Answer Step → Type 0
ClearStep p (done s) = (j : ℕ) → j < p.m → OfRows p j (at s.multipliers j)
ClearStep p (refused r) = Unit

exact-clear : (p : Problem) → length p.kinds ≡ p.m → ClearStep p (exact p (target p)).answer
unfolding exact exact_step
exact-clear p e =
    go (exact_solution p (target p)).answer refl (rows-clear p (target p)).0
  where
    go : (a : Answer Solution) → (exact_solution p (target p)).answer ≡ a → ClearFrom (length (equality_rows p)) (length (inequality_rows p)) a
        → ClearStep p (then a (λ s. done (exact_step p (length (equality_rows p)) s)))
    go (done s) f h = λ j u.
        of_exact s f
        (order-clear p.kinds 0 (length (equality_rows p)) s.multipliers
        (fewer (length (equality_rows p)) (floors_among p.kinds) (length (inequality_rows p)) s.multipliers (enough-exact p e) h) j (omega (arith, e)) (at p.widths j)
        (rows_of 1 0 0 (take j p.kinds)) (length (equality_rows p) + rows_of 0 1 2 (take j p.kinds)) (omega arith) refl)
    go (refused k) f h = tt

-- ---- the relaxed problem

paired-clear : (ks : List ℕ) (next : ℕ) (l : List Float) → Clear next (relaxed_among ks) l → (j : ℕ) → j < length ks → (w : Float) (c : ℕ) → c ≡ next + rows_of 2 1 2 (take j ks)
    → OfRelaxed (constraint_of (nth ks j) w) l c (at (paired ks next l) j)
unfolding paired relaxed_among rows_of
paired-clear [] o l h j u w c q = absurd (not-suc-le-zero u)
paired-clear (zero ∷ ks) o l h zero u w c q = let z : c ≡ o = omega (arith, q) in rw z (two-rows (at l o ⊖ at l (o + 1)) o (relaxed_among ks) l refl h)
paired-clear (zero ∷ ks) o l h (suc j) u w c q = paired-clear ks (o + 2) l (later o 2 (relaxed_among ks) l h) j (le_of_suc-le-suc u) w c (omega (arith, q))
paired-clear (suc zero ∷ ks) o l h zero u w c q = let z : c ≡ o = omega (arith, q) in rw z (one-row (at l o) o (relaxed_among ks) l refl h)
paired-clear (suc zero ∷ ks) o l h (suc j) u w c q = paired-clear ks (o + 1) l (later o 1 (relaxed_among ks) l h) j (le_of_suc-le-suc u) w c (omega (arith, q))
paired-clear (suc (suc k) ∷ ks) o l h zero u w c q = let z : c ≡ o = omega (arith, q) in rw z (two-rows (at l o ⊖ at l (o + 1)) o (relaxed_among ks) l refl h)
paired-clear (suc (suc k) ∷ ks) o l h (suc j) u w c q = paired-clear ks (o + 2) l (later o 2 (relaxed_among ks) l h) j (le_of_suc-le-suc u) w c (omega (arith, q))

relaxed-clear : (p : Problem) (r : Refusal) → (exact_solution p (target p)).answer ≡ refused r → length p.kinds ≡ p.m → ClearStep p (relaxed p (target p)).answer
unfolding relaxed relaxed_step
relaxed-clear p r x e =
    go (relaxed_solution p (target p)).answer refl (rows-clear p (target p)).1
  where
    go : (a : Answer Solution) → (relaxed_solution p (target p)).answer ≡ a → ClearFrom 0 (length (relaxed_rows p)) a → ClearStep p (then a (λ s. done (relaxed_step p s)))
    go (done s) f h = λ j u.
        of_relaxed_holds r s x f
        (paired-clear p.kinds 0 s.multipliers (fewer 0 (relaxed_among p.kinds) (length (relaxed_rows p)) s.multipliers (enough-relaxed p e) h) j (omega (arith, e)) (at p.widths j)
        (rows_of 2 1 2 (take j p.kinds)) (omega arith))
    go (refused k) f h = tt

-- ---- the step

-- the exact problem fails where its solution does
exact-fails : (p : Problem) (r : Refusal) → (exact p (target p)).answer ≡ refused r → (exact_solution p (target p)).answer ≡ refused r
unfolding exact
exact-fails p r e = go (exact_solution p (target p)).answer e
  where
    go : (a : Answer Solution) → then a (λ s. done (exact_step p (length (equality_rows p)) s)) ≡ refused r → a ≡ refused r
    go (done s) h = let z : ◌≡◌ {A = ℕ} 0 1 = cc in absurd (let y : ⊥ = omega (arith, z) in y)
    go (refused k) h = let z : k ≡ r = cc in ap refused z

pub step_clear : (p : Problem) → length p.kinds ≡ p.m → ClearStep p (step p).answer
unfolding step
step_clear p e = go (exact p (target p)).answer refl
  where
    go : (a : Answer Step) → (exact p (target p)).answer ≡ a → ClearStep p (or_relaxed a (exact p (target p)) (relaxed p (target p))).answer
    go (done s) h = exact-clear p e
    go (refused k) h = relaxed-clear p k (exact-fails p k h) e
