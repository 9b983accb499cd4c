-- What the tests show, the problem in the workspace, and the two answers of the arithmetic.
use mathlib.Core.Path.{◌≡◌, refl, sym, ap, ap₂, ◌∙◌}
use mathlib.Core.Bool.{true, ◌&&◌}
use mathlib.Core.List.{List, ◌++◌}
use Prim.Native.Nat.{ℕ, ◌+◌, ◌*◌, ◌≤◌}
use native.Mathlib.Omega.{arith}
use lib.Dec.{leb, eqb}
use lib.ListN.{length, drop}
use lib.Ieee.{Float}
use borrow.Author.Tests.{leb-true, eqb-true}
use Rattle.numbers.specs.Numbers.{+0, at}
use Rattle.numbers.proofs.Lists.{by_entries}
use Rattle.workspace.specs.Tables.{done, iteration_cap, is_matrix}
use Rattle.workspace.specs.declared.Refusal.{Refusal}
use Rattle.workspace.specs.declared.Refusal.TheVariants.{Capped}
use Rattle.workspace.specs.Readings.{vec, mat, Block, Loaded, Cleared}
use Rattle.workspace.proofs.Readings.{mat-same}
use Rattle.workspace.proofs.Writes.{block-vec}
use Rattle.workspace.proofs.Parts.{vec-front, front-cleared}
use Rattle.workspace.proofs.Tests.{and-true, matrix-le}
use Rattle.nnls.specs.Counted.{Counted}
use Rattle.nnls.specs.Nnls.{Accepted, nnls}
use Rattle.nnls.specs.inner.State.{State, read, ended_answer, Rounded}
use Rattle.nnls_call.specs.Promise.{tell, Nnls}
use Rattle.nnls.specs.declared.memory.Counts.{Counts}
use Rattle.std.specs.Prelude.{Result, Ok, Err}

-- ---- the tests

pub problem-le : (m n k : ℕ) → (is_matrix m n && leb k (3 * n)) ≡ true → (m ≤ 18) × (n ≤ 66) × (k ≤ 198)
problem-le m n k h =
    let p = and-true (is_matrix m n) (leb k (3 * n)) h in
    let q = matrix-le m n p.0 in
    (q.0, q.1, omega (arith, leb-true k (3 * n) p.1))

pub lengths-are : (m n a b x : ℕ) → (eqb a (m * n) && eqb b m && eqb x n) ≡ true → (a ≡ m * n) × (b ≡ m) × (x ≡ n)
lengths-are m n a b x h =
    let p = and-true (eqb a (m * n) && eqb b m) (eqb x n) h in
    let q = and-true (eqb a (m * n)) (eqb b m) p.0 in
    (eqb-true a (m * n) q.0, eqb-true b m q.1, eqb-true x n p.1)

-- ---- the problem in the workspace, and what the kernel makes of it

pub ran : (m n k : ℕ) (a b w w₁ w₂ : List Float) (e : Result Counts Counts) (s s' : State) → m ≤ 18 → n ≤ 66 → length b ≡ m → Loaded 0 m n a w w₁ → Block 1188 m (λ t. at b t) w₁ w₂
    → Rounded (nnls m n (mat 0 m n w₂) (vec 1188 m w₂) k) e s s' → ended_answer e s' ≡ nnls m n a b k
ran m n k a b w w₁ w₂ e s s' m18 n66 lb h c r =
    let ea : mat 0 m n w₂ ≡ a = mat-same 0 m n w₁ w₂ (λ i j hi hj. c.before (0 + j * 18 + i) (omega arith)) ∙ h.matrix in
    let eb : vec 1188 m w₂ ≡ b = block-vec 1188 m (λ t. at b t) w₁ w₂ c ∙ sym (by_entries m b lb) in
    r.answer ∙ ap₂ (λ (p q : List Float). nnls m n p q k) ea eb

-- a done call's counts
abbrev told : ℕ → ℕ → Result Counts Refusal
told r f = Ok (record { past = r; factorings = f })

-- ---- the two answers: v and u are what the kernel left in the first 8,192 and 512 entries

module _ (m n : ℕ) (g : Counted Accepted) (x w v w' : List Float) (l u l' : List ℕ) (e : Result Counts Counts) (n66 : n ≤ 66) (lv : length v ≡ 8192) (lu : length u ≡ 512)
    (h : ended_answer e (read m n v u) ≡ g) (c : Cleared (v ++ drop 8192 w) w' (u ++ drop 512 l) l') where
  pub capped : (t : Counts) → e ≡ Err t → Nnls (tell g) (Err Capped) x x w w' l l'
  capped t q =
      let z : g.answer ≡ iteration_cap = sym (ap (λ (y : Counted Accepted). y.answer) h) ∙ ap (λ (t : Result Counts Counts). (ended_answer t (read m n v u)).answer) q in
      rw z
      (record {
        the_outcome = refl;
        the_x = refl;
        the_floats = c.floats ∙ front-cleared +0 8192 v w lv;
        the_words = c.words ∙ front-cleared 0 512 u l lu;
      })

  pub accepted : (t : Counts) (x' : List Float) → x' ≡ vec 1206 n (v ++ drop 8192 w) → e ≡ Ok t → Nnls (tell g) (Ok t) x x' w w' l l'
  accepted t x' ex q =
      let z : g.answer ≡ done (record { x = (read m n v u).x; passive = (read m n v u).passive; rejected = (read m n v u).rejected }) =
      sym (ap (λ (y : Counted Accepted). y.answer) h) ∙ ap (λ (t : Result Counts Counts). (ended_answer t (read m n v u)).answer) q in
      let er : t.past ≡ g.rounds = ap (λ (t : Result Counts Counts). (ended_answer t (read m n v u)).rounds) (sym q) ∙ ap (λ (y : Counted Accepted). y.rounds) h in
      let ef : t.factorings ≡ g.factorings = ap (λ (t : Result Counts Counts). (ended_answer t (read m n v u)).factorings) (sym q) ∙ ap (λ (y : Counted Accepted). y.factorings) h in
      rw z
      (record {
        the_outcome = ap₂ told er ef;
        the_x = ex ∙ vec-front v (drop 8192 w) 1206 n (omega arith);
        the_floats = c.floats ∙ front-cleared +0 8192 v w lv;
        the_words = c.words ∙ front-cleared 0 512 u l lu;
      })
