-- The whole solve, of its steps.
use mathlib.Core.Path.{◌≡◌, refl, ap, ◌∙◌}
use mathlib.Core.Bool.{Bool}
use mathlib.Core.List.{List}
use Prim.Native.Nat.{ℕ, ◌+◌, ◌≤◌, ◌<◌, min}
use native.Mathlib.Nat.{zero-add}
use native.Mathlib.Omega.{arith}
use lib.Dec.{eqb}
use lib.ListN.{drop, replicate}
use lib.Ieee.{Float}
use Rattle.numbers.specs.Numbers.{+0, at, nth, scatter, entry, grid}
use Rattle.numbers.proofs.Lists.{tab-replicate, scatter-same}
use Rattle.workspace.specs.Readings.{vec, mat, nums, Block}
use Rattle.workspace.proofs.Readings.{vec-same, length-mat, nth-nums}
use Rattle.workspace.proofs.Writes.{block-vec}
use Rattle.householder.specs.Qr.{Factors, factor, solve}
use Rattle.householder.proofs.Held.{held-rank, held_below}
use Rattle.nnls_passive.specs.Passive.{members, solve_of}
use Rattle.nnls_passive.specs.inner.Work.{Listed, Collected, PartFactored, SolvedPart, Spread, PassiveSolved}
use Rattle.nnls_passive.proofs.Members.{members-same, members-all, listed-most}
use Rattle.nnls_passive.proofs.Columns.{collected-mat}

-- what a rank and a permutation in the QR part are
module _ (m c k : ℕ) (w w' : List Float) (l l' : List ℕ) (f : PartFactored m c k w w' l l') where
  pub rank_most : k ≤ min m c
  rank_most = held-rank m c k (drop 1422 w') (drop 198 l') (mat 1848 m c w) (length-mat 1848 m c w) f.factors

  pub perm-below : (t : ℕ) → t < c → nth (drop 198 l') t < c
  perm-below = held_below m c k (drop 1422 w') (drop 198 l') (mat 1848 m c w) (length-mat 1848 m c w) f.factors

module _ (m n c k : ℕ) (full : Bool) (w w₁ w₂ w₃ w₄ w₅ : List Float) (l l₁ l₂ : List ℕ) (m18 : m ≤ 18) (n66 : n ≤ 66)
    (L : Listed n c l l₁) (C : Collected m c l₁ w w₁) (F : PartFactored m c k w₁ w₂ l₁ l₂) (S : SolvedPart m c k w₂ w₃ l₂)
    (B : Block 1272 n (λ _. +0) w₃ w₄) (D : Spread n c c l₂ w₄ w₅) (e : full ≡ eqb k c) where
  abbrev columns : List Float
  columns = grid m c (λ i t. entry n (mat 0 m n w) i (nth (members l n) t))

  js-is : members (nums 0 n l) n ≡ members l n
  js-is = members-same (nums 0 n l) l n (λ x a. nth-nums 0 n l x a ∙ ap (λ (y : ℕ). nth l y) (zero-add x))

  matrix : mat 1848 m c w₁ ≡ columns
  matrix = collected-mat m n c l₁ (members l n) w w₁ (λ t a. members-all l (λ q. q < n) n (λ j b c. b) t (omega (arith, L.count))) (λ t a. L.columns t a) C

  front : (x : ℕ) → x < 1422 → at w₃ x ≡ at w x
  front x a = S.front x a ∙ F.front x a ∙ C.front x (omega arith)

  rhs : vec 1188 m w₂ ≡ vec 1188 m w
  rhs = vec-same 1188 m w w₂ (λ i hi. F.front (1188 + i) (omega arith) ∙ C.front (1188 + i) (omega arith))

  full_is : full ≡ eqb (factor m c columns).rank c
  full_is = e ∙ ap (λ (q : ℕ). eqb q c) (ap (λ (g : Factors). g.rank) F.factors ∙ rw matrix)

  solution-is : vec 1782 c w₄ ≡ solve m c (factor m c columns) (vec 1188 m w)
  solution-is =
      vec-same 1782 c w₃ w₄ (λ i hi. B.after (1782 + i) (omega arith))
      ∙ S.values
      ∙ rw (F.factors, matrix, rhs)

  values-is : vec 1272 n w₅ ≡ scatter c (members l n) (solve m c (factor m c columns) (vec 1188 m w)) (replicate n +0)
  values-is =
      D.values
      ∙ rw (block-vec 1272 n (λ _. +0) w₃ w₄ B, tab-replicate n +0, solution-is)
      (scatter-same c (nums 132 c l₂) (members l n) _ _ (replicate n +0)
      (λ t a. nth-nums 132 c l₂ t a ∙ F.chosen (132 + t) (omega (arith, listed-most n c l l₁ L)) ∙ L.columns t a) (λ t a. refl))

  pub solves-is : PassiveSolved m n full w w₅ l l₂
  unfolding solve_of
  solves-is = record {
    rank = rw (js-is, ← L.count) full_is;
    values = rw (js-is, ← L.count) values-is;
    before = λ x a. D.before x a ∙ B.before x a ∙ front x (omega arith);
    after = λ x a b. D.after x a ∙ B.after x (omega arith) ∙ front x b;
    marks = λ x a. F.chosen x (omega arith) ∙ L.before x a;
  }
