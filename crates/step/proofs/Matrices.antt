-- Laws of the relaxed problem's matrix as its columns are written.
use mathlib.Core.Path.{◌≡◌, refl, sym, ap, ◌∙◌}
use mathlib.Core.Bool.{Bool, true, false, cond, ◌&&◌}
use mathlib.Core.Logic.{⊎_elim}
use mathlib.Core.List.{List}
use Prim.Native.Nat.{ℕ, ◌+◌, ◌*◌, ◌-◌, ◌≤◌, ◌<◌}
use native.Mathlib.Omega.{arith}
use lib.Dec.{leb, ltb, eqb}
use lib.Ieee.{Float}
use borrow.Author.Tests.{le-leb, lt-leb, lt-ltb, le-ltb, eq-eqb, ne_eqb}
use Rattle.numbers.specs.Numbers.{+0, at, entry}
use Rattle.numbers.proofs.Cases.{lt-or-ge}
use Rattle.numbers.proofs.Lists.{entry-grid}
use Rattle.workspace.specs.Readings.{Block, Loaded}
use Rattle.workspace.proofs.Readings.{entry-mat, mat-is}
use Rattle.workspace.proofs.Copies.{Laid}
use Rattle.step.specs.Step.{relaxed_matrix}
use Rattle.step.specs.inner.Assembly.{triangle}

-- j + 1 entries of the factor's row j, and +0 below
pub column-written : (p n j : ℕ) (l w w' w'' : List Float) → j < n → Block p (j + 1) (λ t. at l (j * n + t * 1)) w w' → Block (p + (j + 1)) (n - j) (λ _. +0) w' w''
    → Block p (n + 1) (λ i. cond (leb i j) (at l (j * n + i)) +0) w w''
column-written p n j l w w' w'' h a b = record {
  inside = λ i y.
      ⊎_elim
      (λ (q : i < j + 1).
      let k : i ≤ j = omega arith in
      rw (le-leb i j k)
      (b.before (p + i) (omega arith) ∙ a.inside i q ∙ ap (λ (x : ℕ). at l x) (let e : j * n + i * 1 ≡ j * n + i = omega arith in e)))
      (λ (q : j + 1 ≤ i).
      let k : j < i = omega arith in
      rw (lt-leb i j k)
      (ap (λ (x : ℕ). at w'' x) (let e : p + i ≡ p + (j + 1) + (i - (j + 1)) = omega arith in e) ∙ b.inside (i - (j + 1)) (omega arith)))
      (lt-or-ge i (j + 1));
  before = λ x y. b.before x (omega arith) ∙ a.before x y;
  after = λ x y. b.after x (omega arith) ∙ a.after x (omega arith);
}

-- all columns but the last
pub triangle-is : (n : ℕ) (l w w' : List Float) → Laid 444 (n + 1) n (λ j i. cond (leb i j) (at l (j * n + i)) +0) w w' → Loaded 444 (n + 1) n (triangle n l) w w'
unfolding triangle
triangle-is n l w w' r = record { matrix = mat-is 444 (n + 1) n w' _ (λ i j hi hj. r.entries j i hj hi); before = r.before; after = r.after }

-- a column before the last, and the last one
inner : (i j n : ℕ) (x r : Float) → j < n → cond (leb i j) x +0 ≡ cond (leb i j && ltb j n) x (cond (eqb i n && eqb j n) r +0)
inner i j n x r h = rw (lt-ltb j n h, ne_eqb j n (λ e. omega arith)) (go (leb i j) (eqb i n))
  where
    go : (b c : Bool) → cond b x +0 ≡ cond (b && true) x (cond (c && false) r +0)
    go true c = refl
    go false true = refl
    go false false = refl

last : (i n : ℕ) (x r : Float) → cond (eqb i n) r +0 ≡ cond (leb i n && ltb n n) x (cond (eqb i n && eqb n n) r +0)
last i n x r = rw (le-ltb n n (omega arith), eq-eqb n n refl) (go (leb i n) (eqb i n))
  where
    go : (b c : Bool) → cond c r +0 ≡ cond (b && false) x (cond (c && true) r +0)
    go true true = refl
    go true false = refl
    go false true = refl
    go false false = refl

pub matrix-written : (n : ℕ) (r : Float) (l w w' w'' : List Float) → n ≤ 16 → Loaded 444 (n + 1) n (triangle n l) w w'
    → Block (444 + n * 18) (n + 1) (λ j. cond (eqb j n) r +0) w' w'' → Loaded 444 (n + 1) (n + 1) (relaxed_matrix n r l) w w''
unfolding triangle relaxed_matrix
matrix-written n r l w w' w'' h a b = record {
  matrix =
      mat-is 444 (n + 1) (n + 1) w'' _
      (λ i j hi hj.
      ⊎_elim
      (λ (q : j < n).
      b.before (444 + j * 18 + i) (omega arith)
      ∙ sym (entry-mat 444 (n + 1) n w' i j hi q)
      ∙ ap (λ (m : List Float). entry n m i j) a.matrix
      ∙ entry-grid (n + 1) n _ i j hi q
      ∙ inner i j n (entry n l j i) r q)
      (λ (q : n ≤ j). let e : j ≡ n = omega arith in rw e (b.inside i hi ∙ last i n (entry n l n i) r))
      (lt-or-ge j n));
  before = λ x y. b.before x (omega arith) ∙ a.before x y;
  after = λ x y. b.after x (omega arith) ∙ a.after x (omega arith);
}
