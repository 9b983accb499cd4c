-- The packed form agrees with the square form.
use mathlib.Core.Path.{◌≡◌, refl, sym, ap, ◌∙◌, subst}
use mathlib.Core.Logic.{⊎_elim}
use mathlib.Core.Bool.{Bool, true, false, cond}
use mathlib.Core.List.{List, [], ◌∷◌}
use Prim.Native.Nat.{ℕ, ◌+◌, ◌<◌, ◌≤◌}
use native.Mathlib.Omega.{arith}
use lib.Dec.{eqb}
use lib.ListN.{length}
use lib.Ieee.{Float, le}
use borrow.Author.Tests.{le-leb, lt-leb}
use Rattle.numbers.specs.Numbers.{+0, one, at, Σ, entry, grid, row, dot, ◌⊕◌, ◌⊖◌, ◌⊗◌, ◌⊘◌}
use Rattle.numbers.proofs.Sums.{Σ-same}
use Rattle.numbers.proofs.Lists.{tab-same, grid-same, grid-of, at_row, length-grid, entry-grid}
use Rattle.numbers.proofs.Cases.{lt-or-ge}
use Rattle.workspace.specs.Tables.{Answer}
use Rattle.workspace.specs.Tables.{Outcome}
use Rattle.hessian.specs.Hessian.{theta, damped}
use Rattle.hessian.specs.Hessian as Square
use Rattle.hessian.specs.Claims.{Event, reset, update, refused}
use Rattle.hessian.specs.Claims as Squares
use Rattle.hessian.specs.inner.Work.{FactorMade}
use Rattle.hessian.proofs.Mirrored.{Kept, kept-identity, kept_next, kept-after}
use Rattle.hessian_packed.specs.Packed.{count, place, triangle, packed, unpacked}
use Rattle.hessian_packed.specs.Packed as P
use Rattle.hessian_packed.specs.Claims.{next, after, Same, Agrees, ThroughSquare}
use Rattle.hessian_packed.proofs.Triangles.{at-triangle, triangle-same, triangle-of, length-triangle}

pub length-packed : (n : ℕ) (b : List Float) → length (packed n b) ≡ count n
unfolding packed
length-packed n b = length-triangle n (λ i j. entry n b i j)

module _ (n : ℕ) (b : List Float) (k : Kept n b) where
  -- ---- what the triangle of b stands for

  at_packed : (i j : ℕ) → i < n → j ≤ i → at (packed n b) (count i + j) ≡ entry n b i j
  unfolding packed
  at_packed i j h l = at-triangle n (λ i j. entry n b i j) i j h l

  part-packed : (i j : ℕ) → i < n → j < n → at (packed n b) (place i j) ≡ entry n b i j
  part-packed i j h l =
      ⊎_elim (λ (p : i < j). rw (lt-leb j i p) (at_packed j i l (omega arith) ∙ k.mirror j i l h)) (λ (p : j ≤ i). rw (le-leb j i p) (at_packed i j h p)) (lt-or-ge i j)

  pub whole-packed : unpacked n (packed n b) ≡ b
  unfolding unpacked
  whole-packed =
      grid-same n n (λ i j. at (packed n b) (place i j)) (λ i j. entry n b i j) (λ i j h l. part-packed i j h l) ∙ grid-of n n b k.size

  -- ---- product and factor

  pub times-packed : (v : List Float) → P.times n (packed n b) v ≡ Square.times n b v
  unfolding P.times Square.times dot
  times-packed v =
      tab-same n (λ i. Σ n (λ j. at (packed n b) (place i j) ⊗ at v j)) (λ i. Σ n (λ j. at (row n i b) j ⊗ at v j))
      (λ i h. Σ-same n (λ j. at (packed n b) (place i j) ⊗ at v j) (λ j. at (row n i b) j ⊗ at v j)
      (λ j l. ap (λ (x : Float). x ⊗ at v j) (part-packed i j h l ∙ sym (at_row n i b j l))))

  pub factor-packed : P.cholesky n (packed n b) ≡ Square.cholesky n b
  unfolding P.cholesky
  factor-packed = ap (Square.cholesky n) whole-packed

  -- ---- the update

  revised-packed : (r bs : List Float) (sr sbs : Float) → P.revised n (packed n b) r bs sr sbs ≡ packed n (Square.revised n b r bs sr sbs)
  unfolding P.revised Square.revised packed
  revised-packed r bs sr sbs =
      let more : ℕ → ℕ → Float = λ i j. at r i ⊗ at r j ⊘ sr ⊖ at bs i ⊗ at bs j ⊘ sbs in
      let f : ℕ → ℕ → Float = λ i j. entry n b i j ⊕ more i j in
      triangle-same n (λ i j. at (packed n b) (count i + j) ⊕ more i j) (λ i j. entry n (grid n n f) i j)
      (λ i j h l. ap (λ (x : Float). x ⊕ more i j) (at_packed i j h l) ∙ sym (entry-grid n n f i j h (omega arith)))

  cond-packed : (t : Bool) (x : List Float) → cond t (packed n b) (packed n x) ≡ packed n (cond t b x)
  cond-packed true x = refl
  cond-packed false x = refl

  pub update-packed : (s y : List Float) → P.update n (packed n b) s y ≡ packed n (Square.update n b s y)
  unfolding P.update P.curved Square.update Square.curved
  update-packed s y =
      let bs = Square.times n b s in
      let sbs = dot n s bs in
      let r = damped n (theta sbs (dot n s y)) y bs in
      rw (times-packed s, revised-packed r bs (dot n s r) sbs) (cond-packed (le sbs +0) (Square.revised n b r bs (dot n s r) sbs))

pub identity-packed : (n : ℕ) → P.identity n ≡ packed n (Square.identity n)
unfolding P.identity Square.identity packed
identity-packed n =
    let f : ℕ → ℕ → Float = λ i j. cond (eqb i j) one +0 in
    triangle-same n f (λ i j. entry n (grid n n f) i j) (λ i j h l. sym (entry-grid n n f i j h (omega arith)))

-- ---- events

next-packed : (n : ℕ) (e : Event) (b : List Float) → Kept n b → next n e (packed n b) ≡ packed n (Squares.next n e b)
unfolding next Squares.next
next-packed n reset b k = identity-packed n
next-packed n (update s y) b k = update-packed n b k s y
next-packed n (refused r) b k = refl

after-packed : (n : ℕ) (es : List Event) (b : List Float) → Kept n b → after n es (packed n b) ≡ packed n (Squares.after n es b)
unfolding after Squares.after
after-packed n [] b k = refl
after-packed n (e ∷ es) b k = ap (after n es) (next-packed n e b k) ∙ after-packed n es (Squares.next n e b) (kept_next n e b k)

-- a triangle and its square
pub same : (n : ℕ) (p b : List Float) → Kept n b → p ≡ packed n b → Same n p b
same n p b k e = record {
  lower = e;
  whole = ap (unpacked n) e ∙ whole-packed n b k;
  products = λ v. ap (λ (x : List Float). P.times n x v) e ∙ times-packed n b k v;
  factors = ap (P.cholesky n) e ∙ factor-packed n b k;
}

pub agrees : Agrees
agrees n es =
    same n (after n es (P.identity n)) (Squares.after n es (Square.identity n)) (kept-after n es (Square.identity n) (kept-identity n))
    (ap (after n es) (identity-packed n) ∙ after-packed n es (Square.identity n) (kept-identity n))

-- ---- any triangle

-- the square that it stands for is its own mirror
place-mirror : (i j : ℕ) → place i j ≡ place j i
place-mirror i j =
    ⊎_elim (λ (a : i < j). rw (lt-leb j i a, le-leb i j (omega arith)) refl)
    (λ (a : j ≤ i). ⊎_elim (λ (b : j < i). rw (le-leb j i a, lt-leb i j b) refl) (λ (b : i ≤ j). let e : i ≡ j = omega arith in rw e refl) (lt-or-ge j i))
    (lt-or-ge i j)

pub kept-unpacked : (n : ℕ) (p : List Float) → Kept n (unpacked n p)
unfolding unpacked
kept-unpacked n p =
    let f : ℕ → ℕ → Float = λ i j. at p (place i j) in
    record {
      size = length-grid n n f;
      mirror = λ i j h l. entry-grid n n f i j h l ∙ ap (λ (x : ℕ). at p x) (place-mirror i j) ∙ sym (entry-grid n n f j i l h);
    }

packed-unpacked : (n : ℕ) (p : List Float) → length p ≡ count n → packed n (unpacked n p) ≡ p
unfolding packed unpacked
packed-unpacked n p e =
    triangle-same n (λ i j. entry n (grid n n (λ i j. at p (place i j))) i j) (λ i j. at p (count i + j))
    (λ i j h l. entry-grid n n (λ i j. at p (place i j)) i j h (omega arith) ∙ rw (le-leb j i l) refl)
    ∙ triangle-of n p e

factor-unpacked : (n : ℕ) (p : List Float) → P.cholesky n p ≡ Square.cholesky n (unpacked n p)
unfolding P.cholesky
factor-unpacked n p = refl

pub through-square : ThroughSquare
through-square n p e =
    let b = unpacked n p in
    let k = kept-unpacked n p in
    let a = packed-unpacked n p e in
    record {
      again = a;
      product = λ v. ap (λ (x : List Float). P.times n x v) (sym a) ∙ times-packed n b k v;
      factor = factor-unpacked n p;
      updated = λ s y. ap (λ (x : List Float). P.update n x s y) (sym a) ∙ update-packed n b k s y;
    }

-- ---- what the operations leave, through the square

module _ (n : ℕ) (p : List Float) (h : length p ≡ count n) (square : List Float) (u : square ≡ unpacked n p) where
  pub factor-is : (o : Outcome) (out out' : List Float) → FactorMade (Square.cholesky n square) o out out' → FactorMade (P.cholesky n p) o out out'
  factor-is o out out' e =
      subst (λ (a : Answer (List Float)). FactorMade a o out out') (ap (Square.cholesky n) u ∙ sym (through-square n p h).factor) e

  pub update-is : (s y square' p' : List Float) → square' ≡ Square.update n square s y → p' ≡ packed n square' → p' ≡ P.update n p s y
  update-is s y square' p' e q = q ∙ ap (packed n) (e ∙ ap (λ (b : List Float). Square.update n b s y) u) ∙ sym ((through-square n p h).updated s y)
