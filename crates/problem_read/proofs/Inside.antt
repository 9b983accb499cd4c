-- An index lies inside, as specs/Input.antt says, exactly where its entry has a place in the tables.
use mathlib.Core.Path.{◌≡◌, refl, sym, ◌∙◌}
use mathlib.Core.Logic.{⊎_elim}
use mathlib.Core.Bool.{Bool, true, false, not, cond, ◌&&◌, ◌||◌}
use Prim.Native.Nat.{ℕ, ◌+◌, ◌*◌, ◌≤◌, ◌<◌}
use native.Mathlib.Omega.{arith}
use borrow.Author.Tests.{lt-ltb, le-ltb, le-leb, lt-leb, eq-eqb, ne_eqb}
use lib.Dec.{ltb, leb, eqb}
use Rattle.numbers.proofs.Cases.{lt-or-ge}
use Rattle.problem_read.specs.declared.Area.{Area}
use Rattle.problem_read.specs.Input.{is, is_inside}
use Rattle.problem_read.specs.inner.Spots.{area, either, area_of, if_spot, spot_in, spot_of}
use Rattle.problem_read.proofs.Bytes.{and-false}
use Rattle.std.specs.Prelude.{Some, None, Option}

abbrev pub is_at : Option ℕ → Bool
is_at None = false
is_at (Some p) = true

both : (a b : Bool) (p : ℕ) → is_at (if_spot a (if_spot b (Some p))) ≡ (a && b)
both true true p = refl
both true false p = refl
both false b p = refl

-- in an area: below its rows and its columns
within-at : (b : Area) (i j : ℕ) → is_at (spot_in b i j) ≡ (ltb i b.rows && ltb j b.cols)
unfolding spot_in
within-at b i j = both (ltb i b.rows) (ltb j b.cols) (b.base + (i * b.cols + j))

first-only : (i : ℕ) → ltb i 1 ≡ eqb i 0
first-only i =
    ⊎_elim (λ (h : i < 1). let z : i ≡ 0 = omega arith in lt-ltb i 1 h ∙ sym (eq-eqb i 0 z))
    (λ (h : 1 ≤ i). le-ltb i 1 h ∙ sym (ne_eqb i 0 (λ e. omega arith)))
    (lt-or-ge i 1)

-- a factor entry, on or below the diagonal
lower-at : (n i j : ℕ) → is_at (if_spot (not (ltb i j)) (spot_in (area 0 n n) i j)) ≡ (ltb i n && leb j i)
lower-at n i j =
    ⊎_elim
    (λ (h : i < j). simp (lt-ltb i j h, lt-leb j i h) (sym (and-false (ltb i n))))
    (λ (h : j ≤ i).
    simp (le-ltb i j h, le-leb j i h)
    (within-at (area 0 n n) i j
    ∙ ⊎_elim (λ (k : i < n). let g : j < n = omega arith in simp (lt-ltb i n k, lt-ltb j n g)) (λ (k : n ≤ i). simp (le-ltb i n k)) (lt-or-ge i n)))
    (lt-or-ge i j)

pub inside-at : (m n t i j : ℕ) → is_at (spot_of m n t i j) ≡ is_inside m n t i j
unfolding spot_of area_of is_inside
inside-at m n t i j = go (is "L" t) (is "G" t) (is "E" t) (is "I" t) (is "W" t) (is "A" t) (is "B" t) (is "T" t)
  where
    go : (l g e k w a b u : Bool)
        → is_at
        (if_spot (not (l && ltb i j))
        (spot_in
        (either l (area 0 n n)
        (either g (area 256 1 n)
        (either e (area 272 m 1)
        (either k (area 272 m 1) (either w (area 576 m 1) (either a (area 288 m n) (either b (area 544 1 n) (either u (area 560 1 n) (area 0 0 0)))))))))
        i
        j))
        ≡ cond l (ltb i n && leb j i)
        (cond g (eqb i 0 && ltb j n)
        (cond (e || k || w) (ltb i m && eqb j 0) (cond a (ltb i m && ltb j n) (cond (b || u) (eqb i 0 && ltb j n) false))))
    go true g e k w a b u = lower-at n i j
    go false true e k w a b u = within-at (area 256 1 n) i j ∙ rw (first-only i)
    go false false true k w a b u = within-at (area 272 m 1) i j ∙ rw (first-only j)
    go false false false true w a b u = within-at (area 272 m 1) i j ∙ rw (first-only j)
    go false false false false true a b u = within-at (area 576 m 1) i j ∙ rw (first-only j)
    go false false false false false true b u = within-at (area 288 m n) i j
    go false false false false false false true u = within-at (area 544 1 n) i j ∙ rw (first-only i)
    go false false false false false false false true = within-at (area 560 1 n) i j ∙ rw (first-only i)
    go false false false false false false false false = within-at (area 0 0 0) i j ∙ rw (le-ltb i 0 (omega arith))
