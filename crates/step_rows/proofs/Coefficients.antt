-- Laws of a row's coefficients as they are written: a unit, a row of the Jacobian, and that row negated.
use mathlib.Core.Path.{◌≡◌, refl, ap, ◌∙◌}
use mathlib.Core.Bool.{cond}
use mathlib.Core.List.{List, ◌∷◌, map}
use mathlib.Core.Logic.{⊎_elim}
use Prim.Native.Nat.{ℕ, zero, suc, ◌+◌, ◌*◌, ◌<◌}
use native.Mathlib.Omega.{arith}
use lib.Dec.{eqb}
use lib.ListN.{length, set}
use lib.Seq.{get_or-set_same, get_or-set_other}
use lib.Ieee.{Float, nan, neg}
use borrow.Author.Tests.{eq-eqb, ne_eqb}
use Rattle.numbers.specs.Numbers.{+0, at, tab, row}
use Rattle.numbers.proofs.Cases.{eq-or-ne}
use Rattle.numbers.proofs.Lists.{tab-same}
use Rattle.workspace.specs.Readings.{Block}
use Rattle.step_rows.specs.Problem.{unit}

-- v at place i of n blank entries
pub unit-written : (p n i : ℕ) (v : Float) (w w' : List Float) → i < n → p + i < length w' → Block p n (λ _. +0) w w'
    → Block p n (λ j. cond (eqb j i) v +0) w (set w' (p + i) v)
unit-written p n i v w w' h l b = record {
  inside = λ j y.
      ⊎_elim
      (λ (e : j ≡ i). rw (eq-eqb j i e, e) (get_or-set_same w' (p + i) v nan l))
      (λ (e : j ≡ i → ⊥). rw (ne_eqb j i e) (get_or-set_other w' (p + i) (p + j) v nan (λ a. e (omega arith)) ∙ b.inside j y))
      (eq-or-ne j i);
  before = λ x y. get_or-set_other w' (p + i) x v nan (λ a. omega arith) ∙ b.before x y;
  after = λ x y. get_or-set_other w' (p + i) x v nan (λ a. omega arith) ∙ b.after x y;
}

pub unit-is : (n i : ℕ) (v : Float) → tab n (λ j. cond (eqb j i) v +0) ≡ unit n i v
unfolding unit
unit-is n i v = refl

-- row j of a matrix of n columns, as it is copied
pub row_is : (n j : ℕ) (a : List Float) → tab n (λ t. at a (j * n + t * 1)) ≡ row n j a
unfolding row
row_is n j a = tab-same n _ _ (λ t h. ap (λ (x : ℕ). at a x) (let e : j * n + t * 1 ≡ j * n + t = omega arith in e))

pub map-tab : (n : ℕ) (f : ℕ → Float) → tab n (λ t. neg (f t)) ≡ map neg (tab n f)
unfolding tab
map-tab zero f = refl
map-tab (suc n) f = ap (λ (l : List Float). neg (f 0) ∷ l) (map-tab n (λ t. f (suc t)))

pub negated-is : (n j : ℕ) (a : List Float) → tab n (λ t. neg (at a (j * n + t))) ≡ map neg (row n j a)
unfolding row
negated-is n j a = map-tab n _
