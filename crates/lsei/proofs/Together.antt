-- The steps of LSI's kernel put together: the factors of E, the reduced inequalities, LDP in its part, and x.
use mathlib.Core.Path.{◌≡◌, sym, ap, ap₂, ◌∙◌}
use mathlib.Core.List.{List}
use Prim.Native.Nat.{ℕ, ◌+◌, ◌-◌, ◌*◌, ◌<◌, ◌≤◌}
use native.Mathlib.Omega.{arith}
use lib.ListN.{length, drop}
use lib.Seq.{get_or-drop}
use lib.Ieee.{Float, nan}
use borrow.Rule.Slice.PartMut.{mid_of, put_mid}
use borrow.Author.Tests.{lt-ltb, le-ltb}
use Rattle.numbers.specs.Numbers.{at, nth}
use Rattle.numbers.proofs.Lists.{tab-same}
use Rattle.workspace.specs.Readings.{vec, mat, stack}
use Rattle.workspace.proofs.Readings.{vec-same, vec-part, stack_same, stack-part, nth-front}
use Rattle.workspace.proofs.Parts.{lent_is, back-part, back-get}
use Rattle.householder.specs.Qr.{Factors, apply_qt}
use Rattle.householder.specs.inner.Work.{held}
use Rattle.householder.proofs.Held.{held_same}
use Rattle.nnls.specs.Counted.{Counted}
use Rattle.lsei.specs.Lsei.{Solution, ldp, reduced_rows, reduced_sides, restored, lsi}
use Rattle.lsei.specs.inner.Work.{ended_solution, sides, distance_in, squares_in, FactoredFront, Reduced, Restored}
use Rattle.lsei.specs.declared.Ended.{Ended}
use Rattle.lsei.specs.declared.Unsolved.{Unsolved}
use Rattle.lsei.specs.declared.Unsolved.TheVariants.{Deficient}
use Rattle.std.specs.Prelude.{Ok, Err, ⊤}
use Rattle.lsei.proofs.Answers.{further}
use Rattle.lsei.proofs.Costs.{ldp-most, few}
use Rattle.lsei.proofs.Kept.{rank_most, full-factors}
use Rattle.lsei.proofs.Squares.{lsi-deficient, lsi-refused, lsi-done}

-- ---- sides

pub sides-same : (o m n : ℕ) (w w' : List Float) → ((i : ℕ) → i < m → at w' (o + i * 18 + n) ≡ at w (o + i * 18 + n)) → sides o m n w' ≡ sides o m n w
unfolding sides
sides-same o m n w w' h = tab-same m _ _ h

pub sides-part : (b o m n : ℕ) (w : List Float) → sides o m n (drop b w) ≡ sides (b + o) m n w
unfolding sides
sides-part b o m n w =
    tab-same m _ _ (λ i h. get_or-drop b w (o + i * 18 + n) nan ∙ ap (λ (x : ℕ). at w x) (let e : b + (o + i * 18 + n) ≡ b + o + i * 18 + n = omega arith in e))

-- ---- LDP, lent all from 750 on, which came back as v

module _ (n mg : ℕ) (w v : List Float) (E : Ended) (h : 750 ≤ length w)
    (S : ended_solution E (distance_in mg n v) ≡ ldp mg n (stack 0 mg n (mid_of 750 (length w - 750) w)) (sides 0 mg n (mid_of 750 (length w - 750) w))) where
  abbrev w' : List Float
  w' = put_mid 750 (length w - 750) w v

  abbrev left : Solution
  left = record { x = vec 2154 n w'; multipliers = vec 2088 mg w' }

  distance_is : distance_in mg n v ≡ left
  distance_is =
      ap (distance_in mg n) (sym (back-part 750 w v h))
      ∙ ap₂ {C = Solution} (λ (x : List Float) (u : List Float). record { x = x; multipliers = u }) (vec-part 750 1404 n w') (vec-part 750 1338 mg w')

  ldp-told : ended_solution E left ≡ ldp mg n (stack 750 mg n w) (sides 750 mg n w)
  ldp-told =
      ap (ended_solution E) (sym distance_is)
      ∙ S
      ∙ ap (λ (q : List Float). ldp mg n (stack 0 mg n q) (sides 0 mg n q)) (lent_is 750 w v h)
      ∙ ap₂ (ldp mg n) (stack-part 750 0 mg n w) (sides-part 750 0 mg n w)

  pub ldp-few : mg ≤ 66 → E.factorings ≤ 13332
  ldp-few m66 =
      let e : E.factorings ≡ (ldp mg n (stack 750 mg n w) (sides 750 mg n w)).factorings = ap (λ (c : Counted Solution). c.factorings) ldp-told in
      few mg E.factorings 0 m66 (omega (arith, ldp-most mg n (stack 750 mg n w) (sides 750 mg n w)))

  ldp-front : (x : ℕ) → x < 750 → at w' x ≡ at w x
  ldp-front x l = back-get 750 w v h x nan l

-- ---- LSI

module _ (n me mg k : ℕ) (w w₁ : List Float) (l₁ : List ℕ) (n17 : n ≤ 17) (e17 : me ≤ 17) (F : FactoredFront me n 732 k w w₁ l₁) where
  abbrev goal : Counted Solution
  goal = lsi n me mg (mat 426 me n w) (vec 732 me w) (stack 750 mg n w) (sides 750 mg n w)

  pub deficient-is : k < n → (place : ℕ) → place ≡ nth l₁ k → (s : Solution) → ended_solution (record { ending = Err (Deficient place); rounds = 0; factorings = 1 }) s ≡ goal
  deficient-is h place e s =
      lsi-deficient n me mg (mat 426 me n w) (vec 732 me w) (stack 750 mg n w) (sides 750 mg n w) (held me n k w₁ l₁) F.factors (lt-ltb k n h) place (e ∙ sym (nth-front n k l₁ h)) s

  pub columns-most : n ≤ k → n ≤ me
  columns-most h = omega (arith, rank_most me n 732 k w w₁ l₁ F)

  module _ (full : n ≤ k) (w₂ v : List Float) (E : Ended) (len : 750 ≤ length w₂) (R : Reduced n me mg l₁ w₁ w₂)
      (S : ended_solution E (distance_in mg n v) ≡ ldp mg n (stack 0 mg n (mid_of 750 (length w₂ - 750) w₂)) (sides 0 mg n (mid_of 750 (length w₂ - 750) w₂))) where
    abbrev q : Factors
    q = held me n n w₁ l₁

    turned-is : vec 732 me w₂ ≡ apply_qt me q (vec 732 me w)
    turned-is = R.turned ∙ ap (apply_qt me q) (vec-same 732 me w w₁ (λ i h. F.after (732 + i) (omega arith)))

    rows_are : stack 750 mg n w₂ ≡ reduced_rows n mg q (stack 750 mg n w)
    rows_are = R.rows ∙ ap (reduced_rows n mg q) (stack_same 750 mg n w w₁ (λ i j hi hj. F.after (750 + i * 18 + j) (omega arith)))

    bounds-are : sides 750 mg n w₂ ≡ reduced_sides n mg (stack 750 mg n w₂) (vec 732 me w₂) (sides 750 mg n w)
    bounds-are =
        R.bounds ∙ ap (reduced_sides n mg (stack 750 mg n w₂) (vec 732 me w₂)) (sides-same 750 mg n w w₁ (λ i h. F.after (750 + i * 18 + n) (omega arith)))

    pub refused-is : (t : Solution) → {u : Unsolved} → E.ending ≡ Err u → ended_solution (further E) t ≡ goal
    refused-is t o =
        lsi-refused n me mg (mat 426 me n w) (vec 732 me w) (stack 750 mg n w) (sides 750 mg n w) q (full-factors me n 732 k w w₁ l₁ F full) (le-ltb n n (omega arith))
        (vec 732 me w₂) (stack 750 mg n w₂) (sides 750 mg n w₂) turned-is rows_are bounds-are E (left n mg w₂ v E len S) (ldp-told n mg w₂ v E len S) t o

    module _ (iv : List ℕ) (lenl : 18 ≤ length l₁) (w₄ : List Float) (X : Restored n (put_mid 18 (length l₁ - 18) l₁ iv) (put_mid 750 (length w₂ - 750) w₂ v) w₄) where
      abbrev l₃ : List ℕ
      l₃ = put_mid 18 (length l₁ - 18) l₁ iv

      abbrev w₃ : List Float
      w₃ = put_mid 750 (length w₂ - 750) w₂ v

      front : (x : ℕ) → x < 750 → at w₃ x ≡ at w₂ x
      front x h = ldp-front n mg w₂ v E len S x h

      x_is : vec 360 n w₄ ≡ restored n q (vec 732 me w₂) (vec 2154 n w₃)
      x_is =
          X.x me (columns-most full) (omega arith)
          ∙ ap₂ (λ (p : Factors) (f : List Float). restored n p f (vec 2154 n w₃))
          (held_same me n n w₂ w₃ l₁ l₃ (omega arith) (λ x h. front x (omega arith)) (λ x h g. front x (omega arith)) (λ t h. back-get 18 l₁ iv lenl t 0 (omega arith))
          ∙ R.factors)
          (vec-same 732 me w₂ w₃ (λ i h. front (732 + i) (omega arith)))

      pub done-is : {v : ⊤} → E.ending ≡ Ok v → ended_solution (further E) (squares_in n mg w₄) ≡ goal
      done-is d =
          lsi-done n me mg (mat 426 me n w) (vec 732 me w) (stack 750 mg n w) (sides 750 mg n w) q (full-factors me n 732 k w w₁ l₁ F full) (le-ltb n n (omega arith))
          (vec 732 me w₂) (stack 750 mg n w₂) (sides 750 mg n w₂) turned-is rows_are bounds-are E (left n mg w₂ v E len S) (ldp-told n mg w₂ v E len S)
          (vec 360 n w₄) (vec 2088 mg w₄) d x_is (vec-same 2088 mg w₃ w₄ (λ i h. X.after (2088 + i) (omega arith)))
