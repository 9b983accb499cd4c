-- The steps of LSEI's kernel put together: the factors of C', the reduced problem, LSI in its part, x and the multipliers.
use mathlib.Core.Path.{◌≡◌, refl, sym, ap, ap₂, ◌∙◌}
use mathlib.Core.List.{List, [], ◌∷◌, ◌++◌}
use Prim.Native.Nat.{ℕ, ◌+◌, ◌-◌, ◌*◌, ◌<◌, ◌≤◌}
use native.Mathlib.Omega.{arith}
use lib.ListN.{length, drop}
use lib.Ieee.{Float, nan}
use borrow.Rule.Slice.PartMut.{mid_of, put_mid}
use borrow.Author.Tests.{lt-ltb, le-ltb}
use Rattle.numbers.specs.Numbers.{at, nth, transposed}
use Rattle.workspace.specs.Readings.{vec, mat, stack}
use Rattle.workspace.proofs.Readings.{vec-same, vec-part, mat-same, mat-part, mat-stack, stack_same, stack-part, nth-front}
use Rattle.workspace.proofs.Parts.{lent_is, back-part, back-get}
use Rattle.householder.specs.Qr.{Factors, factor, apply_q}
use Rattle.householder.specs.inner.Work.{held}
use Rattle.householder.proofs.Held.{held_same}
use Rattle.nnls.specs.Counted.{Counted}
use Rattle.lsei.specs.Lsei.{Solution, lsi, fixed, turned, tail_of, shifted, gradient, equality_multipliers, lsei}
use Rattle.lsei.specs.inner.Work.{ended_solution, sides, squares_in, FactoredFront}
use Rattle.lsei.specs.declared.Ended.{Ended}
use Rattle.lsei.specs.declared.Unsolved.{Unsolved}
use Rattle.lsei.specs.declared.Unsolved.TheVariants.{Dependent}
use Rattle.std.specs.Prelude.{Ok, Err, ⊤}
use Rattle.lsei.proofs.Answers.{further}
use Rattle.lsei.proofs.Costs.{lsi-most, few}
use Rattle.lsei.proofs.Kept.{rank_most, full-factors}
use Rattle.lsei.proofs.Together.{sides-same, sides-part}
use Rattle.lsei_nullspace.specs.inner.Work.{Fixed, TailOfE, TailOfG, LseiReduced, Rejoined, Priced, Completed, solution_in}
use Rattle.lsei_nullspace.proofs.Whole.{lsei-dependent, lsei-refused, lsei-done}

-- ---- the reduced problem

pub reduced-is : (n mc me mg : ℕ) (iw : List ℕ) (w w₁ w₂ w₃ : List Float) → n ≤ 17 → mc ≤ 16 → mc ≤ n → me ≤ 17 → mg ≤ 66 → Fixed mc iw w w₁ → TailOfE n mc me w₁ w₂
    → TailOfG n mc mg w₂ w₃ → LseiReduced n mc me mg iw w w₃
reduced-is n mc me mg iw w w₁ w₂ w₃ n17 c16 cn e17 g66 F E G =
    let held₁ : held n mc mc w₁ iw ≡ held n mc mc w iw =
    held_same n mc mc w w₁ iw iw (omega arith) (λ x h. F.low x (omega arith)) (λ x h g. F.middle x h (omega arith)) (λ t h. refl) in
    let held₂ : held n mc mc w₂ iw ≡ held n mc mc w₁ iw =
    held_same n mc mc w₁ w₂ iw iw (omega arith) E.low (λ x h g. E.middle x (omega arith) (omega arith)) (λ t h. refl) in
    let held₃ : held n mc mc w₃ iw ≡ held n mc mc w₂ iw =
    held_same n mc mc w₂ w₃ iw iw (omega arith) G.low (λ x h g. G.middle x (omega arith) (omega arith)) (λ t h. refl) in
    let y₂ : vec 714 mc w₂ ≡ vec 714 mc w₁ = vec-same 714 mc w₁ w₂ (λ i h. E.middle (714 + i) (omega arith) (omega arith)) in
    let y₃ : vec 714 mc w₃ ≡ vec 714 mc w₂ = vec-same 714 mc w₂ w₃ (λ i h. G.middle (714 + i) (omega arith) (omega arith)) in
    let e₁ : stack 732 me n w₁ ≡ stack 732 me n w = stack_same 732 me n w w₁ (λ i j hi hj. F.after (732 + i * 18 + j) (omega arith)) in
    let f₁ : vec 1038 me w₁ ≡ vec 1038 me w = vec-same 1038 me w w₁ (λ i h. F.after (1038 + i) (omega arith)) in
    let g₂ : stack 1056 mg n w₂ ≡ stack 1056 mg n w =
    stack_same 1056 mg n w w₂ (λ i j hi hj. E.middle (1056 + i * 18 + j) (omega arith) (omega arith) ∙ F.after (1056 + i * 18 + j) (omega arith)) in
    let h₂ : sides 1056 mg n w₂ ≡ sides 1056 mg n w =
    sides-same 1056 mg n w w₂ (λ i h. E.middle (1056 + i * 18 + n) (omega arith) (omega arith) ∙ F.after (1056 + i * 18 + n) (omega arith)) in
    record {
      y = y₃ ∙ y₂ ∙ F.y n cn (omega arith);
      tail_of_e =
          mat-same 2670 me (n - mc) w₂ w₃ (λ i j hi hj. G.middle (2670 + j * 18 + i) (omega arith) (omega arith))
          ∙ E.matrix iw
          ∙ ap₂ (λ (q : Factors) (a : List Float). tail_of n mc me (turned n me q a)) held₁ e₁;
      shift_of_f =
          vec-same 2976 me w₂ w₃ (λ i h. G.middle (2976 + i) (omega arith) (omega arith))
          ∙ E.shift iw
          ∙ ap₂ (λ (a : List Float) (y : List Float). shifted n mc me a y (vec 1038 me w₁)) (ap₂ (turned n me) held₁ e₁) (sym y₂ ∙ sym y₃)
          ∙ ap (shifted n mc me (turned n me (held n mc mc w iw) (stack 732 me n w)) (vec 714 mc w₃)) f₁;
      tail_of_g = G.rows iw ∙ ap₂ (λ (q : Factors) (a : List Float). tail_of n mc mg (turned n mg q a)) (held₂ ∙ held₁) g₂;
      shift_of_h =
          G.shift iw
          ∙ ap₂ (λ (a : List Float) (y : List Float). shifted n mc mg a y (sides 1056 mg n w₂)) (ap₂ (turned n mg) (held₂ ∙ held₁) g₂) (sym y₃)
          ∙ ap (shifted n mc mg (turned n mg (held n mc mc w iw) (stack 1056 mg n w)) (vec 714 mc w₃)) h₂;
      factors = held₃ ∙ held₂ ∙ held₁;
      problem = λ x h g. G.middle x (omega arith) (omega arith) ∙ E.middle x (omega arith) (omega arith) ∙ F.after x h;
    }

-- ---- x and the multipliers

pub completed-is : (n mc me mg : ℕ) (iw : List ℕ) (w w₁ w₂ : List Float) → n ≤ 17 → mc ≤ 16 → Rejoined n mc w w₁ → Priced n mc me mg iw w₁ w₂ → Completed n mc me mg iw w w₂
completed-is n mc me mg iw w w₁ w₂ n17 c16 R P =
    let held₁ : held n mc mc w₁ iw ≡ held n mc mc w iw =
    held_same n mc mc w w₁ iw iw (omega arith) (λ x h. R.low x (omega arith)) (λ x h g. R.low x (omega arith)) (λ t h. refl) in
    let x₂ : vec 714 n w₂ ≡ vec 714 n w₁ = vec-same 714 n w₁ w₂ (λ i h. P.after (714 + i) (omega arith)) in
    let e₁ : stack 732 me n w₁ ≡ stack 732 me n w = stack_same 732 me n w w₁ (λ i j hi hj. R.after (732 + i * 18 + j) (omega arith)) in
    let f₁ : vec 1038 me w₁ ≡ vec 1038 me w = vec-same 1038 me w w₁ (λ i h. R.after (1038 + i) (omega arith)) in
    let g₁ : stack 1056 mg n w₁ ≡ stack 1056 mg n w = stack_same 1056 mg n w w₁ (λ i j hi hj. R.after (1056 + i * 18 + j) (omega arith)) in
    let u₁ : vec 4332 mg w₁ ≡ vec 4332 mg w = vec-same 4332 mg w w₁ (λ i h. R.after (4332 + i) (omega arith)) in
    record {
      x = x₂ ∙ R.x iw;
      multipliers = P.multipliers ∙ rw (held₁, e₁, f₁, g₁, u₁, x₂);
      after = λ x h. P.after x (omega arith) ∙ R.after x h;
    }

-- ---- LSI, lent all from 2244 on, which came back as v

module _ (m me mg : ℕ) (w v : List Float) (E : Ended) (h : 2244 ≤ length w)
    (S : ended_solution E (squares_in m mg v)
    ≡ lsi m me mg (mat 426 me m (mid_of 2244 (length w - 2244) w)) (vec 732 me (mid_of 2244 (length w - 2244) w)) (stack 750 mg m (mid_of 2244 (length w - 2244) w)) (sides 750 mg m (mid_of 2244 (length w - 2244) w))) where
  abbrev w' : List Float
  w' = put_mid 2244 (length w - 2244) w v

  abbrev left : Solution
  left = record { x = vec 2604 m w'; multipliers = vec 4332 mg w' }

  squares-is : squares_in m mg v ≡ left
  squares-is =
      ap (squares_in m mg) (sym (back-part 2244 w v h))
      ∙ ap₂ {C = Solution} (λ (x : List Float) (u : List Float). record { x = x; multipliers = u }) (vec-part 2244 360 m w') (vec-part 2244 2088 mg w')

  lsi-told : ended_solution E left ≡ lsi m me mg (mat 2670 me m w) (vec 2976 me w) (stack 2994 mg m w) (sides 2994 mg m w)
  lsi-told =
      ap (ended_solution E) (sym squares-is)
      ∙ S
      ∙ ap (λ (q : List Float). lsi m me mg (mat 426 me m q) (vec 732 me q) (stack 750 mg m q) (sides 750 mg m q)) (lent_is 2244 w v h)
      ∙ rw (mat-part 2244 426 me m w, vec-part 2244 732 me w, stack-part 2244 750 mg m w, sides-part 2244 750 mg m w)

  pub lsi-few : mg ≤ 66 → E.factorings ≤ 13333
  lsi-few g66 =
      let e = ap (λ (c : Counted Solution). c.factorings) lsi-told in
      few mg E.factorings 1 g66 (omega (arith, e, lsi-most m me mg (mat 2670 me m w) (vec 2976 me w) (stack 2994 mg m w) (sides 2994 mg m w)))

  lsi-front : (x : ℕ) → x < 2244 → at w' x ≡ at w x
  lsi-front x l = back-get 2244 w v h x nan l

-- ---- LSEI

module _ (n mc me mg k : ℕ) (w w₁ : List Float) (l₁ : List ℕ) (n17 : n ≤ 17) (c16 : mc ≤ 16) (e17 : me ≤ 17) (g66 : mg ≤ 66) (F : FactoredFront n mc 714 k w w₁ l₁) where
  abbrev goal : Counted Solution
  goal = lsei n mc me mg (stack 426 mc n w) (vec 714 mc w) (stack 732 me n w) (vec 1038 me w) (stack 1056 mg n w) (sides 1056 mg n w)

  transposed-is : factor n mc (mat 426 n mc w) ≡ factor n mc (transposed mc n (stack 426 mc n w))
  transposed-is = ap (factor n mc) (mat-stack 426 n mc w)

  pub dependent-is : k < mc → (place : ℕ) → place ≡ nth l₁ k → (s : Solution) → ended_solution (record { ending = Err (Dependent place); rounds = 0; factorings = 1 }) s ≡ goal
  dependent-is h place e s =
      lsei-dependent n mc me mg (stack 426 mc n w) (vec 714 mc w) (stack 732 me n w) (vec 1038 me w) (stack 1056 mg n w) (sides 1056 mg n w) (held n mc k w₁ l₁)
      (F.factors ∙ transposed-is) (lt-ltb k mc h) place (e ∙ sym (nth-front mc k l₁ h)) s

  pub equalities-most : mc ≤ k → mc ≤ n
  equalities-most h = omega (arith, rank_most n mc 714 k w w₁ l₁ F)

  -- what lies behind the factors is the problem still
  d₁ : vec 714 mc w₁ ≡ vec 714 mc w
  d₁ = vec-same 714 mc w w₁ (λ i h. F.after (714 + i) (omega arith))

  e₁ : stack 732 me n w₁ ≡ stack 732 me n w
  e₁ = stack_same 732 me n w w₁ (λ i j hi hj. F.after (732 + i * 18 + j) (omega arith))

  f₁ : vec 1038 me w₁ ≡ vec 1038 me w
  f₁ = vec-same 1038 me w w₁ (λ i h. F.after (1038 + i) (omega arith))

  g₁ : stack 1056 mg n w₁ ≡ stack 1056 mg n w
  g₁ = stack_same 1056 mg n w w₁ (λ i j hi hj. F.after (1056 + i * 18 + j) (omega arith))

  h₁ : sides 1056 mg n w₁ ≡ sides 1056 mg n w
  h₁ = sides-same 1056 mg n w w₁ (λ i h. F.after (1056 + i * 18 + n) (omega arith))

  module _ (full : mc ≤ k) (w₂ v : List Float) (E : Ended) (len : 2244 ≤ length w₂) (R : LseiReduced n mc me mg l₁ w₁ w₂)
      (S : ended_solution E (squares_in (n - mc) mg v)
      ≡ lsi (n - mc) me mg (mat 426 me (n - mc) (mid_of 2244 (length w₂ - 2244) w₂)) (vec 732 me (mid_of 2244 (length w₂ - 2244) w₂)) (stack 750 mg (n - mc) (mid_of 2244 (length w₂ - 2244) w₂)) (sides 750 mg (n - mc) (mid_of 2244 (length w₂ - 2244) w₂))) where
    abbrev q : Factors
    q = held n mc mc w₁ l₁

    abbrev y : List Float
    y = vec 714 mc w₂

    y-is : y ≡ fixed mc q (vec 714 mc w)
    y-is = R.y ∙ ap (fixed mc q) d₁

    e-is : mat 2670 me (n - mc) w₂ ≡ tail_of n mc me (turned n me q (stack 732 me n w))
    e-is = R.tail_of_e ∙ ap (λ (a : List Float). tail_of n mc me (turned n me q a)) e₁

    f-is : vec 2976 me w₂ ≡ shifted n mc me (turned n me q (stack 732 me n w)) y (vec 1038 me w)
    f-is = R.shift_of_f ∙ ap₂ (λ (a : List Float) (b : List Float). shifted n mc me (turned n me q a) y b) e₁ f₁

    g-is : stack 2994 mg (n - mc) w₂ ≡ tail_of n mc mg (turned n mg q (stack 1056 mg n w))
    g-is = R.tail_of_g ∙ ap (λ (a : List Float). tail_of n mc mg (turned n mg q a)) g₁

    h-is : sides 2994 mg (n - mc) w₂ ≡ shifted n mc mg (turned n mg q (stack 1056 mg n w)) y (sides 1056 mg n w)
    h-is = R.shift_of_h ∙ ap₂ (λ (a : List Float) (b : List Float). shifted n mc mg (turned n mg q a) y b) g₁ h₁

    pub refused-is : (t : Solution) → {u : Unsolved} → E.ending ≡ Err u → ended_solution (further E) t ≡ goal
    refused-is t o =
        lsei-refused n mc me mg (stack 426 mc n w) (vec 714 mc w) (stack 732 me n w) (vec 1038 me w) (stack 1056 mg n w) (sides 1056 mg n w) q
        (full-factors n mc 714 k w w₁ l₁ F full ∙ transposed-is) (le-ltb mc mc (omega arith)) y (mat 2670 me (n - mc) w₂) (vec 2976 me w₂) (stack 2994 mg (n - mc) w₂)
        (sides 2994 mg (n - mc) w₂) y-is e-is f-is g-is h-is E (left (n - mc) me mg w₂ v E len S) (lsi-told (n - mc) me mg w₂ v E len S) t o

    module _ (iv : List ℕ) (lenl : 18 ≤ length l₁) (w₄ : List Float)
        (X : Completed n mc me mg (put_mid 18 (length l₁ - 18) l₁ iv) (put_mid 2244 (length w₂ - 2244) w₂ v) w₄) where
      abbrev l₃ : List ℕ
      l₃ = put_mid 18 (length l₁ - 18) l₁ iv

      abbrev w₃ : List Float
      w₃ = put_mid 2244 (length w₂ - 2244) w₂ v

      front : (x : ℕ) → x < 2244 → at w₃ x ≡ at w₂ x
      front x h = lsi-front (n - mc) me mg w₂ v E len S x h

      kept : (x : ℕ) → 732 ≤ x → x < 2244 → at w₃ x ≡ at w x
      kept x h g = front x g ∙ R.problem x h g ∙ F.after x (omega arith)

      held₃ : held n mc mc w₃ l₃ ≡ q
      held₃ =
          held_same n mc mc w₂ w₃ l₁ l₃ (omega arith) (λ x h. front x (omega arith)) (λ x h g. front x (omega arith)) (λ t h. back-get 18 l₁ iv lenl t 0 (omega arith))
          ∙ R.factors

      x_is : vec 714 n w₄ ≡ apply_q n q (y ++ vec 2604 (n - mc) w₃)
      x_is =
          X.x
          ∙ ap₂ (λ (p : Factors) (a : List Float). apply_q n p (a ++ vec 2604 (n - mc) w₃)) held₃ (vec-same 714 mc w₂ w₃ (λ i h. front (714 + i) (omega arith)))

      u-is : vec 4332 mg w₄ ≡ vec 4332 mg w₃
      u-is = vec-same 4332 mg w₃ w₄ (λ i h. X.after (4332 + i) (omega arith))

      mu-is : vec 360 mc w₄
          ≡ equality_multipliers n mc q (gradient n me mg (stack 732 me n w) (vec 1038 me w) (stack 1056 mg n w) (vec 714 n w₄) (vec 4332 mg w₄))
      mu-is =
          let e₃ : stack 732 me n w₃ ≡ stack 732 me n w = stack_same 732 me n w w₃ (λ i j hi hj. kept (732 + i * 18 + j) (omega arith) (omega arith)) in
          let f₃ : vec 1038 me w₃ ≡ vec 1038 me w = vec-same 1038 me w w₃ (λ i h. kept (1038 + i) (omega arith) (omega arith)) in
          let g₃ : stack 1056 mg n w₃ ≡ stack 1056 mg n w = stack_same 1056 mg n w w₃ (λ i j hi hj. kept (1056 + i * 18 + j) (omega arith) (omega arith)) in
          X.multipliers ∙ rw (held₃, e₃, f₃, g₃, u-is)

      pub done-is : {v : ⊤} → E.ending ≡ Ok v → ended_solution (further E) (solution_in n mc mg w₄) ≡ goal
      done-is d =
          lsei-done n mc me mg (stack 426 mc n w) (vec 714 mc w) (stack 732 me n w) (vec 1038 me w) (stack 1056 mg n w) (sides 1056 mg n w) q
          (full-factors n mc 714 k w w₁ l₁ F full ∙ transposed-is) (le-ltb mc mc (omega arith)) y (mat 2670 me (n - mc) w₂) (vec 2976 me w₂) (stack 2994 mg (n - mc) w₂)
          (sides 2994 mg (n - mc) w₂) y-is e-is f-is g-is h-is E (left (n - mc) me mg w₂ v E len S) (lsi-told (n - mc) me mg w₂ v E len S)
          (vec 714 n w₄) (vec 360 mc w₄) (vec 4332 mg w₄) d x_is u-is mu-is
