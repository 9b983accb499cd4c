-- What is opened is read again: a caller goes on from the slices.
use Prim.Native.Nat.{ℕ, suc, ◌+◌, ◌*◌, ◌≤◌}
use mathlib.Core.Path.{◌≡◌, ap, ◌∙◌, subst}
use mathlib.Core.List.{List, [], ◌∷◌}
use mathlib.Core.Bool.{Bool}
use native.Mathlib.Omega.{arith}
use lib.Dec.{eqb}
use lib.ListN.{length}
use lib.Ieee.{Float, nan}
use Rattle.numbers.specs.Numbers.{one, at, nth}
use Rattle.workspace.specs.Readings.{vec}
use Rattle.search.specs.Setup.{Setup}
use Rattle.search.specs.Turn.{Iterate, Line, Opened, go, opened}
use Rattle.search.specs.Layout.{setup_in, iterate_in, line_in, laid, iterate_floats, FitsIterate}
use Rattle.search.specs.inner.Work.{Ready, fresh_words, opened_floats, opened_words}
use Rattle.search.proofs.Laying.{size, laid_in, laid-below, vec-below, vec-above, vec_laid}
use Rattle.search.proofs.Layouts.{bounds, is_one, iterate-size, iterate-SL, iterate-B, iterate-PE, iterate-MU, iterate-PX, iterate-PV, iterate-lower, iterate-upper, iterate-ftol}
use Rattle.search.proofs.Sizes.{FitsOpened, fit-factored}
use Rattle.search_open.specs.declared.Opening.{Opening}
use Rattle.search_open.specs.declared.Opening.TheVariants.{Go, Converged, Infeasible}
use Rattle.search_open.specs.inner.Work.{opened_by, Opens}
use Rattle.search_open.proofs.Factors.{fresh-word, ready_words, setup-words}
use Rattle.search_open.proofs.Openings.{fits_in}

module _ (n m : ℕ) (f : List Float) (u : List ℕ) (h : Ready n m f u) where
  abbrev P : Setup
  P = setup_in f u

  abbrev words : Bool → List ℕ
  words t = fresh_words t u

  -- ---- an iterate alone, and with its line

  module _ (s : Iterate) (line : Line) (z : FitsIterate n m s) (ld : length line.d ≡ n) where
    abbrev A : List Float
    A = iterate_floats s f

    abbrev G : List Float
    G = laid 1 (one ∷ line.merit ∷ line.slope ∷ []) (laid 64 line.d A)

    B₁ : suc m * n ≤ 272
    B₁ = (bounds n m h.few h.constraints).0

    B₂ : n * n ≤ 256
    B₂ = (bounds n m h.few h.constraints).1

    l_a : length A ≡ 1024
    l_a = iterate-size n m h.few h.constraints B₁ B₂ s f h.floats

    l_g : length G ≡ 1024
    l_g = size 1 _ _ 1024 (size 64 line.d A 1024 l_a)

    -- an iterate that is read from g, where g has its parts
    read : (g : List Float) → vec 48 n g ≡ s.point.x → vec 128 (suc m) g ≡ s.point.values → vec 176 (suc m * n) g ≡ s.slopes → vec 720 (n * n) g ≡ s.b → vec 80 m g ≡ s.penalty → vec 96 m g ≡ s.multipliers
        → iterate_in n m g (words s.fresh) ≡ s
    read g x v sl b p l =
        let t : eqb (nth (words s.fresh) 3) 1 ≡ s.fresh = ap (λ (k : ℕ). eqb k 1) (fresh-word n m f u h s.fresh) ∙ is_one n m h.few h.constraints B₁ B₂ s.fresh in
        λ i. record { point = record { x = x i; values = v i }; slopes = sl i; b = b i; fresh = t i; penalty = p i; multipliers = l i }

    low : (o k : ℕ) → 4 ≤ o → o + k ≤ 64 → vec o k G ≡ vec o k A
    low o k e l = vec-above o k 1 _ _ e ∙ vec-below o k 64 line.d A l

    far : (o k : ℕ) → 80 ≤ o → vec o k G ≡ vec o k A
    far o k e = let few = h.few in vec-above o k 1 _ _ (omega arith) ∙ vec-above o k 64 line.d A (omega arith)

    x-A : vec 48 n A ≡ s.point.x
    x-A = iterate-PX n m h.few h.constraints B₁ B₂ s f z h.floats

    v-A : vec 128 (suc m) A ≡ s.point.values
    v-A = iterate-PV n m h.few h.constraints B₁ B₂ s f z h.floats

    s-A : vec 176 (suc m * n) A ≡ s.slopes
    s-A = iterate-SL n m h.few h.constraints B₁ B₂ s f z h.floats

    b-A : vec 720 (n * n) A ≡ s.b
    b-A = iterate-B n m h.few h.constraints B₁ B₂ s f z h.floats

    p-A : vec 80 m A ≡ s.penalty
    p-A = iterate-PE n m h.few h.constraints B₁ B₂ s f z h.floats

    l-A : vec 96 m A ≡ s.multipliers
    l-A = iterate-MU n m h.few h.constraints B₁ B₂ s f z h.floats

    lower-A : vec 16 n A ≡ vec 16 n f
    lower-A = iterate-lower n m h.few h.constraints B₁ B₂ s f z h.floats

    upper-A : vec 32 n A ≡ vec 32 n f
    upper-A = iterate-upper n m h.few h.constraints B₁ B₂ s f z h.floats

    ftol-A : at A 0 ≡ at f 0
    ftol-A = iterate-ftol n m h.few h.constraints B₁ B₂ s f z h.floats

    iterate-A : iterate_in n m A (words s.fresh) ≡ s
    iterate-A = read A x-A v-A s-A b-A p-A l-A

    iterate-G : iterate_in n m G (words s.fresh) ≡ s
    iterate-G =
        let few = h.few in
        read G (low 48 n (omega arith) (omega arith) ∙ x-A) (far 128 (suc m) (omega arith) ∙ v-A) (far 176 (suc m * n) (omega arith) ∙ s-A) (far 720 (n * n) (omega arith) ∙ b-A) (far 80 m (omega arith) ∙ p-A)
        (far 96 m (omega arith) ∙ l-A)

    setup-A : setup_in A (words s.fresh) ≡ P
    setup-A = setup-words n m f u h s.fresh A lower-A upper-A ftol-A

    setup-G : setup_in G (words s.fresh) ≡ P
    setup-G =
        let few = h.few in
        setup-words n m f u h s.fresh G (low 16 n (omega arith) (omega arith) ∙ lower-A) (low 32 n (omega arith) (omega arith) ∙ upper-A)
        (laid-below 1 _ _ 0 nan (omega arith) ∙ laid-below 64 line.d A 0 nan (omega arith) ∙ ftol-A)

    inside : (i : ℕ) → i ≤ 2 → at G (1 + i) ≡ at (one ∷ line.merit ∷ line.slope ∷ []) i
    inside i l = let a = size 64 line.d A 1024 l_a in laid_in 1 _ _ i nan (omega arith) (omega arith)

    line-G : line_in n G ≡ line
    line-G =
        let few = h.few in
        let d : vec 64 n G ≡ line.d = vec-above 64 n 1 _ _ (omega arith) ∙ vec_laid 64 n line.d A 1024 ld l_a (omega arith) in
        λ i. record { d = d i; merit = inside 1 (omega arith) i; slope = inside 2 (omega arith) i }

  -- ---- what was opened

  -- the slices after an opening: ready, with the same problem, and holding the iterate; and where the run goes on the line, with alpha at one
  pub record Reads (r : Opening) (s : Iterate) (l : Line) (g : List Float) (v : List ℕ) : Type 0 where
    pub ready : Ready n m g v
    pub problem : setup_in g v ≡ P
    pub iterate : iterate_in n m g v ≡ s
    pub line : r ≡ Go → line_in n g ≡ l
    pub alpha : r ≡ Go → at g 1 ≡ one

  reads_go : (s : Iterate) (l : Line) → FitsIterate n m s → length l.d ≡ n → (g : List Float) (v : List ℕ) → g ≡ opened_floats (go s l) f → v ≡ words s.fresh → Reads Go s l g v
  reads_go s l z ld g v eg ev = rw (eg, ev) (record {
    ready = ready_words n m f u h s.fresh _ (l_g s l z ld);
    problem = setup-G s l z ld;
    iterate = iterate-G s l z ld;
    line = λ e. line-G s l z ld;
    alpha = λ e. inside s l z ld 0 (omega arith);
  })

  reads-stop : (r : Opening) (s : Iterate) (l : Line) → FitsIterate n m s → (r ≡ Go → ⊥) → (g : List Float) (v : List ℕ) → g ≡ iterate_floats s f → v ≡ words s.fresh → Reads r s l g v
  reads-stop r s l z never g v eg ev =
      let k : Line = record { d = s.point.x; merit = nan; slope = nan } in
      let ld = z.point.x in
      rw (eg, ev) (record {
        ready = ready_words n m f u h s.fresh _ (l_a s k z ld);
        problem = setup-A s k z ld;
        iterate = iterate-A s k z ld;
        line = λ e. absurd (never e);
        alpha = λ e. absurd (never e);
      })

  fits-here : (s : Iterate) → FitsIterate (nth u 8) (nth u 9) s → FitsIterate n m s
  fits-here s z = rw (h.variables, h.functions) at z

  reads-by : (r : Opening) (s : Iterate) (l : Line) (g : List Float) (v : List ℕ) → FitsOpened P (opened_by r s l) → g ≡ opened_floats (opened_by r s l) f → v ≡ opened_words (opened_by r s l) u → Reads r s l g v
  reads-by Go s l g v z eg ev = reads_go s l (fits-here s z.0) (z.1 ∙ h.variables) g v eg ev
  reads-by Converged s l g v z eg ev = reads-stop Converged s l (fits-here s z) (λ e. let y : ◌≡◌ {A = ℕ} 0 1 = cc in let x : ⊥ = omega arith in x) g v eg ev
  reads-by Infeasible s l g v z eg ev = reads-stop Infeasible s l (fits-here s z) (λ e. let y : ◌≡◌ {A = ℕ} 0 1 = cc in let x : ⊥ = omega arith in x) g v eg ev

  fits-opened : FitsOpened P (opened P (iterate_in n m f u))
  unfolding opened
  fits-opened = fit-factored P (iterate_in n m f u) _ (fits_in n m f u h)

  pub reads-after : (r : Opening) (g : List Float) (v : List ℕ) → (o : Opens r (opened P (iterate_in n m f u)) f g u v) → Reads r o.iterate o.line g v
  reads-after r g v o =
      reads-by r o.iterate o.line g v (subst (λ (t : Opened). FitsOpened P t) o.opening fits-opened) (o.floats ∙ ap (λ (t : Opened). opened_floats t f) o.opening)
      (o.words ∙ ap (λ (t : Opened). opened_words t u) o.opening)
