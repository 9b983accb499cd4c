-- What a turn opens, and what is written of it.
use Prim.Native.Nat.{ℕ, suc, ◌+◌, ◌-◌, ◌*◌, ◌≤◌}
use mathlib.Core.Path.{◌≡◌, refl, sym, ap, ◌∙◌, subst}
use mathlib.Core.List.{List, [], ◌∷◌}
use mathlib.Core.Bool.{Bool, true, false, cond}
use native.Mathlib.Omega.{arith}
use lib.ListN.{length, take, drop}
use lib.Count.{count_trailing_zeros}
use lib.Ieee.{Float, nan, le, sub, of_bits, binary64, of_fields, units, odd, round, size, span, climb}
use Rattle.numbers.specs.Numbers.{one, at, nth, tab, dot, ◌⊖◌, ◌⊗◌}
use Rattle.numbers.proofs.Lists.{length-tab, by_entries}
use Rattle.workspace.specs.Tables.{Answer, done, refused}
use Rattle.workspace.specs.Readings.{vec}
use Rattle.workspace.proofs.Readings.{length-vec}
use Rattle.hessian.specs.Hessian.{identity, cholesky}
use Rattle.hessian.proofs.Lengths.{length-identity}
use Rattle.step.specs.Step.{Step, step}
use Rattle.step.specs.inner.Work.{EndsStep, stepped_answer}
use Rattle.step.specs.declared.Stepped.{Stepped}
use Rattle.search.specs.Setup.{Setup, Ending, converged, infeasible}
use Rattle.search.specs.Turn.{Iterate, Line, Opened, stop, go, reset, full_relaxation, merit, violations, penalties, with_step, line_of, is_still, model_of, stepped, factored, opened}
use Rattle.search.specs.Layout.{setup_in, iterate_in, laid, point_floats, iterate_floats, FitsIterate}
use Rattle.search.specs.inner.Work.{Ready, fresh_words, opened_floats, opened_words}
use Rattle.search.proofs.Rereads.{bit_word}
use Rattle.search.proofs.Laying.{length-laid, laid-below, vec-below, vec-above, vec_here, laid-again, laid-apart}
use Rattle.search.proofs.Layouts.{bounds}
use Rattle.search.proofs.Lent.{part_length, part-vec, laid-twice, word-again}
use Rattle.search.proofs.Relaid.{point-again, iterate-again}
use Rattle.search.proofs.Sizes.{FitsOpened, fit-reset, fit-stepped}
use Rattle.search_open.specs.declared.Opening.{Opening}
use Rattle.search_open.specs.declared.Opening.TheVariants.{Go, Converged, Infeasible}
use Rattle.search_open.specs.inner.Work.{Factors, step_of, opened_by, Opens, slope_of}
use Rattle.search_open.proofs.Factors.{reset-setup, reset-iterate, reset-ready}

-- ---- what is told and left is what is opened

opens_as : (r : Opening) (o o' : Opened) (f f' : List Float) (u u' : List ℕ) → o ≡ o' → Opens r o f f' u u' → Opens r o' f f' u u'
opens_as r o o' f f' u u' e h = subst (λ (t : Opened). Opens r t f f' u u') e h

opens_by : (r : Opening) (o : Opened) (s : Iterate) (line : Line) (f f' : List Float) (u u' : List ℕ) → o ≡ opened_by r s line → f' ≡ opened_floats (opened_by r s line) f
    → u' ≡ opened_words (opened_by r s line) u → Opens r o f f' u u'
opens_by r o s line f f' u u' e hf hu =
    record { iterate = s; line = line; opening = e; floats = hf ∙ ap (λ (t : Opened). opened_floats t f) (sym e); words = hu ∙ ap (λ (t : Opened). opened_words t u) (sym e) }

-- 1 - 1e-8, as the code has it
pub full_is : of_bits binary64 4607182418709945415 ≡ full_relaxation
unfolding of_bits of_fields odd round units size span climb count_trailing_zeros sub
full_is = refl

module _ (n m : ℕ) (f : List Float) (u : List ℕ) (h : Ready n m f u) where
  abbrev P : Setup
  P = setup_in f u

  abbrev S : Iterate
  S = iterate_in n m f u

  fresh-again : fresh_words S.fresh u ≡ u
  fresh-again = ap (λ (t : ℕ). laid 3 (t ∷ []) u) (bit_word (nth u 3) h.fresh) ∙ word-again 3 u (let y = h.words in omega arith)

  whole : iterate_floats S f ≡ f
  whole = let b = bounds n m h.few h.constraints in iterate-again n m f u h.few h.constraints b.0 b.1 h.floats

  -- ---- the step d with multipliers l

  module _ (d l : List Float) (t : Float) (ld : length d ≡ n) (ll : length l ≡ m) where
    abbrev T : Step
    T = step_of d l t

    the-l : tab (nth u 9) (λ j. at l j) ≡ l
    the-l = sym (by_entries (nth u 9) l (ll ∙ sym h.functions))

    the_d : tab (nth u 8) (λ i. at d i) ≡ d
    the_d = sym (by_entries (nth u 8) d (ld ∙ sym h.variables))

    abbrev Q : List Float
    Q = penalties m (vec 80 m f) l

    -- the iterate with penalties q and these multipliers
    with-step : (q : List Float) → length q ≡ m → iterate_floats (with_step S q l) f ≡ laid 80 q (laid 96 l f)
    with-step q lq =
        let b = bounds n m h.few h.constraints in
        let few = h.few in
        let less = h.constraints in
        let z = h.floats in
        let g = laid 80 q (laid 96 l f) in
        let lg : length g ≡ length f = length-laid 80 q _ ∙ length-laid 96 l f in
        let inner : laid 80 q (laid 96 l (point_floats S.point f)) ≡ g = ap (λ (w : List Float). laid 80 q (laid 96 l w)) (point-again n m f few less z) in
        let eb : vec 720 (n * n) g ≡ vec 720 (n * n) f = vec-above 720 (n * n) 80 q _ (omega arith) ∙ vec-above 720 (n * n) 96 l f (omega arith) in
        let es : vec 176 (suc m * n) g ≡ vec 176 (suc m * n) f = vec-above 176 (suc m * n) 80 q _ (omega arith) ∙ vec-above 176 (suc m * n) 96 l f (omega arith) in
        let middle : laid 720 (vec 720 (n * n) f) g ≡ g = ap (λ (w : List Float). laid 720 w g) (sym eb) ∙ laid-again 720 (n * n) g (omega arith) in
        let outer : laid 176 (vec 176 (suc m * n) f) g ≡ g = ap (λ (w : List Float). laid 176 w g) (sym es) ∙ laid-again 176 (suc m * n) g (omega arith) in
        ap (λ (w : List Float). laid 176 (vec 176 (suc m * n) f) (laid 720 (vec 720 (n * n) f) w)) inner
        ∙ ap (λ (w : List Float). laid 176 (vec 176 (suc m * n) f) w) middle
        ∙ outer

    kept-penalties : laid 80 (vec 80 m f) (laid 96 l f) ≡ laid 96 l f
    kept-penalties =
        let less = h.constraints in
        let z = h.floats in
        let y = length-laid 96 l f in
        let e : vec 80 m (laid 96 l f) ≡ vec 80 m f = vec-below 80 m 96 l f (omega arith) in
        ap (λ (w : List Float). laid 80 w (laid 96 l f)) (sym e) ∙ laid-again 80 m (laid 96 l f) (omega arith)

    -- ---- the three ways

    stepped-is : stepped P S (done T) ≡ cond (le full_relaxation t) (stop infeasible S)
        (cond (is_still P S T) (stop converged (with_step S (vec 80 m f) l)) (go (with_step S (penalties (nth u 9) (vec 80 m f) l) l) (line_of P (with_step S (penalties (nth u 9) (vec 80 m f) l) l) T)))
    unfolding stepped
    stepped-is = ap (λ (L : List Float). cond (le full_relaxation t) (stop infeasible S)
        (cond (is_still P S T) (stop converged (with_step S (vec 80 m f) L)) (go (with_step S (penalties (nth u 9) (vec 80 m f) L) L) (line_of P (with_step S (penalties (nth u 9) (vec 80 m f) L) L) T)))) the-l

    pub opens-relaxed : le full_relaxation t ≡ true → Opens Infeasible (stepped P S (done T)) f f u u
    opens-relaxed e = opens_by Infeasible _ S (line_of P S T) f f u u (stepped-is ∙ (rw e refl)) (sym whole) (sym fresh-again)

    pub opens_still : (r : Bool) (f' : List Float) → le full_relaxation t ≡ false → r ≡ is_still P S T → r ≡ true → f' ≡ laid 96 l f → Opens Converged (stepped P S (done T)) f f' u u
    opens_still r f' e k y g =
        let a : is_still P S T ≡ true = sym k ∙ y in
        opens_by Converged _ (with_step S (vec 80 m f) l) (line_of P S T) f f' u u (stepped-is ∙ (rw (e, a) refl))
        (g ∙ sym (with-step (vec 80 m f) (length-vec 80 m f) ∙ kept-penalties)) (sym fresh-again)

    lq : length Q ≡ m
    unfolding penalties
    lq = length-tab m _

    -- where the line is set: multipliers, penalties and step stand in the slice
    abbrev G : List Float
    G = laid 64 d (laid 80 Q (laid 96 l f))

    l_g : length G ≡ 1024
    l_g = length-laid 64 d _ ∙ length-laid 80 Q _ ∙ length-laid 96 l f ∙ h.floats

    below-G : (o k : ℕ) → o + k ≤ 64 → vec o k G ≡ vec o k f
    below-G o k e = vec-below o k 64 d _ e ∙ vec-below o k 80 Q _ (omega arith) ∙ vec-below o k 96 l f (omega arith)

    above-G : (o k : ℕ) → 128 ≤ o → vec o k G ≡ vec o k f
    above-G o k e =
        let few = h.few in
        let less = h.constraints in
        let z = lq in
        vec-above o k 64 d _ (omega arith) ∙ vec-above o k 80 Q _ (omega arith) ∙ vec-above o k 96 l f (omega arith)

    penalties-G : vec 80 m G ≡ Q
    penalties-G =
        let few = h.few in
        let less = h.constraints in
        let z = h.floats in
        let y = length-laid 96 l f in
        vec-above 80 m 64 d _ (omega arith) ∙ vec_here 80 m Q (laid 96 l f) lq (omega arith)

    step-G : vec 64 n G ≡ d
    step-G =
        let few = h.few in
        let z = h.floats in
        let y = length-laid 80 Q (laid 96 l f) ∙ length-laid 96 l f in
        vec_here 64 n d (laid 80 Q (laid 96 l f)) ld (omega arith)

    setup-G : setup_in G u ≡ P
    setup-G =
        let few = h.few in
        let e = h.variables in
        let a = below-G 16 (nth u 8) (omega arith) in
        let b = below-G 32 (nth u 8) (omega arith) in
        let c : at G 0 ≡ at f 0 = laid-below 64 d _ 0 nan (omega arith) ∙ laid-below 80 Q _ 0 nan (omega arith) ∙ laid-below 96 l f 0 nan (omega arith) in
        rw (a, b, c) refl

    pub line-ready : (g : List Float) → g ≡ G → Ready n m g u
    line-ready g e = record {
      floats = ap length e ∙ l_g;
      words = h.words;
      some = h.some;
      few = h.few;
      constraints = h.constraints;
      variables = h.variables;
      functions = h.functions;
      kinds = h.kinds;
      fresh = h.fresh;
    }

    -- merit and slope as they are read from there
    abbrev merit_at : List Float → Float
    merit_at g = merit (setup_in g u) (vec 80 m g) (vec 128 (suc m) g)

    abbrev slope_at : List Float → Float
    slope_at g = slope_of n m (vec 176 (suc m * n) g) (vec 64 n g) t (vec 80 m g) (violations (setup_in g u) (vec 128 (suc m) g))

    abbrev U : Iterate
    U = with_step S Q l

    merit-G : merit_at G ≡ merit P Q (vec 128 (suc m) f)
    merit-G = λ i. merit (setup-G i) (penalties-G i) (above-G 128 (suc m) (omega arith) i)

    slope-G : slope_at G ≡ slope_of n m (vec 176 (suc m * n) f) d t Q (violations P (vec 128 (suc m) f))
    slope-G = λ i. slope_of n m (above-G 176 (suc m * n) (omega arith) i) (step-G i) t (penalties-G i) (violations (setup-G i) (above-G 128 (suc m) (omega arith) i))

    line-is : line_of P U T ≡ record { d = d; merit = merit_at G; slope = slope_at G }
    unfolding line_of slope_of
    line-is = λ i. record {
      d = the_d i;
      merit = sym merit-G i;
      slope = ((λ k. dot (h.variables k) (vec 176 (suc m * n) f) d ⊖ (one ⊖ t) ⊗ dot (h.functions k) Q (violations P (vec 128 (suc m) f))) ∙ sym slope-G) i;
    }

    -- what was written one after the other
    pub line-laid : (f₁ f₂ g : List Float) → f₁ ≡ laid 96 l f → f₂ ≡ laid 80 (penalties m (vec 80 m f₁) (vec 96 m f₁)) f₁ → g ≡ laid 64 d f₂ → g ≡ G
    line-laid f₁ f₂ g e₁ e₂ e₃ =
        let less = h.constraints in
        let z = h.floats in
        let a : vec 80 m (laid 96 l f) ≡ vec 80 m f = vec-below 80 m 96 l f (omega arith) in
        let b : vec 96 m (laid 96 l f) ≡ l = vec_here 96 m l f ll (omega arith) in
        e₃ ∙ ap (laid 64 d) (e₂ ∙ (λ i. laid 80 (penalties m (vec 80 m (e₁ i)) (vec 96 m (e₁ i))) (e₁ i)) ∙ (λ i. laid 80 (penalties m (a i) (b i)) (laid 96 l f)))

    pub opens-line : (r : Bool) (g f' : List Float) → le full_relaxation t ≡ false → r ≡ is_still P S T → r ≡ false → g ≡ G → f' ≡ laid 1 (one ∷ merit_at g ∷ slope_at g ∷ []) g
        → Opens Go (stepped P S (done T)) f f' u u
    opens-line r g f' e k y eg ef =
        let a : is_still P S T ≡ false = sym k ∙ y in
        let p : penalties (nth u 9) (vec 80 m f) l ≡ Q = ap (λ (j : ℕ). penalties j (vec 80 m f) l) h.functions in
        let o : stepped P S (done T) ≡ go U (line_of P U T) = stepped-is ∙ (rw (e, a) (ap (λ (q : List Float). go (with_step S q l) (line_of P (with_step S q l) T)) p)) in
        let s : G ≡ laid 64 d (iterate_floats U f) = ap (laid 64 d) (sym (with-step Q lq)) in
        let w : f' ≡ laid 1 (one ∷ merit_at G ∷ slope_at G ∷ []) G = ef ∙ ap (λ (v : List Float). laid 1 (one ∷ merit_at v ∷ slope_at v ∷ []) v) eg in
        opens_by Go _ U (record { d = d; merit = merit_at G; slope = slope_at G }) f f' u u (o ∙ ap (go U) line-is)
        (w ∙ ap (laid 1 (one ∷ merit_at G ∷ slope_at G ∷ [])) s) (sym fresh-again)

  -- the step as it is lent from the workspace w
  pub opens-lent : (r : Opening) (f' w : List Float) (t : Float) → 8192 ≤ length w
      → Opens r (stepped P S (done (step_of (take (18 + n - 18) (drop 18 w)) (take (36 + m - 36) (drop 36 w)) t))) f f' u u → Opens r (stepped P S (done (step_of (vec 18 n w) (vec 36 m w) t))) f f' u u
  opens-lent r f' w t k o =
      let few = h.few in
      let less = h.constraints in
      let a = part-vec 18 n (18 + n - 18) w (omega arith) (omega arith) in
      let b = part-vec 36 m (36 + m - 36) w (omega arith) (omega arith) in
      opens_as r _ _ f f' u u (λ i. stepped P S (done (step_of (a i) (b i) t))) o

  pub d-length : (w : List Float) → 8192 ≤ length w → length (take (18 + n - 18) (drop 18 w)) ≡ n
  d-length w k = let few = h.few in part_length 18 n (18 + n - 18) w (omega arith) (omega arith)

  pub l-length : (w : List Float) → 8192 ≤ length w → length (take (36 + m - 36) (drop 36 w)) ≡ m
  l-length w k = let less = h.constraints in part_length 36 m (36 + m - 36) w (omega arith) (omega arith)

  -- ---- no step

  pub opens-refused : (k : _) → Opens Infeasible (stepped P S (refused k)) f f u u
  unfolding stepped
  opens-refused k = opens_by Infeasible _ S (record { d = []; merit = nan; slope = nan }) f f u u refl (sym whole) (sym fresh-again)

  -- ---- a B that was reset

  abbrev I : List Float
  I = identity n

  -- B written before is written over
  reset-under : (s : Iterate) → FitsIterate (nth u 8) (nth u 9) s → s.b ≡ I → iterate_floats s (laid 720 I f) ≡ iterate_floats s f
  reset-under s z e =
      let few = h.few in
      let less = h.constraints in
      let y = h.floats in
      let b = bounds n m few less in
      let li = length-identity n in
      let en = h.variables in
      let em = h.functions in
      let lx = z.point.x in
      let lv = z.point.values in
      let lp = z.penalty in
      let lm = z.multipliers in
      let w₁ = laid 128 s.point.values f in
      let w₂ = laid 48 s.point.x w₁ in
      let w₃ = laid 96 s.multipliers w₂ in
      let w₄ = laid 80 s.penalty w₃ in
      let z₁ : length w₁ ≡ 1024 = length-laid 128 _ f ∙ y in
      let z₂ : length w₂ ≡ 1024 = length-laid 48 _ w₁ ∙ z₁ in
      let z₃ : length w₃ ≡ 1024 = length-laid 96 _ w₂ ∙ z₂ in
      let z₄ : length w₄ ≡ 1024 = length-laid 80 _ w₃ ∙ z₃ in
      let a₁ : laid 128 s.point.values (laid 720 I f) ≡ laid 720 I w₁ = laid-apart 128 720 _ I f (omega arith) (omega arith) in
      let a₂ : laid 48 s.point.x (laid 720 I w₁) ≡ laid 720 I w₂ = laid-apart 48 720 _ I w₁ (omega arith) (omega arith) in
      let a₃ : laid 96 s.multipliers (laid 720 I w₂) ≡ laid 720 I w₃ = laid-apart 96 720 _ I w₂ (omega arith) (omega arith) in
      let a₄ : laid 80 s.penalty (laid 720 I w₃) ≡ laid 720 I w₄ = laid-apart 80 720 _ I w₃ (omega arith) (omega arith) in
      let a : laid 80 s.penalty (laid 96 s.multipliers (laid 48 s.point.x (laid 128 s.point.values (laid 720 I f)))) ≡ laid 720 I w₄ =
      ap (λ (w : List Float). laid 80 s.penalty (laid 96 s.multipliers (laid 48 s.point.x w))) a₁
      ∙ ap (λ (w : List Float). laid 80 s.penalty (laid 96 s.multipliers w)) a₂
      ∙ ap (λ (w : List Float). laid 80 s.penalty w) a₃
      ∙ a₄ in
      let c : laid 720 s.b (laid 720 I w₄) ≡ laid 720 s.b w₄ = laid-twice 720 s.b I w₄ (ap length e) in
      ap (λ (w : List Float). laid 176 s.slopes (laid 720 s.b w)) a ∙ ap (laid 176 s.slopes) c

  abbrev b_of : Opened → List Float
  b_of (stop e s) = s.b
  b_of (go s line) = s.b

  opened-under : (o : Opened) → FitsOpened P o → b_of o ≡ I → opened_floats o (laid 720 I f) ≡ opened_floats o f
  opened-under (stop e s) z b = reset-under s z b
  opened-under (go s line) z b = ap (λ (w : List Float). laid 1 (one ∷ line.merit ∷ line.slope ∷ []) (laid 64 line.d w)) (reset-under s z.0 b)

  words-under : (o : Opened) → opened_words o (laid 3 (1 ∷ []) u) ≡ opened_words o u
  words-under (stop e s) = laid-twice 3 _ _ u refl
  words-under (go s line) = laid-twice 3 _ _ u refl

  b-three : (t k : Bool) (e e' : Ending) (s s₁ s₂ : Iterate) (line : Line) → s.b ≡ I → s₁.b ≡ I → s₂.b ≡ I → b_of (cond t (stop e s) (cond k (stop e' s₁) (go s₂ line))) ≡ I
  b-three true k e e' s s₁ s₂ line h₀ h₁ h₂ = h₀
  b-three false true e e' s s₁ s₂ line h₀ h₁ h₂ = h₁
  b-three false false e e' s s₁ s₂ line h₀ h₁ h₂ = h₂

  b-stepped : (s : Iterate) (a : Answer Step) → s.b ≡ I → b_of (stepped P s a) ≡ I
  unfolding stepped
  b-stepped s (refused k) e = e
  b-stepped s (done t) e = b-three (le full_relaxation t.relaxation) (is_still P s t) _ _ _ _ _ _ e e e

  pub fits_in : FitsIterate (nth u 8) (nth u 9) S
  fits_in = rw (h.variables, h.functions) (record {
    point = record { x = length-vec 48 n f; values = length-vec 128 (suc m) f };
    slopes = length-vec 176 (suc m * n) f;
    b = length-vec 720 (n * n) f;
    penalty = length-vec 80 m f;
    multipliers = length-vec 96 m f;
  })

  -- ---- the whole of it

  -- the factor was made, or B reset; the answer is that of the step there; and that is opened
  turn-opens : (a : Answer (List Float)) (r : Stepped) (op : Opening) (f₁ f₂ l v : List Float) (u₁ : List ℕ) → Factors n a f f₁ u u₁ l → EndsStep n m r v (model_of (setup_in f₁ u₁) l (iterate_in n m f₁ u₁))
      → Opens op (stepped (setup_in f₁ u₁) (iterate_in n m f₁ u₁) (stepped_answer r (vec 18 n v) (vec 36 m v))) f₁ f₂ u₁ u₁ → Opens op (factored P S a) f f₂ u u₁
  unfolding factored
  turn-opens (done k) r op f₁ f₂ l v u₁ fa en o =
      let e₁ = fa.floats in
      let e₂ = fa.words in
      let e₃ = fa.factor in
      let g : Opens op (stepped P S (stepped_answer r (vec 18 n v) (vec 36 m v))) f f₂ u u = rw (e₁, e₂) at o in
      let e : stepped_answer r (vec 18 n v) (vec 36 m v) ≡ (step (model_of P k S)).answer = rw (e₁, e₂, e₃) at en.the_answer in
      rw e₂ (opens_as op _ _ f f₂ u u (ap (stepped P S) e) g)
  turn-opens (refused k) r op f₁ f₂ l v u₁ fa en o =
      let e₁ = fa.floats in
      let e₂ = fa.words in
      let e₃ : l ≡ identity (nth u 8) = fa.factor ∙ ap identity (sym h.variables) in
      let p = reset-setup n m f u h in
      let s = reset-iterate n m f u h in
      let F = laid 720 I f in
      let U = laid 3 (1 ∷ []) u in
      let R = reset P S in
      let A = (step (model_of P (identity (nth u 8)) R)).answer in
      let O = stepped P R A in
      let g : Opens op (stepped P R (stepped_answer r (vec 18 n v) (vec 36 m v))) F f₂ U U = rw (e₁, e₂, p, s) at o in
      let e : stepped_answer r (vec 18 n v) (vec 36 m v) ≡ A = rw (e₁, e₂, e₃, p, s) at en.the_answer in
      let q : Opens op O F f₂ U U = opens_as op _ _ F f₂ U U (ap (stepped P R) e) g in
      let z : FitsOpened P O = fit-stepped P R A (fit-reset P S fits_in) in
      let b : b_of O ≡ I = b-stepped R A (ap identity h.variables) in
      rw e₂ (record { iterate = q.iterate; line = q.line; opening = q.opening; floats = q.floats ∙ opened-under O z b; words = q.words ∙ words-under O })

  pub opens-all : (r : Stepped) (op : Opening) (f₁ f₂ l v : List Float) (u₁ : List ℕ) → Factors n (cholesky n (vec 720 (n * n) f)) f f₁ u u₁ l
      → EndsStep n m r v (model_of (setup_in f₁ u₁) l (iterate_in n m f₁ u₁))
      → Opens op (stepped (setup_in f₁ u₁) (iterate_in n m f₁ u₁) (stepped_answer r (vec 18 n v) (vec 36 m v))) f₁ f₂ u₁ u₁ → Opens op (opened P S) f f₂ u u₁
  unfolding opened
  opens-all r op f₁ f₂ l v u₁ fa en o =
      let e : cholesky n (vec 720 (n * n) f) ≡ cholesky (nth u 8) (vec 720 (n * n) f) = ap (λ (k : ℕ). cholesky k (vec 720 (n * n) f)) (sym h.variables) in
      turn-opens (cholesky (nth u 8) (vec 720 (n * n) f)) r op f₁ f₂ l v u₁ (rw e at fa) en o

  pub ready-again : (a : Answer (List Float)) (f₁ l : List Float) (u₁ : List ℕ) → Factors n a f f₁ u u₁ l → Ready n m f₁ u₁
  ready-again (done k) f₁ l u₁ fa = let e₁ = fa.floats in let e₂ = fa.words in rw (e₁, e₂) h
  ready-again (refused k) f₁ l u₁ fa = let e₁ = fa.floats in let e₂ = fa.words in rw (e₁, e₂) (reset-ready n m f u h)
