-- yes is five, by constraint and side; with a NaN no call says it, and the multipliers of open sides do not matter.
use mathlib.Core.Path.{◌≡◌, refl, sym, ap, subst, ◌∙◌}
use mathlib.Core.Bool.{Bool, true, false, ◌&&◌, true≢false}
use mathlib.Core.List.{List, [], ◌∷◌, ◌++◌}
use mathlib.Core.Logic.{⊎_elim}
use Prim.Native.Nat.{ℕ, zero, suc, ◌+◌, ◌-◌, ◌<◌}
use native.Mathlib.Omega.{arith}
use lib.Dec.{leb}
use lib.Ieee.{Float, nan, inf, fin, add, sub, mul, neg, lt, le, eq}
use borrow.Author.Tests.{leb-true}
use Rattle.numbers.specs.Numbers.{+0, ◌⊕◌, ◌⊖◌, ◌⊗◌, Σ, at, entry}
use Rattle.numbers.proofs.Cases.{last-or-before}
use Rattle.workspace.specs.Tables.{done, call, test, is_dimension, is_constraints, is_room, is_tolerance}
use Rattle.workspace.specs.declared.Refusal.{Refusal}
use Rattle.workspace.specs.declared.Refusal.TheVariants.{Width, Tolerance}
use Rattle.workspace.proofs.Tests.{and-true}
use Rattle.step_rows.specs.Problem.{Problem, constraint_at, side_of, each}
use Rattle.std.specs.Prelude.{Option, None, Some, Ok, Err}
use Rattle.step_rows.specs.declared.Constraint.{Constraint}
use Rattle.step_rows.specs.declared.Constraint.TheVariants.{Equality, Floor, Band}
use Rattle.step_call.specs.Promise.{are_kinds, are_widths}
use Rattle.step_check.specs.Check.{Pasted, halfway, curved, terms, less_lower, plus_upper, slope, Margin, margin_of, equality_row, floor_rows, lower_row, upper_row, slopes, equalities, inequalities, within, Verdict, yes, verdict}
use Rattle.step_check.specs.Claims.{All, Five}
use Rattle.step_check.specs.declared.Part.TheVariants as part
use Rattle.step_check.proofs.Shown.{yes-is-five}
use Rattle.step_check_call.specs.Promise.{are_pasted, Outcome, outcome_of}
use Rattle.step_check_call.specs.Claims.{ConstraintPasses, LowerPasses, UpperPasses, Plausible, CallYesIsFive, NoneNan, NanFails, SameClosed, OpenIgnored}
use Rattle.step_check_call.proofs.Called.{the_verdict}

-- ---- rows of a list

module _ (P : Margin → Type 0) where
  all_append : (xs ys : List Margin) → All P xs → All P ys → All P (xs ++ ys)
  all_append [] ys h g = g
  all_append (x ∷ xs) ys h g = (h.0, all_append xs ys h.1 g)

  append-all : (xs ys : List Margin) → All P (xs ++ ys) → All P xs × All P ys
  append-all [] ys h = (tt, h)
  append-all (x ∷ xs) ys h = let g = append-all xs ys h.1 in ((h.0, g.0), g.1)

  all-each : (n : ℕ) (f : ℕ → List Margin) → ((i : ℕ) → i < n → All P (f i)) → All P (each n f)
  unfolding each
  all-each zero f h = tt
  all-each (suc n) f h = all_append (f zero) (each n (λ i. f (suc i))) (h zero (omega arith)) (all-each n (λ i. f (suc i)) (λ i l. h (suc i) (omega arith)))

  each_all : (n : ℕ) (f : ℕ → List Margin) → All P (each n f) → (i : ℕ) → i < n → All P (f i)
  unfolding each
  each_all zero f h i l = absurd (omega arith)
  each_all (suc n) f h zero l = (append-all (f zero) (each n (λ i. f (suc i))) h).0
  each_all (suc n) f h (suc i) l = each_all n (λ i. f (suc i)) (append-all (f zero) (each n (λ i. f (suc i))) h).1 i (omega arith)

-- ---- the three tests of an inequality, row by row

module _ (p : Problem) (s : Pasted) (tol : Float) where
  abbrev Above : Margin → Type 0
  Above r = le (neg tol) r.margin ≡ true

  abbrev Signed : Margin → Type 0
  Signed r = le +0 r.multiplier ≡ true

  abbrev Small : Margin → Type 0
  Small r = within tol (r.multiplier ⊗ r.margin) ≡ true

  abbrev Near : Margin → Type 0
  Near r = within tol r.margin ≡ true

  abbrev equal : ℕ → List Margin
  equal j = equality_row (constraint_at p j) p.n p.jacobian p.values s.d s.multipliers j

  abbrev floors : ℕ → List Margin
  floors j = floor_rows (constraint_at p j) p.n p.jacobian p.values s.d s.multipliers j

  abbrev low : ℕ → List Margin
  low i = lower_row (side_of (at p.lower i)) s.d s.lowers i

  abbrev up : ℕ → List Margin
  up i = upper_row (side_of (at p.upper i)) s.d s.uppers i

  -- a constraint, a lower side and an upper side
  to-constraint : (k : Constraint) (j : ℕ) → All Near (equality_row k p.n p.jacobian p.values s.d s.multipliers j) → All Above (floor_rows k p.n p.jacobian p.values s.d s.multipliers j)
      → All Signed (floor_rows k p.n p.jacobian p.values s.d s.multipliers j) → All Small (floor_rows k p.n p.jacobian p.values s.d s.multipliers j) → ConstraintPasses k p s tol j
  to-constraint Equality j r v g c = r.0
  to-constraint Floor j r v g c = record { not_violated = v.0; sign = g.0; product = c.0 }
  to-constraint (Band w) j r v g c = (record { not_violated = v.0; sign = g.0; product = c.0 }, record { not_violated = v.1.0; sign = g.1.0; product = c.1.0 })

  constraint-equal : (k : Constraint) (j : ℕ) → ConstraintPasses k p s tol j → All Near (equality_row k p.n p.jacobian p.values s.d s.multipliers j)
  constraint-equal Equality j h = (h, tt)
  constraint-equal Floor j h = tt
  constraint-equal (Band w) j h = tt

  constraint-floors : (k : Constraint) (j : ℕ) → ConstraintPasses k p s tol j
      → All Above (floor_rows k p.n p.jacobian p.values s.d s.multipliers j) × All Signed (floor_rows k p.n p.jacobian p.values s.d s.multipliers j)
      × All Small (floor_rows k p.n p.jacobian p.values s.d s.multipliers j)
  constraint-floors Equality j h = (tt, tt, tt)
  constraint-floors Floor j h = ((h.not_violated, tt), (h.sign, tt), (h.product, tt))
  constraint-floors (Band w) j h = (
    (h.0.not_violated, (h.1.not_violated, tt)),
    (h.0.sign, (h.1.sign, tt)),
    (h.0.product, (h.1.product, tt)),
  )

  to-lower : (b : Option Float) (i : ℕ) → All Above (lower_row b s.d s.lowers i) → All Signed (lower_row b s.d s.lowers i) → All Small (lower_row b s.d s.lowers i) → LowerPasses b tol (at s.lowers i) (at s.d i)
  to-lower None i v g c = tt
  to-lower (Some bound) i v g c = record { not_violated = v.0; sign = g.0; product = c.0 }

  of-lower : (b : Option Float) (i : ℕ) → LowerPasses b tol (at s.lowers i) (at s.d i) → All Above (lower_row b s.d s.lowers i) × All Signed (lower_row b s.d s.lowers i) × All Small (lower_row b s.d s.lowers i)
  of-lower None i h = (tt, tt, tt)
  of-lower (Some bound) i h = ((h.not_violated, tt), (h.sign, tt), (h.product, tt))

  to-upper : (b : Option Float) (i : ℕ) → All Above (upper_row b s.d s.uppers i) → All Signed (upper_row b s.d s.uppers i) → All Small (upper_row b s.d s.uppers i) → UpperPasses b tol (at s.uppers i) (at s.d i)
  to-upper None i v g c = tt
  to-upper (Some bound) i v g c = record { not_violated = v.0; sign = g.0; product = c.0 }

  of-upper : (b : Option Float) (i : ℕ) → UpperPasses b tol (at s.uppers i) (at s.d i) → All Above (upper_row b s.d s.uppers i) × All Signed (upper_row b s.d s.uppers i) × All Small (upper_row b s.d s.uppers i)
  of-upper None i h = (tt, tt, tt)
  of-upper (Some bound) i h = ((h.not_violated, tt), (h.sign, tt), (h.product, tt))

  -- all inequalities, and one after the other
  spread : (P : Margin → Type 0) → All P (inequalities p s) → ((j : ℕ) → j < p.m → All P (floors j)) × ((i : ℕ) → i < p.n → All P (low i) × All P (up i))
  unfolding inequalities
  spread P h =
      let g = append-all P (each p.m floors) (each p.n (λ i. low i ++ up i)) h in
      (each_all P p.m floors g.0, λ i l. append-all P (low i) (up i) (each_all P p.n (λ i. low i ++ up i) g.1 i l))

  gathered : (P : Margin → Type 0) → ((j : ℕ) → j < p.m → All P (floors j)) → ((i : ℕ) → i < p.n → All P (low i)) → ((i : ℕ) → i < p.n → All P (up i)) → All P (inequalities p s)
  unfolding inequalities
  gathered P f l u =
      all_append P (each p.m floors) (each p.n (λ i. low i ++ up i)) (all-each P p.m floors f)
      (all-each P p.n (λ i. low i ++ up i) (λ i q. all_append P (low i) (up i) (l i q) (u i q)))

  residuals : All Near (equalities p s) → (j : ℕ) → j < p.m → All Near (equal j)
  unfolding equalities
  residuals h = each_all Near p.m equal h

  all-residuals : ((j : ℕ) → j < p.m → All Near (equal j)) → All Near (equalities p s)
  unfolding equalities
  all-residuals h = all-each Near p.m equal h

  plausible : Five p s tol → Plausible p s tol
  plausible f =
      let r = residuals f.residuals in
      let v = spread Above f.violations in
      let g = spread Signed f.signs in
      let c = spread Small f.products in
      record {
        stationary = f.stationary;
        constraints = λ j l. to-constraint (constraint_at p j) j (r j l) (v.0 j l) (g.0 j l) (c.0 j l);
        lowers = λ i l. to-lower (side_of (at p.lower i)) i (v.1 i l).0 (g.1 i l).0 (c.1 i l).0;
        uppers = λ i l. to-upper (side_of (at p.upper i)) i (v.1 i l).1 (g.1 i l).1 (c.1 i l).1;
      }

  five : Plausible p s tol → Five p s tol
  five h =
      let f : (j : ℕ) → j < p.m → All Above (floors j) × All Signed (floors j) × All Small (floors j) = λ j l. constraint-floors (constraint_at p j) j (h.constraints j l) in
      let a : (i : ℕ) → i < p.n → All Above (low i) × All Signed (low i) × All Small (low i) = λ i l. of-lower (side_of (at p.lower i)) i (h.lowers i l) in
      let b : (i : ℕ) → i < p.n → All Above (up i) × All Signed (up i) × All Small (up i) = λ i l. of-upper (side_of (at p.upper i)) i (h.uppers i l) in
      record {
        stationary = h.stationary;
        residuals = all-residuals (λ j l. constraint-equal (constraint_at p j) j (h.constraints j l));
        violations = gathered Above (λ j l. (f j l).0) (λ i l. (a i l).0) (λ i l. (b i l).0);
        signs = gathered Signed (λ j l. (f j l).1) (λ i l. (a i l).1) (λ i l. (b i l).1);
        products = gathered Small (λ j l. (f j l).2) (λ i l. (a i l).2) (λ i l. (b i l).2);
      }

pub call-yes-is-five : CallYesIsFive
call-yes-is-five p s tol v w w' iw iw' c =
    let e = the_verdict p s tol v w w' iw iw' c in
    let f = yes-is-five p s tol in
    (λ y. plausible p s tol (f.0 (sym e ∙ y)), λ h. e ∙ f.1 (five p s tol h))

-- ---- NaN

add-nan : (x : Float) → x ⊕ nan ≡ nan
unfolding add
add-nan nan = refl
add-nan (inf s) = refl
add-nan (fin s m e) = refl

nan-add : (x : Float) → nan ⊕ x ≡ nan
unfolding add
nan-add x = refl

sub-nan : (x : Float) → x ⊖ nan ≡ nan
unfolding sub add neg
sub-nan nan = refl
sub-nan (inf s) = refl
sub-nan (fin s m e) = refl

nan-sub : (x : Float) → nan ⊖ x ≡ nan
unfolding sub add
nan-sub x = refl

mul-nan : (x : Float) → x ⊗ nan ≡ nan
unfolding mul
mul-nan nan = refl
mul-nan (inf s) = refl
mul-nan (fin s m e) = refl

Σ-nan : (n : ℕ) (f : ℕ → Float) (i : ℕ) → i < n → f i ≡ nan → Σ n f ≡ nan
unfolding Σ
Σ-nan zero f i h e = absurd (omega arith)
Σ-nan (suc n) f i h e =
    ⊎_elim (λ (q : i ≡ n). rw (ap f (sym q) ∙ e) (add-nan (Σ n f))) (λ (q : i < n). rw (Σ-nan n f i q e) (nan-add (f n))) (last-or-before n i h)

nan-within : (tol : Float) → within tol nan ≡ false
unfolding le lt eq
nan-within tol = refl

nan-sign : le +0 nan ≡ false
unfolding le lt eq
nan-sign = refl

lower-nan : (b : Option Float) (l v : Float) → v ≡ nan → less_lower b l v ≡ nan
lower-nan None l v e = e
lower-nan (Some bound) l v e = rw e (nan-sub l)

upper-nan : (b : Option Float) (l v : Float) → v ≡ nan → plus_upper b l v ≡ nan
upper-nan None l v e = e
upper-nan (Some bound) l v e = rw e (nan-add l)

module _ (p : Problem) (s : Pasted) where
  abbrev slope_at : ℕ → Float
  slope_at i = slope p.n p.m p.factor p.gradient p.jacobian p.lower p.upper s.d s.multipliers s.lowers s.uppers i

  slope-nan : (i : ℕ) → (curved p.n p.factor s.d i ⊕ at p.gradient i ⊖ terms p.n p.m p.jacobian s.multipliers i) ≡ nan → slope_at i ≡ nan
  unfolding slope
  slope-nan i e = upper-nan (side_of (at p.upper i)) (at s.uppers i) _ (lower-nan (side_of (at p.lower i)) (at s.lowers i) _ e)

  curved-nan : (i : ℕ) → i < p.n → at s.d i ≡ nan → curved p.n p.factor s.d i ≡ nan
  unfolding curved halfway
  curved-nan i l e =
      let z : i + 0 ≡ i = omega arith in
      let first : Σ (p.n - i) (λ t. entry p.n p.factor (i + t) i ⊗ at s.d (i + t)) ≡ nan =
      Σ-nan (p.n - i) (λ t. entry p.n p.factor (i + t) i ⊗ at s.d (i + t)) 0 (omega arith) (rw (z, e) (mul-nan (entry p.n p.factor i i))) in
      Σ-nan (i + 1) (λ k. entry p.n p.factor i k ⊗ Σ (p.n - k) (λ t. entry p.n p.factor (k + t) k ⊗ at s.d (k + t))) i (omega arith) (rw first (mul-nan (entry p.n p.factor i i)))

  terms-nan : (i j : ℕ) → j < p.m → at s.multipliers j ≡ nan → terms p.n p.m p.jacobian s.multipliers i ≡ nan
  unfolding terms
  terms-nan i j l e = Σ-nan p.m (λ j. entry p.n p.jacobian j i ⊗ at s.multipliers j) j l (rw e (mul-nan (entry p.n p.jacobian j i)))

  never-within : (tol v : Float) → v ≡ nan → within tol v ≡ true → ⊥
  never-within tol v e h = true≢false (sym h ∙ ap (within tol) e ∙ nan-within tol)

  never-sign : (l : Float) → l ≡ nan → le +0 l ≡ true → ⊥
  never-sign l e h = true≢false (sym h ∙ ap (le +0) e ∙ nan-sign)

  none-nan : (tol : Float) → 0 < p.n → Plausible p s tol → NoneNan p s
  none-nan tol n h = record {
    steps = λ i l e. never-within tol (slope_at i) (slope-nan i (rw (curved-nan i l e, nan-add (at p.gradient i)) (nan-sub (terms p.n p.m p.jacobian s.multipliers i)))) (h.stationary i l);
    multipliers = λ j l e. never-within tol (slope_at 0) (slope-nan 0 (rw (terms-nan 0 j l e) (sub-nan (curved p.n p.factor s.d 0 ⊕ at p.gradient 0)))) (h.stationary 0 n);
    lowers = λ i l bound b e. never-sign (at s.lowers i) e (subst (λ (x : Option Float). LowerPasses x tol (at s.lowers i) (at s.d i)) b (h.lowers i l)).sign;
    uppers = λ i l bound b e. never-sign (at s.uppers i) e (subst (λ (x : Option Float). UpperPasses x tol (at s.uppers i) (at s.d i)) b (h.uppers i l)).sign;
  }

-- a done call has at least one variable
sized : (n m : ℕ) (l r k x t : Bool) (u v : Verdict) → Ok v ≡ outcome_of (call (is_dimension n && is_constraints m) l r k (test x Width (test t Tolerance (done u)))) → 0 < n
sized n m l r k x t u v e = go (is_dimension n && is_constraints m) refl e
  where
    never : {A : Type 0} (r : Refusal) → ◌≡◌ {A = Outcome} (Ok v) (Err r) → A
    never r e = absurd (let y : ⊥ = cc in y)

    go : (b : Bool) → (is_dimension n && is_constraints m) ≡ b → Ok v ≡ outcome_of (call b l r k (test x Width (test t Tolerance (done u)))) → 0 < n
    go true h e = let a = and-true (leb 1 n) (leb n 16) (and-true (is_dimension n) (is_constraints m) h).0 in leb-true 1 n a.0
    go false h e = never _ e

pub nan-fails : NanFails
nan-fails p s tol w w' iw iw' c =
    none-nan p s tol
    (sized p.n p.m (are_pasted p s) (is_room w iw) (are_kinds p.kinds) (are_widths p.kinds p.widths p.m) (is_tolerance tol) (verdict p s tol) yes c.the_outcome)
    ((call-yes-is-five p s tol yes w w' iw iw' c).0 refl)

-- ---- open sides

each_same : (n : ℕ) (f g : ℕ → List Margin) → ((i : ℕ) → i < n → f i ≡ g i) → each n f ≡ each n g
unfolding each
each_same zero f g h = refl
each_same (suc n) f g h = rw (h zero (omega arith), each_same n (λ i. f (suc i)) (λ i. g (suc i)) (λ i l. h (suc i) (omega arith)))

-- one side, open or with the same multiplier
same-less : (b : Option Float) (l l' v : Float) → ((bound : Float) → b ≡ Some bound → l ≡ l') → less_lower b l v ≡ less_lower b l' v
same-less None l l' v h = refl
same-less (Some bound) l l' v h = ap (λ (x : Float). v ⊖ x) (h bound refl)

same-plus : (b : Option Float) (l l' v : Float) → ((bound : Float) → b ≡ Some bound → l ≡ l') → plus_upper b l v ≡ plus_upper b l' v
same-plus None l l' v h = refl
same-plus (Some bound) l l' v h = ap (λ (x : Float). v ⊕ x) (h bound refl)

same_low : (b : Option Float) (d l l' : List Float) (i : ℕ) → ((bound : Float) → b ≡ Some bound → at l i ≡ at l' i) → lower_row b d l i ≡ lower_row b d l' i
same_low None d l l' i h = refl
same_low (Some bound) d l l' i h = ap (λ (x : Float). margin_of part.Lower i x (at d i ⊖ bound) ∷ []) (h bound refl)

same_up : (b : Option Float) (d l l' : List Float) (i : ℕ) → ((bound : Float) → b ≡ Some bound → at l i ≡ at l' i) → upper_row b d l i ≡ upper_row b d l' i
same_up None d l l' i h = refl
same_up (Some bound) d l l' i h = ap (λ (x : Float). margin_of part.Upper i x (bound ⊖ at d i) ∷ []) (h bound refl)

module _ (p : Problem) (d multipliers lowers uppers lowers' uppers' : List Float)
    (low : (i : ℕ) → i < p.n → (bound : Float) → side_of (at p.lower i) ≡ Some bound → at lowers i ≡ at lowers' i)
    (up : (i : ℕ) → i < p.n → (bound : Float) → side_of (at p.upper i) ≡ Some bound → at uppers i ≡ at uppers' i) where
  abbrev one : Pasted
  one = record { d = d; multipliers = multipliers; lowers = lowers; uppers = uppers }

  abbrev other : Pasted
  other = record { d = d; multipliers = multipliers; lowers = lowers'; uppers = uppers' }

  same-slope : (i : ℕ) → i < p.n → slope p.n p.m p.factor p.gradient p.jacobian p.lower p.upper d multipliers lowers uppers i
      ≡ slope p.n p.m p.factor p.gradient p.jacobian p.lower p.upper d multipliers lowers' uppers' i
  unfolding slope
  same-slope i l =
      same-plus (side_of (at p.upper i)) (at uppers i) (at uppers' i) _ (up i l)
      ∙ ap (λ (x : Float). plus_upper (side_of (at p.upper i)) (at uppers' i) x) (same-less (side_of (at p.lower i)) (at lowers i) (at lowers' i) _ (low i l))

  same-slopes : slopes p one ≡ slopes p other
  unfolding slopes
  same-slopes = each_same p.n _ _ (λ i l. ap (λ (x : Float). margin_of part.Variable i +0 x ∷ []) (same-slope i l))

  same-inequalities : inequalities p one ≡ inequalities p other
  unfolding inequalities
  same-inequalities =
      ap (λ (x : List Margin). each p.m (λ j. floor_rows (constraint_at p j) p.n p.jacobian p.values d multipliers j) ++ x)
      (each_same p.n _ _ (λ i l. rw (same_low (side_of (at p.lower i)) d lowers lowers' i (low i l), same_up (side_of (at p.upper i)) d uppers uppers' i (up i l)) refl))

  same-verdict : (tol : Float) → verdict p one tol ≡ verdict p other tol
  unfolding verdict equalities
  same-verdict tol = rw (same-slopes, same-inequalities) refl

open-verdict : (p : Problem) (s s' : Pasted) (tol : Float) → SameClosed p s s' → verdict p s tol ≡ verdict p s' tol
open-verdict p s s' tol h =
    ap (λ (x : List Float). verdict p (record { d = x; multipliers = s.multipliers; lowers = s.lowers; uppers = s.uppers }) tol) h.steps
    ∙ ap (λ (x : List Float). verdict p (record { d = s'.d; multipliers = x; lowers = s.lowers; uppers = s.uppers }) tol) h.multipliers
    ∙ same-verdict p s'.d s'.multipliers s.lowers s.uppers s'.lowers s'.uppers h.lowers h.uppers tol

same-pasted : (p : Problem) (s s' : Pasted) → SameClosed p s s' → are_pasted p s ≡ are_pasted p s'
same-pasted p s s' h = rw (h.steps, h.multipliers, h.as_many_lowers, h.as_many_uppers) refl

pub open-ignored : OpenIgnored
open-ignored p s s' tol o o' w w' w'' iw iw' iw'' h c c' =
    c.the_outcome ∙ rw (same-pasted p s s' h, open-verdict p s s' tol h) refl ∙ sym c'.the_outcome
