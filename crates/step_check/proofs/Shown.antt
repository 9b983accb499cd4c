-- The check says yes exactly when the five tests hold, and else names the first that fails, with its row.
use mathlib.Core.Path.{◌≡◌, refl, sym, ap}
use mathlib.Core.Bool.{Bool, true, false, cond}
use mathlib.Core.List.{List, [], ◌∷◌, ◌++◌}
use Prim.Native.Nat.{ℕ, zero, suc, ◌<◌}
use native.Mathlib.Omega.{arith}
use lib.Ieee.{Float}
use Rattle.step_rows.specs.Problem.{Problem, each}
use Rattle.step_check.specs.declared.Test.{Test}
use Rattle.step_check.specs.declared.Test.TheVariants.{Stationarity, Residual, Violation, Sign, Product}
use Rattle.step_check.specs.declared.Part.{Part}
use Rattle.step_check.specs.declared.Part.TheVariants.{Variable}
use Rattle.std.specs.Prelude.{Ok, Err}
use Rattle.numbers.specs.Numbers.{+0}
use Rattle.step_check.specs.Check.{Pasted, slope, Margin, margin_of, slopes, equalities, inequalities, rows_of, holds, Verdict, yes, fails, first_failed, ◌or_else◌, verdict, test_number}
use Rattle.step_check.specs.Claims.{All, Five, YesIsFive, Holds, FirstFailed, NamesFirst}

-- a verdict is yes or it fails, and never both
abbrev said : Verdict → ℕ
said (Ok tt) = 0
said (Err f) = 1

never : {A : Type 0} (t : Test) (p : Part) (i : ℕ) → fails t p i ≡ yes → A
never t p i e = let z : ◌≡◌ {A = ℕ} 1 0 = ap said e in absurd (let y : ⊥ = omega arith in y)

-- ---- some rows

module _ (t : Test) (tol : Float) where
  yes-all : (rs : List Margin) → first_failed t tol rs ≡ yes → All (Holds t tol) rs
  unfolding first_failed
  yes-all [] e = tt
  yes-all (r ∷ rs) e = go (holds t tol r.multiplier r.margin) refl e (yes-all rs)
    where
      go : (b : Bool) → holds t tol r.multiplier r.margin ≡ b → cond b (first_failed t tol rs) (fails t r.part r.index) ≡ yes → (first_failed t tol rs ≡ yes → All (Holds t tol) rs)
          → Holds t tol r × All (Holds t tol) rs
      go true h e k = (h, k e)
      go false h e k = never t r.part r.index e

  all_yes : (rs : List Margin) → All (Holds t tol) rs → first_failed t tol rs ≡ yes
  unfolding first_failed
  all_yes [] h = refl
  all_yes (r ∷ rs) h = rw h.0 (all_yes rs h.1)

-- of a list that is made of single rows
all-each : (P : Margin → Type 0) (n : ℕ) (f : ℕ → Margin) → ((i : ℕ) → i < n → P (f i)) → All P (each n (λ i. f i ∷ []))
unfolding each
all-each P zero f h = tt
all-each P (suc n) f h = (h zero (omega arith), all-each P n (λ i. f (suc i)) (λ i l. h (suc i) (omega arith)))

each_all : (P : Margin → Type 0) (n : ℕ) (f : ℕ → Margin) → All P (each n (λ i. f i ∷ [])) → (i : ℕ) → i < n → P (f i)
unfolding each
each_all P zero f h i l = absurd (omega arith)
each_all P (suc n) f h zero l = h.0
each_all P (suc n) f h (suc i) l = each_all P n (λ i. f (suc i)) h.1 i (omega arith)

-- ---- yes is five

both_yes : (u v : Verdict) → (u or_else v) ≡ yes → (u ≡ yes) × (v ≡ yes)
both_yes (Ok tt) v e = (refl, e)
both_yes (Err f) v e = never f.test f.part f.index e

module _ (p : Problem) (s : Pasted) (tol : Float) where
  abbrev V₁ : Verdict
  V₁ = first_failed Stationarity tol (slopes p s)

  abbrev V₂ : Verdict
  V₂ = first_failed Residual tol (equalities p s)

  abbrev V₃ : Verdict
  V₃ = first_failed Violation tol (inequalities p s)

  abbrev V₄ : Verdict
  V₄ = first_failed Sign tol (inequalities p s)

  abbrev V₅ : Verdict
  V₅ = first_failed Product tol (inequalities p s)

  abbrev row₁ : ℕ → Margin
  row₁ i = margin_of Variable i +0 (slope p.n p.m p.factor p.gradient p.jacobian p.lower p.upper s.d s.multipliers s.lowers s.uppers i)

  five-of : verdict p s tol ≡ yes → Five p s tol
  unfolding verdict slopes
  five-of e =
      let e₁ = both_yes V₁ (V₂ or_else V₃ or_else V₄ or_else V₅) e in
      let e₂ = both_yes V₂ (V₃ or_else V₄ or_else V₅) e₁.1 in
      let e₃ = both_yes V₃ (V₄ or_else V₅) e₂.1 in
      let e₄ = both_yes V₄ V₅ e₃.1 in
      record {
        stationary = each_all (Holds Stationarity tol) p.n row₁ (yes-all Stationarity tol (slopes p s) e₁.0);
        residuals = yes-all Residual tol (equalities p s) e₂.0;
        violations = yes-all Violation tol (inequalities p s) e₃.0;
        signs = yes-all Sign tol (inequalities p s) e₄.0;
        products = yes-all Product tol (inequalities p s) e₄.1;
      }

  of-five : Five p s tol → verdict p s tol ≡ yes
  unfolding verdict slopes
  of-five f =
      rw (
        all_yes Stationarity tol (slopes p s) (all-each (Holds Stationarity tol) p.n row₁ f.stationary),
        all_yes Residual tol (equalities p s) f.residuals,
        all_yes Violation tol (inequalities p s) f.violations,
        all_yes Sign tol (inequalities p s) f.signs,
      )
      (all_yes Product tol (inequalities p s) f.products)

pub yes-is-five : YesIsFive
yes-is-five p s tol = (five-of p s tol, of-five p s tol)

-- ---- the first failed

abbrev test_in : Verdict → Test
test_in (Ok tt) = Product
test_in (Err f) = f.test

abbrev part_in : Verdict → Part
part_in (Ok tt) = Variable
part_in (Err f) = f.part

abbrev index_in : Verdict → ℕ
index_in (Ok tt) = 0
index_in (Err f) = f.index

-- of one list
record Stops (t : Test) (tol : Float) (rs : List Margin) (u : Test) (name : Part) (index : ℕ) : Type 0 where
  the-test : t ≡ u
  before : List Margin
  failed : Margin
  others : List Margin
  its_rows : rs ≡ before ++ (failed ∷ others)
  rows_before : All (Holds t tol) before
  fails_there : holds t tol failed.multiplier failed.margin ≡ false
  its_part : failed.part ≡ name
  its_index : failed.index ≡ index

stops : (t : Test) (tol : Float) (rs : List Margin) (u : Test) (name : Part) (index : ℕ) → first_failed t tol rs ≡ fails u name index → Stops t tol rs u name index
unfolding first_failed
stops t tol [] u name index e = never u name index (sym e)
stops t tol (r ∷ rs) u name index e = go (holds t tol r.multiplier r.margin) refl e (stops t tol rs u name index)
  where
    go : (b : Bool) → holds t tol r.multiplier r.margin ≡ b → cond b (first_failed t tol rs) (fails t r.part r.index) ≡ fails u name index
        → (first_failed t tol rs ≡ fails u name index → Stops t tol rs u name index) → Stops t tol (r ∷ rs) u name index
    go true h e k =
        let f = k e in
        record {
          the-test = f.the-test;
          before = r ∷ f.before;
          failed = f.failed;
          others = f.others;
          its_rows = ap (λ (x : List Margin). r ∷ x) f.its_rows;
          rows_before = (h, f.rows_before);
          fails_there = f.fails_there;
          its_part = f.its_part;
          its_index = f.its_index;
        }
    go false h e k = record { the-test = ap test_in e; before = []; failed = r; others = rs; its_rows = refl; rows_before = tt; fails_there = h; its_part = ap part_in e; its_index = ap index_in e }

-- the verdict that failed is the first's, or the first is yes and it is the second's
split : {A : Type 0} (u v : Verdict) (t : Test) (p : Part) (i : ℕ) → (u or_else v) ≡ fails t p i → (u ≡ fails t p i → A) → (u ≡ yes → v ≡ fails t p i → A) → A
split (Ok tt) v t p i e here on = on refl e
split (Err f) v t p i e here on = here e

module _ (p : Problem) (s : Pasted) (tol : Float) (name : Part) (index : ℕ) where
  named : (t u : Test) → Stops t tol (rows_of t p s) u name index → ((w : Test) → test_number w < test_number t → All (Holds w tol) (rows_of w p s)) → FirstFailed p s tol u name index
  named t u z b = go t u z.the-test z b
    where
      go : (t u : Test) → t ≡ u → Stops t tol (rows_of t p s) u name index → ((w : Test) → test_number w < test_number t → All (Holds w tol) (rows_of w p s)) → FirstFailed p s tol u name index
      go t u e z b =
          rw (← e)
          (record { tests_before = b; before = z.before; failed = z.failed; others = z.others; its_rows = z.its_rows; rows_before = z.rows_before; fails_there = z.fails_there; its_part = z.its_part; its_index = z.its_index })

  -- the tests below a number, where those hold that there are
  below-1 : (w : Test) → test_number w < 1 → All (Holds w tol) (rows_of w p s)
  below-1 Stationarity l = absurd (omega arith)
  below-1 Residual l = absurd (omega arith)
  below-1 Violation l = absurd (omega arith)
  below-1 Sign l = absurd (omega arith)
  below-1 Product l = absurd (omega arith)

  below-2 : All (Holds Stationarity tol) (slopes p s) → (w : Test) → test_number w < 2 → All (Holds w tol) (rows_of w p s)
  below-2 a Stationarity l = a
  below-2 a Residual l = absurd (omega arith)
  below-2 a Violation l = absurd (omega arith)
  below-2 a Sign l = absurd (omega arith)
  below-2 a Product l = absurd (omega arith)

  below-3 : All (Holds Stationarity tol) (slopes p s) → All (Holds Residual tol) (equalities p s) → (w : Test) → test_number w < 3 → All (Holds w tol) (rows_of w p s)
  below-3 a b Stationarity l = a
  below-3 a b Residual l = b
  below-3 a b Violation l = absurd (omega arith)
  below-3 a b Sign l = absurd (omega arith)
  below-3 a b Product l = absurd (omega arith)

  below-4 : All (Holds Stationarity tol) (slopes p s) → All (Holds Residual tol) (equalities p s) → All (Holds Violation tol) (inequalities p s) → (w : Test) → test_number w < 4
      → All (Holds w tol) (rows_of w p s)
  below-4 a b c Stationarity l = a
  below-4 a b c Residual l = b
  below-4 a b c Violation l = c
  below-4 a b c Sign l = absurd (omega arith)
  below-4 a b c Product l = absurd (omega arith)

  below-5 : All (Holds Stationarity tol) (slopes p s) → All (Holds Residual tol) (equalities p s) → All (Holds Violation tol) (inequalities p s) → All (Holds Sign tol) (inequalities p s)
      → (w : Test) → test_number w < 5 → All (Holds w tol) (rows_of w p s)
  below-5 a b c d Stationarity l = a
  below-5 a b c d Residual l = b
  below-5 a b c d Violation l = c
  below-5 a b c d Sign l = d
  below-5 a b c d Product l = absurd (omega arith)

  first-of : (u : Test) → verdict p s tol ≡ fails u name index → FirstFailed p s tol u name index
  unfolding verdict
  first-of u e =
      let all₁ = yes-all Stationarity tol (slopes p s) in
      let all₂ = yes-all Residual tol (equalities p s) in
      let all₃ = yes-all Violation tol (inequalities p s) in
      let all₄ = yes-all Sign tol (inequalities p s) in
      let v₁ = first_failed Stationarity tol (slopes p s) in
      let v₂ = first_failed Residual tol (equalities p s) in
      let v₃ = first_failed Violation tol (inequalities p s) in
      let v₄ = first_failed Sign tol (inequalities p s) in
      let v₅ = first_failed Product tol (inequalities p s) in
      split v₁ (v₂ or_else v₃ or_else v₄ or_else v₅) u name index e (λ f. named Stationarity u (stops Stationarity tol (slopes p s) u name index f) below-1)
      (λ h₁ e₁. split v₂ (v₃ or_else v₄ or_else v₅) u name index e₁ (λ f. named Residual u (stops Residual tol (equalities p s) u name index f) (below-2 (all₁ h₁)))
      (λ h₂ e₂. split v₃ (v₄ or_else v₅) u name index e₂ (λ f. named Violation u (stops Violation tol (inequalities p s) u name index f) (below-3 (all₁ h₁) (all₂ h₂)))
      (λ h₃ e₃. split v₄ v₅ u name index e₃ (λ f. named Sign u (stops Sign tol (inequalities p s) u name index f) (below-4 (all₁ h₁) (all₂ h₂) (all₃ h₃)))
      (λ h₄ f. named Product u (stops Product tol (inequalities p s) u name index f) (below-5 (all₁ h₁) (all₂ h₂) (all₃ h₃) (all₄ h₄))))))

pub names-first : NamesFirst
names-first p s tol t name index e = first-of p s tol name index t e
