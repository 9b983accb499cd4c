-- What an attempt to factor B leaves, and what is read of it.
use Prim.Native.Nat.{ℕ, suc, ◌+◌, ◌-◌, ◌*◌, ◌≤◌}
use mathlib.Core.Path.{◌≡◌, refl, sym, ap, ◌∙◌}
use mathlib.Core.List.{List, [], ◌∷◌}
use mathlib.Core.Bool.{Bool, true}
use native.Mathlib.Omega.{arith}
use lib.Dec.{eqb}
use lib.ListN.{length, take, drop}
use lib.Ieee.{Float, nan}
use Rattle.numbers.specs.Numbers.{at, nth}
use Rattle.workspace.specs.Tables.{Answer, done, refused}
use Rattle.workspace.specs.Tables.{Outcome}
use Rattle.std.specs.Prelude.{Ok, Err}
use Rattle.workspace.specs.declared.Refusal.{Refusal}
use Rattle.workspace.specs.Readings.{vec, nums}
use Rattle.hessian.specs.Hessian.{identity, cholesky}
use Rattle.hessian.specs.inner.Work.{FactorMade}
use Rattle.hessian.proofs.Lengths.{length-identity}
use Rattle.search.specs.Setup.{are_kinds}
use Rattle.search.specs.Turn.{reset}
use Rattle.search.specs.Layout.{bit, setup_in, iterate_in, laid}
use Rattle.search.specs.inner.Work.{Ready, fresh_words}
use Rattle.search.proofs.Laying.{length-laid, laid_in, laid-below, laid-above, vec-below, vec_here, nums-above}
use Rattle.search.proofs.Lent.{part_length, part-vec}
use Rattle.search.proofs.Layouts.{bounds, bit-few}
use Rattle.search_open.specs.inner.Work.{Factors}

-- ---- what was made

never : {A : Type 0} (o : Outcome) (k : Refusal) → o ≡ Ok tt → o ≡ Err k → A
never o k p q = let z : ◌≡◌ {A = ℕ} 0 1 = cc in absurd (let y : ⊥ = omega arith in y)

pub made-whole : (n : ℕ) (a : Answer (List Float)) (o : Outcome) (f : List Float) (u : List ℕ) (l l' : List Float) → FactorMade a o l l' → o ≡ Ok tt → Factors n a f f u u l'
made-whole n (done v) o f u l l' h e = record { floats = refl; words = refl; factor = h.the_output }
made-whole n (refused k) o f u l l' h e = never o k e h.the_outcome

pub made_none : (n : ℕ) (a : Answer (List Float)) (o : Outcome) (k : Refusal) (f f' : List Float) (u u' : List ℕ) (l l' l'' : List Float) → FactorMade a o l l' → o ≡ Err k
    → f' ≡ laid 720 (identity n) f → u' ≡ laid 3 (1 ∷ []) u → l'' ≡ identity n → Factors n a f f' u u' l''
made_none n (done v) o k f f' u u' l l' l'' h e p q r = never o k h.the_outcome e
made_none n (refused j) o k f f' u u' l l' l'' h e p q r = record { floats = p; words = q; factor = r }

pub factors-as : (n : ℕ) (a a' : Answer (List Float)) (f f' : List Float) (u u' : List ℕ) (l : List Float) → a ≡ a' → Factors n a f f' u u' l → Factors n a' f f' u u' l
factors-as n a a' f f' u u' l e h = rw e at h

-- B where it stands in the slice
module _ (n : ℕ) (f : List Float) (few : n ≤ 16) (z : length f ≡ 1024) where
  pub b-fits : 720 + n * n ≤ length f
  b-fits = let b = bounds n 0 few (omega arith) in omega arith

  pub b-length : length (take (720 + n * n - 720) (drop 720 f)) ≡ n * n
  b-length = part_length 720 (n * n) (720 + n * n - 720) f (omega arith) b-fits

  pub b-vec : cholesky n (take (720 + n * n - 720) (drop 720 f)) ≡ cholesky n (vec 720 (n * n) f)
  b-vec = ap (cholesky n) (part-vec 720 (n * n) (720 + n * n - 720) f (omega arith) b-fits)

-- ---- what is read then

module _ (n m : ℕ) (f : List Float) (u : List ℕ) (h : Ready n m f u) where
  high : (t : Bool) (x : ℕ) → 4 ≤ x → nth (fresh_words t u) x ≡ nth u x
  high t x l = laid-above 3 (bit t ∷ []) u x 0 l

  pub fresh-word : (t : Bool) → nth (fresh_words t u) 3 ≡ bit t
  fresh-word t = laid_in 3 (bit t ∷ []) u 0 0 (omega arith) (let y = h.words in omega arith)

  -- a slice g with the word that says whether B is fresh
  pub ready_words : (t : Bool) (g : List Float) → length g ≡ 1024 → Ready n m g (fresh_words t u)
  ready_words t g z = record {
    floats = z;
    words = length-laid 3 (bit t ∷ []) u ∙ h.words;
    some = h.some;
    few = h.few;
    constraints = h.constraints;
    variables = high t 8 (omega arith) ∙ h.variables;
    functions = high t 9 (omega arith) ∙ h.functions;
    kinds = ap are_kinds (nums-above 16 m 3 (bit t ∷ []) u (omega arith)) ∙ h.kinds;
    fresh = let a = fresh-word t in let b = bit-few t in omega arith;
  }

  pub setup-words : (t : Bool) (g : List Float) → vec 16 n g ≡ vec 16 n f → vec 32 n g ≡ vec 32 n f → at g 0 ≡ at f 0 → setup_in g (fresh_words t u) ≡ setup_in f u
  setup-words t g lower upper ftol =
      let a = high t 8 (omega arith) in
      let b = high t 9 (omega arith) in
      let c = high t 10 (omega arith) in
      let e = h.variables in
      let kinds : nums 16 (nth u 9) (fresh_words t u) ≡ nums 16 (nth u 9) u = nums-above 16 (nth u 9) 3 (bit t ∷ []) u (omega arith) in
      rw (a, b, c, kinds, e, lower, upper, ftol) refl

  -- B reset
  abbrev F : List Float
  F = laid 720 (identity n) f

  below : (o k : ℕ) → o + k ≤ 720 → vec o k F ≡ vec o k f
  below o k l = vec-below o k 720 (identity n) f l

  pub reset-ready : Ready n m F (fresh_words true u)
  reset-ready = ready_words true F (length-laid 720 (identity n) f ∙ h.floats)

  pub reset-setup : setup_in F (fresh_words true u) ≡ setup_in f u
  reset-setup = let few = h.few in setup-words true F (below 16 n (omega arith)) (below 32 n (omega arith)) (laid-below 720 (identity n) f 0 nan (omega arith))

  pub reset-iterate : iterate_in n m F (fresh_words true u) ≡ reset (setup_in f u) (iterate_in n m f u)
  reset-iterate =
      let few = h.few in
      let less = h.constraints in
      let size = bounds n m few less in
      let z = h.floats in
      let x = below 48 n (omega arith) in
      let v = below 128 (suc m) (omega arith) in
      let g = below 176 (suc m * n) (omega arith) in
      let b : vec 720 (n * n) F ≡ identity n = vec_here 720 (n * n) (identity n) f (length-identity n) (omega arith) in
      let p = below 80 m (omega arith) in
      let l = below 96 m (omega arith) in
      let t = fresh-word true in
      let k : identity n ≡ identity (nth u 8) = ap identity (sym h.variables) in
      λ i. record { point = record { x = x i; values = v i }; slopes = g i; b = (b ∙ k) i; fresh = eqb (t i) 1; penalty = p i; multipliers = l i }
