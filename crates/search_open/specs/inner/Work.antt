-- What opening a turn leaves and tells: it serves the contracts of inner functions alone. Definitions only.
use Rattle.std.specs.Prelude.{ℕ, ◌≡◌, List, [], ◌∷◌, Float}
use Rattle.numbers.specs.Numbers.{one, dot, ◌⊖◌, ◌⊗◌}
use Rattle.workspace.specs.Tables.{Answer, done, refused}
use Rattle.hessian.specs.Hessian.{identity}
use Rattle.step.specs.Step.{Step}
use Rattle.search.specs.Places.{SEARCH_B, SEARCH_FRESH}
use Rattle.search.specs.Setup.{converged, infeasible}
use Rattle.search.specs.Turn.{Iterate, Line, Opened, stop, go}
use Rattle.search.specs.Layout.{laid}
use Rattle.search.specs.inner.Work.{opened_floats, opened_words}
use Rattle.search_open.specs.declared.Opening.{Opening}
use Rattle.search_open.specs.declared.Opening.TheVariants.{Go, Converged, Infeasible}

-- ---- the factor

-- what an attempt to factor B leaves: where B has no factor it is the identity, fresh, and its own factor
abbrev pub factor_of : ℕ → Answer (List Float) → List Float
factor_of n (done l) = l
factor_of n (refused k) = identity n

abbrev pub factored_floats : ℕ → Answer (List Float) → List Float → List Float
factored_floats n (done l) f = f
factored_floats n (refused k) f = laid SEARCH_B (identity n) f

abbrev pub factored_words : Answer (List Float) → List ℕ → List ℕ
factored_words (done l) u = u
factored_words (refused k) u = laid SEARCH_FRESH (1 ∷ []) u

pub record Factors (n : ℕ) (a : Answer (List Float)) (f f' : List Float) (u u' : List ℕ) (l : List Float) : Type 0 where
  pub floats : f' ≡ factored_floats n a f
  pub words : u' ≡ factored_words a u
  pub factor : l ≡ factor_of n a

-- ---- the step

abbrev pub step_of : (d multipliers : List Float) → (relaxation : Float) → Step
step_of d multipliers t = record { d = d; multipliers = multipliers; relaxation = t }

-- ---- what is opened

-- an opening with its iterate, and the line that there is where the run goes on
abbrev pub opened_by : Opening → Iterate → Line → Opened
opened_by Go s line = go s line
opened_by Converged s line = stop converged s
opened_by Infeasible s line = stop infeasible s

-- a turn opens as o says: r tells it, and the slices hold it
pub record Opens (r : Opening) (o : Opened) (f f' : List Float) (u u' : List ℕ) : Type 0 where
  pub iterate : Iterate
  pub line : Line
  pub opening : o ≡ opened_by r iterate line
  pub floats : f' ≡ opened_floats o f
  pub words : u' ≡ opened_words o u

-- the merit's slope along d, which relaxes by t, for slopes g, penalties s and violations v
unfoldable pub slope_of : (n m : ℕ) → (g d : List Float) → (t : Float) → (s v : List Float) → Float
slope_of n m g d t s v = dot n g d ⊖ (one ⊖ t) ⊗ dot m s v
