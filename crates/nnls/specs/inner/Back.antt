-- The columns that a pass turns back together: with any of them there are more passive columns than rows. Definitions only.
use Rattle.std.specs.Prelude.{◌≡◌, Bool, not, cond, ◌&&◌, List, ℕ, zero, suc, ◌+◌, eqb, Float}
use Rattle.numbers.specs.Numbers.{at, nth}
use Rattle.workspace.specs.Readings.{Span}
use Rattle.nnls.specs.Nnls.{above0}
use Rattle.nnls_passive.specs.inner.Places.{NNLS_DUAL, NNLS_REJECTED}

-- a column whose dual is v and whose marks are p and rej may be tried: `may_try`, of the column's own numbers
abbrev pub open_to : (v : Float) (p rej : ℕ) → Bool
open_to v p rej = not (not (eqb p 0)) && (not (not (eqb rej 0)) && above0 v)

-- column j of the workspaces
abbrev pub open_at : List Float → List ℕ → ℕ → Bool
open_at w l j = open_to (at w (NNLS_DUAL + j)) (nth l j) (nth l (NNLS_REJECTED + j))

-- how many of the first n may be tried
unfoldable pub open_of : ℕ → List Float → List ℕ → ℕ
open_of zero w l = 0
open_of (suc j) w l = open_of j w l + cond (open_at w l j) 1 0

-- the first j columns, of which c might be tried, are turned back
pub record TurnedBack (j c : ℕ) (w : List Float) (l l' : List ℕ) : Type 0 where
  pub counted : c ≡ open_of j w l
  pub marks : Span NNLS_REJECTED j (λ i. cond (open_at w l i) 1 (nth l (NNLS_REJECTED + i))) l l'
