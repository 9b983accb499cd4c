-- What finding a day's volumes answers and leaves. Definitions only.
use Rattle.std.specs.Prelude.{◌≡◌, List, ℕ, Float}
use Rattle.workspace.specs.Tables.{outcome_of, output}
use Rattle.workspace.specs.Tables.{Outcome}
use Rattle.day_volumes.specs.Found.{found, figures, signs, no_figures, no_signs}

-- From the sheet's tables: the outcome o, and what the two tables hold afterwards, which were blank.
pub record Finds (n m q : ℕ) (z : List ℕ) (f : List Float) (o : Outcome) (figures' : List Float) (signs' : List ℕ) : Type 0 where
  pub the_outcome : o ≡ outcome_of (found n m q z f)
  pub the_figures : figures' ≡ output (found n m q z f) (figures m q f) no_figures
  pub the_signs : signs' ≡ output (found n m q z f) (signs m q f) no_signs
