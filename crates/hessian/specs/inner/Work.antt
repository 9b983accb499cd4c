-- What the inner functions are handed and tell. Definitions only.
use Rattle.std.specs.Prelude.{◌≡◌, Bool, true, false, List, Float}
use Rattle.workspace.specs.Tables.{Answer, done, bad_pivot, outcome_of, is_cleared, output}
use Rattle.workspace.specs.Tables.{Outcome}

-- Cholesky's answer, from whether all pivots were good and what stands in L's place then
abbrev pub made_of : Bool → List Float → Answer (List Float)
made_of true l = done l
made_of false l = bad_pivot

-- L in the output, where all pivots were good
pub record FactorMade (a : Answer (List Float)) (o : Outcome) (out out' : List Float) : Type 0 where
  pub the_outcome : o ≡ outcome_of a
  pub the_clearing : is_cleared a ≡ true
  pub the_output : out' ≡ output a (λ v. v) out
