-- `push_row_negated`: a copied row negated, and its side.
use native.Mathlib.Omega.{arith}
use Rattle.step_rows.proofs.Coefficients.{negated-is}
use Rattle.step_rows.proofs.Pushing.{pushed_row}
use Rattle.step_rows.proofs.push_row_negated.Goals as goal

pub returns : goal.returns
returns c = let a = c.args in
    pushed_row _ _ _ _ _ _ _ _ (omega arith) (omega arith) (negated-is a.n a.j a.a.now) c.copy_negated.ensures
