-- `push_wide`: a copied row, one coefficient more, and the side.
use native.Mathlib.Omega.{arith}
use Rattle.step_rows.proofs.Coefficients.{row_is}
use Rattle.step_rows.proofs.Pushing.{pushed-wide}
use Rattle.step_rows.proofs.push_wide.Goals as goal

pub copy_strided-requires : goal.copy_strided-requires
copy_strided-requires c = (λ t h. omega arith, omega arith)

pub returns : goal.returns
returns c = let a = c.args in
    pushed-wide _ _ _ _ _ _ _ _ _ (omega arith) (omega arith) (row_is a.n a.j a.a.now) c.copy_strided.ensures
