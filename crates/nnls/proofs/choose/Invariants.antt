-- `choose`: after j turns the candidate stands for the best of the first j columns.
use Rattle.workspace.specs.Readings.{vec, nums}
use Rattle.nnls.proofs.Choosing.{Stands}
use Rattle.nnls.proofs.choose.Given as goal

abbrev pub invariant-loop-j : goal.invariant-loop-j
invariant-loop-j l = Stands (vec 1338 l.n l.w) (nums 0 l.n l.iw) (nums 66 l.n l.iw) l.j l.best
