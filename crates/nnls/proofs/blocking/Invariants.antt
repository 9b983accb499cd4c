-- `blocking`: after j turns the nearest is the blocking one of the first j columns.
use mathlib.Core.Path.{◌≡◌}
use Rattle.workspace.specs.Readings.{vec, nums}
use Rattle.nnls.specs.Nnls.{blocking}
use Rattle.nnls.specs.inner.Work.{obstacle_of}
use Rattle.nnls.proofs.blocking.Given as goal

abbrev pub invariant-loop-j : goal.invariant-loop-j
invariant-loop-j l = obstacle_of l.best ≡ blocking (vec 1206 l.n l.w) (vec 1272 l.n l.w) (nums 0 l.n l.iw) l.j
