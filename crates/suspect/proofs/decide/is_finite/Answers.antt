-- `is_finite`: each way out by its tests.
use Rattle.suspect.proofs.Decisions.{finite-above, finite-not}
use Rattle.suspect.proofs.decide.is_finite.Goals as goal

pub returns-then-x : goal.returns-then-x
returns-then-x c = finite-above _ c.if-x.true

pub returns-else-x : goal.returns-else-x
returns-else-x c = finite-not _ c.if-x.false
