-- `ranks_before`, each way out by its tests.
use Rattle.nnls.proofs.Blockers.{ranks-nan, ranks-over-nan, ranks-numbers}
use Rattle.nnls.proofs.ranks_before.Goals as goal

pub returns-then-r : goal.returns-then-r
returns-then-r c = ranks-nan _ _ c.if-r.true

pub returns-then-s : goal.returns-then-s
returns-then-s c = ranks-over-nan _ _ c.if-r.false c.if-s.true

pub returns : goal.returns
returns c = ranks-numbers _ _ c.if-r.false c.if-s.false
