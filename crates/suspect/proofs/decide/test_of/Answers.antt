-- `test_of`: unchecked, or not.
use Rattle.workspace.proofs.Readings.{lit-+0}
use Rattle.suspect.proofs.Decisions.{lit-tiny}
use Rattle.suspect.specs.Suspect.{test_of}
use Rattle.suspect.proofs.decide.test_of.Goals as goal

pub returns-then-h : goal.returns-then-h
unfolding test_of
returns-then-h c = rw (rw lit-tiny at c.if-h.true) lit-+0

pub returns : goal.returns
unfolding test_of
returns c = rw (rw lit-tiny at c.if-h.false, c.sqrt-x.ensures)
