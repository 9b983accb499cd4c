-- `still_of`: both, only the first, or neither.
use Rattle.workspace.proofs.Readings.{lit-+0}
use Rattle.suspect.proofs.Decisions.{lit-tiny}
use Rattle.suspect.specs.Suspect.{still_of}
use Rattle.suspect.proofs.decide.still_of.Goals as goal

pub returns-then-x-s : goal.returns-then-x-s
unfolding still_of
returns-then-x-s c = rw (rw lit-+0 at c.if-v.true, rw lit-tiny at c.if-x-s.true)

pub returns-then-v : goal.returns-then-v
unfolding still_of
returns-then-v c = rw (rw lit-+0 at c.if-v.true, rw lit-tiny at c.if-x-s.false)

pub returns : goal.returns
unfolding still_of
returns c = rw (rw lit-+0 at c.if-v.false)
