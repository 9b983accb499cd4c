-- `mark_of`: unchecked, tied, near, or none of these.
use Rattle.suspect.proofs.Decisions.{lit-tiny, lit-six}
use Rattle.suspect.specs.Suspect.{mark_of}
use Rattle.suspect.proofs.decide.mark_of.Goals as goal

pub returns-then-h : goal.returns-then-h
unfolding mark_of
returns-then-h c = rw (rw lit-tiny at c.if-h.true)

pub returns-then-tied : goal.returns-then-tied
unfolding mark_of
returns-then-tied c = rw (rw lit-tiny at c.if-h.false, c.if-tied.true)

pub returns-then-square-s : goal.returns-then-square-s
unfolding mark_of
returns-then-square-s c = rw (rw lit-tiny at c.if-h.false, c.if-tied.false, rw (lit-six, c.square_of-s.ensures) at c.if-square-s.true)

pub returns : goal.returns
unfolding mark_of
returns c = rw (rw lit-tiny at c.if-h.false, c.if-tied.false, rw (lit-six, c.square_of-s.ensures) at c.if-square-s.false)
