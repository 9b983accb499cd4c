-- `tie_of`: one is unchecked, or the product decides.
use Rattle.suspect.proofs.Decisions.{lit-tiny, lit-tied}
use Rattle.suspect.specs.Suspect.{tie_of}
use Rattle.suspect.proofs.decide.tie_of.Goals as goal

pub returns-then-h : goal.returns-then-h
unfolding tie_of
returns-then-h c = rw (rw lit-tiny at c.if-h.true)

pub returns-then-g : goal.returns-then-g
unfolding tie_of
returns-then-g c = rw (rw lit-tiny at c.if-h.false, rw lit-tiny at c.if-g.true)

pub returns : goal.returns
unfolding tie_of
returns c = rw (rw lit-tiny at c.if-h.false, rw lit-tiny at c.if-g.false, lit-tied)
