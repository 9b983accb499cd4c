-- `square_of`: unchecked, or not.
use Rattle.householder.proofs.Leading.{lit--1}
use Rattle.suspect.proofs.Decisions.{lit-tiny}
use Rattle.suspect.specs.Suspect.{square_of}
use Rattle.suspect.proofs.decide.square_of.Goals as goal

pub returns-then-h : goal.returns-then-h
unfolding square_of
returns-then-h c = rw (rw lit-tiny at c.if-h.true) lit--1

pub returns : goal.returns
unfolding square_of
returns c = rw (rw lit-tiny at c.if-h.false)
