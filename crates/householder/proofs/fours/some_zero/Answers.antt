-- `some_zero` asks each of them.
use mathlib.Core.Bool.{false≢true}
use mathlib.Core.Path.{sym}
use Rattle.householder.proofs.fours.some_zero.Goals as goal

pub returns-then-s : goal.returns-then-s
returns-then-s c = λ e. absurd (false≢true (sym e))

pub returns-then-s-2 : goal.returns-then-s-2
returns-then-s-2 c = λ e. absurd (false≢true (sym e))

pub returns-then-s-3 : goal.returns-then-s-3
returns-then-s-3 c = λ e. absurd (false≢true (sym e))

pub returns : goal.returns
returns c = λ e. record { a = c.if-s.false; b = c.if-s-2.false; c = c.if-s-3.false; d = e }
