use Rattle.interval.proofs.Answers.{ends, plus-first, plus-second, plus-both}
use mathlib.Core.Path.{ap₂}
use Rattle.interval.proofs.Interval.add.Goals as goal

pub returns-then-are_zero : goal.returns-then-are_zero
returns-then-are_zero c = plus-first _ _ _ c.are_zero.ensures c.if-are_zero.true

pub returns-then-are_zero-2 : goal.returns-then-are_zero-2
returns-then-are_zero-2 c = plus-second _ _ _ _ c.are_zero.ensures c.if-are_zero.false c.are_zero-2.ensures c.if-are_zero-2.true

pub returns : goal.returns
returns c = plus-both _ _ _ _ _ c.are_zero.ensures c.if-are_zero.false c.are_zero-2.ensures c.if-are_zero-2.false (ap₂ ends c.add_down.ensures c.add_up.ensures)
