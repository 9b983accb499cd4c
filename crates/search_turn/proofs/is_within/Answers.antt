use native.Mathlib.Omega.{arith}
use Rattle.search_turn.proofs.Floats.{both_below, not-both}
use Rattle.search_turn.proofs.is_within.Goals as goal

pub bounds-f-0 : goal.bounds-f-0
bounds-f-0 c = omega arith

pub bounds-f-0-then-change-f : goal.bounds-f-0-then-change-f
bounds-f-0-then-change-f c = omega arith

pub returns-then-change-f : goal.returns-then-change-f
returns-then-change-f c = both_below _ _ _ _ c.if-change-f.true (c.max_violation_of.ensures _)

pub returns : goal.returns
returns c = not-both _ _ c.if-change-f.false
