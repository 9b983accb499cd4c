-- `max_violation_of`: after j turns the largest of the first j is known.
use mathlib.Core.Path.{◌≡◌}
use mathlib.Core.List.{List}
use Prim.Native.Nat.{◌-◌, ◌≤◌}
use lib.Ieee.{Float}
use Rattle.search.specs.Turn.{violations, largest}
use Rattle.search.specs.Layout.{setup_in}
use Rattle.search_turn.proofs.max_violation_of.Given as goal

abbrev pub invariant-loop-j : goal.invariant-loop-j
invariant-loop-j l = (l.j ≤ l.m) × ((f : List Float) → l.most ≡ largest l.j (violations (setup_in f l.u) l.v))

abbrev pub decreases-loop-j : goal.decreases-loop-j
decreases-loop-j l = l.m - l.j
