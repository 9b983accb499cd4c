-- `are_finite`: the numbers that are left decide.
use mathlib.Core.Path.{◌≡◌}
use lib.ListN.{drop}
use Rattle.search.specs.Setup.{are_finite}
use Rattle.search_turn.proofs.are_finite.Given as goal

abbrev pub invariant-loop-x : goal.invariant-loop-x
invariant-loop-x l = are_finite l.v ≡ are_finite (drop l.x-index l.v)
