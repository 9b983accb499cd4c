-- `are_kinds`: the kinds that are left decide.
use mathlib.Core.Path.{◌≡◌}
use lib.ListN.{drop}
use Rattle.search.specs.Setup.{are_kinds}
use Rattle.search_call.proofs.arguments.are_kinds.Given as goal

abbrev pub invariant-loop-kind : goal.invariant-loop-kind
invariant-loop-kind l = are_kinds l.kinds ≡ are_kinds (drop l.kind-index l.kinds)
