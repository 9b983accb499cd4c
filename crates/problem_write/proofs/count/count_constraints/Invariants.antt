-- `count_constraints`: before each turn the kinds so far are counted.
use mathlib.Core.Path.{◌≡◌}
use Rattle.problem_write.specs.inner.Work.{records_of_kinds}
use Rattle.problem_write.proofs.count.count_constraints.Given as goal

abbrev pub invariant-loop-kind : goal.invariant-loop-kind
invariant-loop-kind l = l.total ≡ records_of_kinds l.kind-index l.kinds
