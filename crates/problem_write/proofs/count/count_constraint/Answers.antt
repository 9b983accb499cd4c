-- `count_constraint`: by the kind.
use Rattle.problem_write.proofs.Rows.{one-record, two_records}
use Rattle.problem_write.proofs.count.count_constraint.Goals as goal

pub returns-then-kind-lt2 : goal.returns-then-kind-lt2
returns-then-kind-lt2 c = one-record _ c.if-kind-lt2.true

pub returns-else-kind-lt2 : goal.returns-else-kind-lt2
returns-else-kind-lt2 c = two_records _ c.if-kind-lt2.false
