-- `load_kinds`: after i turns i kinds are written.
use Rattle.workspace.specs.Readings.{Span}
use Rattle.problem_read.specs.Tables.{kind_at}
use Rattle.problem_read.proofs.tables.load_kinds.Given as goal

abbrev pub invariant-loop-i : goal.invariant-loop-i
invariant-loop-i l = Span 0 l.i (kind_at l.marks) l.initial.kinds l.kinds
