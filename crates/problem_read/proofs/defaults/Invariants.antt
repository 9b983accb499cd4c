-- `defaults`: after i turns the first i places hold their defaults.
use Rattle.numbers.proofs.Fills.{Fill}
use Rattle.problem_read.specs.inner.Spots.{default_at}
use Rattle.problem_read.proofs.defaults.Given as goal

abbrev pub invariant-loop-i : goal.invariant-loop-i
invariant-loop-i l = Fill l.i (default_at l.n) l.initial.vals l.vals
