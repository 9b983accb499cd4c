-- The problem that shared parts lend. Definitions only.
use Rattle.problem_write.specs.Lent.{Lent, lent_of}
use Rattle.problem_write.specs.declared.bits.ProblemBits.{ProblemBits}

abbrev pub lent_in : ProblemBits → Lent
lent_in p = lent_of p.n p.m p.factor.now p.gradient.now p.kinds.now p.values.now p.widths.now p.jacobian.now p.lower.now p.upper.now
