-- The problem and the pasted values that lent parts make. Definitions only.
use Rattle.step_rows.specs.Problem.{Problem}
use Rattle.step_rows.specs.Lent as rows
use Rattle.step_check.specs.Check.{Pasted, pasted_of}
use Rattle.step_check.specs.declared.posed.Posed.{Posed}

abbrev pub problem_in : Posed → Problem
problem_in s = rows.problem_in s.problem

abbrev pub pasted_in : Posed → Pasted
pasted_in s = pasted_of s.d.now s.multipliers.now s.lowers.now s.uppers.now
