-- The problem that lent parts make. Definitions only.
use Rattle.std.specs.Prelude.{List, [], Float}
use Rattle.step_rows.specs.Problem.{Problem, problem_of}
use Rattle.step_rows.specs.declared.subproblem.Subproblem.{Subproblem}
use Rattle.step_rows.specs.declared.subproblem.Constraints.{Constraints}

abbrev pub problem_in : Subproblem → Problem
problem_in p = problem_of p.n p.m p.factor.now p.gradient.now p.kinds.now p.values.now p.widths.now p.jacobian.now p.lower.now p.upper.now

-- that of constraints and bounds, whose factor and gradient no row reads
abbrev pub bounded : Constraints → (lower upper : List Float) → Problem
bounded c lower upper = problem_of c.n c.m [] [] c.kinds.now c.values.now c.widths.now c.jacobian.now lower upper
