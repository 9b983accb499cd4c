-- What serves the contract of one inner function. Definitions only.
use Rattle.std.specs.Prelude.{List, Float}
use Rattle.step_check.specs.declared.Test.TheVariants.{Violation, Sign, Product}
use Rattle.step_check.specs.Check.{Margin, Verdict, first_failed, ◌or_else◌}

-- the last three tests, on one list of rows
abbrev pub last_three : (tolerance : Float) → List Margin → Verdict
last_three tol rs = first_failed Violation tol rs or_else first_failed Sign tol rs or_else first_failed Product tol rs
