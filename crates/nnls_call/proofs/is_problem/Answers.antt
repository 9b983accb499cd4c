-- `is_problem`, each way out by its test.
use mathlib.Core.Path.{sym, ◌∙◌}
use native.Mathlib.Omega.{arith}
use Rattle.workspace.proofs.Tests.{matrix-le}
use Rattle.nnls_call.proofs.is_problem.Goals as goal

pub returns-then-not-is_matrix : goal.returns-then-not-is_matrix
returns-then-not-is_matrix c = rw (sym c.is_matrix.ensures ∙ c.if-not-is_matrix.true)

pub overflow_mul-result : goal.overflow_mul-result
overflow_mul-result c = omega (arith, (matrix-le c.args.m c.args.n (sym c.is_matrix.ensures ∙ c.if-not-is_matrix.false)).1)

pub returns : goal.returns
returns c = rw (sym c.is_matrix.ensures ∙ c.if-not-is_matrix.false)
