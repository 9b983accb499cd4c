-- `are_matrices`: the tests in their order.
use mathlib.Core.Path.{sym, ◌∙◌}
use native.Mathlib.Omega.{arith}
use borrow.Author.Tests.{not-true, not-false}
use Rattle.hessian_packed.proofs.Triangles.{square-small}
use Rattle.hessian_packed_call.proofs.are_matrices.Goals as goal

pub is_triangle-requires : goal.is_triangle-requires
is_triangle-requires c = c.requires

pub returns-then-not-is_triangle : goal.returns-then-not-is_triangle
returns-then-not-is_triangle c = rw (sym c.is_triangle.ensures ∙ not-true _ c.if-not-is_triangle.true-raw)

pub overflow_mul-result : goal.overflow_mul-result
overflow_mul-result c = omega (arith, square-small c.args.n (omega arith))

pub returns : goal.returns
returns c = rw (sym c.is_triangle.ensures ∙ not-false _ c.if-not-is_triangle.false-raw)
