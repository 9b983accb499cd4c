-- `are_lengths`: the tests in their order.
use mathlib.Core.Path.{sym, ◌∙◌}
use borrow.Author.Tests.{eq-eqb, ne_eqb, not-true, not-false}
use Rattle.hessian_packed_call.proofs.are_lengths.Goals as goal

pub is_triangle-requires : goal.is_triangle-requires
is_triangle-requires c = c.requires

pub returns-then-not-is_triangle : goal.returns-then-not-is_triangle
returns-then-not-is_triangle c = rw (sym c.is_triangle.ensures ∙ not-true _ c.if-not-is_triangle.true-raw)

pub returns-then-sn-n : goal.returns-then-sn-n
returns-then-sn-n c = rw (sym c.is_triangle.ensures ∙ not-false _ c.if-not-is_triangle.false-raw, ne_eqb _ _ c.if-sn-n.true)

pub returns : goal.returns
returns c = rw (sym c.is_triangle.ensures ∙ not-false _ c.if-not-is_triangle.false-raw, eq-eqb _ _ c.if-sn-n.false)
