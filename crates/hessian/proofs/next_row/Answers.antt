-- `next_row`: row i before the diagonal, then its pivot.
use mathlib.Core.Path.{sym, ◌∙◌}
use borrow.Author.Tests.{not-true, not-false}
use Rattle.numbers.proofs.Lists.{index-lt}
use Rattle.hessian.proofs.Turns.{row-bad, row-good}
use lib.ListN.{length-set}
use native.Mathlib.Omega.{arith}
use Rattle.hessian.proofs.next_row.Goals as goal

pub with_row-requires : goal.with_row-requires
with_row-requires c = omega arith

pub remainder_of-p-requires : goal.remainder_of-p-requires
remainder_of-p-requires c = omega arith

pub is_pivot-requires : goal.is_pivot-requires
is_pivot-requires c = omega arith

pub shape_of-l-then-not-is_pivot : goal.shape_of-l-then-not-is_pivot
shape_of-l-then-not-is_pivot c = omega arith

pub returns-then-not-is_pivot : goal.returns-then-not-is_pivot
returns-then-not-is_pivot c = let a = c.args in
    row-bad a.n a.b.now a.i a.l.now _ a.l.now _ c.with_row.ensures c.remainder_of-p.ensures (sym c.is_pivot.ensures ∙ not-true _ c.if-not-is_pivot.true-raw)

pub sqrt-requires : goal.sqrt-requires
sqrt-requires c = omega arith

pub overflow_mul-l : goal.overflow_mul-l
overflow_mul-l c = (let a = c.args in omega (arith, index-lt a.n a.n a.i a.i (omega arith) (omega arith)))

pub overflow_add-l : goal.overflow_add-l
overflow_add-l c = (let a = c.args in omega (arith, index-lt a.n a.n a.i a.i (omega arith) (omega arith)))

pub offset_bounds-l-i : goal.offset_bounds-l-i
offset_bounds-l-i c = (let a = c.args in omega (arith, index-lt a.n a.n a.i a.i (omega arith) (omega arith)))

pub bounds-l-i : goal.bounds-l-i
bounds-l-i c = (let a = c.args in omega (arith, index-lt a.n a.n a.i a.i (omega arith) (omega arith)))

pub shape_of-l : goal.shape_of-l
shape_of-l c = simp length-set (omega arith)

pub returns : goal.returns
returns c = let a = c.args in
    row-good a.n a.b.now a.i a.l.now _ _ _ c.with_row.ensures c.remainder_of-p.ensures (sym c.is_pivot.ensures ∙ not-false _ c.if-not-is_pivot.false-raw) c.sqrt.ensures
