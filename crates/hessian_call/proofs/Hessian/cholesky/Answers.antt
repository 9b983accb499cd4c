-- `cholesky`: the tests in their order, then the factor and the clearing.
use mathlib.Core.Path.{sym, ◌∙◌}
use native.Mathlib.Omega.{arith}
use borrow.Author.Tests.{not-true, not-false}
use Rattle.workspace.proofs.Tests.{dimension-le, room-ge}
use Rattle.hessian.specs.Hessian.{cholesky}
use Rattle.hessian_call.proofs.Calls.{size-refused, length-refused, room-refused, factored, squares-of}
use Rattle.hessian_call.proofs.Hessian.cholesky.Goals as goal

pub is_dimension-requires : goal.is_dimension-requires
is_dimension-requires c = tt

pub returns-then-not-is_dimension : goal.returns-then-not-is_dimension
returns-then-not-is_dimension c = size-refused _ _ _ _ _ _ _ (sym c.is_dimension.ensures ∙ not-true _ c.if-not-is_dimension.true-raw)

pub are_squares-requires : goal.are_squares-requires
are_squares-requires c = dimension-le _ (sym c.is_dimension.ensures ∙ not-false _ c.if-not-is_dimension.false-raw)

pub returns-then-not-are_squares : goal.returns-then-not-are_squares
returns-then-not-are_squares c = length-refused _ _ _ _ _ _ _ (sym c.is_dimension.ensures ∙ not-false _ c.if-not-is_dimension.false-raw) (sym c.are_squares.ensures ∙ not-true _ c.if-not-are_squares.true-raw)

pub is_room-requires : goal.is_room-requires
is_room-requires c = tt

pub returns-then-not-is_room : goal.returns-then-not-is_room
returns-then-not-is_room c = room-refused _ _ _ _ _ _ _ (sym c.is_dimension.ensures ∙ not-false _ c.if-not-is_dimension.false-raw) (sym c.are_squares.ensures ∙ not-false _ c.if-not-are_squares.false-raw) (sym c.is_room.ensures ∙ not-true _ c.if-not-is_room.true-raw)

pub cholesky_all-requires : goal.cholesky_all-requires
cholesky_all-requires c = let a = c.args in
    let s = squares-of a.n _ _ (sym c.are_squares.ensures ∙ not-false _ c.if-not-are_squares.false-raw) in
    let r = room-ge a.w.now a.iw.now
    (sym c.is_room.ensures ∙ not-false _ c.if-not-is_room.false-raw) in
    (dimension-le _ (sym c.is_dimension.ensures ∙ not-false _ c.if-not-is_dimension.false-raw), s.0, s.1, r.0, r.1)

pub shape_of-out : goal.shape_of-out
shape_of-out c = omega arith

pub shape_of-w : goal.shape_of-w
shape_of-w c = omega arith

pub shape_of-iw : goal.shape_of-iw
shape_of-iw c = omega arith

pub returns : goal.returns
returns c = let a = c.args in
    let k = c.cholesky_all in
    factored _ _ _ (cholesky a.n a.b.now) k.result a.out.now _ a.w.now _ a.iw.now _ (sym c.is_dimension.ensures ∙ not-false _ c.if-not-is_dimension.false-raw)
    (sym c.are_squares.ensures ∙ not-false _ c.if-not-are_squares.false-raw)
    (sym c.is_room.ensures ∙ not-false _ c.if-not-is_room.false-raw)
    k.ensures
