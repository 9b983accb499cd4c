-- `identity`: the tests in their order, then the answer and the clearing.
use mathlib.Core.Path.{sym, ◌∙◌}
use native.Mathlib.Omega.{arith}
use borrow.Author.Tests.{not-true, not-false}
use Rattle.workspace.proofs.Tests.{dimension-le, has-length, room-ge}
use Rattle.hessian_call.proofs.Calls.{size-refused, length-refused, room-refused, made}
use Rattle.hessian_packed.specs.Packed.{count}
use Rattle.hessian_packed_call.proofs.Packed.identity.Goals as goal

pub is_dimension-requires : goal.is_dimension-requires
is_dimension-requires c = tt

pub returns-then-not-is_dimension : goal.returns-then-not-is_dimension
returns-then-not-is_dimension c = size-refused _ _ _ _ _ _ _ (sym c.is_dimension.ensures ∙ not-true _ c.if-not-is_dimension.true-raw)

pub is_triangle-requires : goal.is_triangle-requires
is_triangle-requires c = dimension-le _ (sym c.is_dimension.ensures ∙ not-false _ c.if-not-is_dimension.false-raw)

pub returns-then-not-is_triangle : goal.returns-then-not-is_triangle
returns-then-not-is_triangle c = length-refused _ _ _ _ _ _ _ (sym c.is_dimension.ensures ∙ not-false _ c.if-not-is_dimension.false-raw) (sym c.is_triangle.ensures ∙ not-true _ c.if-not-is_triangle.true-raw)

pub is_room-requires : goal.is_room-requires
is_room-requires c = tt

pub returns-then-not-is_room : goal.returns-then-not-is_room
returns-then-not-is_room c = room-refused _ _ _ _ _ _ _ (sym c.is_dimension.ensures ∙ not-false _ c.if-not-is_dimension.false-raw) (sym c.is_triangle.ensures ∙ not-false _ c.if-not-is_triangle.false-raw) (sym c.is_room.ensures ∙ not-true _ c.if-not-is_room.true-raw)

pub identity_all-requires : goal.identity_all-requires
identity_all-requires c = let a = c.args in
    let r = room-ge a.w.now a.iw.now
    (sym c.is_room.ensures ∙ not-false _ c.if-not-is_room.false-raw) in
    (dimension-le _ (sym c.is_dimension.ensures ∙ not-false _ c.if-not-is_dimension.false-raw), has-length a.out.now (count a.n) (sym c.is_triangle.ensures ∙ not-false _ c.if-not-is_triangle.false-raw), r.0, r.1)

pub shape_of-out : goal.shape_of-out
shape_of-out c = omega arith

pub shape_of-w : goal.shape_of-w
shape_of-w c = omega arith

pub shape_of-iw : goal.shape_of-iw
shape_of-iw c = omega arith

pub returns : goal.returns
returns c = made _ _ _ _ _ _ _ _ _ _ (sym c.is_dimension.ensures ∙ not-false _ c.if-not-is_dimension.false-raw)
    (sym c.is_triangle.ensures ∙ not-false _ c.if-not-is_triangle.false-raw)
    (sym c.is_room.ensures ∙ not-false _ c.if-not-is_room.false-raw)
    c.identity_all.ensures.0 c.identity_all.ensures.1
