-- `times`: the tests in their order, then the product and the clearing.
use mathlib.Core.Path.{sym, ◌∙◌}
use native.Mathlib.Omega.{arith}
use borrow.Author.Tests.{not-true, not-false}
use Rattle.workspace.proofs.Tests.{dimension-le, room-ge}
use Rattle.hessian_call.proofs.Calls.{size-refused, length-refused, room-refused, made, ready}
use Rattle.hessian_call.proofs.Hessian.times.Goals as goal

pub is_dimension-requires : goal.is_dimension-requires
is_dimension-requires c = tt

pub returns-then-not-is_dimension : goal.returns-then-not-is_dimension
returns-then-not-is_dimension c = size-refused _ _ _ _ _ _ _ (sym c.is_dimension.ensures ∙ not-true _ c.if-not-is_dimension.true-raw)

pub are_lengths-requires : goal.are_lengths-requires
are_lengths-requires c = dimension-le _ (sym c.is_dimension.ensures ∙ not-false _ c.if-not-is_dimension.false-raw)

pub returns-then-not-are_lengths : goal.returns-then-not-are_lengths
returns-then-not-are_lengths c = length-refused _ _ _ _ _ _ _ (sym c.is_dimension.ensures ∙ not-false _ c.if-not-is_dimension.false-raw) (sym c.are_lengths.ensures ∙ not-true _ c.if-not-are_lengths.true-raw)

pub is_room-requires : goal.is_room-requires
is_room-requires c = tt

pub returns-then-not-is_room : goal.returns-then-not-is_room
returns-then-not-is_room c = room-refused _ _ _ _ _ _ _ (sym c.is_dimension.ensures ∙ not-false _ c.if-not-is_dimension.false-raw) (sym c.are_lengths.ensures ∙ not-false _ c.if-not-are_lengths.false-raw) (sym c.is_room.ensures ∙ not-true _ c.if-not-is_room.true-raw)

pub times_into-requires : goal.times_into-requires
times_into-requires c = let a = c.args in
    let r = ready a.n a.b.now a.v.now a.out.now a.w.now a.iw.now
    (sym c.is_dimension.ensures ∙ not-false _ c.if-not-is_dimension.false-raw)
    (sym c.are_lengths.ensures ∙ not-false _ c.if-not-are_lengths.false-raw)
    (sym c.is_room.ensures ∙ not-false _ c.if-not-is_room.false-raw) in
    (omega (arith, r.square), r.step, r.change)

pub clear-requires : goal.clear-requires
clear-requires c = let a = c.args in
    room-ge a.w.now a.iw.now
    (sym c.is_room.ensures ∙ not-false _ c.if-not-is_room.false-raw)

pub shape_of-out : goal.shape_of-out
shape_of-out c = omega arith

pub shape_of-w : goal.shape_of-w
shape_of-w c = omega arith

pub shape_of-iw : goal.shape_of-iw
shape_of-iw c = omega arith

pub returns : goal.returns
returns c = made _ _ _ _ _ _ _ _ _ _ (sym c.is_dimension.ensures ∙ not-false _ c.if-not-is_dimension.false-raw)
    (sym c.are_lengths.ensures ∙ not-false _ c.if-not-are_lengths.false-raw)
    (sym c.is_room.ensures ∙ not-false _ c.if-not-is_room.false-raw)
    c.times_into.ensures c.clear.ensures
