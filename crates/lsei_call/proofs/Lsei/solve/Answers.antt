-- `Lsei::solve`: the tests in their order, then the arithmetic.
use mathlib.Core.Path.{sym, ◌∙◌}
use Rattle.workspace.proofs.Tests.{room-ge}
use Rattle.lsei_call.proofs.Calls.{size-refused, length-refused, room-refused, all-passed, lsei-sizes, lsei-input}
use Rattle.lsei_call.proofs.Lsei.solve.Goals as goal

pub returns-then-not-is_lsei : goal.returns-then-not-is_lsei
returns-then-not-is_lsei c = let a = c.args in size-refused _ _ _ _ a.x.now a.l.now a.w.now a.iw.now (sym c.is_lsei.ensures ∙ c.if-not-is_lsei.true)

pub are_lengths_lsei-requires : goal.are_lengths_lsei-requires
are_lengths_lsei-requires c = let a = c.args in lsei-sizes a.n a.mc a.me a.mg (sym c.is_lsei.ensures ∙ c.if-not-is_lsei.false)

pub returns-then-not-are_lengths_lsei : goal.returns-then-not-are_lengths_lsei
returns-then-not-are_lengths_lsei c = let a = c.args in
    length-refused _ _ _ _ a.x.now a.l.now a.w.now a.iw.now (sym c.is_lsei.ensures ∙ c.if-not-is_lsei.false) (sym c.are_lengths_lsei.ensures ∙ c.if-not-are_lengths_lsei.true)

pub returns-then-not-is_room : goal.returns-then-not-is_room
returns-then-not-is_room c = let a = c.args in
    room-refused _ _ _ _ a.x.now a.l.now a.w.now a.iw.now (sym c.is_lsei.ensures ∙ c.if-not-is_lsei.false) (sym c.are_lengths_lsei.ensures ∙ c.if-not-are_lengths_lsei.false)
    (sym c.is_room.ensures ∙ c.if-not-is_room.true)

pub solve_all_lsei-requires : goal.solve_all_lsei-requires
solve_all_lsei-requires c = let a = c.args in
    let i = lsei-input a.n a.mc a.me a.mg a.c.now a.d.now a.e.now a.f.now a.g.now a.h.now a.x.now a.l.now (sym c.is_lsei.ensures ∙ c.if-not-is_lsei.false) (sym c.are_lengths_lsei.ensures ∙ c.if-not-are_lengths_lsei.false) in
    let r = room-ge a.w.now a.iw.now (sym c.is_room.ensures ∙ c.if-not-is_room.false) in
    (i.0, i.1, i.2, r.0, r.1)

pub shape_of-x : goal.shape_of-x
shape_of-x c = c.solve_all_lsei.auto.x

pub shape_of-l : goal.shape_of-l
shape_of-l c = c.solve_all_lsei.auto.l

pub shape_of-w : goal.shape_of-w
shape_of-w c = c.solve_all_lsei.auto.w

pub shape_of-iw : goal.shape_of-iw
shape_of-iw c = c.solve_all_lsei.auto.iw

pub returns : goal.returns
returns c = all-passed _ _ _ _ c.solve_all_lsei.result _ _ _ _ _ _ _ _ (sym c.is_lsei.ensures ∙ c.if-not-is_lsei.false) (sym c.are_lengths_lsei.ensures ∙ c.if-not-are_lengths_lsei.false) (sym c.is_room.ensures ∙ c.if-not-is_room.false)
    c.solve_all_lsei.ensures
