-- `Lsi::solve`: the tests in their order, then the arithmetic.
use mathlib.Core.Path.{sym, ◌∙◌}
use Rattle.workspace.proofs.Tests.{room-ge}
use Rattle.lsei_call.proofs.Calls.{size-refused, length-refused, room-refused, all-passed, lsi-sizes, lsi-input}
use Rattle.lsei_call.proofs.Lsi.solve.Goals as goal

pub returns-then-not-is_lsi : goal.returns-then-not-is_lsi
returns-then-not-is_lsi c = let a = c.args in size-refused _ _ _ _ a.x.now a.l.now a.w.now a.iw.now (sym c.is_lsi.ensures ∙ c.if-not-is_lsi.true)

pub are_lengths_lsi-requires : goal.are_lengths_lsi-requires
are_lengths_lsi-requires c = let a = c.args in lsi-sizes a.n a.me a.mg (sym c.is_lsi.ensures ∙ c.if-not-is_lsi.false)

pub returns-then-not-are_lengths_lsi : goal.returns-then-not-are_lengths_lsi
returns-then-not-are_lengths_lsi c = let a = c.args in
    length-refused _ _ _ _ a.x.now a.l.now a.w.now a.iw.now (sym c.is_lsi.ensures ∙ c.if-not-is_lsi.false) (sym c.are_lengths_lsi.ensures ∙ c.if-not-are_lengths_lsi.true)

pub returns-then-not-is_room : goal.returns-then-not-is_room
returns-then-not-is_room c = let a = c.args in
    room-refused _ _ _ _ a.x.now a.l.now a.w.now a.iw.now (sym c.is_lsi.ensures ∙ c.if-not-is_lsi.false) (sym c.are_lengths_lsi.ensures ∙ c.if-not-are_lengths_lsi.false)
    (sym c.is_room.ensures ∙ c.if-not-is_room.true)

pub solve_all_lsi-requires : goal.solve_all_lsi-requires
solve_all_lsi-requires c = let a = c.args in
    let i = lsi-input a.n a.me a.mg a.e.now a.f.now a.g.now a.h.now a.x.now a.l.now (sym c.is_lsi.ensures ∙ c.if-not-is_lsi.false) (sym c.are_lengths_lsi.ensures ∙ c.if-not-are_lengths_lsi.false) in
    let r = room-ge a.w.now a.iw.now (sym c.is_room.ensures ∙ c.if-not-is_room.false) in
    (i.0, i.1, i.2, r.0, r.1)

pub shape_of-x : goal.shape_of-x
shape_of-x c = c.solve_all_lsi.auto.x

pub shape_of-l : goal.shape_of-l
shape_of-l c = c.solve_all_lsi.auto.l

pub shape_of-w : goal.shape_of-w
shape_of-w c = c.solve_all_lsi.auto.w

pub shape_of-iw : goal.shape_of-iw
shape_of-iw c = c.solve_all_lsi.auto.iw

pub returns : goal.returns
returns c = all-passed _ _ _ _ c.solve_all_lsi.result _ _ _ _ _ _ _ _ (sym c.is_lsi.ensures ∙ c.if-not-is_lsi.false) (sym c.are_lengths_lsi.ensures ∙ c.if-not-are_lengths_lsi.false) (sym c.is_room.ensures ∙ c.if-not-is_room.false)
    c.solve_all_lsi.ensures
