-- `tell`: each way out by its tests.
use mathlib.Core.Path.{sym, ◌∙◌}
use Rattle.workspace.specs.Tables.{has}
use Rattle.workspace.proofs.Tests.{and-true, has-length, room-ge}
use Rattle.search_call.proofs.Calls.{slices-refused, told-refused, told-room, told-unasked, heard-of, heard-runs}
use Rattle.search_call.proofs.Search.tell.Goals as goal

pub are_slices-requires : goal.are_slices-requires
are_slices-requires c = tt

pub returns-then-not-are_slices : goal.returns-then-not-are_slices
returns-then-not-are_slices c = let a = c.args in
    slices-refused a.told.now a.machine.now a.w.now a.words.now a.iw.now (sym c.are_slices.ensures ∙ c.if-not-are_slices.true)

pub question_of-phase-requires : goal.question_of-phase-requires
question_of-phase-requires c = let a = c.args in has-length a.words.now 32 (and-true (has a.machine.now 1024) (has a.words.now 32) (sym c.are_slices.ensures ∙ c.if-not-are_slices.false)).1

pub is_told-requires : goal.is_told-requires
is_told-requires c = let a = c.args in (has-length a.words.now 32 (and-true (has a.machine.now 1024) (has a.words.now 32) (sym c.are_slices.ensures ∙ c.if-not-are_slices.false)).1, c.question_of-phase.ensures)

pub returns-then-not-is_told : goal.returns-then-not-is_told
returns-then-not-is_told c = let a = c.args in
    told-refused a.told.now a.machine.now a.w.now a.words.now a.iw.now (sym c.are_slices.ensures ∙ c.if-not-are_slices.false) _ c.question_of-phase.ensures (sym c.is_told.ensures ∙ c.if-not-is_told.true)

pub is_room-requires : goal.is_room-requires
is_room-requires c = tt

pub returns-then-not-is_room : goal.returns-then-not-is_room
returns-then-not-is_room c = let a = c.args in
    told-room a.told.now a.machine.now a.w.now a.words.now a.iw.now (sym c.are_slices.ensures ∙ c.if-not-are_slices.false) _ c.question_of-phase.ensures (sym c.is_told.ensures ∙ c.if-not-is_told.false) (sym c.is_room.ensures ∙ c.if-not-is_room.true)

pub returns-then-phase-eq-PHASE_NONE : goal.returns-then-phase-eq-PHASE_NONE
returns-then-phase-eq-PHASE_NONE c = let a = c.args in
    told-unasked a.told.now a.machine.now a.w.now a.words.now a.iw.now (sym c.are_slices.ensures ∙ c.if-not-are_slices.false) _ c.question_of-phase.ensures (sym c.is_room.ensures ∙ c.if-not-is_room.false) c.if-phase-eq-PHASE_NONE.true

pub hear_all-requires : goal.hear_all-requires
hear_all-requires c = let a = c.args in
    let r = room-ge a.w.now a.iw.now (sym c.is_room.ensures ∙ c.if-not-is_room.false) in
    (heard-of a.told.now a.machine.now a.w.now a.words.now a.iw.now (sym c.are_slices.ensures ∙ c.if-not-are_slices.false) _ c.question_of-phase.ensures (sym c.is_told.ensures ∙ c.if-not-is_told.false) c.if-phase-eq-PHASE_NONE.false, r.0, r.1)

pub returns : goal.returns
returns c = let a = c.args in
    heard-runs a.told.now a.machine.now a.w.now a.words.now a.iw.now (sym c.are_slices.ensures ∙ c.if-not-are_slices.false) _ _ _ _ _ _ c.question_of-phase.ensures (sym c.is_told.ensures ∙ c.if-not-is_told.false) (sym c.is_room.ensures ∙ c.if-not-is_room.false) c.if-phase-eq-PHASE_NONE.false c.hear_all.ensures
