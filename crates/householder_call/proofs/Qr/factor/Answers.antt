-- `Qr::factor`: the tests in their order, then the factoring, its factors out, and both workspaces cleared.
use mathlib.Core.Path.{refl, sym, ◌∙◌}
use native.Mathlib.Omega.{arith}
use lib.Seq.{length-take-le, length_front}
use Rattle.workspace.proofs.Tests.{matrix-le, room-ge}
use Rattle.householder_call.proofs.Edge.{lengths-of, factored-is}
use Rattle.householder_call.proofs.Qr.factor.Goals as goal

pub is_matrix-requires : goal.is_matrix-requires
is_matrix-requires c = omega arith

pub returns-then-not-is_matrix : goal.returns-then-not-is_matrix
returns-then-not-is_matrix c = rw (sym c.is_matrix.ensures ∙ c.if-not-is_matrix.true) (record { the_outcome = refl; the_r = refl; the_perm = refl; the_u = refl; the_b = refl; the_floats = refl; the_words = refl })

pub are_lengths-requires : goal.are_lengths-requires
are_lengths-requires c = let a = c.args in matrix-le a.m a.n (sym c.is_matrix.ensures ∙ c.if-not-is_matrix.false)

pub returns-then-not-are_lengths : goal.returns-then-not-are_lengths
returns-then-not-are_lengths c = rw (sym c.is_matrix.ensures ∙ c.if-not-is_matrix.false, sym c.are_lengths.ensures ∙ c.if-not-are_lengths.true) (record { the_outcome = refl; the_r = refl; the_perm = refl; the_u = refl; the_b = refl; the_floats = refl; the_words = refl })

pub is_room-requires : goal.is_room-requires
is_room-requires c = omega arith

pub returns-then-not-is_room : goal.returns-then-not-is_room
returns-then-not-is_room c = rw (sym c.is_matrix.ensures ∙ c.if-not-is_matrix.false, sym c.are_lengths.ensures ∙ c.if-not-are_lengths.false, sym c.is_room.ensures ∙ c.if-not-is_room.true) (record { the_outcome = refl; the_r = refl; the_perm = refl; the_u = refl; the_b = refl; the_floats = refl; the_words = refl })

pub slice_bounds-run-end : goal.slice_bounds-run-end
slice_bounds-run-end c = let o = room-ge c.args.w.now c.args.iw.now (sym c.is_room.ensures ∙ c.if-not-is_room.false) in o.0

pub slice_bounds-run-end-2 : goal.slice_bounds-run-end-2
slice_bounds-run-end-2 c = let o = room-ge c.args.w.now c.args.iw.now (sym c.is_room.ensures ∙ c.if-not-is_room.false) in sym (length-take-le 8192 c.args.w.now o.0)

pub slice_bounds-run-end-3 : goal.slice_bounds-run-end-3
slice_bounds-run-end-3 c = let o = room-ge c.args.w.now c.args.iw.now (sym c.is_room.ensures ∙ c.if-not-is_room.false) in o.1

pub slice_bounds-run-end-4 : goal.slice_bounds-run-end-4
slice_bounds-run-end-4 c = let o = room-ge c.args.w.now c.args.iw.now (sym c.is_room.ensures ∙ c.if-not-is_room.false) in sym (length-take-le 512 c.args.iw.now o.1)

pub run-rank-requires : goal.run-rank-requires
run-rank-requires c = let a = c.args in
    let dual = sym c.is_matrix.ensures ∙ c.if-not-is_matrix.false in
    let lengths = sym c.are_lengths.ensures ∙ c.if-not-are_lengths.false in
    let room = sym c.is_room.ensures ∙ c.if-not-is_room.false in
    let d = matrix-le a.m a.n dual in
    let l = lengths-of a.m a.n _ _ _ _ _ lengths in
    let o = room-ge a.w.now a.iw.now room in
    let x = length-take-le 8192 a.w.now o.0 in
    let y = length-take-le 512 a.iw.now o.1 in
    (d.0, d.1, l.a-is, omega arith, omega arith)

pub give_r-requires : goal.give_r-requires
give_r-requires c = let a = c.args in
    let dual = sym c.is_matrix.ensures ∙ c.if-not-is_matrix.false in
    let lengths = sym c.are_lengths.ensures ∙ c.if-not-are_lengths.false in
    let room = sym c.is_room.ensures ∙ c.if-not-is_room.false in
    let d = matrix-le a.m a.n dual in
    let l = lengths-of a.m a.n _ _ _ _ _ lengths in
    let o = room-ge a.w.now a.iw.now room in
    let k = c.run-rank in
    let x = length_front a.w.now k.new.w 8192 k.auto.w in
    let y = length_front a.iw.now k.new.iw 512 k.auto.iw in
    (d.0, d.1, omega arith, omega arith, l.r_is, l.perm_is)

pub give_reflectors-requires : goal.give_reflectors-requires
give_reflectors-requires c = let a = c.args in
    let dual = sym c.is_matrix.ensures ∙ c.if-not-is_matrix.false in
    let lengths = sym c.are_lengths.ensures ∙ c.if-not-are_lengths.false in
    let room = sym c.is_room.ensures ∙ c.if-not-is_room.false in
    let d = matrix-le a.m a.n dual in
    let l = lengths-of a.m a.n _ _ _ _ _ lengths in
    let o = room-ge a.w.now a.iw.now room in
    let k = c.run-rank in
    let x = length_front a.w.now k.new.w 8192 k.auto.w in
    let y = length_front a.iw.now k.new.iw 512 k.auto.iw in
    (d.0, omega arith, l.u-is, l.b-is)

pub clear-requires : goal.clear-requires
clear-requires c = let a = c.args in
    let dual = sym c.is_matrix.ensures ∙ c.if-not-is_matrix.false in
    let lengths = sym c.are_lengths.ensures ∙ c.if-not-are_lengths.false in
    let room = sym c.is_room.ensures ∙ c.if-not-is_room.false in
    let d = matrix-le a.m a.n dual in
    let l = lengths-of a.m a.n _ _ _ _ _ lengths in
    let o = room-ge a.w.now a.iw.now room in
    let k = c.run-rank in
    let x = length_front a.w.now k.new.w 8192 k.auto.w in
    let y = length_front a.iw.now k.new.iw 512 k.auto.iw in
    (omega arith, omega arith)

pub shape_of-r : goal.shape_of-r
shape_of-r c = omega arith

pub shape_of-perm : goal.shape_of-perm
shape_of-perm c = omega arith

pub shape_of-u : goal.shape_of-u
shape_of-u c = omega arith

pub shape_of-b : goal.shape_of-b
shape_of-b c = omega arith

pub shape_of-w : goal.shape_of-w
shape_of-w c = omega arith

pub shape_of-iw : goal.shape_of-iw
shape_of-iw c = omega arith

pub returns : goal.returns
returns c = let a = c.args in
    let dual = sym c.is_matrix.ensures ∙ c.if-not-is_matrix.false in
    let lengths = sym c.are_lengths.ensures ∙ c.if-not-are_lengths.false in
    let room = sym c.is_room.ensures ∙ c.if-not-is_room.false in
    let d = matrix-le a.m a.n dual in
    let o = room-ge a.w.now a.iw.now room in
    let k = c.run-rank in
    let p = c.give_r in
    let q = c.give_reflectors in
    rw (dual, lengths, room)
    (factored-is a.m a.n k.result a.a.now a.r.now _ a.perm.now _ a.u.now _ a.b.now _ a.w.now _ k.new.w a.iw.now _ k.new.iw
    d.0 d.1 (k.auto.w ∙ length-take-le 8192 a.w.now o.0) (k.auto.iw ∙ length-take-le 512 a.iw.now o.1) k.ensures p.ensures.0 p.ensures.1 q.ensures.0 q.ensures.1 c.clear.ensures)
