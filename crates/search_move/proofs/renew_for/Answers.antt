-- `renew_for`: s and y stand in the fronts of two rooms.
use mathlib.Core.Path.{sym}
use native.Mathlib.Omega.{arith}
use lib.ListN.{drop}
use lib.Seq.{length-take-le}
use Rattle.search_move.proofs.Iterates.{front-le, front_length, move-length, change-length, renewed}
use Rattle.search_move.proofs.renew_for.Goals as goal

pub vector_room-s-requires : goal.vector_room-s-requires
vector_room-s-requires c = tt

pub vector_room-y-requires : goal.vector_room-y-requires
vector_room-y-requires c = tt

pub slice_bounds-s-end : goal.slice_bounds-s-end
slice_bounds-s-end c = omega (arith, c.vector_room-s.ensures)

pub slice_bounds-move_into-end : goal.slice_bounds-move_into-end
slice_bounds-move_into-end c = sym (length-take-le c.args.n c.vector_room-s.result (omega (arith, c.vector_room-s.ensures)))

pub move_into-requires : goal.move_into-requires
move_into-requires c = (length-take-le c.args.n c.vector_room-s.result (omega (arith, c.vector_room-s.ensures)), omega arith, omega arith)

pub slice_bounds-y-end : goal.slice_bounds-y-end
slice_bounds-y-end c = omega (arith, c.vector_room-y.ensures)

pub slice_bounds-change_into-end : goal.slice_bounds-change_into-end
slice_bounds-change_into-end c = sym (length-take-le c.args.n c.vector_room-y.result (omega (arith, c.vector_room-y.ensures)))

pub change_into-requires : goal.change_into-requires
change_into-requires c = (length-take-le c.args.n c.vector_room-y.result (omega (arith, c.vector_room-y.ensures)), omega arith, omega arith, omega arith, omega arith)

pub slice_bounds-s-end-2 : goal.slice_bounds-s-end-2
slice_bounds-s-end-2 c = let a = c.args in front-le a.n c.move_into.new.s (drop a.n c.vector_room-s.result) (move-length a.n a.f.now _ c.move_into.ensures)

pub slice_bounds-renew_in-end : goal.slice_bounds-renew_in-end
slice_bounds-renew_in-end c = let a = c.args in sym (front_length a.n c.move_into.new.s _ (move-length a.n a.f.now _ c.move_into.ensures))

pub slice_bounds-y-end-2 : goal.slice_bounds-y-end-2
slice_bounds-y-end-2 c = let a = c.args in front-le a.n c.change_into.new.y (drop a.n c.vector_room-y.result) (change-length a.n a.m a.f.now a.w.now _ c.change_into.ensures)

pub slice_bounds-renew_in-end-2 : goal.slice_bounds-renew_in-end-2
slice_bounds-renew_in-end-2 c = let a = c.args in sym (front_length a.n c.change_into.new.y _ (change-length a.n a.m a.f.now a.w.now _ c.change_into.ensures))

pub renew_in-requires : goal.renew_in-requires
renew_in-requires c = let a = c.args in
    let s = front_length a.n c.move_into.new.s (drop a.n c.vector_room-s.result) (move-length a.n a.f.now _ c.move_into.ensures) in
    let y = front_length a.n c.change_into.new.y (drop a.n c.vector_room-y.result) (change-length a.n a.m a.f.now a.w.now _ c.change_into.ensures) in
    (omega arith, s, y, omega arith)

pub returns : goal.returns
returns c = let a = c.args in
    renewed a.n a.m a.f.now a.w.now c.move_into.new.s c.change_into.new.y _ _ c.renew_in.new.f c.move_into.ensures c.change_into.ensures c.renew_in.ensures
