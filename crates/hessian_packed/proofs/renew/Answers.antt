-- `renew`: the update of the square that p stands for, and its triangle.
use mathlib.Core.Path.{sym}
use Prim.Native.Nat.{◌+◌}
use native.Mathlib.Omega.{arith}
use lib.Seq.{length-take-le}
use Rattle.hessian_packed.proofs.Agreement.{update-is}
use Rattle.hessian_packed.proofs.renew.Goals as goal

pub unpack-requires : goal.unpack-requires
unpack-requires c = (omega arith, omega arith, omega arith)

pub side_room-room-requires : goal.side_room-room-requires
side_room-room-requires c = tt

pub overflow_add-m : goal.overflow_add-m
overflow_add-m c = omega arith

pub slice_bounds-room-end : goal.slice_bounds-room-end
slice_bounds-room-end c = omega (arith, c.side_room-room.ensures)

pub slice_bounds-renew-end : goal.slice_bounds-renew-end
slice_bounds-renew-end c = let n = c.args.n in sym (length-take-le (n + n) c.side_room-room.result (omega (arith, c.side_room-room.ensures)))

pub renew-requires : goal.renew-requires
renew-requires c = let n = c.args.n in (omega arith, omega arith, omega arith, length-take-le (n + n) c.side_room-room.result (omega (arith, c.side_room-room.ensures)))

pub pack-requires : goal.pack-requires
pack-requires c = (omega arith, omega arith, omega arith)

pub shape_of-p : goal.shape_of-p
shape_of-p c = omega arith

pub shape_of-square : goal.shape_of-square
shape_of-square c = omega arith

pub returns : goal.returns
returns c = let a = c.args in
    update-is a.n a.p.now (omega arith) _ c.unpack.ensures a.s.now a.y.now _ _ c.renew.ensures c.pack.ensures
