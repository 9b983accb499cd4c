-- `factor_into`: the factor of the square that p stands for.
use mathlib.Core.Path.{sym}
use Prim.Native.Nat.{◌*◌, ◌≤◌}
use native.Mathlib.Omega.{arith}
use lib.Seq.{length-take-le}
use Rattle.hessian_packed.proofs.Agreement.{factor-is}
use Rattle.hessian_packed.proofs.Triangles.{square-small}
use Rattle.hessian_packed.proofs.factor_into.Goals as goal

pub unpack-requires : goal.unpack-requires
unpack-requires c = (omega arith, omega arith, omega arith)

pub factor_room-room-requires : goal.factor_room-room-requires
factor_room-room-requires c = tt

pub overflow_mul-m : goal.overflow_mul-m
overflow_mul-m c = omega (arith, square-small c.args.n (omega arith))

pub slice_bounds-room-end : goal.slice_bounds-room-end
slice_bounds-room-end c = let n = c.args.n in let q : n * n ≤ 256 = square-small n (omega arith) in omega (arith, q, c.factor_room-room.ensures)

pub slice_bounds-factor_into-end : goal.slice_bounds-factor_into-end
slice_bounds-factor_into-end c = let n = c.args.n in let q : n * n ≤ 256 = square-small n (omega arith) in sym (length-take-le (n * n) c.factor_room-room.result (omega (arith, q, c.factor_room-room.ensures)))

pub factor_into-requires : goal.factor_into-requires
factor_into-requires c = let n = c.args.n in let q : n * n ≤ 256 = square-small n (omega arith) in (omega arith, omega arith, omega arith, length-take-le (n * n) c.factor_room-room.result (omega (arith, q, c.factor_room-room.ensures)))

pub shape_of-out : goal.shape_of-out
shape_of-out c = omega arith

pub shape_of-square : goal.shape_of-square
shape_of-square c = omega arith

pub returns : goal.returns
returns c = let a = c.args in
    factor-is a.n a.p.now (omega arith) _ c.unpack.ensures _ _ _ c.factor_into.ensures
