-- `accept`: two copies.
use native.Mathlib.Omega.{arith}
use Rattle.search_move.proofs.Iterates.{accepted}
use Rattle.search_move.proofs.accept.Goals as goal

pub overflow_add-m : goal.overflow_add-m
overflow_add-m c = omega arith

pub copy_down-requires : goal.copy_down-requires
copy_down-requires c = (omega arith, omega arith)

pub copy_down-requires-2 : goal.copy_down-requires-2
copy_down-requires-2 c = (omega arith, omega arith)

pub shape_of-f : goal.shape_of-f
shape_of-f c = omega arith

pub returns : goal.returns
returns c = let a = c.args in
    accepted a.n a.m a.f.now c.copy_down.new.w c.copy_down-2.new.w (omega arith) (omega arith) (omega arith) (omega arith) (omega arith) c.copy_down.ensures c.copy_down-2.ensures
