-- `pose_floats`: zeros, the bounds and the tolerance.
use native.Mathlib.Omega.{arith}
use lib.ListN.{length-set}
use Rattle.search_call.proofs.Posing.{posed-floats}
use Rattle.search_call.proofs.begin.pose_floats.Goals as goal

pub wipe-requires : goal.wipe-requires
wipe-requires c = omega arith

pub load-requires : goal.load-requires
load-requires c = (omega arith, omega arith)

pub load-requires-2 : goal.load-requires-2
load-requires-2 c = (omega arith, omega arith)

pub bounds-f-0 : goal.bounds-f-0
bounds-f-0 c = omega arith

pub shape_of-f : goal.shape_of-f
shape_of-f c = simp length-set (omega arith)

pub returns : goal.returns
returns c = λ m scheme kinds. let a = c.args in posed-floats a.n m scheme kinds a.lower.now a.upper.now a.ftol a.f.now c.wipe.new.w c.load.new.w c.load-2.new.w (omega arith) (omega arith) (omega arith) (omega arith) (omega arith) (omega arith) (omega arith) c.wipe.ensures c.load.ensures c.load-2.ensures
