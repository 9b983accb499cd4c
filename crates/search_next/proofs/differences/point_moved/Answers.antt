use Rattle.search_next.proofs.Asked.{point-written}
use native.Mathlib.Omega.{arith}
use Rattle.search_next.proofs.differences.point_moved.Goals as goal

pub returns : goal.returns
returns c = let a = c.args in let r = c.requires in point-written a.n a.i a.y a.f.now c.copy_up.new.w r.0 r.1 r.2 (omega arith) c.copy_up.ensures
