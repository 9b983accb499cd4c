use Rattle.search_next.proofs.Sloped.{second-adds}
use Prim.Native.Nat.{◌-◌}
use native.Mathlib.Omega.{arith}
use Rattle.search_next.proofs.both_next.Goals as goal

pub returns : goal.returns
returns c = let a = c.args in second-adds a.n a.m a.rows a.cols (a.n - 1 - a.cols) a.value c.move_of.result c.move_of-2.result c.slope_between-slope.result a.f.now _ a.u.now _ c.requires.0 (omega arith) c.move_of.ensures c.move_of-2.ensures c.slope_between-slope.ensures c.add_slope.ensures
