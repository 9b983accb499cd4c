use Rattle.search_next.proofs.Sloped.{lowers, raised-adds}
use Rattle.search.proofs.Lent.{set-laid}
use lib.ListN.{set, length-set}
use Prim.Native.Nat.{◌-◌}
use native.Mathlib.Omega.{arith}
use Rattle.search_next.proofs.lower_next.Goals as goal

pub shape_of-f-then-u-gt-SCHEME_FORWARD : goal.shape_of-f-then-u-gt-SCHEME_FORWARD
shape_of-f-then-u-gt-SCHEME_FORWARD c = let z = length-set c.args.f.now 4 c.args.value in omega arith

pub returns-then-u-gt-SCHEME_FORWARD : goal.returns-then-u-gt-SCHEME_FORWARD
returns-then-u-gt-SCHEME_FORWARD c = let a = c.args in lowers a.n a.m a.rows a.cols a.value a.f.now (set a.f.now 4 a.value) _ a.u.now _ c.requires.0 (omega arith) (set-laid 4 a.value a.f.now) c.ask_moved.ensures

pub returns : goal.returns
returns c = let a = c.args in raised-adds a.n a.m a.rows a.cols (a.n - 1 - a.cols) (a.m - a.rows) a.value c.move_of.result c.slope_between-slope.result a.f.now _ a.u.now _ c.requires.0 (omega arith) (omega arith) (omega arith) c.move_of.ensures c.slope_between-slope.ensures c.add_slope.ensures
